mod AnswerLemmas
mod ReadingLemmas
mod StepLemmas
