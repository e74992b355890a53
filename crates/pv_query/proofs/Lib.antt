pub mod AllSumLemmas
pub mod RepeatLemmas
pub mod AnswerLemmas
pub mod SumLemmas
pub mod OutcomeLemmas
pub mod EverySumLemmas
