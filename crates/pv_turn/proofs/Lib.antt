mod ViewLemmas
mod StepLemmas
