pub mod ListLemmas
pub mod NumberLemmas
pub mod MemoryLemmas
pub mod SiteLemmas
pub mod ActSteps
pub mod RecordLemmas
pub mod StepLemmas
pub mod PassedLemmas
