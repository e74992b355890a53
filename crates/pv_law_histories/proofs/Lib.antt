mod CourseLemmas
mod EventLemmas
pub mod MergeStepLemmas
mod MergeLemmas
pub mod MergingLemmas
pub mod MomentLemmas
mod PostingLemmas
pub mod WellFormedLemmas
