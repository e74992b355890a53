pub mod BayLemmas
pub mod DiskLemmas
pub mod OrderedLemmas
pub mod StartLemmas
pub mod WorkLemmas
