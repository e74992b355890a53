pub mod BodyLemmas
pub mod EnvelopeLemmas
