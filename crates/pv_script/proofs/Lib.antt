pub mod LineLemmas
pub mod CauseLemmas
pub mod FieldLemmas
pub mod KeywordLemmas
pub mod HeadLemmas
pub mod AddLemmas
pub mod SaidLemmas
pub mod BlankLemmas
pub mod LiveRequestLemmas
pub mod LiveSaidLemmas
mod PeekLemmas
pub mod RequestLemmas
pub mod FaultLemmas
pub mod CountLemmas
pub mod ScheduleLemmas
pub mod EachBelowLemmas
mod SameLemmas
mod BehindLemmas
mod CatalogTextLemmas
