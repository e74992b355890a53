pub mod Appending
pub mod Armed
pub mod Journal
pub mod Lending
pub mod JournalModel
pub mod Opening
pub mod Outline
pub mod Reading
