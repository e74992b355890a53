pub mod LineItems
pub mod NoteItems
