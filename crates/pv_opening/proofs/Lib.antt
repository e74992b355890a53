mod BoxLemmas
mod MeetLemmas
mod OpenLemmas
mod PlaceLemmas
pub mod ScriptLemmas
