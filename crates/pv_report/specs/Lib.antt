pub mod LineData
pub mod LineJson
pub mod NamesArePlain
pub mod NamesOnlyItems
pub mod Shown
pub mod StillHeld
