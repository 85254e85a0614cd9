-- What edits keep: laws of agreement, of sums over the live entries, of a tier that is changed.
pub mod Values
pub mod Sums
pub mod AgreeEntry
pub mod AgreeTier
pub mod Sound
pub mod Replaced
pub mod Elsewhere
pub mod KeyCounts
pub mod Marked
pub mod Framing
pub mod Empty
