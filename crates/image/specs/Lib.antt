pub mod Check
pub mod List
pub mod Cursor
pub mod Moving
pub mod Everything
