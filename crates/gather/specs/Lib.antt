-- A table that numbers are added to; elements that are met one after the other; elements in rows.
pub mod Table
pub mod Once
pub mod Rows
