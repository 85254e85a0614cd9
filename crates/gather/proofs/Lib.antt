-- Adding to a table, for any table; elements of any kind that are met one after the other; elements in rows.
pub mod Adding
pub mod Meeting
pub mod Rows
