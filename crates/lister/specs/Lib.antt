pub mod Input
pub mod Order
pub mod Printed
