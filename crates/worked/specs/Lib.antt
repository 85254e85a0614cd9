pub mod Everything
pub mod Worked
pub mod WorkedHome
pub mod WorkedQuick
pub mod WorkedSame
