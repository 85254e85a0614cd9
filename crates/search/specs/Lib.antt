pub mod Search
pub mod Rules
pub mod Reach
pub mod Landing
pub mod Asking
