pub mod Entering
pub mod Spilling
pub mod Dressing
pub mod Split
