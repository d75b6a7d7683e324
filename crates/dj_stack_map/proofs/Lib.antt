pub mod FrameReading
pub mod Turns
pub mod TableReading
pub mod TableIsExact
pub mod Examples
