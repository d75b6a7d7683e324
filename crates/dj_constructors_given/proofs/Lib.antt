mod Calling
mod Spares
mod Sole
mod Opening
pub mod Together
