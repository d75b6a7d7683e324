pub mod Leading
pub mod Blocks
