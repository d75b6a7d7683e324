pub mod Lone
mod Examples
