-- Lemmas, in reading order.
pub mod Unbearing
pub mod Comparing
pub mod Standing
pub mod Receiving
pub mod Deepening
pub mod Covering
pub mod Firsts
pub mod Misplacing
pub mod Giving
pub mod Beginnings
pub mod Sizes
pub mod Lengthy
pub mod Examples
