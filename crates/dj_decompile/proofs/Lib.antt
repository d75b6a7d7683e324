pub mod Deciding
pub mod Finishing
