-- What the crate promises the programs above.
pub mod Runs
