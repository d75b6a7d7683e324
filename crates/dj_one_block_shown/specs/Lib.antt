-- What methods of one block show.
pub mod Shown
