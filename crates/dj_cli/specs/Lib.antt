-- What the public contracts rest on, in reading order; from Lines on, what the contracts below them say.
pub mod Output
pub mod Program
pub mod Lines
pub mod Gathering
pub mod Methods
pub mod Pieces
pub mod Telling
pub mod Run
