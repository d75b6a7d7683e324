-- What the public contracts rest on, in reading order.
pub mod Lawful
pub mod Lacking
pub mod Shown
pub mod Deciding
pub mod Telling
