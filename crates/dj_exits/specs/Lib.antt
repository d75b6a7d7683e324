-- What the public contracts rest on, in reading order.
pub mod Exits
pub mod Ways
pub mod Leading
pub mod Meaning
pub mod Laws
pub mod Numbers
pub mod Apart
pub mod Formulas
pub mod Straight
