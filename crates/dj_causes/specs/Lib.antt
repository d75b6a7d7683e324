-- What the public contracts rest on, in reading order.
pub mod Firsts
pub mod ClassCauses
pub mod FieldCauses
pub mod BareCauses
pub mod Tables
