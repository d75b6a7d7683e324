-- What the public contracts rest on, in reading order.
pub mod Appends
pub mod Files
pub mod Found
pub mod Keys
pub mod Tables
pub mod Written
