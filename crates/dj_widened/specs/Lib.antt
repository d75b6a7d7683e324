-- What the laws rest on, in reading order.
pub mod Widens
pub mod Meant
