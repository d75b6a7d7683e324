-- What the public contracts rest on, in reading order.
pub mod Status
pub mod Report
