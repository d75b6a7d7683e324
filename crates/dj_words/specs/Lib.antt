-- What the public contracts rest on, in reading order.
pub mod Command
pub mod Orders
pub mod Grammar
