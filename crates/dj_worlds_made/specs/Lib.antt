-- What the laws say, in reading order.
pub mod Made
