-- What the laws rest on, in reading order.
pub mod Values
pub mod Replies
pub mod Running
pub mod Reaching
pub mod Laws
