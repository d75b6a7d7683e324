-- What stands for instructions on members, arrays and classes, and the rules that it keeps, in reading order.
pub mod Going
pub mod Nodes
pub mod Named
pub mod Laws
pub mod Together
pub mod Suited
pub mod Showing
