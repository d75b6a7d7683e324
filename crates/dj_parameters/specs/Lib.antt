-- Parameters in place of their copies, in reading order.
pub mod Parameters
pub mod Laws
