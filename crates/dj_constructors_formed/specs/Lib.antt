-- When the tree of a constructor of one block may be declared, in reading order.
pub mod Ready
pub mod Entering
