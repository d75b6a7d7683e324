-- When the tree of a method's one block may be declared, in reading order.
pub mod Heading
pub mod Ready
pub mod Entering
