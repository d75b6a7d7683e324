-- Methods of one block, in reading order.
pub mod OneBlock
pub mod Flat
