mod Rules
pub mod StraightTyped
pub mod Writable
