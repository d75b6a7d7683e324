pub mod Locals
pub mod Owners
pub mod Trees
pub mod Printing
pub mod Method
