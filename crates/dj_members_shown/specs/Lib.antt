-- What the laws speak of, in reading order.
pub mod Alone
pub mod Choosing
pub mod Meant
pub mod Cause
pub mod Sorts
pub mod Pushing
pub mod Strict
pub mod Suits
pub mod Casts
pub mod Operands
pub mod Testing
pub mod Ruled
pub mod Laws
pub mod Found
