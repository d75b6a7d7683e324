-- The rules on statements and bodies, in reading order.
pub mod Stores
pub mod Switches
pub mod Statements
pub mod Bodies
pub use Rattle.dj_assigned.specs.Assigned
