pub mod Exchanging
pub mod Ready
pub mod Showing
pub mod Printed
