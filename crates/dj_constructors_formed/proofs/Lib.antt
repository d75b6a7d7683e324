pub mod Still
pub mod Without
pub mod Walking
pub mod Calling
pub mod Ready
pub mod Entering
