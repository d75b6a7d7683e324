-- What the laws say.
pub mod Given
