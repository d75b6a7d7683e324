mod Results
pub mod Given
mod Calls
mod Super
mod Births
mod Indexes
mod Elements
mod Special
pub mod Holding
