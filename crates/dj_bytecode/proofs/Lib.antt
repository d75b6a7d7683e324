pub mod Growth
pub mod NarrowedResults
pub mod Examples
pub mod WorkedSteps
