pub mod ContentLayout
pub mod ContentIsExact
pub mod LeastWrong
pub mod TargetLists
pub mod Bounds
pub mod CodeIsOne
pub mod CodeReading
pub mod Examples
