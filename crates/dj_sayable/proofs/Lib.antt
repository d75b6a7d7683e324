pub mod GatheringLemmas
pub mod ClimbLemmas
pub mod ParentLemmas
pub mod FieldLemmas
pub mod SayingLemmas
pub mod FrontLemmas
pub mod Examples
