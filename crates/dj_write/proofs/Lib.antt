pub mod Spelled
pub mod Finding
pub mod AttributeParts
pub mod MemberParts
pub mod FileParts
pub mod FileRoom
pub mod ListParts
