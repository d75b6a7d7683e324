pub mod FindingLemmas
mod FittingLemmas
pub mod FieldsLemmas
pub mod FilesLemmas
pub mod MethodsLemmas
pub mod ApartLemmas
pub mod PiecesLemmas
pub mod TellingLemmas
pub mod RunLemmas
pub mod OrderLemmas
