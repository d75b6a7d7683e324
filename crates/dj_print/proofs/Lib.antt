pub mod ComparedText
pub mod Composing
pub mod ListTexts
pub mod NamesAreAscii
pub mod PrintLemmas
pub mod TreeTexts
pub mod WellFormedLists
