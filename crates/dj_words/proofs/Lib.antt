pub mod Bare
pub mod Copied
pub mod Grammatical
pub mod Numbers
pub mod Reading
pub mod Taken
