-- What the contracts rest on, in reading order; how a list keeps a set is told last.
pub mod Sets
pub mod Lists
