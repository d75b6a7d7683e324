-- Other names, in reading order: what the text numbers, and then what other names keep.
pub mod Numbering
pub mod Reads
pub mod Throws
pub mod Shows
