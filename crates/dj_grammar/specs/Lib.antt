-- How words are read, in reading order. The laws name Readings, Steps and Statements alone.
pub mod Frames
pub mod Readings
pub mod Brackets
pub mod Steps
pub mod Open
pub mod Blocks
pub mod StatementEnds
pub mod Braces
pub mod LastStatements
pub mod Statements
pub mod Values
pub mod Members
pub mod Units
pub mod Parsing
