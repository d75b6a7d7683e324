-- How the program's sites are seen as those of the definition; which rules there are is told in `dj_typing`.
pub mod Flags
pub mod Sites
pub mod Tests
-- The walk over an expression, as the program makes it.
pub mod Walks
