-- How what the program makes is seen as what the definitions of bodies say.
pub mod Declarations
pub mod Making
