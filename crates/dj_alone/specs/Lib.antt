-- Other methods that a call could have meant by other arguments.
pub mod Rivals
