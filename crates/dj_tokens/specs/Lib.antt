-- What the functions here, and the layer above, promise, in reading order.
pub mod Words
pub mod Names
pub mod Tokens
pub mod Literals
pub mod LiteralViews
pub mod Dotted
pub mod DottedViews
