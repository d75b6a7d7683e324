-- What the public contract rests on.
pub mod Escaping
pub mod Beginning
