-- What the public contracts rest on, in reading order.
pub mod Rethrows
pub mod Fields
pub mod Methods
pub mod Helpers
pub mod ClassText
-- What the law of well formed units rests on.
pub mod Formed
-- What the law of units whose members don't clash says.
pub mod Apart
