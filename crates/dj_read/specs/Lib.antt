-- What the public contracts rest on, beside the text and the well formed units of `dj_syntax`.
pub mod Faults
