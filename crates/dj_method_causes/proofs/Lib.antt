-- Lemmas, in reading order.
pub mod Firsts
pub mod Causes
pub mod Strictly
pub mod Told
