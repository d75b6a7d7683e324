-- Variables by their numbers.
pub mod Numbers
-- Slots of frames, and the numbers that they get.
pub mod Frames
