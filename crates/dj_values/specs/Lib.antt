-- What the public contracts rest on, in reading order.
pub mod Values
pub mod Views
pub mod Fits
pub mod Answers
-- Tests of it, each of which decides what it tests (`tests_decide`).
pub mod Deciding
-- What runs ask and come to.
pub mod Outcomes
