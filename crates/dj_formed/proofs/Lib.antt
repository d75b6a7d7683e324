pub mod Moved
pub mod Named
pub mod Alike
pub mod RunsAlike
pub mod StatesAlike
