pub mod Alike
pub mod Calling
pub mod Beginning
pub mod Walk
pub mod Before
pub mod Writing
pub mod After
pub mod Trees
