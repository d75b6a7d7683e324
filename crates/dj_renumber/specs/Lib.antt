-- How the code sees other names.
pub mod Views
