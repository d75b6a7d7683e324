pub mod FromFile
