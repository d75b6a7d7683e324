pub mod PassViews
