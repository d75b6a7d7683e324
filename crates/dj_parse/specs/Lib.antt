-- How the code's parts of a unit are seen plainly; `dj_grammar` says how they are read.
pub mod Views
