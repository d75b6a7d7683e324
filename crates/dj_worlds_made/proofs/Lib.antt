mod Fields
mod Making
