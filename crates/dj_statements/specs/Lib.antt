-- What the functions here, and the layer above, promise, in reading order.
pub mod OpenViews
