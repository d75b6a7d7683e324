-- What `is_deep` decides, over the words of `dj_tokens`.
pub mod Depth
