-- What the public contracts rest on, in reading order.
pub mod Goes
pub mod Laxly
