-- What the public contracts rest on: the count, the two traits, and what implementations show.
pub mod Count
pub mod Files
pub mod Sink
pub mod MemoryFiles
pub mod MemorySink
pub mod StreamSink
