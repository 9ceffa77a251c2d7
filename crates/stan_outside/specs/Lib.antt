-- What the public contracts rest on.
pub mod Contents
pub mod Outside
pub mod Memory
pub mod MemoryTree
pub mod MemorySink
pub mod StreamSink
pub mod FolderTree
pub mod Calls
-- What functions inside promise each other.
pub mod Walk
