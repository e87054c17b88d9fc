pub mod Accepting
pub mod Hex
pub mod Iterators
pub mod Loaded
pub mod Numbers
pub mod SegmentBytes
pub mod Splits
pub mod Walks
