pub mod Numbers
pub mod Segments
pub mod Refusals
pub mod Reading
pub mod Writing
pub mod Accepting
pub mod Loading
pub mod Views
