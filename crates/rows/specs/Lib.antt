pub mod Signals
pub mod Rows
pub mod Core
pub mod After
pub mod Refine
pub mod Runs
pub mod Rules
