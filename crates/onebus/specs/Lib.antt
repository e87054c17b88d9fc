pub mod View
pub mod Faults
pub mod Steps
pub mod Words
