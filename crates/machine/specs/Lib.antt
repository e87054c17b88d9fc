pub mod View
pub mod Questions
pub mod Texts
