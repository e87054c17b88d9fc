pub mod Numbers
pub mod Bases
pub mod Bytes
pub mod Boards
pub mod Parameters
pub mod Orders
