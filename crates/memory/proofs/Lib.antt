pub mod Lists
pub mod Packed
pub mod Joined
