mod Addresses
pub mod Digits
pub mod Encoding
