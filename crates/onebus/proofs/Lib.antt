pub mod Registers
pub mod Stepping
pub mod Told
