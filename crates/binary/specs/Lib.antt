pub mod Addresses
pub mod Bytes
pub mod Ranges
