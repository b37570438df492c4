pub mod Constants
pub mod Entries
pub mod Float24
pub mod Names
