pub mod Control
pub mod Operands
pub mod Operations
pub mod Words
