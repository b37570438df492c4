pub mod Operands
pub mod Pieces
pub mod Records
pub mod Registers
