pub mod Executable
pub mod Placement
pub mod Program
