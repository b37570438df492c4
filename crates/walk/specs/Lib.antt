pub mod Walk
pub mod Constants
pub mod Inside
