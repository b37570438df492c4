pub mod Flow
pub mod Inside
pub mod Own
pub mod Rules
pub mod Stepping
pub mod Visits
pub mod WholeRun
