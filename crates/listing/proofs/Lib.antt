pub mod Trials
pub mod Beyond
pub mod Answers
pub mod Laws
