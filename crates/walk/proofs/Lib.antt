pub mod Trials
pub mod Regions
pub mod Steps
pub mod Running
pub mod Truths
pub mod Answers
pub mod Handing
