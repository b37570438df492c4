pub mod Laws
pub mod Answers
pub mod Words
pub mod Trials
pub mod Order
