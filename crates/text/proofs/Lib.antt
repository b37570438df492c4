pub mod Trials
pub mod Digits
pub mod Records
pub mod Fits
