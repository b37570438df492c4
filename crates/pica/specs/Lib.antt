pub mod Replies
pub mod Libraries
pub mod Executables
pub mod Words
