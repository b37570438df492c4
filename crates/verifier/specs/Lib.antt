pub mod Lists
pub mod Words
pub mod Executables
pub mod Inside
pub mod Verdict
pub mod Clean
pub mod Promise
