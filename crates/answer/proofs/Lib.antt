pub mod Laws
pub mod Missing
pub mod Numbers
