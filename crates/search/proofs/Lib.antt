pub mod Quartering
pub mod Searched
pub mod Rising
