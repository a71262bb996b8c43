pub mod Quartering
