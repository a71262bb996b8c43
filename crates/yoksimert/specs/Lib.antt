pub mod Flat
pub mod Exports
pub mod Derivations
pub mod Recorder
pub mod Accepted
