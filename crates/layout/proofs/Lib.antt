pub mod EntryLaws
pub mod Sizes
pub mod Entries
pub mod EntryParts
pub mod EntryWriting
pub mod Expanding
pub mod Numbers
pub mod Blocks
