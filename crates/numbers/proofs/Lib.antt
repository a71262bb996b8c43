pub mod Words
pub mod Forms
pub mod Replies
pub mod ByText
pub mod Rows
