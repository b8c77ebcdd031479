-- the files of definitions
pub mod Closing
pub mod Choices
pub mod Collecting
pub mod Keeping
pub mod Refusals
