-- the files of definitions
pub mod GraphOf
pub mod Outlines
