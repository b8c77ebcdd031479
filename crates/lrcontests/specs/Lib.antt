-- the files of definitions
pub mod Contests
