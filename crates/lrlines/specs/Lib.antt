-- the files of definitions
pub mod CountedDevices
pub mod Answered
