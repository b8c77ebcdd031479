-- what callers in C find in their buffers
pub mod Told
