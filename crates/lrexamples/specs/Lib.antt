-- how deep trees are
pub mod Depths
