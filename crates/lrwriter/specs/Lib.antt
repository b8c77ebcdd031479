-- what a text in the making holds
pub mod Texts
