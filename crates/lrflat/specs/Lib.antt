-- tables as lists of numbers
pub mod Flat
