-- what the arguments ask for
pub mod Requests
-- what is printed of a grammar, and why nothing is
pub mod Printing
-- how lines are answered, and why that ends before they do
pub mod Lines
