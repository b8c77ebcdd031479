-- files that are checked in turn
pub mod Checked
