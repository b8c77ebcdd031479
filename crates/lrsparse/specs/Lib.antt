-- What the contracts of this crate cite.
pub mod Matrix
pub mod Entries
pub mod Listed
pub mod Places
pub mod Owned
pub mod Starts
pub mod Building
