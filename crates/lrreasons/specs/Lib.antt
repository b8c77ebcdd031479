-- the files of definitions
pub mod Examples
pub mod Parts
pub mod Ambiguities
pub mod Reasons
pub mod Precedences
pub mod Words
pub mod Lines
pub mod Brackets
pub mod StoredForms
pub mod Texts
pub mod StoredTexts
