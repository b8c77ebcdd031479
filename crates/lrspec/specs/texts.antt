-- grammar texts: what they are cut into, which are documents, and what they mean
pub mod Names
pub mod Parts
pub mod Lexemes
pub mod Documents
pub mod ReadingStates
pub mod Meaning
pub mod PrintedTexts
pub mod Lines
pub mod Devices
pub mod MachineLines
pub mod TreeTexts
