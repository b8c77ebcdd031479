-- pieces that are added one behind another
pub mod Pieces
