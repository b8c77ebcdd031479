-- lines and columns of places, places of which the column is known, text as it is shown and escaped, and what is told of places
pub mod Positions
pub mod KnownColumns
pub mod Escapes
pub mod ShownTexts
pub mod Places
