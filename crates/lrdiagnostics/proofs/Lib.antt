-- line feeds, what is counted for a column, text as it is shown and escaped, pieces that are added, and places that are told
mod LineFeeds
mod FeedPlaces
mod CountedTexts
mod Ends
mod KnownColumns
pub mod EscapedTexts
mod ShownTexts
mod AddedPieces
pub mod ToldPlaces
