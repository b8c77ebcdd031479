-- the moves of trees, names of tokens, and the tokens of words
mod VisitMoves
mod MoreNames
mod WordsBehind
mod FirstNames
mod NamedTokens
-- tokens that are found one after the other, and what they begin
mod MoreTokens
mod Beginnings
-- texts
mod JoinedTexts
