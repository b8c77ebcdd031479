-- what is kept of findings, entries that are told in groups or pass a test, and tokens of JSON that are added
mod Groups
mod Filtered
mod JoinedInOrder
mod OneCause
mod KeptGraph
mod KnownBy
mod KeptFindings
mod AddedTokens
mod WordsOfVerdicts
mod ToldTexts
mod Runs
mod PairsInOrder
mod OneConflict
mod KindsInOrder
mod ItemsBefore
