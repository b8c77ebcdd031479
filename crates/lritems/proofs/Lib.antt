-- item sets, and their lookaheads
pub mod ChangedItems
pub mod EqualItemSets
pub mod ListedMaps
-- gotos
pub mod GotoUnderway
pub mod SymbolTests
pub mod GotoPlaces
pub mod GotosUnderway
pub mod GotosUpwards
pub mod SymbolsShown
-- merging
pub mod ComparedPlaces
pub mod PassingPairs
pub mod MergedPlace
pub mod MergingUnderway
pub mod SameFingerprints
-- items that come upwards
pub mod ItemsUpwards
pub mod ItemsAscending
pub mod GotoItems
pub mod SameKeys
pub mod ItemsByPlace
pub mod StartItems
-- printing
pub mod PrintedNames
pub mod JoinedTexts
