-- the definitions at the small grammars and at short texts

-- ---- facts that a test tells by computing
pub mod GrammarsByComputing
pub mod ItemEntries
pub mod ItemsByComputing
pub mod ContestsByComputing
pub mod ItemSetEntries
-- ---- items, trees and contested tokens
pub mod ItemsAndTrees
pub mod ContestedTokens
pub mod AfterShortLists
pub mod HiddenLeftRecursion
pub mod RuleWithoutTree
-- ---- merging, graphs and tables
pub mod WeaklyCompatibleSets
pub mod SmallestItemSets
pub mod SmallestGraph
pub mod SmallestTable
pub mod OperatorCells
-- ---- grammar texts
pub mod TextExamples
pub mod MeaningExamples
pub mod LineExamples
pub mod CoresByComputing
pub mod ExampleChain
pub mod ClosuresByComputing
pub mod DerivedByComputing
pub mod GotosByComputing
pub mod GraphsByComputing
pub mod MergedGraph
pub mod MergedRoots
pub mod MergedConflict
