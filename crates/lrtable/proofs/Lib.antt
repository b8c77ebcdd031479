-- the files of lemmas
pub mod BuildRefusals
pub mod BuiltTables
pub mod ReachedConfigs
pub mod ReachedRuns
pub mod StackLists
pub mod MachineSteps
pub mod NamedTokens
pub mod SearchedPlaces
pub mod PushedRuns
pub mod PushedReductions
pub mod MadeLabels
pub mod ReducedProductions
