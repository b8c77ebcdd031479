-- items at whose dots a tree stands open
pub mod OpenItems
-- two ways to read that stand as a node says
pub mod Ways
-- no two stand as an impossible one says
pub mod Impossible
-- nodes that cover others, and tokens that both ways take
pub mod Taken
-- where a node proceeds, two ways proceed to one of its moves
pub mod Proceeding
-- no two ways stand as a node of a certificate says
pub mod Settled
-- which item is open where a tree is half read
pub mod Openings
-- an entry with a certificate is decided
pub mod DecidedEntries
-- lists of moves: what they tell of a tree, and where two part
pub mod SameMoves
-- where each two contenders are decided, the grammar is unambiguous
pub mod UnambiguousGrammars
-- certificates in the making
pub mod GrowingLists
-- with what symbols begin, symbol after symbol
pub mod BeginningsInTurn
-- nodes that are impossible, by bits
pub mod ImpossibleNodes
-- nodes whose ways take tokens, and are cut
pub mod TakenAndCut
-- lists that grow one after another, and states that are collected so
pub mod CollectedInTurn
-- nodes to which moves lead, one after another
pub mod FoundMoves
-- nodes that are the same
pub mod SameNodes
-- nodes at which two ways may begin, one after another
pub mod FoundStarts
-- entries that are certified
pub mod CertifiedEntries
-- what contends for cells, one after another
pub mod FoundContenders
-- cells in which each two contenders are decided
pub mod DecidedCells
