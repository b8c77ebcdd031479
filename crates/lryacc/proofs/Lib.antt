-- productions that are added, faults by their places, sets of rules, what stays of a grammar, delimiters that are passed, bodies
-- that are read, and all of them, directives that are found, declarations that are read, that bodies declare nothing, all that is declared, names of rules among lexemes, lexemes that are found one after another, gaps and their ends, headers, code, also of
-- Rust, tags and types that are read byte by byte, digits and escapes, bytes and parts in quotes, texts of characters, lexemes by their first bytes, rules and
-- tokens that are numbered, productions of bodies, names of one symbol, the end token, precedence lines, start symbols and
-- expected conflicts, the tokens before start rules, and the least sets of rules
pub mod AddedProductions
pub mod MapsOfFaults
pub mod ToldFaults
pub mod UsefulLemmas
pub mod PlacedLemmas
pub mod KeptLemmas
pub mod DelimitersPassed
pub mod BodyReach
pub mod BodiesRead
pub mod AllBodiesRead
pub mod DirectivesFound
pub mod DeclarationsRead
pub mod BodiesDeclare
pub mod AllDeclared
pub mod RuleNames
pub mod Scanning
pub mod GapsByBytes
pub mod GapEnds
pub mod HeadersFound
pub mod Escapes
pub mod BytesInQuotes
pub mod PartsInQuotes
pub mod TagsByBytes
pub mod TypesByBytes
pub mod CharacterTexts
pub mod LexemesAt
pub mod CodeByBytes
pub mod RustCodeByBytes
pub mod Numbered
pub mod ProductionsAdded
pub mod NamesOfOne
pub mod AliasesTaken
pub mod EndsTaken
pub mod LinesHeld
pub mod SaidHeld
pub mod MarksAdded
pub mod LeastSets
