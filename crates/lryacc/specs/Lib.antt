-- places in a text
pub mod Spans
-- names that are spelt nearly as another one
pub mod Spellings
-- sets of rules, and which productions are useful by them
pub mod UsefulRules
-- where the productions of a file stand
pub mod ProductionPlaces
-- what is told of a file
pub mod Told
-- precedence lines, and the precedences of tokens
pub mod Levels
-- productions with their places
pub mod PlacedProductions
-- what stays of a grammar
pub mod KeptProductions
-- the beginning of a file of grmtools
pub mod Headers
-- the productions of what a file says
pub mod FileProductions
-- what the grammar of a file comes from
pub mod FilesRead
-- what stands around bodies
pub mod Delimiters
-- bodies among lexemes
pub mod Bodies
-- all bodies of a file
pub mod AllBodies
-- what directives declare
pub mod Directives
-- what lexemes declare
pub mod Declarations
-- declarations that are read up to a place
pub mod DeclarationsRead
-- what stands in quotes, and which bytes it is
pub mod Quotes
-- names and texts in quotes, as grmtools reads them
pub mod GrmtoolsQuotes
-- what stands in quotes, as it is read up to a place within it
pub mod QuotesRead
-- tags
pub mod Tags
-- tags that are read up to a place within them
pub mod TagsRead
-- blanks, and comments
pub mod Comments
-- code of a host language, and where it ends
pub mod Code
-- code that is read up to a place within it
pub mod CodeRead
-- code of Rust, and where it ends
pub mod RustCode
-- code of Rust that is read up to a place within it
pub mod RustCodeRead
-- classes of bytes, and what stands in a text from one place up to another
pub mod Words
-- types of rules, as grmtools reads them
pub mod RuleTypes
-- types that are read up to a place within them
pub mod TypesRead
-- the lexemes of a text
pub mod Lexemes
-- bytes of one class
pub mod Runs
-- a scanner, and what it finds
pub mod Scans
-- what stands between lexemes
pub mod Gaps
-- gaps that are read up to a place within them
pub mod GapsRead
-- all lexemes of a text
pub mod AllLexemes
-- which rule or token a lexeme names
pub mod NamedSymbols
-- which symbol is the end token
pub mod EndTokens
-- the start symbols
pub mod StartSymbols
-- how many conflicts are expected
pub mod ExpectedConflicts
-- which parser a file asks for
pub mod Parsers
-- start symbols and expected conflicts, while declarations are taken in
pub mod SaidTaken
-- which lines symbols stand in
pub mod LinesTaken
-- which tokens bodies name for their precedences
pub mod BodyPrecedences
-- the productions of bodies
pub mod BodyProductions
-- the numbers of rules and tokens
pub mod Numbered
-- which other names of symbols are heeded
pub mod Aliases
