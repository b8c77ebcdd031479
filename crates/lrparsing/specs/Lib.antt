-- the machine, the tokens that could stand behind others, those of lines, the parser of a file, what lines come to, and what is told
pub mod Machines
pub mod Expected
pub mod Lines
pub mod Parsers
pub mod Answers
pub mod AnswerTexts
