-- the lemma files
mod AnsweredLines
mod AskingArguments
mod PrintedTexts
