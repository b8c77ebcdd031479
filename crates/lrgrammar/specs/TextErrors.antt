-- what errors of texts say, for callers that list this crate and not the one of refused parts
pub use Rattle.lrparts.specs.TextErrors.{read_refusal_of, text_error_of, IsGrammarOf, IsGrammarRefusal, IsTextError}
