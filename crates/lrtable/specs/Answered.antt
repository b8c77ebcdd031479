-- how the answering of lines ends, for callers that list this crate and not the one of lines
pub use Rattle.lrlines.specs.Answered.{AreAnswered, AreFaultsTold}
