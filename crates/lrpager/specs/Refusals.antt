-- what the refusals of a construction say, for callers that list this crate and not the one of the states under construction
pub use Rattle.lrplacing.specs.Refusals.{IsLargeOnly}
