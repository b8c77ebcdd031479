-- what refusals say, for callers that list this crate and not the one of refused parts
pub use Rattle.lrparts.specs.Refusals.{IsRefusedBy, NoEarlyCause}
