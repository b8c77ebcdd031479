-- the words of contracts on item sets, for callers that list this crate and not the one of item sets
pub use Rattle.lritems.specs.ItemsOf.{set_of, look_up, Agree}
