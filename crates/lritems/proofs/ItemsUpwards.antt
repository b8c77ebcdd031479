-- the items of a map come upwards, since its keys do
pub use Rattle.lrclosing.proofs.AscendingItems.{upwards_from_sorted}
