-- entries at which no text has two trees that part
pub use Rattle.lrshown.specs.DecidedEntries.{IsDecidedEntry, IsDecidedOf, IsToldDecided, meeting_of}
