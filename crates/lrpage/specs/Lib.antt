-- entries at which no sentence is lost, as a page shows them
pub mod KeptEntries
