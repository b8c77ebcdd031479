-- maps of items as plain data
pub mod ItemsOf
-- closing
pub mod Rows
pub mod Visits
-- the items of a closure in their order
pub mod Listing
-- closing by rows that stay
pub mod Leads
pub mod Closer
