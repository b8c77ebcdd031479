-- the machine on its way through a text, charts, and ways on from where it is
pub mod Machines
pub mod Charts
pub mod Ways
