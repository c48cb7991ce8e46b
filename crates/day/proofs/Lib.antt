-- What follows for a day's journal.
pub mod DayLaws
pub mod Going
pub mod AsCalls
pub mod Handed
