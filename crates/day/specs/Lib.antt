-- A day's journal in one call.
pub mod Day
pub mod OneByOne
