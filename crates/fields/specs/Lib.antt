-- The fields of an event: the range of each, and the event that they tell.
pub mod Ranges
pub mod Fields
