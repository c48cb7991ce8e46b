-- What stands in a room after reading.
pub mod Input
