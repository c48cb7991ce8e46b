-- What follows for decimal numbers, and for parts put one after another, on a page too.
pub mod DecimalLaws
pub mod DigitLaws
pub mod TextLaws
pub mod Putting
pub mod PageLaws
