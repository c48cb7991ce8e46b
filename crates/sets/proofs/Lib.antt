-- Tests that hold or fail; the laws of sets, member by member; what lies within what.
pub mod Truths
pub mod SetLaws
pub mod SubsetLaws
