-- The round trips of records and of sheets through the calls, and what the proofs of the calls share.
pub mod RecordCallsLaws
pub mod RecordReads
pub mod SheetTrips
pub mod Calls
