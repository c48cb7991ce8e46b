-- The C interface: what a call leaves, then the calls, a file for each kind.
pub mod Bytes
pub mod SiteCall
pub mod RunCalls
pub mod DayCall
pub mod RecordCalls
pub mod SheetCalls
pub mod SheetTrip
