-- Every byte of the report.
pub mod Report
