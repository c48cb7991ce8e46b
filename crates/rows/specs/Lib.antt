-- 01's starred rows as one list, and that all of them hold.
pub mod Rows
pub mod RowsHold
