-- A site's record and its step, in 01's order.
pub mod Site
pub mod First
pub mod Leader
pub mod Step
