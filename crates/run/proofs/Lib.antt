-- Laws of runs, for the functions' proofs and for the crates above.

-- Views of a run and what changes them, and what soundness means.
pub mod RunSteps
pub mod Views
pub mod SoundLaws
-- Why an event is accepted or refused, and what it does: the one account of an event.
pub mod Account
pub mod Applied
-- What follows from it for every event, and for every run from fresh.
pub mod RunLaws
pub mod Ordered
pub mod GoodRuns
pub mod Unordered
pub mod TestedRuns
-- How the code asks a site for a step.
pub mod Replies
pub mod Events
