-- The argument for demand 3, in this order; Promised, the last, is the theorem.

-- Laws of sets and runs in the form that the argument uses.
pub mod SetsMembers
pub mod RunViews
pub mod RunEvents
pub mod RunAfter
-- A run as agreement sees it, and the invariant of safety.
pub mod Classes
pub mod View
pub mod First
-- What keeps the invariant: less of everything; one site changed; one site's messages sent.
pub mod Less
pub mod Become
pub mod Send
-- The steps of a site, and that each keeps the invariant, whole or cut short.
pub mod Does
pub mod Fitting
pub mod Safety
pub mod Own
pub mod Kept
pub mod Learn
-- The real run through that view: its steps are those steps, and its events keep the invariant, from fresh on.
pub mod Seen
pub mod Brings
pub mod Stepping
pub mod Keeping
pub mod Fresh
-- The number that every accepted event lowers.
pub mod Count
pub mod Measure
pub mod Potential
pub mod Falling
-- What running sites owe one another, and that a run with nothing but stops left has decided.
pub mod Owed
pub mod OwedCentral
pub mod OwedPeers
pub mod Owes
pub mod Owing
pub mod Stuck
-- Runs that show that the promises are not empty and the exact bound is reached; what holds of every run from fresh; and so the promise.
pub mod Examples
pub mod Reached
pub mod Promised
pub mod Days
