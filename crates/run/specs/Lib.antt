-- A run, its soundness and its events in 01's order, runs after lists of events, runs that were tested, and how the code asks a site for a step.
pub mod Run
pub mod Sound
pub mod Event
pub mod After
pub mod Tested
pub mod Reply
