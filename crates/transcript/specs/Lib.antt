-- The rehearsal's text, byte by byte, and a rehearsal under way.
pub mod Transcript
pub mod Played
