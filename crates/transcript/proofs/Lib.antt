-- What follows from the text's definition, and a rehearsal under way.
pub mod TranscriptLaws
pub mod Going
