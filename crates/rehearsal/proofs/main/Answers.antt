-- `rehearsal::main` lends room enough for the longest text.
-- Assumes nothing.
use Rattle.transcript.proofs.TranscriptLaws.{any_room}
use Rattle.rehearsal.proofs.main.Goals as goal

pub rehearsed-length-requires : goal.rehearsed-length-requires
rehearsed-length-requires c = any_room _
