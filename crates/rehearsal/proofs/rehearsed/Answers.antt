-- `rehearsal::rehearsed` meets its contract.
-- Assumes nothing.
use Rattle.transcript.proofs.TranscriptLaws.{shown_whole}
use Rattle.rehearsal.proofs.rehearsed.Goals as goal

pub returns : goal.returns
returns c = shown_whole _ _ c.requires c.rehearse.ensures
