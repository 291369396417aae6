use Rattle.gtfs_conversation.proofs.ReadLemmas.{heard_line}
use Rattle.gtfs_conversation.proofs.stream_input.read_line.Goals as goal

pub returns-clause-heard : goal.returns-clause-heard
returns-clause-heard g c = heard_line _ _ _ _ _ _ c.in_ok-fed.ensures.read c.hear_raw.ensures.is_line c.hear_raw.ensures.heard
