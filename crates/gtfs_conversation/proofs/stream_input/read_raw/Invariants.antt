use Rattle.std.proofs.Common.{◌≤◌, length, vec_capacity}
use Rattle.gtfs_conversation.proofs.ReadLemmas.{ReadsIf}
use Rattle.gtfs_conversation.proofs.stream_input.read_raw.Given as goal

abbrev pub invariant-loop : goal.invariant-loop
invariant-loop g l = record {
  short : length l.line.items ≤ l.most;
  room : vec_capacity l.fn.line ≤ vec_capacity l.line;
  reads : ReadsIf l.most (g.R.Read.remaining l.fn.reader) l.line.items (g.R.Read.remaining l.reader);
}
