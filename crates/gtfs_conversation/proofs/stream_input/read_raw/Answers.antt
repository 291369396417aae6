use Rattle.std.proofs.Common.{arith}
use Rattle.gtfs_conversation.proofs.ReadLemmas.{is_short, reads_more}
use Rattle.gtfs_conversation.proofs.stream_input.read_raw.Goals as goal

pub loop-preserved : goal.loop-preserved
loop-preserved g c = record {
  short = is_short _ _ _ c.keep.ensures.kept;
  room = omega (arith, c.loop.invariant.room, c.keep.ensures.room);
  reads = reads_more _ _ _ _ _ _ _ _ c.loop.invariant.reads c.in_ok-next_byte.ensures c.in-Some.is c.in-Some.byte-test.1 c.keep.ensures.kept;
}
