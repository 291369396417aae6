use Rattle.std.proofs.Common.{◌∙◌, arith}
use Rattle.gtfs_devices.proofs.SentLemmas.{sent-more}
use Rattle.gtfs_devices.proofs.output.write_text.Goals as goal

pub loop-written-preserved : goal.loop-written-preserved
loop-written-preserved g c = record {
  within = omega (arith, c.in-Ok.ensures.within);
  sent = sent-more _ _ _ _ _ _ c.loop-written.invariant.sent c.in-Ok.ensures.taken;
  counted = c.in-Ok.ensures.no_failure ∙ c.loop-written.invariant.counted;
}
