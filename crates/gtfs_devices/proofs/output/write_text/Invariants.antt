use Rattle.std.proofs.Common.{length, ◌-◌, ◌≡◌, ◌≤◌, take}
use Rattle.std.specs.Io.KnownBytes.{Appends}
use Rattle.gtfs_devices.proofs.output.write_text.Given as goal

abbrev pub invariant-loop-written : goal.invariant-loop-written
invariant-loop-written g l =
    let told = g.O.Out.told in
    let count = g.O.Out.failure_count in
    record {
      within : l.written ≤ length l.text;
      sent : Appends (told l.fn.out) (told l.out) (take l.written l.text);
      counted : count l.out ≡ count l.fn.out;
    }

abbrev pub decreases-loop-written : goal.decreases-loop-written
decreases-loop-written g l = length l.text - l.written
