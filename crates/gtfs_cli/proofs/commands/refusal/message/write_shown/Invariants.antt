use Rattle.std.proofs.Common.{◌≤◌, length}
use Rattle.gtfs_schema.specs.FieldValues.{plain}
use Rattle.gtfs_cli.proofs.Parts.{Leaves}
use Rattle.gtfs_cli.proofs.commands.refusal.message.write_shown.Given as goal

abbrev pub invariant-loop-at : goal.invariant-loop-at
invariant-loop-at g l = record {
  leaves : Leaves (g.E.Out.told l.initial.err) (g.E.Out.told l.err) (plain l.initial.rest) (plain l.rest);
  grows : g.E.Out.failure_count l.initial.err ≤ g.E.Out.failure_count l.err;
}

abbrev pub decreases-loop-at : goal.decreases-loop-at
decreases-loop-at g l = length l.rest
