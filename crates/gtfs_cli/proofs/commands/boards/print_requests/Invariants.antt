use Rattle.std.proofs.Common.{◌≡◌, ◌≤◌, map}
use Rattle.gtfs_rows.specs.RowsInMemory.{content_of_parts}
use Rattle.gtfs_cli.proofs.RequestBoards.{PrintedBefore}
use Rattle.gtfs_cli.proofs.commands.boards.print_requests.Given as goal

abbrev pub invariant-loop-line : goal.invariant-loop-line
invariant-loop-line g l = record {
  printed : PrintedBefore (content_of_parts l.index.feed) l.zone l.times (map (λ x. x.now) l.lines) (g.O.Out.told l.initial.out) l.lines l.line-index (g.O.Out.told l.out);
  grows : g.O.Out.failure_count l.initial.out ≤ g.O.Out.failure_count l.out;
  no_failure : g.O.Out.failure_count l.out ≡ g.O.Out.failure_count l.initial.out;
}
