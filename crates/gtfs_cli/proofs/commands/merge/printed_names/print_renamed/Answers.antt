use Rattle.std.proofs.Common.{refl}
use Rattle.gtfs_merge.specs.MergeReport.{kinds}
use Rattle.gtfs_cli.specs.MergeReport.{both_lines}
use Rattle.gtfs_cli.proofs.Sent.{item-failed, item-sent, items-sent}
use Rattle.gtfs_cli.proofs.commands.merge.printed_names.print_renamed.Goals as goal

pub loop-kind-preserved : goal.loop-kind-preserved
loop-kind-preserved g c =
    item-sent (both_lines c.args.names.now) kinds c.loop-kind.kind-index _ _ refl c.loop-kind-test.true _ _ _ _
    c.loop-kind.invariant c.in_ok-print_kind.ensures.sent

pub returns-in_err-print_kind : goal.returns-in_err-print_kind
returns-in_err-print_kind g c = record {
  sent = item-failed (both_lines c.args.names.now) kinds c.loop-kind.kind-index _ _ refl c.loop-kind-test.true _ _ _ _
      c.from_residual.result c.from_residual.ensures.1 c.loop-kind.invariant c.in_err-print_kind.ensures.sent;
}

pub returns : goal.returns
returns g c = record { sent = items-sent (both_lines c.args.names.now) kinds c.loop-kind.kind-index _ _ _ c.loop-kind-test.false c.loop-kind.invariant }
