use Rattle.std.proofs.Common.{◌≡◌, ap, length, List, ℕ}
use Rattle.gtfs_merge.specs.Names.{AllNames, in_kind}
use Rattle.gtfs_merge.specs.MergeReport.{joined_line, kinds}
use Rattle.gtfs_merge.specs.declared.kind.Kind.{Kind}
use Rattle.gtfs_cli.specs.MergeReport.{count_line}
use Rattle.gtfs_cli.proofs.Sent.{item-failed, item-sent, items-sent}
use Rattle.gtfs_cli.proofs.commands.merge.printed_names.print_joined.Goals as goal

-- the line of a kind
counted : (names : AllNames) (kind : Kind) (ids : List (List ℕ)) → ids ≡ (in_kind names kind).joined → joined_line kind (length ids) ≡ count_line names kind
counted names kind ids are = ap (λ (xs : List (List ℕ)). joined_line kind (length xs)) are

pub loop-kind-preserved : goal.loop-kind-preserved
loop-kind-preserved g c =
    let line = counted c.args.names.now _ _ c.joined-count.ensures in
    item-sent (count_line c.args.names.now) kinds c.loop-kind.kind-index _ _ line c.loop-kind-test.true _ _ _ _ c.loop-kind.invariant c.in_ok-print_line.ensures.sent

pub returns-in_err-print_line : goal.returns-in_err-print_line
returns-in_err-print_line g c =
    let line = counted c.args.names.now _ _ c.joined-count.ensures in
    record {
      sent = item-failed (count_line c.args.names.now) kinds c.loop-kind.kind-index _ _ line c.loop-kind-test.true _ _ _ _
          c.from_residual.result c.from_residual.ensures.1 c.loop-kind.invariant c.in_err-print_line.ensures.sent;
    }

pub returns : goal.returns
returns g c = record { sent = items-sent (count_line c.args.names.now) kinds c.loop-kind.kind-index _ _ _ c.loop-kind-test.false c.loop-kind.invariant }
