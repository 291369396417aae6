use Rattle.std.proofs.Common.{◌∙◌, ◌+◌, sym, refl}
use Rattle.gtfs_days.specs.Zone.{zone_origin}
use Rattle.gtfs_rows.specs.RowsInMemory.{content_of_parts}
use Rattle.gtfs_cli.proofs.RequestLines.{fault_at, fault_past, fault_past_empty, no_fault_left}
use Rattle.gtfs_cli.proofs.commands.boards.requests.first_fault.Goals as goal

pub loop-index-init : goal.loop-index-init
loop-index-init c = refl

pub loop-index-preserved-then-is_empty : goal.loop-index-preserved-then-is_empty
loop-index-preserved-then-is_empty c =
    let i = c.loop-index.index in
    c.loop-index.invariant
    ∙ fault_past_empty (content_of_parts c.args.feed.now) (zone_origin c.args.zone.now) c.args.times c.args.lines.now i _ c.loop-index-test.true (i + 1)
    (sym c.is_empty.ensures ∙ c.if-is_empty.true)

pub loop-index-preserved : goal.loop-index-preserved
loop-index-preserved c =
    let i = c.loop-index.index in
    c.loop-index.invariant
    ∙ fault_past (content_of_parts c.args.feed.now) (zone_origin c.args.zone.now) c.args.times c.args.lines.now i _ c.loop-index-test.true (i + 1)
    (sym c.is_empty.ensures ∙ c.if-is_empty.false) c.in_ok-fault.fault c.in_ok-fault.ensures (sym c.is_some.ensures ∙ c.if-is_some.false)

pub returns-then-is_some : goal.returns-then-is_some
returns-then-is_some c =
    let i = c.loop-index.index in
    fault_at (content_of_parts c.args.feed.now) (zone_origin c.args.zone.now) c.args.times c.args.lines.now i _ c.loop-index-test.true (i + 1)
    (sym c.is_empty.ensures ∙ c.if-is_empty.false) c.in_ok-fault.fault c.in_ok-fault.ensures (sym c.is_some.ensures ∙ c.if-is_some.true)
    ∙ sym c.loop-index.invariant

pub returns : goal.returns
returns c =
    let i = c.loop-index.index in
    sym (c.loop-index.invariant
    ∙ no_fault_left (content_of_parts c.args.feed.now) (zone_origin c.args.zone.now) c.args.times c.args.lines.now i (i + 1) c.loop-index-test.false)
