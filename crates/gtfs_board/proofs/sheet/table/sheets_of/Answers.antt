use Rattle.std.proofs.Common.{◌∙◌, map, sym, ap, subst}
use Rattle.std.specs.List.{filter, flat_map}
use Rattle.std.proofs.lemmas.List.{take_all}
use Rattle.gtfs_board.specs.LentSheets.{plain_sheet}
use Rattle.gtfs_board.specs.TimetableColumns.{IsPattern, goes, sheets_along}
use Rattle.gtfs_times.specs.TimedRows.{timed_parts}
use Rattle.gtfs_board.proofs.SheetLists.{left-out, taken-in}
use Rattle.gtfs_board.proofs.sheet.table.sheets_of.Goals.{then-goes+in_ok-push_pattern, else-goes}
use Rattle.gtfs_board.proofs.sheet.table.sheets_of.Goals as goal

pub push_pattern-requires : goal.push_pattern-requires
push_pattern-requires c = subst (IsPattern c.args.feed.now) (sym c.pattern-item.is) (c.requires c.loop-pattern.pattern-index c.pattern-item.result c.loop-pattern-test.true)

pub loop-pattern-preserved : goal.loop-pattern-preserved
loop-pattern-preserved c =
    let along = sheets_along (timed_parts c.args.times c.args.feed.now) c.args.route.now c.args.day in
    let n = c.loop-pattern.pattern-index in
    elim c.if-goes.branch [
      | then-goes+in_ok-push_pattern w ↦
          ap (λ v. map plain_sheet v.items) w.found-is
          ∙ taken-in (goes c.args.direction) along c.args.patterns.now n c.pattern-item.result _ _ c.loop-pattern-test.true c.pattern-item.is (sym c.goes.ensures ∙ w.if-goes.true)
          c.loop-pattern.invariant w.in_ok-push_pattern.ensures
      | else-goes w ↦
          ap (λ v. map plain_sheet v.items) w.found-is
          ∙ left-out (goes c.args.direction) along c.args.patterns.now n c.pattern-item.result _ c.loop-pattern-test.true c.pattern-item.is (sym c.goes.ensures ∙ w.if-goes.false)
          c.loop-pattern.invariant
    ]

pub returns : goal.returns
returns c =
    c.loop-pattern.invariant
    ∙ ap (λ ps. flat_map (sheets_along (timed_parts c.args.times c.args.feed.now) c.args.route.now c.args.day) (filter (goes c.args.direction) ps))
    (take_all c.loop-pattern.pattern-index c.args.patterns.now c.loop-pattern-test.false)
