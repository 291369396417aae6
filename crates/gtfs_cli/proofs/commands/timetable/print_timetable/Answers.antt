use Rattle.std.proofs.Common.{Bool, Err, inl, inr, refl, subst, arith}
use Rattle.gtfs_commands.specs.Words.{timetable_texts_of}
use Rattle.gtfs_cli.specs.RefusalOrder.{IsFirstBad}
use Rattle.gtfs_cli.specs.CommandPlan.{Ends}
use Rattle.gtfs_cli.specs.ReadingCauses.{IsReadingCause}
use Rattle.gtfs_cli.specs.SentText.{Begins}
use Rattle.gtfs_cli.specs.TimetableOptions.{judged_timetable}
use Rattle.gtfs_cli.specs.TimetableCommand.{timetable_judges, timetable_plan, timetable_request_of, IsTimetablePart, IsTimetableText}
use Rattle.gtfs_cli.specs.declared.commands.refusal.Refusal.{Refusal}
use Rattle.gtfs_cli.proofs.Plans.{ends-printed, err-up, prints-none}
use Rattle.gtfs_cli.proofs.ReadsThen.{asks-done, asks-none}
use Rattle.gtfs_cli.proofs.Tabled.{cause-of, none-bad-timetable, part-of, stopped-of, text-of}
use Rattle.gtfs_cli.proofs.commands.timetable.print_timetable.Goals as goal

pub returns-in_err-values : goal.returns-in_err-values
returns-in_err-values g c =
    let limit = g.F.Folders.limit c.args.folders.now in
    let held = g.F.Folders.held c.args.folders.now in
    let asked = timetable_texts_of c.args.words.now in
    let r = c.in_err-values.field-0.0 in
    let bad = c.in_err-values.ensures.refused in
    err-up c.from_residual.result r (Ends (timetable_plan limit held asked) _ _) c.from_residual.ensures.1
    (prints-none held (timetable_judges limit held asked) _ _ _ 10 _ _ _ r refl (λ is. subst (λ (e : Refusal). IsFirstBad (judged_timetable asked) e) is bad)
    (inl (inl bad)) {T = Bool} 0 (omega arith) (asks-none 0 _ (Err r) r refl))

pub returns-in_err-feed : goal.returns-in_err-feed
returns-in_err-feed g c =
    let limit = g.F.Folders.limit c.args.folders.now in
    let held = g.F.Folders.held c.args.folders.now in
    let asked = timetable_texts_of c.args.words.now in
    let r = c.in_err-feed.field-0.0 in
    let bad = c.in_err-feed.ensures.refused in
    let reads = c.in_err-feed.ensures.reads in
    err-up c.from_residual-in_err-feed.result r (Ends (timetable_plan limit held asked) _ _) c.from_residual-in_err-feed.ensures.1
    (prints-none held (timetable_judges limit held asked) _ _ _ 10 _ _ _ r reads.unchanged
    (λ is. subst (λ (e : Refusal). IsReadingCause limit held asked.dir (g.F.Folders.failure_count c.args.folders.now) (g.F.Folders.failure_count c.read_feed.new.folders) e) is bad)
    (inl (inr (none-bad-timetable asked (timetable_request_of c.in_ok-values.values) c.in_ok-values.ensures.read, inl bad))) 10 (omega arith) reads.asks)

pub returns : goal.returns
returns g c =
    let limit = g.F.Folders.limit c.args.folders.now in
    let held = g.F.Folders.held c.args.folders.now in
    let asked = timetable_texts_of c.args.words.now in
    let request = timetable_request_of c.in_ok-values.values in
    let reads = c.in_ok-feed.ensures.reads in
    let feed = c.in_ok-feed.ensures.read in
    let is = c.in_ok-values.ensures.read in
    ends-printed _ _ _ _ (timetable_judges limit held asked) (IsTimetableText limit held asked) (Begins (IsTimetableText limit held asked)) (IsTimetablePart limit held asked)
    _ _ _ _ 10 (text-of limit held asked c.in_ok-feed.feed request feed is) (part-of limit held asked c.in_ok-feed.feed request feed is)
    (λ t h. inr (stopped-of limit held asked c.in_ok-feed.feed request feed is t h))
    (cause-of limit held asked c.in_ok-feed.feed request feed is _ _) reads.unchanged c.print_sheets.result (asks-done 10 _ _ c.in_ok-feed.feed c.print_sheets.result reads.asks)
    c.print_sheets.ensures
