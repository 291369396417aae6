use Rattle.std.proofs.Common.{Bool, ◌∙◌, Err, inl, inr, refl, subst, arith}
use Rattle.gtfs_board.specs.BoardPage.{IsCutShort, IsPage, IsStopped}
use Rattle.gtfs_commands.specs.Words.{texts_of}
use Rattle.gtfs_cli.specs.BoardCommand.{board_judges, board_plan, IsBoardText}
use Rattle.gtfs_cli.specs.LentBoardRequests.{board_request_of}
use Rattle.gtfs_cli.specs.ReadingCauses.{IsZoneCause, IsReadingCause}
use Rattle.gtfs_cli.specs.FilesInFolders.{HoldsZone}
use Rattle.gtfs_cli.specs.RefusalOrder.{IsFirstBad}
use Rattle.gtfs_cli.specs.BoardOptions.{judged_board}
use Rattle.gtfs_cli.specs.CommandPlan.{Ends}
use Rattle.gtfs_cli.specs.declared.commands.refusal.Refusal.{Refusal}
use Rattle.gtfs_cli.proofs.BoardParts.{cause-of, has-passing, none-bad, text-of}
use Rattle.gtfs_cli.proofs.Plans.{ends-printed, err-up, prints-none}
use Rattle.gtfs_cli.proofs.ReadsThen.{asks-done, asks-none, asks-then, reads-back}
use Rattle.gtfs_cli.proofs.commands.board.print_board.Goals as goal

pub returns-in_err-values : goal.returns-in_err-values
returns-in_err-values g c =
    let limit = g.F.Folders.limit c.args.folders.now in
    let held = g.F.Folders.held c.args.folders.now in
    let asked = texts_of c.args.words.now in
    let r = c.in_err-values.field-0.0 in
    let bad = c.in_err-values.ensures.refused in
    err-up c.from_residual.result r (Ends (board_plan limit held asked) _ _) c.from_residual.ensures.1
    (prints-none held (board_judges limit held asked) _ _ _ 11 _ _ _ r refl (λ is. subst (λ (e : Refusal). IsFirstBad (judged_board asked) e) is bad)
    (inl (inl bad)) {T = Bool} 0 (omega arith) (asks-none 0 _ (Err r) r refl))

pub returns-in_err-feed : goal.returns-in_err-feed
returns-in_err-feed g c =
    let limit = g.F.Folders.limit c.args.folders.now in
    let held = g.F.Folders.held c.args.folders.now in
    let asked = texts_of c.args.words.now in
    let r = c.in_err-feed.field-0.0 in
    let bad = c.in_err-feed.ensures.refused in
    let reads = c.in_err-feed.ensures.reads in
    err-up c.from_residual-in_err-feed.result r (Ends (board_plan limit held asked) _ _) c.from_residual-in_err-feed.ensures.1
    (prints-none held (board_judges limit held asked) _ _ _ 11 _ _ _ r reads.unchanged
    (λ is. subst (λ (e : Refusal). IsReadingCause limit held asked.dir (g.F.Folders.failure_count c.args.folders.now) (g.F.Folders.failure_count c.read_feed.new.folders) e) is bad)
    (inl (inr (none-bad asked (board_request_of c.in_ok-values.values) c.in_ok-values.ensures.read.request, inl bad))) 10 (omega arith) reads.asks)

pub returns-in_err-zone : goal.returns-in_err-zone
returns-in_err-zone g c =
    let limit = g.F.Folders.limit c.args.folders.now in
    let held = g.F.Folders.held c.args.folders.now in
    let asked = texts_of c.args.words.now in
    let r = c.in_err-zone.field-0.0 in
    let reads = c.in_err-zone.ensures.reads in
    let read = c.in_ok-feed.ensures.reads in
    let bad = reads-back 10 _ _ c.in_ok-feed.feed (λ l h k. IsZoneCause l h asked.zone k (g.F.Folders.failure_count c.read_zone.new.folders) r) read c.in_err-zone.ensures.refused in
    err-up c.from_residual-in_err-zone.result r (Ends (board_plan limit held asked) _ _) c.from_residual-in_err-zone.ensures.1
    (prints-none held (board_judges limit held asked) _ _ _ 11 _ _ _ r (reads.unchanged ∙ read.unchanged)
    (λ is. subst (λ (e : Refusal). IsZoneCause limit held asked.zone (g.F.Folders.failure_count c.args.folders.now) (g.F.Folders.failure_count c.read_zone.new.folders) e) is bad)
    (inl (inr (
      none-bad asked (board_request_of c.in_ok-values.values) c.in_ok-values.ensures.read.request,
      inr (has-passing limit held asked.dir c.in_ok-feed.feed c.in_ok-feed.ensures.read, inl bad),
    )))
    11 (omega arith) (asks-then 10 1 _ _ _ c.in_ok-feed.feed _ read.asks reads.asks))

pub returns : goal.returns
returns g c =
    let limit = g.F.Folders.limit c.args.folders.now in
    let held = g.F.Folders.held c.args.folders.now in
    let asked = texts_of c.args.words.now in
    let read = c.in_ok-feed.ensures.reads in
    let reads = c.in_ok-zone.ensures.reads in
    let zone = reads-back 10 _ _ c.in_ok-feed.feed (λ l h k. HoldsZone l h asked.zone c.in_ok-zone.zone) read c.in_ok-zone.ensures.read in
    let text = text-of limit held asked c.in_ok-feed.feed c.in_ok-zone.zone c.in_ok-values.values c.in_ok-feed.ensures.read zone c.in_ok-values.ensures.read in
    ends-printed _ _ _ _ (board_judges limit held asked) (IsBoardText IsPage limit held asked) (IsBoardText IsCutShort limit held asked) (IsBoardText IsStopped limit held asked)
    _ _ _ _ 11 (text IsPage) (text IsCutShort) (λ t h. elim h [ inl none ↦ inl none | inr is ↦ inr (text IsStopped t is) ])
    (cause-of limit held asked c.in_ok-feed.feed c.in_ok-zone.zone c.in_ok-values.values c.in_ok-feed.ensures.read zone c.in_ok-values.ensures.read _ _)
    (reads.unchanged ∙ read.unchanged) c.print_lines.result
    (asks-done 11 _ _ c.in_ok-zone.zone c.print_lines.result (asks-then 10 1 _ _ _ c.in_ok-feed.feed _ read.asks reads.asks))
    c.print_lines.ensures
