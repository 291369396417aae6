use Rattle.std.proofs.Common.{◌∙◌, inl, inr, sym, subst, arith}
use Rattle.gtfs_commands.specs.Words.{boards_texts_of}
use Rattle.gtfs_cli.specs.ReadingCauses.{IsPathCause, IsZoneCause, IsReadingCause}
use Rattle.gtfs_cli.specs.FilesInFolders.{HoldsBytes, HoldsZone}
use Rattle.gtfs_cli.specs.BoardsCommand.{boards_judges, boards_plan, BeginsBoard, BeginsWhole, IsBoardsPart, IsBoardsText}
use Rattle.gtfs_cli.specs.CommandPlan.{Ends}
use Rattle.gtfs_cli.specs.declared.commands.refusal.Refusal.{Refusal}
use Rattle.gtfs_cli.proofs.BoardParts.{has-passing}
use Rattle.gtfs_cli.proofs.BoardsPrinted.{boards-of, fault-of, part-of}
use Rattle.gtfs_cli.proofs.Plans.{ends-printed, err-up, prints-none}
use Rattle.gtfs_cli.proofs.ReadsThen.{asks-done, asks-then, reads-back, reads-then}
use Rattle.gtfs_cli.proofs.commands.boards.print_boards.Goals as goal

pub returns-in_err-feed : goal.returns-in_err-feed
returns-in_err-feed g c =
    let limit = g.F.Folders.limit c.args.folders.now in
    let held = g.F.Folders.held c.args.folders.now in
    let asked = boards_texts_of c.args.words.now in
    let r = c.in_err-feed.field-0.0 in
    let bad = c.in_err-feed.ensures.refused in
    let reads = c.in_err-feed.ensures.reads in
    err-up c.from_residual.result r (Ends (boards_plan limit held asked) _ _) c.from_residual.ensures.1
    (prints-none held (boards_judges limit held asked) _ _ _ 12 _ _ _ r reads.unchanged
    (λ is. subst (λ (e : Refusal). IsReadingCause limit held asked.dir (g.F.Folders.failure_count c.args.folders.now) (g.F.Folders.failure_count c.read_feed.new.folders) e) is bad)
    (inl (inl bad)) 10 (omega arith) reads.asks)

pub returns-in_err-zone : goal.returns-in_err-zone
returns-in_err-zone g c =
    let limit = g.F.Folders.limit c.args.folders.now in
    let held = g.F.Folders.held c.args.folders.now in
    let asked = boards_texts_of c.args.words.now in
    let r = c.in_err-zone.field-0.0 in
    let reads = c.in_err-zone.ensures.reads in
    let read = c.in_ok-feed.ensures.reads in
    let bad = reads-back 10 _ _ c.in_ok-feed.feed (λ l h k. IsZoneCause l h asked.zone k (g.F.Folders.failure_count c.read_zone.new.folders) r) read c.in_err-zone.ensures.refused in
    err-up c.from_residual-in_err-zone.result r (Ends (boards_plan limit held asked) _ _) c.from_residual-in_err-zone.ensures.1
    (prints-none held (boards_judges limit held asked) _ _ _ 12 _ _ _ r (reads.unchanged ∙ read.unchanged)
    (λ is. subst (λ (e : Refusal). IsZoneCause limit held asked.zone (g.F.Folders.failure_count c.args.folders.now) (g.F.Folders.failure_count c.read_zone.new.folders) e) is bad)
    (inl (inr (has-passing limit held asked.dir c.in_ok-feed.feed c.in_ok-feed.ensures.read, inl bad)))
    11 (omega arith) (asks-then 10 1 _ _ _ c.in_ok-feed.feed _ read.asks reads.asks))

pub returns-in_err-bytes : goal.returns-in_err-bytes
returns-in_err-bytes g c =
    let limit = g.F.Folders.limit c.args.folders.now in
    let held = g.F.Folders.held c.args.folders.now in
    let asked = boards_texts_of c.args.words.now in
    let r = c.in_err-bytes.field-0.0 in
    let reads = c.in_err-bytes.ensures.reads in
    let read = c.in_ok-feed.ensures.reads in
    let both = reads-then 10 1 _ _ _ c.in_ok-feed.feed _ read c.in_ok-zone.ensures.reads in
    let zone = reads-back 10 _ _ c.in_ok-feed.feed (λ l h k. HoldsZone l h asked.zone c.in_ok-zone.zone) read c.in_ok-zone.ensures.read in
    let bad = reads-back 11 _ _ c.in_ok-zone.zone (λ l h k. IsPathCause l h asked.requests k (g.F.Folders.failure_count c.read_file.new.folders) r) both c.in_err-bytes.ensures.refused in
    err-up c.from_residual-in_err-bytes.result r (Ends (boards_plan limit held asked) _ _) c.from_residual-in_err-bytes.ensures.1
    (prints-none held (boards_judges limit held asked) _ _ _ 12 _ _ _ r (reads.unchanged ∙ both.unchanged)
    (λ is. subst (λ (e : Refusal). IsPathCause limit held asked.requests (g.F.Folders.failure_count c.args.folders.now) (g.F.Folders.failure_count c.read_file.new.folders) e) is bad)
    (inl (inr (has-passing limit held asked.dir c.in_ok-feed.feed c.in_ok-feed.ensures.read, inr ((c.in_ok-zone.zone, zone), inl bad))))
    12 (omega arith) (asks-then 11 1 _ _ _ c.in_ok-zone.zone _ both.asks reads.asks))

pub returns : goal.returns
returns g c =
    let limit = g.F.Folders.limit c.args.folders.now in
    let held = g.F.Folders.held c.args.folders.now in
    let asked = boards_texts_of c.args.words.now in
    let read = c.in_ok-feed.ensures.reads in
    let both = reads-then 10 1 _ _ _ c.in_ok-feed.feed _ read c.in_ok-zone.ensures.reads in
    let all = reads-then 11 1 _ _ _ c.in_ok-zone.zone _ both c.in_ok-bytes.ensures.reads in
    let zone = reads-back 10 _ _ c.in_ok-feed.feed (λ l h k. HoldsZone l h asked.zone c.in_ok-zone.zone) read c.in_ok-zone.ensures.read in
    let bytes = subst (λ bs. HoldsBytes limit held asked.requests bs) (sym c.as_slice.ensures.value)
    (reads-back 11 _ _ c.in_ok-zone.zone (λ l h k. HoldsBytes l h asked.requests c.in_ok-bytes.bytes.items) both c.in_ok-bytes.ensures.read) in
    let feed = c.in_ok-feed.ensures.read in
    let part = part-of limit held asked c.in_ok-feed.feed c.in_ok-zone.zone _ feed zone bytes in
    ends-printed _ _ _ _ (boards_judges limit held asked) (IsBoardsText limit held asked) (IsBoardsPart BeginsBoard limit held asked) (IsBoardsPart BeginsWhole limit held asked)
    _ _ _ _ 12 (boards-of limit held asked c.in_ok-feed.feed c.in_ok-zone.zone _ feed zone bytes) (part BeginsBoard)
    (λ t h. elim h [ inl none ↦ inl none | inr is ↦ inr (part BeginsWhole t is) ])
    (fault-of limit held asked c.in_ok-feed.feed c.in_ok-zone.zone _ feed zone bytes _ _)
    all.unchanged c.print_file.result (asks-done 12 _ _ c.in_ok-bytes.bytes c.print_file.result all.asks) c.print_file.ensures
