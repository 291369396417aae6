use Rattle.std.proofs.Common.{◌∙◌, inl, inr, refl, subst, sym, map}
use Rattle.gtfs_days.specs.Zone.{zone_origin}
use Rattle.gtfs_rows.specs.RowsInMemory.{content_of_parts}
use Rattle.gtfs_rows.specs.declared.parts.Parts.{Parts as Feed}
use Rattle.gtfs_cli.specs.BoardsCommand.{AreAllBoards, BeginsBoard, BeginsWhole, IsRequestsFault, StopsInAll}
use Rattle.gtfs_cli.specs.SentText.{or_none, Output, PrintsText}
use Rattle.gtfs_cli.specs.declared.commands.refusal.Refusal.TheVariants.{Line, OutOfMemory}
use Rattle.gtfs_cli.proofs.Plans.{no-cause, not-failed, prints-as, prints-refused}
use Rattle.gtfs_cli.proofs.RequestLines.{asked_from, refused_by}
use Rattle.gtfs_cli.proofs.commands.boards.print_lines.Goals as goal

pub returns-in_err-fault : goal.returns-in_err-fault
returns-in_err-fault g c = prints-refused _ _ _ _ (inl refl) _ c.from_residual.result OutOfMemory c.from_residual.ensures.1 (inr refl) (not-failed OutOfMemory refl)

pub returns-in-Some : goal.returns-in-Some
returns-in-Some g c =
    let f = content_of_parts c.args.feed.now in
    let z = c.args.zone.now in
    let asked = asked_from f (zone_origin z) c.args.times 1 (map (λ l. l.now) c.args.lines.now) in
    prints-refused _ _ _ _ (inl refl) _ _ (Line c.in-Some.fault) refl (inl (refused_by asked c.in-Some.fault (sym c.in-Some.is ∙ c.in_ok-fault.ensures))) (λ is. cc is)

pub returns : goal.returns
returns g c =
    let z = c.args.zone.now in
    let asked = λ (x : Feed). asked_from (content_of_parts x) (zone_origin z) c.args.times 1 (map (λ l. l.now) c.args.lines.now) in
    let before : Output = record { told = g.O.Out.told c.args.out.now; failures = g.O.Out.failure_count c.args.out.now } in
    let after : Output = record { told = g.O.Out.told c.print_requests.new.out; failures = g.O.Out.failure_count c.print_requests.new.out } in
    let printed = subst (λ (x : Feed). PrintsText (AreAllBoards (content_of_parts x) z (asked x)) (StopsInAll BeginsBoard (content_of_parts x) z (asked x))
    (or_none (StopsInAll BeginsWhole (content_of_parts x) z (asked x))) (λ _. ⊥) before after c.print_requests.result) c.in_ok-index.ensures.feed c.print_requests.ensures in
    prints-as _ _ _ _ _ _ _ _ _ _ c.print_requests.result (λ t h. h) (λ t h. h) (λ t h. h) (no-cause (IsRequestsFault (asked c.args.feed.now))) printed
