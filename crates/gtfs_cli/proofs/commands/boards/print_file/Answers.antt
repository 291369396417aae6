use Rattle.std.proofs.Common.{◌≡◌, ◌∙◌, ap, map, inl, inr, refl, subst, List, Result}
use Rattle.std.specs.Str.Lines.{lines}
use Rattle.gtfs_days.specs.Zone.{zone_origin}
use Rattle.gtfs_rows.specs.RowsInMemory.{content_of_parts}
use Rattle.gtfs_cli.specs.BoardsCommand.{AreAllBoards, BeginsBoard, BeginsWhole, IsRequestsFault, StopsInAll}
use Rattle.gtfs_cli.specs.BoardsRequests.{numbered_from, requests_in, StopRequest}
use Rattle.gtfs_cli.specs.SentText.{or_none, Output, PrintsText}
use Rattle.gtfs_cli.specs.declared.commands.boards.request_fault.RequestFault.{RequestFault}
use Rattle.gtfs_cli.specs.declared.commands.refusal.Refusal.TheVariants.{OutOfMemory, Unreadable}
use Rattle.gtfs_cli.proofs.BoardsPrinted.{lines-fault}
use Rattle.gtfs_cli.proofs.Plans.{not-failed, prints-as, prints-refused}
use Rattle.gtfs_cli.proofs.commands.boards.print_file.Goals as goal

abbrev Asked : Type 0
Asked = Result (List StopRequest) RequestFault

pub returns : goal.returns
returns g c =
    let f = content_of_parts c.args.feed.now in
    let z = c.args.zone.now in
    let utf8 = c.in-Some.ensures.utf8 in
    let before : Output = record { told = g.O.Out.told c.args.out.now; failures = g.O.Out.failure_count c.args.out.now } in
    let after : Output = record { told = g.O.Out.told c.print_lines.new.out; failures = g.O.Out.failure_count c.print_lines.new.out } in
    let are : map (λ l. l.now) c.as_slice.result.now ≡ _ = ap (map (λ l. l.now)) c.as_slice.ensures.value ∙ c.in_ok-lines.ensures ∙ ap lines c.in-Some.ensures.text in
    prints-as _ _ _ _ _ _ _ _ _ _ c.print_lines.result (λ t h. (utf8, h)) (λ t h. (utf8, h)) (λ t h. elim h [ inl none ↦ inl none | inr is ↦ inr (utf8, is) ])
    (lines-fault c.args.words.now.requests.now c.args.bytes.now _ utf8)
    (subst (λ (r : Asked). PrintsText (AreAllBoards f z r) (StopsInAll BeginsBoard f z r) (or_none (StopsInAll BeginsWhole f z r)) (IsRequestsFault r) before after c.print_lines.result)
    (λ i. requests_in f (zone_origin z) (c.read_times.ensures i) (numbered_from 1 (are i))) c.print_lines.ensures)

pub returns-in_default : goal.returns-in_default
returns-in_default g c =
    prints-refused _ _ _ _ (inl refl) _ _ (Unreadable c.args.words.now.requests) refl (inl (refl, c.text_of.ensures.none c.in_default.is)) (λ is. cc is)

pub returns-in_err-lines : goal.returns-in_err-lines
returns-in_err-lines g c = prints-refused _ _ _ _ (inl refl) _ c.from_residual.result OutOfMemory c.from_residual.ensures.1 (inr refl) (not-failed OutOfMemory refl)
