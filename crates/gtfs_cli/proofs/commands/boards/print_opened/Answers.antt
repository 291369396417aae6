use Rattle.std.proofs.Common.{◌∙◌, inl, inr, refl}
use Rattle.gtfs_cli.specs.LentBoardRequests.{stop_request_of}
use Rattle.gtfs_cli.specs.BoardsCommand.{BeginsBoard, BeginsWhole, IsOneText}
use Rattle.gtfs_cli.specs.declared.commands.refusal.Refusal.TheVariants.{OutOfMemory, OutputFailed}
use Rattle.gtfs_cli.proofs.Plans.{not-failed, prints-cut, prints-refused, prints-up}
use Rattle.gtfs_cli.proofs.RequestBoards.{below-heading, heading-cut}
use Rattle.gtfs_cli.proofs.commands.boards.print_opened.Goals as goal

pub returns-in_err-heading : goal.returns-in_err-heading
returns-in_err-heading g c = λ f lists. prints-refused _ _ _ _ (inl refl) _ c.from_residual.result OutOfMemory c.from_residual.ensures.1 (inr refl) (not-failed OutOfMemory refl)

pub returns-in_err-write_text : goal.returns-in_err-write_text
returns-in_err-write_text g c = λ f lists.
    let z = c.args.board.now.zone in
    let q = stop_request_of c.args.request.now in
    let text = c.as_bytes.ensures.value ∙ c.in_ok-heading.ensures in
    prints-up (IsOneText f z q) (BeginsBoard f z q) (BeginsWhole f z q) (λ _. ⊥) _ _ c.from_residual-in_err-write_text.result OutputFailed c.from_residual-in_err-write_text.ensures.1
    (prints-cut _ _ _ _ _ _ (heading-cut f z q _ _ c.in_err-write_text.field-0.0.written _ text c.in_err-write_text.ensures.prefix) c.in_err-write_text.ensures.once
    c.write_text.ensures.grows)

pub returns : goal.returns
returns g c = λ f lists.
    let q = stop_request_of c.args.request.now in
    let text = c.as_bytes.ensures.value ∙ c.in_ok-heading.ensures in
    below-heading f c.args.board.now.zone q _ _ _ _ text c.in_ok-write_text.ensures.whole c.in_ok-write_text.ensures.no_failure c.print_page.result
    (c.print_page.ensures f q.texts.stop q.values refl lists)
