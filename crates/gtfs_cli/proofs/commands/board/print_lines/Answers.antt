use Rattle.std.proofs.Common.{inl, refl, subst}
use Rattle.gtfs_rows.specs.RowsInMemory.{content_of_parts}
use Rattle.gtfs_cli.specs.LentBoardRequests.{board_request_of}
use Rattle.gtfs_cli.specs.BoardCommand.{IsOpeningCause}
use Rattle.gtfs_cli.specs.declared.commands.refusal.Refusal.{Refusal}
use Rattle.gtfs_cli.proofs.BoardParts.{printed-in}
use Rattle.gtfs_cli.proofs.Plans.{prints-refused}
use Rattle.gtfs_cli.proofs.commands.board.print_lines.Goals as goal

pub returns-in_err-board : goal.returns-in_err-board
returns-in_err-board g c =
    let bad = c.in_err-board.ensures.refused in
    prints-refused _ _ _ _ (inl refl) _ c.from_residual.result c.in_err-board.field-0.0 c.from_residual.ensures.1 (inl bad)
    (λ is. subst (λ (e : Refusal). IsOpeningCause (content_of_parts c.args.feed.now) c.args.zone.now c.args.words.now.stop.now (board_request_of c.args.values.now) e) is bad)

pub returns : goal.returns
returns g c =
    printed-in (content_of_parts c.args.feed.now) c.args.words.now.stop.now (board_request_of c.args.values.now) c.in_ok-board.board.zone c.args.zone.now
    c.in_ok-board.ensures.zone _ _ _ c.print_page.result
    (λ lists. c.print_page.ensures (content_of_parts c.args.feed.now) c.args.words.now.stop.now (board_request_of c.args.values.now) refl lists)
    c.in_ok-board.ensures.board
