use Rattle.std.proofs.Common.{inl, inr, refl}
use Rattle.gtfs_rows.specs.RowsInMemory.{content_of_parts}
use Rattle.gtfs_cli.specs.LentBoardRequests.{stop_request_of}
use Rattle.gtfs_cli.specs.declared.commands.refusal.Refusal.TheVariants.{OutOfMemory}
use Rattle.gtfs_cli.proofs.Plans.{not-failed, prints-refused}
use Rattle.gtfs_cli.proofs.RequestBoards.{one-in}
use Rattle.gtfs_cli.proofs.commands.boards.print_request.Goals as goal

pub returns-in_err-board : goal.returns-in_err-board
returns-in_err-board g c = prints-refused _ _ _ _ (inl refl) _ c.from_residual.result OutOfMemory c.from_residual.ensures.1 (inr refl) (not-failed OutOfMemory refl)

pub returns : goal.returns
returns g c =
    let f = content_of_parts c.args.index.now.feed in
    one-in f (stop_request_of c.args.request.now) c.in_ok-board.board.zone c.args.zone.now c.in_ok-board.ensures.zone _ _ _ c.print_opened.result (c.print_opened.ensures f)
    c.in_ok-board.ensures.board
