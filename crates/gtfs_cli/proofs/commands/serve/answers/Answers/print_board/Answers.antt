use Rattle.std.proofs.Common.{refl}
use Rattle.gtfs_rows.specs.RowsInMemory.{content_of_parts}
use Rattle.gtfs_cli.specs.LentBoardRequests.{stop_request_of}
use Rattle.gtfs_cli.proofs.Answering.{board-printed, board-refused}
use Rattle.gtfs_cli.proofs.commands.serve.answers.Answers.print_board.Goals as goal

pub returns-in_err-board : goal.returns-in_err-board
returns-in_err-board g c = board-refused (content_of_parts c.args.self.now.index.now.feed) c.args.self.now.zone.now (stop_request_of c.args.request.now) _
    c.from_residual.result c.in_err-board.field-0.0 c.from_residual.ensures.1 c.in_err-board.ensures.refused

pub returns : goal.returns
returns g c =
    let f = content_of_parts c.args.self.now.index.now.feed in
    let q = stop_request_of c.args.request.now in
    board-printed f q c.in_ok-board.board.zone c.args.self.now.zone.now c.in_ok-board.ensures.zone _ _ _ c.print_page.result
    (λ lists. c.print_page.ensures f q.texts.stop q.values refl lists) c.in_ok-board.ensures.board
