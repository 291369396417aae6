use Rattle.std.proofs.Common.{◌≡◌, ◌∙◌, ap, not, subst, sym, true, false, rules, option_map, to_z, of_z, to_z-of_z, FitsSigned, w64}
use Rattle.gtfs_days.specs.Zone.{zone_origin}
use Rattle.gtfs_rows.specs.Departures.{IsBoard}
use Rattle.gtfs_rows.specs.RowsInMemory.{content_of_parts}
use Rattle.gtfs_rows.specs.declared.parts.Parts.{Parts}
use Rattle.gtfs_times.specs.Filling.{timed}
use Rattle.gtfs_times.specs.declared.times.Times.{Times}
use Rattle.gtfs_board.specs.Board.{is_stop, keys_of}
use Rattle.gtfs_board.specs.LentKeys.{plain_key}
use Rattle.gtfs_board.specs.declared.span.Span.{Span}
use Rattle.gtfs_cli.specs.LentBoardRequests.{board_request_of, stop_request_of}
use Rattle.gtfs_cli.proofs.Answering.{memory-refused}
use Rattle.gtfs_cli.proofs.Opening.{after-lent, lists-board}
use Rattle.gtfs_cli.proofs.RequestFaults.{has_stop}
use Rattle.gtfs_cli.proofs.commands.boards.opening.open_request.Goals as goal

pub returns-then-is_none-clause-refused : goal.returns-then-is_none-clause-refused
returns-then-is_none-clause-refused c =
    subst (λ (p : Parts). is_stop (content_of_parts p) c.args.request.now.texts.stop.now ≡ false) c.feed.ensures
    (has_stop c.feed.result.now c.args.request.now.texts.stop.now (λ n. n.0) c.stop.result c.stop.ensures ∙ c.is_none.ensures ∙ ap not c.if-is_none.true)

pub returns-in_err-instant-clause-refused : goal.returns-in_err-instant-clause-refused
returns-in_err-instant-clause-refused c =
    let feed = c.args.index.now.feed in
    let known = subst (λ (p : Parts). is_stop (content_of_parts p) c.args.request.now.texts.stop.now ≡ true) c.feed.ensures
    (has_stop c.feed.result.now c.args.request.now.texts.stop.now (λ n. n.0) c.stop.result c.stop.ensures ∙ c.is_none.ensures ∙ ap not c.if-is_none.false) in
    memory-refused (content_of_parts feed) c.args.zone.now (stop_request_of c.args.request.now) known c.from_residual.result c.from_residual.ensures.1

pub returns-in_err-instant-2-clause-refused : goal.returns-in_err-instant-2-clause-refused
returns-in_err-instant-2-clause-refused c =
    let feed = c.args.index.now.feed in
    let known = subst (λ (p : Parts). is_stop (content_of_parts p) c.args.request.now.texts.stop.now ≡ true) c.feed.ensures
    (has_stop c.feed.result.now c.args.request.now.texts.stop.now (λ n. n.0) c.stop.result c.stop.ensures ∙ c.is_none.ensures ∙ ap not c.if-is_none.false) in
    memory-refused (content_of_parts feed) c.args.zone.now (stop_request_of c.args.request.now) known c.from_residual-in_err-instant-2.result
    c.from_residual-in_err-instant-2.ensures.1

pub returns-in-Ok-clause-board : goal.returns-in-Ok-clause-board
returns-in-Ok-clause-board c =
    let x = c.in_ok-instant.field-0 in
    let y = c.in_ok-instant-2.field-0 in
    let fits_x : FitsSigned w64 x = search rules in
    let fits_y : FitsSigned w64 y = search rules in
    let back_x : to_z w64 (of_z w64 x) ≡ x = to_z-of_z fits_x in
    let back_y : to_z w64 (of_z w64 y) ≡ y = to_z-of_z fits_y in
    let span : Span = record { from = to_z w64 (of_z w64 x); until = to_z w64 (of_z w64 y) } in
    let f = content_of_parts c.args.index.now.feed in
    let z = c.args.zone.now in
    let stop = c.args.request.now.texts.stop.now in
    let values = c.args.request.now.values in
    let after = option_map (λ k. plain_key k.now) c.as_ref.result in
    lists-board f z stop (board_request_of values) span x y after c.in-Ok.board.rest back_x back_y c.in_ok-instant.ensures.value c.in_ok-instant-2.ensures.value
    (after-lent c.as_ref.result values.after c.as_ref.ensures.value) (λ none. cc (c.in-Ok.ensures.unknown.1 none)) (λ both. cc (c.in-Ok.ensures.bad.1 both))
    (subst (λ (t : Times). IsBoard (timed t f) (zone_origin z) stop span.from span.until after (keys_of c.in-Ok.board.rest)) (sym c.requires.times) c.in-Ok.ensures.board)
    c.in-Ok.ensures.shown
