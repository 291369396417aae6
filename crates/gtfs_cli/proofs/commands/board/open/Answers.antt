use Rattle.std.proofs.Common.{◌≡◌, ap, rules, Err, option_map, to_z, of_z, to_z-of_z, FitsSigned, w64}
use Rattle.gtfs_days.specs.Zone.{zone_origin}
use Rattle.gtfs_rows.specs.RowsInMemory.{content_of_parts}
use Rattle.gtfs_board.specs.LentKeys.{plain_key}
use Rattle.gtfs_board.specs.declared.board.BoardFault.{BoardFault}
use Rattle.gtfs_board.specs.declared.span.Span.{Span}
use Rattle.gtfs_cli.specs.LentBoardRequests.{board_request_of}
use Rattle.gtfs_cli.specs.BoardOptions.{instant_at}
use Rattle.gtfs_cli.proofs.Moments.{ends-at}
use Rattle.gtfs_cli.proofs.Opening.{after-lent, lists-board}
use Rattle.gtfs_cli.proofs.commands.board.open.Goals as goal

pub returns-in-Ok-clause-board : goal.returns-in-Ok-clause-board
returns-in-Ok-clause-board c =
    let x = c.in_ok-instant.field-0 in
    let y = c.in_ok-instant-2.field-0 in
    let fits_x : FitsSigned w64 x = search rules in
    let fits_y : FitsSigned w64 y = search rules in
    let back_x : to_z w64 (of_z w64 x) ≡ x = to_z-of_z fits_x in
    let back_y : to_z w64 (of_z w64 y) ≡ y = to_z-of_z fits_y in
    let span : Span = record { from = to_z w64 (of_z w64 x); until = to_z w64 (of_z w64 y) } in
    lists-board (content_of_parts c.args.feed.now) c.args.zone.now c.args.words.now.stop.now (board_request_of c.args.values.now) span x y
    (option_map (λ k. plain_key k.now) c.as_ref.result) c.in-Ok.board.rest back_x back_y
    c.in_ok-instant.ensures.value c.in_ok-instant-2.ensures.value (after-lent c.as_ref.result c.args.values.now.after c.as_ref.ensures.value)
    (λ none. cc (c.in-Ok.ensures.unknown.1 none)) (λ both. cc (c.in-Ok.ensures.bad.1 both)) c.in-Ok.ensures.board c.in-Ok.ensures.shown

pub returns-in-Err-BadSpan-clause-refused : goal.returns-in-Err-BadSpan-clause-refused
returns-in-Err-BadSpan-clause-refused c =
    let x = c.in_ok-instant.field-0 in
    let y = c.in_ok-instant-2.field-0 in
    let fits_x : FitsSigned w64 x = search rules in
    let fits_y : FitsSigned w64 y = search rules in
    let back_x : to_z w64 (of_z w64 x) ≡ x = to_z-of_z fits_x in
    let back_y : to_z w64 (of_z w64 y) ≡ y = to_z-of_z fits_y in
    let span : Span = record { from = to_z w64 (of_z w64 x); until = to_z w64 (of_z w64 y) } in
    let both = c.in-Err-BadSpan.ensures.bad.0 (ap (λ (f : BoardFault). Err f) c.in-Err-BadSpan.field-0-is) in
    let z = c.args.zone.now in
    let r = board_request_of c.args.values.now in (
      both.0,
      ends-at span x y (instant_at (zone_origin z) r.from) (instant_at (zone_origin z) r.until) back_x back_y
          c.in_ok-instant.ensures.value c.in_ok-instant-2.ensures.value both.1 c.in_ok-instant.ensures.short c.in_ok-instant-2.ensures.short,
    )
