use Rattle.std.proofs.Common.{◌∙◌, not, sym, ap}
use Rattle.std.specs.Prelude.{option_map}
use Rattle.gtfs_days.specs.Zone.{zone_origin}
use Rattle.gtfs_rows.specs.RowsInMemory.{content_of_parts}
use Rattle.gtfs_cli.specs.LentBoardRequests.{stop_request_of}
use Rattle.gtfs_cli.proofs.RequestFaults.{ends_before, has_stop, nothing_wrong, stop_unknown}
use Rattle.gtfs_cli.proofs.commands.boards.requests.line_fault.Goals as goal

pub returns-then-is_none : goal.returns-then-is_none
returns-then-is_none c =
    let known = has_stop c.args.feed.now c.in-Some.request.texts.stop.now (λ n. n.0) c.stop.result c.stop.ensures in
    let asks = ap (option_map stop_request_of) (sym c.in-Some.is) ∙ c.read_request.ensures.request in
    stop_unknown c.args.times c.args.line.now (stop_request_of c.in-Some.request) asks (content_of_parts c.args.feed.now) (zone_origin c.args.zone.now) c.args.number
    (known ∙ c.is_none.ensures ∙ ap not c.if-is_none.true)

pub returns-then-branch : goal.returns-then-branch
returns-then-branch c =
    let known = has_stop c.args.feed.now c.in-Some.request.texts.stop.now (λ n. n.0) c.stop.result c.stop.ensures in
    let asks = ap (option_map stop_request_of) (sym c.in-Some.is) ∙ c.read_request.ensures.request in
    ends_before c.args.times c.args.line.now (stop_request_of c.in-Some.request) asks (content_of_parts c.args.feed.now) (zone_origin c.args.zone.now) c.args.number
    (known ∙ c.is_none.ensures ∙ ap not c.if-is_none.false) (sym c.in_ok-lies_before.ensures ∙ c.if-branch.true)

pub returns : goal.returns
returns c =
    let known = has_stop c.args.feed.now c.in-Some.request.texts.stop.now (λ n. n.0) c.stop.result c.stop.ensures in
    let asks = ap (option_map stop_request_of) (sym c.in-Some.is) ∙ c.read_request.ensures.request in
    nothing_wrong c.args.times c.args.line.now (stop_request_of c.in-Some.request) asks (content_of_parts c.args.feed.now) (zone_origin c.args.zone.now) c.args.number
    (known ∙ c.is_none.ensures ∙ ap not c.if-is_none.false) (sym c.in_ok-lies_before.ensures ∙ c.if-branch.false)
