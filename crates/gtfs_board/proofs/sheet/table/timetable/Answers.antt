use Rattle.std.proofs.Common.{◌∙◌, sym, ap, refl}
use Rattle.std.specs.Prelude.{option_map}
use Rattle.std.proofs.lemmas.Bool.{true≢false}
use Rattle.gtfs_rows.specs.RowsInMemory.{content_of_parts}
use Rattle.gtfs_times.specs.Filling.{timed}
use Rattle.gtfs_board.specs.Timetable.{sheets}
use Rattle.gtfs_board.proofs.Results.{if_ok}
use Rattle.gtfs_board.proofs.Sheets.{never_unknown, route-none, route-some}
use Rattle.gtfs_board.proofs.sheet.table.timetable.Goals as goal

pub sheets_of_route-requires : goal.sheets_of_route-requires
sheets_of_route-requires c = (route-some c.args.feed.now c.args.route.now c.in-Some.number.0 (sym c.route.ensures ∙ ap (option_map (λ n. n.0)) c.in-Some.is)).0

pub returns-in-Some-clause-unknown : goal.returns-in-Some-clause-unknown
returns-in-Some-clause-unknown c =
    let known = route-some c.args.feed.now c.args.route.now c.in-Some.number.0 (sym c.route.ensures ∙ ap (option_map (λ n. n.0)) c.in-Some.is) in
    (λ unknown. absurd (never_unknown c.sheets_of_route.result c.sheets_of_route.ensures.known unknown), λ none. absurd (true≢false (sym known.1.1 ∙ none)))

pub returns-in-Some-clause-sheets : goal.returns-in-Some-clause-sheets
returns-in-Some-clause-sheets c =
    let known = route-some c.args.feed.now c.args.route.now c.in-Some.number.0 (sym c.route.ensures ∙ ap (option_map (λ n. n.0)) c.in-Some.is) in
    if_ok c.sheets_of_route.result _ _ c.sheets_of_route.ensures.sheets (λ found are. are ∙ ap (λ id. sheets (timed c.args.times (content_of_parts c.args.feed.now)) id c.args.direction c.args.day) known.1.0)

pub returns-in-None-clause-unknown : goal.returns-in-None-clause-unknown
returns-in-None-clause-unknown c =
    let none = route-none c.args.feed.now c.args.route.now (sym c.route.ensures ∙ ap (option_map (λ n. n.0)) c.in-None.is) in
    (λ _. none, λ _. refl)
