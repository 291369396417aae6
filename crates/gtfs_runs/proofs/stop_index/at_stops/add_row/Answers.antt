use Rattle.std.proofs.Common.{◌≡◌, ◌<◌, ◌∙◌, ◌++◌, [], ◌∷◌, get_or, length, map, refl, set, true, sym, ap, subst}
use Rattle.std.proofs.lemmas.List.{length-map, length-set}
use Rattle.gtfs_field.proofs.ListFacts.{some_of}
use Rattle.gtfs_stop_times.specs.declared.stop_row.StopRow.{StopRow}
use Rattle.gtfs_runs.specs.steps.AtStops.{at_stop}
use Rattle.gtfs_runs.specs.declared.departure_row.DepartureRow.{DepartureRow}
use Rattle.gtfs_runs.specs.steps.NotedRows.{IsNoted}
use Rattle.gtfs_runs.proofs.AtStopFacts.{noted_here, one_more, pushed_at, row_added, row_last, row_later, row_passed}
use Rattle.gtfs_runs.proofs.stop_index.at_stops.add_row.Goals as goal

pub returns-then-not-is_departure_row : goal.returns-then-not-is_departure_row
returns-then-not-is_departure_row c =
    let rows = c.args.rows.now in
    let d : StopRow = some_of rows c.args.position c.requires.within in
    record {
      length = refl;
      told = λ s t r p u fs.
          row_passed p u rows fs c.args.trip.0 c.args.position d _ c.requires.within
          (sym (c.is_departure_row.ensures p u fs d) ∙ c.if-not-is_departure_row.true) s t r;
      order = λ p. row_later p c.args.trip.0 c.args.position _;
      noted = λ p at were. were;
      ranked = λ q is were. were;
    }

pub returns : goal.returns
returns c =
    let rows = c.args.rows.now in
    let lists = c.args.found.now.items in
    let d : StopRow = c.index-rows-position.result in
    let row = c.in_ok-row.row in
    let stop = (get_or rows c.args.position d).stop_id.0 in
    let same : d.stop_id.0 ≡ stop = ap (λ (z : StopRow). z.stop_id.0) c.index-rows-position.is in
    let known = c.requires.stops c.args.position d c.requires.within in
    let here = subst (λ n. n < length lists) (sym same) known in
    let pushed = subst (λ n. map (λ x. x.items) (set lists d.stop_id.0 c.push.new.self) ≡ set (map (λ x. x.items) lists) n (at_stop (map (λ x. x.items) lists) n ++ row ∷ [])) same
    (pushed_at (λ x. x.items) lists d.stop_id.0 c.index_mut.result.now c.push.new.self row here c.index_mut.ensures.value c.in_ok-push.ensures.items) in
    let inside = subst (λ n. stop < n) (sym (length-map lists (λ x. x.items))) known in
    record {
      length = length-set lists d.stop_id.0 c.push.new.self;
      told = λ s t r p u fs.
          row_added p u rows fs c.args.trip.0 c.args.rank c.args.position d d _ _ row c.requires.within
          (sym (c.is_departure_row.ensures p u fs d) ∙ c.if-not-is_departure_row.false) c.in_ok-row.ensures inside pushed s t r;
      order = λ p. row_last p c.args.trip.0 c.args.position stop c.args.rank d row _ _ c.in_ok-row.ensures inside pushed;
      noted = λ p at. one_more (IsNoted p) stop row _ _ (noted_here p c.args.trip.0 c.args.rank c.args.position rows d row at c.requires.within c.index-rows-position.is c.in_ok-row.ensures) inside pushed;
      ranked = λ q is. one_more (λ x. q x.trip x.rank ≡ true) stop row _ _ (ap (λ (x : DepartureRow). q x.trip x.rank) c.in_ok-row.ensures ∙ is) inside pushed;
    }
