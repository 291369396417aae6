use Rattle.std.proofs.Common.{◌≡◌, ◌&&◌, ◌∙◌, Bool, true, false, sym, ap}
use Rattle.std.proofs.lemmas.List.{get_or_default}
use Rattle.std.specs.List.{slice_index_or}
use Rattle.gtfs_runs.proofs.departure_row.leaves_place.Goals as goal

second : (a b r : Bool) → b ≡ true → r ≡ a → r ≡ (a && b)
second true b r holds is = is ∙ sym holds
second false b r holds is = is

neither : (a b r : Bool) → r ≡ b → r ≡ false → r ≡ (a && b)
neither true b r is fails = is
neither false b r is fails = fails

pub has-requires : goal.has-requires
has-requires c = c.requires.stops c.args.position c.index-rows-position.result c.requires.within

pub returns-then-has : goal.returns-then-has
returns-then-has c = λ p t fs d.
    second _ _ c.is_departure_row.result
    (ap (λ r. slice_index_or c.args.place.now r.stop_id.0 false) (sym (get_or_default c.args.rows.now c.args.position c.index-rows-position.result d c.requires.within)) ∙ sym c.has.ensures ∙ c.if-has.true)
    (c.is_departure_row.ensures p t fs d)

pub returns-else-has : goal.returns-else-has
returns-else-has c = λ p t fs d.
    neither _ _ c.has.result
    (c.has.ensures ∙ ap (λ r. slice_index_or c.args.place.now r.stop_id.0 false) (get_or_default c.args.rows.now c.args.position c.index-rows-position.result d c.requires.within))
    c.if-has.false
