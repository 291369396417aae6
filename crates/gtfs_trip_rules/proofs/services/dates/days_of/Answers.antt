use Rattle.std.proofs.Common.{◌≡◌, ◌∙◌, ◌++◌, ◌∷◌, [], ap, rules, sym, SFits, w32, to_z, of_z}
use Rattle.std.proofs.lemmas.Int.{to_z-of_z}
use Rattle.std.proofs.lemmas.List.{map_more}
use Rattle.gtfs_trip_rules.proofs.services.dates.days_of.Goals as goal

-- the day is pushed as a machine's number, which reads as the day
pub loop-exception-preserved : goal.loop-exception-preserved
loop-exception-preserved c =
    let n = c.number.result in
    let fits : SFits w32 n = search rules in
    let day : to_z w32 (of_z w32 n) ≡ c.exception-item.result.0 = to_z-of_z w32 n fits ∙ c.number.ensures.value in
    c.in_ok-push.ensures.items
    ∙ (λ j. c.loop-exception.invariant j ++ (day ∙ ap (λ e. e.0) c.exception-item.is) j ∷ [])
    ∙ sym (map_more (λ e. e.0) c.args.exceptions.now c.loop-exception.exception-index c.exception-item.result c.loop-exception-test.true)
