use Rattle.std.proofs.Common.{◌∷◌, ◌∙◌, ◌+◌, ◌%◌, [], ap, arith}
use Rattle.gtfs_stop_times.specs.StopTimeChoices.{drop_off_code, pickup_code, timepoint_code}
use Rattle.gtfs_writing.proofs.PlainTexts.{choices-text-exact}
use Rattle.gtfs_writing.proofs.digits.choices_with_timepoint.Goals as goal

pub returns-clause-text : goal.returns-clause-text
returns-clause-text c =
    let pickup = c.digit-pickup.ensures ∙ ap (λ n. 48 + n % 10) c.number.ensures.value in
    let drop_off = c.digit-drop_off.ensures ∙ ap (λ n. 48 + n % 10) c.number-2.ensures.value in
    let timepoint = c.digit-timepoint.ensures ∙ ap (λ n. 48 + n % 10) c.number-3.ensures.value in
    (λ i. 44 ∷ 44 ∷ pickup i ∷ 44 ∷ drop_off i ∷ 44 ∷ timepoint i ∷ 10 ∷ [])
    ∙ choices-text-exact (pickup_code c.args.pickup) (drop_off_code c.args.drop_off) (timepoint_code c.args.timepoint)
    (omega (arith, c.number.ensures.value, c.number.ensures.bound)) (omega (arith, c.number-2.ensures.value, c.number-2.ensures.bound))
    (omega (arith, c.number-3.ensures.value, c.number-3.ensures.bound))
