use Rattle.std.proofs.Common.{◌≡◌, ◌∙◌, ◌==◌, ◌&&◌, not, ap, sym, inl, inr}
use Rattle.std.specs.Prelude.{option_map}
use Rattle.gtfs_schema.specs.FieldValues.{if_there}
use Rattle.gtfs_rows.specs.RowChoices.{location_code}
use Rattle.gtfs_runs.proofs.ChildFacts.{child_of, no_child, orphan, own_child}
use Rattle.gtfs_runs.proofs.stop_index.children.parent_of.Goals as goal

pub returns-in_default : goal.returns-in_default
returns-in_default c = λ s.
    let row = c.stop_by_number-row.result.now in
    let n = c.args.stop.0 in
    orphan (location_code row.location_type == 0) (not (n == s)) row.parent_station (λ m. s == m) c.in_default.is ∙ sym (child_of c.args.feed.now s n row c.stop_by_number-row.ensures)

pub returns-then-parent-stop : goal.returns-then-parent-stop
returns-then-parent-stop c = λ s.
    let row = c.stop_by_number-row.result.now in
    let n = c.args.stop.0 in
    let code = location_code row.location_type in
    own_child n code c.in-Some.parent.0 s (sym c.number.ensures.value ∙ c.if-number-eq0.true) c.if-parent-stop.true
    ∙ ap (λ o. (code == 0) && not (n == s) && if_there (option_map (λ m. m.0) o) (λ m. s == m)) (sym c.in-Some.is)
    ∙ sym (child_of c.args.feed.now s n row c.stop_by_number-row.ensures)

pub returns-else-number-eq0 : goal.returns-else-number-eq0
returns-else-number-eq0 c = λ s.
    let row = c.stop_by_number-row.result.now in
    let n = c.args.stop.0 in
    let code = location_code row.location_type in
    let own : code ≡ 0 → c.in-Some.parent.0 ≡ n = λ plain. elim c.else-number-eq0.either [
      | inl both ↦ both.1
      | inr other ↦ absurd (other (c.number.ensures.value ∙ plain))
    ] in
    no_child n code c.in-Some.parent.0 s own
    ∙ ap (λ o. (code == 0) && not (n == s) && if_there (option_map (λ m. m.0) o) (λ m. s == m)) (sym c.in-Some.is)
    ∙ sym (child_of c.args.feed.now s n row c.stop_by_number-row.ensures)
