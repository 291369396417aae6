use Rattle.std.proofs.Common.{rules, of_calls, ◌≡◌, ◌<◌, ◌∙◌, ap, sym, length, bytes_eq, true}
use Rattle.std.specs.List.{HoldsAt}
use Rattle.std.specs.List.Sorted.{IsNonDecreasingBy, IsPartitionPoint}
use Rattle.std.specs.Ordering.{is_eq, ordering_index}
use Rattle.std.specs.declared.cmp.Ordering.TheVariants.{Less, Equal, Greater}
use Rattle.std.proofs.lemmas.Fn.{always_returns_same}
use Rattle.gtfs_field.specs.TextOrder.{text_cmp}
use Rattle.gtfs_schema.specs.steps.IdRows.{id_of}
use Rattle.std.proofs.lemmas.Map.Text.{is_eq-slice_cmp}
use Rattle.gtfs_schema.specs.steps.Ids.{first_row_with, number_with}
use Rattle.gtfs_schema.proofs.IdNumberFacts.{no_number, numbered_at}
use Rattle.gtfs_schema.proofs.IdFacts.{found, missing}
use Rattle.gtfs_schema.proofs.ids.Ids.find.Goals as goal

pub returns-in-Ok-clause-row : goal.returns-in-Ok-clause-row
returns-in-Ok-clause-row c =
    let all = c.self.inside.rows.items in
    let id = c.args.id.now in
    let tie : HoldsAt (λ r. text_cmp (id_of r) id ≡ Equal) all c.in-Ok.number =
    rw (← c.deref.ensures.value) (c.in-Ok.ensures.position (λ r. text_cmp (id_of r) id) (always_returns_same _ _ _ (λ a r f k. search (rules, of_calls)))) in
    let within : c.in-Ok.number < length all = rw c.deref.ensures.value at c.in-Ok.ensures.bound in
    sym (found id all c.self.invariant.index.ascending c.in-Ok.number c.index.result.now within tie c.index.ensures) ∙ c.self.invariant.index.first id ∙ ap (λ i. first_row_with i id) c.self.view_is

pub returns-in-Ok-clause-number : goal.returns-in-Ok-clause-number
returns-in-Ok-clause-number c =
    let all = c.self.inside.rows.items in
    let id = c.args.id.now in
    let tie : HoldsAt (λ r. text_cmp (id_of r) id ≡ Equal) all c.in-Ok.number =
    rw (← c.deref.ensures.value) (c.in-Ok.ensures.position (λ r. text_cmp (id_of r) id) (always_returns_same _ _ _ (λ a r f k. search (rules, of_calls)))) in
    let within : c.in-Ok.number < length all = rw c.deref.ensures.value at c.in-Ok.ensures.bound in
    let here : text_cmp (id_of c.index.result.now) id ≡ Equal = ap (λ r. text_cmp (id_of r) id) c.index.ensures ∙ tie c.index.result.now in
    let has : bytes_eq (id_of c.index.result.now) id ≡ true = sym (is_eq-slice_cmp (id_of c.index.result.now) id) ∙ ap is_eq here in
    numbered_at _ all c.self.invariant.index id c.in-Ok.number c.index.result.now within c.index.ensures has ∙ ap (λ i. number_with i id) c.self.view_is

pub returns-in-Err-clause-row : goal.returns-in-Err-clause-row
returns-in-Err-clause-row c =
    let all = c.self.inside.rows.items in
    let id = c.args.id.now in
    let rank : IsNonDecreasingBy (λ r. ordering_index (text_cmp (id_of r) id)) all
    → IsPartitionPoint (λ r. text_cmp (id_of r) id ≡ Less) (λ r. text_cmp (id_of r) id ≡ Greater) all c.in-Err.field-0 =
    rw (← c.deref.ensures.value) (c.in-Err.ensures.position (λ r. text_cmp (id_of r) id) (always_returns_same _ _ _ (λ a r f k. search (rules, of_calls)))) in
    sym (missing id all c.self.invariant.index.ascending c.in-Err.field-0 rank) ∙ c.self.invariant.index.first id ∙ ap (λ i. first_row_with i id) c.self.view_is

pub returns-in-Err-clause-number : goal.returns-in-Err-clause-number
returns-in-Err-clause-number c =
    let all = c.self.inside.rows.items in
    let id = c.args.id.now in
    let rank : IsNonDecreasingBy (λ r. ordering_index (text_cmp (id_of r) id)) all
    → IsPartitionPoint (λ r. text_cmp (id_of r) id ≡ Less) (λ r. text_cmp (id_of r) id ≡ Greater) all c.in-Err.field-0 =
    rw (← c.deref.ensures.value) (c.in-Err.ensures.position (λ r. text_cmp (id_of r) id) (always_returns_same _ _ _ (λ a r f k. search (rules, of_calls)))) in
    no_number _ all c.self.invariant.index id (missing id all c.self.invariant.index.ascending c.in-Err.field-0 rank) ∙ ap (λ i. number_with i id) c.self.view_is
