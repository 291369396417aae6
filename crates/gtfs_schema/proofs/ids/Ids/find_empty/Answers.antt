use Rattle.std.proofs.Common.{◌≡◌, ◌<◌, ◌≤◌, ◌∙◌, [], ap, sym, arith, length, get_or, bytes_eq, true, None}
use Rattle.gtfs_schema.specs.steps.IdRows.{id_of, listed_row}
use Rattle.gtfs_schema.specs.steps.Ids.{first_row_with, number_with}
use Rattle.gtfs_schema.proofs.IdFacts.{empty_text, missing_empty}
use Rattle.gtfs_schema.proofs.IdNumberFacts.{no_number, numbered_at}
use Rattle.gtfs_schema.proofs.ids.Ids.find_empty.Goals as goal

pub returns-in_err-first-clause-number : goal.returns-in_err-first-clause-number
returns-in_err-first-clause-number c =
    let all = c.self.inside.rows.items in
    let item = c.in_err-first.ensures.item in
    let empty : length all ≤ 0 = rw c.deref.ensures.value at item.3 in
    rw c.from_residual.ensures (no_number _ all c.self.invariant.index [] (missing_empty all c.self.invariant.index.ascending (λ d h. absurd (omega (arith, empty, h))))
    ∙ ap (λ i. number_with i []) c.self.view_is)

-- the first row has another id
none : (c : goal.Then-not-is_empty) → listed_row c.self.inside.rows.items [] ≡ None
none c = missing_empty _ c.self.invariant.index.ascending (λ d h.
    ap (λ r. bytes_eq (id_of r) []) (sym (c.in_ok-first.ensures.item.3.1 d ∙ ap (λ rows. get_or rows 0 d) c.deref.ensures.value))
    ∙ empty_text _ ∙ sym c.if-not-is_empty.ensures)

pub returns-then-not-is_empty-clause-row : goal.returns-then-not-is_empty-clause-row
returns-then-not-is_empty-clause-row c = sym (none c) ∙ c.self.invariant.index.first [] ∙ ap (λ i. first_row_with i []) c.self.view_is

pub returns-then-not-is_empty-clause-number : goal.returns-then-not-is_empty-clause-number
returns-then-not-is_empty-clause-number c = no_number _ _ c.self.invariant.index [] (none c) ∙ ap (λ i. number_with i []) c.self.view_is

pub returns-clause-number : goal.returns-clause-number
returns-clause-number c =
    let first = c.in_ok-first.first.now in
    let here : bytes_eq (id_of first) [] ≡ true = empty_text (id_of first) ∙ sym c.if-not-is_empty.ensures in
    let all = c.self.inside.rows.items in
    let within : 0 < length all = rw c.deref.ensures.value at c.in_ok-first.ensures.item.3.0 in
    let is : first ≡ get_or all 0 first = rw c.deref.ensures.value at c.in_ok-first.ensures.item.1 in
    numbered_at _ all c.self.invariant.index [] 0 first within is here ∙ ap (λ i. number_with i []) c.self.view_is
