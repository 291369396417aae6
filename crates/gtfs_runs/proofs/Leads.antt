-- The first two stops of lists as one number: where it tells two lists apart, they compare like it.
use Rattle.std.proofs.Common.{rules, ◌≡◌, ◌<◌, ◌+◌, ◌*◌, ◌∙◌, ℕ, List, [], ◌∷◌, get_or, nat_lt, refl, sym, ap, arith, inl, inr}
use Rattle.std.specs.Cmp.{IsTotalOrder, tied_itself}
use Rattle.std.specs.Cmp.Rules.{comparing}
use Rattle.std.specs.declared.cmp.Ordering.{Ordering}
use Rattle.std.specs.declared.cmp.Ordering.TheVariants.{Less, Equal}
use Rattle.std.specs.Ordering.{nat_cmp, ordering_reverse, ordering_then}
use Rattle.std.proofs.lemmas.Bool.{cases_Bool, ltb-false, ltb-true}
use Rattle.std.proofs.lemmas.Cmp.{nat_cmp_total}
use Rattle.gtfs_field.proofs.OrderingFacts.{nat-greater, nat-less}
use Rattle.gtfs_runs.specs.steps.TripGroups.{lead_of, list_cmp}

lists_total : IsTotalOrder list_cmp
lists_total = search (comparing, rules) depth 20

-- the list with the lesser number is less
lesser : (xs ys : List ℕ) → get_or ys 1 0 < 4_294_967_296 → lead_of xs < lead_of ys → list_cmp xs ys ≡ Less
lesser xs [] small up = let none : get_or xs 0 0 * 4_294_967_296 + get_or xs 1 0 < 0 = up in absurd (omega (arith, none))
lesser [] (y ∷ ys) small up = refl
lesser (x ∷ xs) (y ∷ ys) small up = elim (cases_Bool (nat_lt x y)) [
  | inl low ↦ ap (λ r. ordering_then r (list_cmp xs ys)) (nat-less x y (ltb-true x y low))
  | inr high ↦ elim (cases_Bool (nat_lt y x)) [
    | inl above ↦ absurd (omega (arith, ltb-true y x above, few, less))
    | inr same ↦
        let one : x ≡ y = omega (arith, ltb-false x y high, ltb-false y x same) in
        ap (λ r. ordering_then r (list_cmp xs ys)) (ap (nat_cmp x) (sym one) ∙ tied_itself nat_cmp_total x) ∙ second xs ys (omega (arith, one, less))
  ]
]
  where
    few : get_or ys 0 0 < 4_294_967_296
    few = small

    less : x * 4_294_967_296 + get_or xs 0 0 < y * 4_294_967_296 + get_or ys 0 0
    less = up

    second : (us vs : List ℕ) → get_or us 0 0 < get_or vs 0 0 → list_cmp us vs ≡ Less
    second us [] below = absurd (omega (arith, below))
    second [] (v ∷ vs) below = refl
    second (u ∷ us) (v ∷ vs) below = ap (λ r. ordering_then r (list_cmp us vs)) (nat-less u v below)

pub leads_decide : (xs ys : List ℕ) (r : Ordering) → get_or xs 1 0 < 4_294_967_296 → get_or ys 1 0 < 4_294_967_296 → nat_cmp (lead_of xs) (lead_of ys) ≡ r → (r ≡ Equal → ⊥)
    → r ≡ list_cmp xs ys
leads_decide xs ys r few small is apart = elim (cases_Bool (nat_lt (lead_of xs) (lead_of ys))) [
  | inl low ↦ let up = ltb-true (lead_of xs) (lead_of ys) low in sym is ∙ nat-less (lead_of xs) (lead_of ys) up ∙ sym (lesser xs ys small up)
  | inr high ↦ elim (cases_Bool (nat_lt (lead_of ys) (lead_of xs))) [
    | inl above ↦
        let down = ltb-true (lead_of ys) (lead_of xs) above in
        sym is ∙ nat-greater (lead_of xs) (lead_of ys) down ∙ ap ordering_reverse (sym (lesser ys xs few down)) ∙ sym (lists_total.antisymm xs ys)
    | inr same ↦
        let one : lead_of xs ≡ lead_of ys = omega (arith, ltb-false (lead_of xs) (lead_of ys) high, ltb-false (lead_of ys) (lead_of xs) same) in
        absurd (apart (sym is ∙ ap (nat_cmp (lead_of xs)) (sym one) ∙ tied_itself nat_cmp_total (lead_of xs)))
  ]
]
