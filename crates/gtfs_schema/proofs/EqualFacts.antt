-- Texts whose first and last parts are the same, where these parts cover them.
use Rattle.std.proofs.Common.{◌≡◌, ◌+◌, ◌-◌, ◌<◌, ◌≤◌, ◌∙◌, ℕ, List, nat_eq, bytes_eq, arith, length, get_or, take, drop, sym, ap, inl, inr}
use Rattle.std.proofs.lemmas.Bool.{cases_lt, eqb-true}
use Rattle.std.proofs.lemmas.List.{get_or-drop, get_or-take}
use Rattle.std.proofs.lemmas.Grind.{same_number_lists}
use Rattle.gtfs_field.proofs.NumberFacts.{number_itself}
use Rattle.gtfs_schema.proofs.BoolFacts.{same_test}
use Rattle.gtfs_schema.proofs.SiteFacts.{text_is, text_itself}

-- a place is in the first part, or in the last
same_by_ends : (k : ℕ) (a b : List ℕ) → length a ≤ k + k → length a ≡ length b → take k a ≡ take k b → drop (length a - k) a ≡ drop (length b - k) b → a ≡ b
same_by_ends k a b short even first last = same_number_lists a b even at
  where
    at : (i : ℕ) → i < length a → get_or a i 0 ≡ get_or b i 0
    at i below = elim (cases_lt i k) [
      | inl early ↦ sym (get_or-take k a i 0 early) ∙ ap (λ xs. get_or xs i 0) first ∙ get_or-take k b i 0 early
      | inr late ↦
          let past = length a - k in
          let place : past + (i - past) ≡ i = omega (arith, short, late, below) in
          ap (λ m. get_or a m 0) (sym place) ∙ sym (get_or-drop past a (i - past) 0) ∙ ap (λ xs. get_or xs (i - past) 0) last ∙ get_or-drop (length b - k) b (i - past) 0
          ∙ ap (λ m. get_or b ((m - k) + (i - past)) 0) (sym even) ∙ ap (λ m. get_or b m 0) place
    ]

module _ (k : ℕ) (bytes_of : ℕ → List ℕ) (a b : List ℕ) where
  -- texts are the same just where the numbers of their last parts are, if those of their first parts are
  pub equal_by_ends : (first_a first_b last_a last_b : ℕ) → length a ≤ k + k → length a ≡ length b → bytes_of first_a ≡ take k a → bytes_of first_b ≡ take k b → first_a ≡ first_b
      → bytes_of last_a ≡ drop (length a - k) a → bytes_of last_b ≡ drop (length b - k) b → (bytes_of last_a ≡ bytes_of last_b → last_a ≡ last_b)
      → nat_eq last_a last_b ≡ bytes_eq a b
  equal_by_ends first_a first_b last_a last_b short even of_first_a of_first_b first of_last_a of_last_b apart =
      same_test (nat_eq last_a last_b) (bytes_eq a b)
      (λ last. ap (bytes_eq a) (sym (same_by_ends k a b short even
      (sym of_first_a ∙ ap bytes_of first ∙ of_first_b)
      (sym of_last_a ∙ ap bytes_of (eqb-true last_a last_b last) ∙ of_last_b))) ∙ text_itself a)
      (λ same. ap (nat_eq last_a) (sym (apart (of_last_a ∙ ap (λ xs. drop (length xs - k) xs) (text_is a b same) ∙ sym of_last_b))) ∙ number_itself last_a)
