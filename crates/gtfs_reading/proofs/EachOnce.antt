-- A list with each text once, to which one is added; and the parts of a list, one after the other.
use Rattle.std.proofs.Common.{◌≡◌, ◌∙◌, ◌++◌, ◌∷◌, [], ℕ, zero, suc, List, Bool, true, false, bytes_eq, Option, Some, None, refl, sym, ap, subst, append-nil, inl, inr}
use Rattle.std.specs.Prelude.{filter, filter_map, if◌then◌else◌, not, unwrap_or}
use Rattle.std.specs.List.{list_any, slice_get}
use Rattle.std.proofs.lemmas.Bool.{cases_Bool, or_left, or_right}
use Rattle.std.proofs.lemmas.List.Elements.{filter-append, filter_map-append}
use Rattle.std.proofs.lemmas.Map.Views.{any-filter_same}
use Rattle.std.proofs.lemmas.Option.{get_or_from_slice_get, slice_get_within}
use Rattle.gtfs_schema.specs.FieldValues.{plain}
use Rattle.gtfs_schema.proofs.NamedFacts.{text_turned}
use Rattle.gtfs_schema.proofs.SiteFacts.{text_is, text_itself}
use Rattle.indexmap.specs.IndexSet.{insert_key}
use Rattle.gtfs_rows.specs.Headsigns.{ArePlain}
use Rattle.gtfs_reading.specs.FirstNamed.{each_once}
use Rattle.gtfs_reading.specs.HeadsignIndex.{with_headsign}

-- ---- each text once

abbrev others : List ℕ → List (List ℕ) → List (List ℕ)
others u ts = filter (λ s. not (bytes_eq u s)) ts

-- the text that stands first already
same-added : (t u : List ℕ) (es : List (List ℕ)) → t ≡ u → (b : Bool) → others u (if b then es else es ++ t ∷ []) ≡ others u es
same-added t u es same true = refl
same-added t u es same false =
    let itself : bytes_eq u t ≡ true = ap (bytes_eq u) same ∙ text_itself u in
    filter-append (λ s. not (bytes_eq u s)) es (t ∷ [])
    ∙ ap (λ b. others u es ++ (if not b then t ∷ [] else [])) itself ∙ append-nil (others u es)

-- another text
other-added : (t u : List ℕ) (es : List (List ℕ)) → bytes_eq u t ≡ false → (b : Bool)
    → others u (if b then es else es ++ t ∷ []) ≡ (if b then others u es else others u es ++ t ∷ [])
other-added t u es other true = refl
other-added t u es other false =
    filter-append (λ s. not (bytes_eq u s)) es (t ∷ []) ∙ ap (λ b. others u es ++ (if not b then t ∷ [] else [])) other

pub once-more : (ts : List (List ℕ)) (t : List ℕ) → each_once (ts ++ t ∷ []) ≡ insert_key bytes_eq (each_once ts) t
unfolding each_once
once-more [] t = refl
once-more (u ∷ ts) t = ap (λ es. u ∷ others u es) (once-more ts t) ∙ elim (cases_Bool (bytes_eq t u)) [
  | inl here ↦
      ap (λ es. u ∷ es) (same-added t u (each_once ts) (text_is t u here) (list_any (bytes_eq t) (each_once ts)))
      ∙ rw here refl
  | inr other ↦
      let apart : bytes_eq u t ≡ false = text_turned u t ∙ other in
      let found = any-filter_same (bytes_eq t) (λ s. not (bytes_eq u s)) true
      (λ s is. ap (λ k. not (bytes_eq u k)) (sym (text_is t s is)) ∙ ap not apart) (each_once ts) in
      ap (λ es. u ∷ es) (other-added t u (each_once ts) apart (list_any (bytes_eq t) (each_once ts)))
      ∙ rw (other, found) (pushed-on u (others u (each_once ts)) t (list_any (bytes_eq t) (each_once ts)))
]
  where
    pushed-on : (u : List ℕ) (es : List (List ℕ)) (t : List ℕ) (b : Bool)
        → u ∷ (if b then es else es ++ t ∷ []) ≡ (if b then u ∷ es else (u ∷ es) ++ t ∷ [])
    pushed-on u es t true = refl
    pushed-on u es t false = refl

-- a headsign that has a number, and one that has none
pub known-headsign : (ts : List (List ℕ)) (k : ℕ) (t : List ℕ) → slice_get ts k ≡ Some t → ts ≡ with_headsign ts (Some t)
known-headsign ts k t at =
    let there : list_any (bytes_eq t) ts ≡ true = any-at ts k t at in ap (λ b. if b then ts else ts ++ t ∷ []) (sym there)
  where
    any-at : (ts : List (List ℕ)) (k : ℕ) (t : List ℕ) → slice_get ts k ≡ Some t → list_any (bytes_eq t) ts ≡ true
    any-at [] k t at = cc at
    any-at (s ∷ ts) zero t at =
        let same : s ≡ t = ap (λ o. unwrap_or o t) at in
        or_left (bytes_eq t s) (list_any (bytes_eq t) ts) (ap (bytes_eq t) same ∙ text_itself t)
    any-at (s ∷ ts) (suc k) t at = or_right (bytes_eq t s) (list_any (bytes_eq t) ts) (any-at ts k t at)

pub plain-headsign : (ts : List (List ℕ)) → ArePlain ts → (k : ℕ) (t : List ℕ) → slice_get ts k ≡ Some t → ts ≡ with_headsign ts (Some (plain t))
plain-headsign ts all k t at =
    let itself : plain t ≡ t = subst (λ s. plain s ≡ s) (get_or_from_slice_get ts k t t at) (all k t (slice_get_within ts k t at)) in
    known-headsign ts k (plain t) (at ∙ ap Some (sym itself))

pub new-headsign : (ts : List (List ℕ)) (t : List ℕ) → list_any (bytes_eq t) ts ≡ false → ts ++ t ∷ [] ≡ with_headsign ts (Some t)
new-headsign ts t absent = ap (λ b. if b then ts else ts ++ t ∷ []) (sym absent)

-- a row that names a headsign, or none
pub headsigns-more : {X : Type 0} (h : X → Option (List ℕ)) (xs : List X) (x : X)
    → each_once (filter_map h (xs ++ x ∷ [])) ≡ with_headsign (each_once (filter_map h xs)) (h x)
headsigns-more h xs x = ap each_once (filter_map-append h xs (x ∷ [])) ∙ met (filter_map h xs) (h x)
  where
    met : (ts : List (List ℕ)) (o : Option (List ℕ)) → each_once (ts ++ filter_map (λ (p : Option (List ℕ)). p) (o ∷ [])) ≡ with_headsign (each_once ts) o
    met ts None = ap each_once (append-nil ts)
    met ts (Some t) = once-more ts t
