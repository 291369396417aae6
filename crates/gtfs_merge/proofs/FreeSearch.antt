-- Ids that are looked up by number, and the search for a free one.
use Rattle.std.proofs.Common.{◌≡◌, ℕ, zero, suc, ◌+◌, ◌^◌, ◌<◌, Bool, true, false, cond, not, List, ◌++◌, refl, sym, ap, ◌∙◌, unwrap_or, arith, length, bytes_eq, Some, is_some, find, true≢false}
use Rattle.std.specs.Prelude.{◌||◌}
use Rattle.std.specs.List.{range_with_len}
use Rattle.std.proofs.lemmas.List.Folds.{list_any-append}
use Rattle.gtfs_merge.specs.Renaming.{lists_id, merged_id, free_id}
use Rattle.gtfs_merge.proofs.Fresh.{some_free}
use Rattle.gtfs_merge.proofs.Lookups.{find-Some}

-- ---- the search

abbrev is_free : List (List ℕ) → List ℕ → ℕ → Bool
is_free taken base n = not (lists_id taken (merged_id base n))

-- the search stands at a number: all before it are taken
pub record IsSearched (taken : List (List ℕ)) (base : List ℕ) (number : ℕ) : Type 0 where
  pub left : ℕ
  pub within : number + left ≡ length taken + 2
  pub same : find (is_free taken base) (range_with_len 1 (length taken + 1)) ≡ find (is_free taken base) (range_with_len number left)

-- as many ids as numbers of 128 bits can count are few enough for the search
pub few-counted : (taken : List (List ℕ)) → length taken + 2 < 2 ^ 128 → length taken + 2 < 10 ^ 64
few-counted taken counted = omega (arith, counted)

pub searched_first : (taken : List (List ℕ)) (base : List ℕ) → IsSearched taken base 1
searched_first taken base = record { left = length taken + 1; within = omega arith; same = refl }

-- some number is left, since more numbers are tried than ids are taken
pub number_left : (taken : List (List ℕ)) (base : List ℕ) (number : ℕ) → length taken + 2 < 10 ^ 64 → IsSearched taken base number → (n : ℕ) × (number + suc n ≡ length taken + 2) × (find (is_free taken base) (range_with_len 1 (length taken + 1)) ≡ find (is_free taken base) (range_with_len number (suc n)))
number_left taken base number few s = by_left s.left s.within s.same
  where
    by_left : (k : ℕ) → number + k ≡ length taken + 2 → find (is_free taken base) (range_with_len 1 (length taken + 1)) ≡ find (is_free taken base) (range_with_len number k)
        → (n : ℕ) × (number + suc n ≡ length taken + 2) × (find (is_free taken base) (range_with_len 1 (length taken + 1)) ≡ find (is_free taken base) (range_with_len number (suc n)))
    by_left zero w e = let r = find-Some (is_free taken base) (range_with_len 1 (length taken + 1)) (some_free taken base few) in absurd (true≢false (ap is_some (sym r.1 ∙ e)))
    by_left (suc n) w e = (n, w, e)

pub searched_next : (taken : List (List ℕ)) (base : List ℕ) (number : ℕ) → length taken + 2 < 10 ^ 64 → IsSearched taken base number → lists_id taken (merged_id base number) ≡ true → IsSearched taken base (number + 1)
searched_next taken base number few s e =
    let r = number_left taken base number few s in
    record {
      left = r.0;
      within = omega (arith, r.1);
      same = r.2 ∙ ap (λ b. cond (not b) (Some number) (find (is_free taken base) (range_with_len (number + 1) r.0))) e;
    }

pub searched_found : (taken : List (List ℕ)) (base : List ℕ) (number : ℕ) → length taken + 2 < 10 ^ 64 → IsSearched taken base number → lists_id taken (merged_id base number) ≡ false → free_id taken base ≡ merged_id base number
searched_found taken base number few s e =
    let r = number_left taken base number few s in
    ap (λ o. merged_id base (unwrap_or o 0)) (r.2 ∙ ap (λ b. cond (not b) (Some number) (find (is_free taken base) (range_with_len (number + 1) r.0))) e)

pub has_both : (a b : List (List ℕ)) (x : List ℕ) → lists_id (a ++ b) x ≡ (lists_id a x || lists_id b x)
has_both a b x = list_any-append (bytes_eq x) a b
