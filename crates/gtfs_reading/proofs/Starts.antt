-- Where the stop times of each trip begin.
use Rattle.std.proofs.Common.{◌≡◌, ◌<◌, ◌≤◌, ◌+◌, ◌++◌, ◌∷◌, ◌∙◌, [], ℕ, zero, suc, List, length, get_or, true, false, refl, sym, ap, subst, arith, append-nil, append_assoc, inl, inr}
use Rattle.std.specs.Prelude.{◌==◌, replicate}
use Rattle.std.specs.List.{All}
use Rattle.std.proofs.lemmas.Bool.{cases_lt}
use Rattle.std.proofs.lemmas.Bool.Decides.{nat_tests}
use Rattle.std.proofs.lemmas.List.{get_or_append_left, get_or_push, length_push, replicate_more}
use Rattle.std.proofs.lemmas.List.Elements.{filter-append}
use Rattle.csv.specs.Records.{Rising}
use Rattle.csv.proofs.RecordFacts.{rising-end}
use Rattle.gtfs_table.specs.FieldOffsets.{add_to_last, parts}
use Rattle.gtfs_table.proofs.PartFacts.{parts-more, parts-push}
use Rattle.gtfs_stop_times.specs.declared.stop_time.StopTime.{StopTime}
use Rattle.gtfs_rows.proofs.Held.{filter_none}
use Rattle.gtfs_reading.specs.GatheredStopTimes.{by_trip, of_trip}

-- ---- starts at the end of a list

pub rising-filled : (m : ℕ) (starts : List ℕ) (size : ℕ) → Rising 0 starts size → Rising 0 (starts ++ replicate m size) size
rising-filled zero starts size up = subst (λ ks. Rising 0 ks size) (sym (append-nil starts)) up
rising-filled (suc m) starts size up =
    subst (λ ks. Rising 0 ks size) (append_assoc starts (size ∷ []) (replicate m size)) (rising-filled m (starts ++ size ∷ []) size (rising-end 0 starts size up))

module _ {X : Type 0} where
  one-filled : (starts : List ℕ) (xs : List X) → Rising 0 starts (length xs) → parts (starts ++ length xs ∷ []) xs ≡ parts starts xs ++ [] ∷ []
  one-filled starts xs up = ap (parts (starts ++ length xs ∷ [])) (sym (append-nil xs)) ∙ parts-push 0 starts xs [] up

  parts-filled : (m : ℕ) (starts : List ℕ) (xs : List X) → Rising 0 starts (length xs) → parts (starts ++ replicate m (length xs)) xs ≡ parts starts xs ++ replicate m []
  parts-filled zero starts xs up = ap (λ ks. parts ks xs) (append-nil starts) ∙ sym (append-nil (parts starts xs))
  parts-filled (suc m) starts xs up =
      ap (λ ks. parts ks xs) (sym (append_assoc starts (length xs ∷ []) (replicate m (length xs))))
      ∙ parts-filled m (starts ++ length xs ∷ []) xs (rising-end 0 starts (length xs) up)
      ∙ ap (λ ps. ps ++ replicate m []) (one-filled starts xs up)
      ∙ append_assoc (parts starts xs) ([] ∷ []) (replicate m [])

-- the first start is 0
pub first-filled : (m : ℕ) (starts : List ℕ) (size : ℕ) → get_or starts 0 size ≡ 0 → get_or (starts ++ replicate m size) 0 size ≡ 0
first-filled zero [] size first = first
first-filled (suc m) [] size first = first
first-filled m (s ∷ starts) size first = first

-- ---- the stop times of each trip

module _ (ss : List StopTime) (n : ℕ) (below : All (λ s. s.trip < n) ss) where
  none-of : (k : ℕ) → n ≤ k → of_trip k ss ≡ []
  none-of k high = filter_none (λ s. s.trip == k) ss (λ i d h. let low = below i d h in apart (get_or ss i d).trip k low high)
    where
      apart : (t k : ℕ) → t < n → n ≤ k → (t == k) ≡ false
      apart t k low high = grind (arith, nat_tests)

  by_trip-filled : (m : ℕ) → by_trip (n + m) ss ≡ by_trip n ss ++ replicate m []
  unfolding by_trip
  by_trip-filled zero = let same : n + zero ≡ n = omega arith in ap (λ k. by_trip k ss) same ∙ sym (append-nil (by_trip n ss))
  by_trip-filled (suc m) =
      let next : n + suc m ≡ suc (n + m) = omega arith in
      let one : m + 1 ≡ suc m = omega arith in
      ap (λ k. by_trip k ss) next ∙ ap (λ ys. by_trip (n + m) ss ++ ys ∷ []) (none-of (n + m) (omega arith))
      ∙ ap (λ zs. zs ++ [] ∷ []) (by_trip-filled m) ∙ append_assoc (by_trip n ss) (replicate m []) ([] ∷ [])
      ∙ ap (λ zs. by_trip n ss ++ zs) (replicate_more m [] ∙ ap (λ k. replicate k []) one)

to-last : {X : Type 0} (rs : List (List X)) (ys : List X) (x : X) → add_to_last (rs ++ ys ∷ []) x ≡ rs ++ (ys ++ x ∷ []) ∷ []
unfolding add_to_last
to-last [] ys x = refl
to-last (r ∷ []) ys x = refl
to-last (r ∷ q ∷ rs) ys x = ap (λ qs. r ∷ qs) (to-last (q ∷ rs) ys x)

module _ (ss : List StopTime) (s : StopTime) where
  other-trip : (k : ℕ) → k < s.trip → of_trip k (ss ++ s ∷ []) ≡ of_trip k ss
  other-trip k below =
      let apart : (s.trip == k) ≡ false = grind (arith, nat_tests, below) in
      filter-append (λ r. r.trip == k) ss (s ∷ []) ∙ rw apart (append-nil (of_trip k ss))

  own-trip : of_trip s.trip (ss ++ s ∷ []) ≡ of_trip s.trip ss ++ s ∷ []
  own-trip = let same : (s.trip == s.trip) ≡ true = grind (arith, nat_tests) in
      filter-append (λ r. r.trip == s.trip) ss (s ∷ []) ∙ rw same refl

  trips-before : (m : ℕ) → m ≤ s.trip → by_trip m (ss ++ s ∷ []) ≡ by_trip m ss
  unfolding by_trip
  trips-before zero low = refl
  trips-before (suc m) low = λ i. trips-before m (omega arith) i ++ other-trip m (omega arith) i ∷ []

  by_trip-push : by_trip (s.trip + 1) (ss ++ s ∷ []) ≡ add_to_last (by_trip (s.trip + 1) ss) s
  unfolding by_trip
  by_trip-push =
      let next : s.trip + 1 ≡ suc s.trip = omega arith in
      ap (λ k. by_trip k (ss ++ s ∷ [])) next
      ∙ (λ i. trips-before s.trip (omega arith) i ++ own-trip i ∷ [])
      ∙ sym (to-last (by_trip s.trip ss) (of_trip s.trip ss) s)
      ∙ ap (λ k. add_to_last (by_trip k ss) s) (sym next)

-- ---- stretches

module _ (ss : List StopTime) (starts : List ℕ) (m : ℕ) (up : Rising 0 starts (length ss)) (below : All (λ s. s.trip < length starts) ss)
    (are : parts starts ss ≡ by_trip (length starts) ss) where
  -- the trips up to one have none
  pub stretches-filled : parts (starts ++ replicate m (length ss)) ss ≡ by_trip (length starts + m) ss
  stretches-filled = parts-filled m starts ss up ∙ ap (λ ps. ps ++ replicate m []) are ∙ sym (by_trip-filled ss (length starts) below m)

  -- and that trip has one more
  pub stretches-more : (s : StopTime) → length starts + m ≡ s.trip + 1 → parts (starts ++ replicate m (length ss)) (ss ++ s ∷ []) ≡ by_trip (s.trip + 1) (ss ++ s ∷ [])
  stretches-more s last =
      parts-more 0 (starts ++ replicate m (length ss)) ss s (rising-filled m starts (length ss) up)
      ∙ ap (λ ps. add_to_last ps s) (stretches-filled ∙ ap (λ k. by_trip k ss) last) ∙ sym (by_trip-push ss s)

-- ---- by index

pub length-by_trip : (n : ℕ) (ss : List StopTime) → length (by_trip n ss) ≡ n
unfolding by_trip
length-by_trip zero ss = refl
length-by_trip (suc n) ss = let rest = length-by_trip n ss in omega (arith, rest, length_push (by_trip n ss) (of_trip n ss))

pub by_trip-at : (n k : ℕ) (ss : List StopTime) → k < n → get_or (by_trip n ss) k [] ≡ of_trip k ss
unfolding by_trip
by_trip-at zero k ss h = absurd (omega arith)
by_trip-at (suc n) k ss h = elim (cases_lt k n) [
  | inl below ↦ get_or_append_left (by_trip n ss) (of_trip n ss ∷ []) [] k (let many = length-by_trip n ss in omega (arith, many)) ∙ by_trip-at n k ss below
  | inr above ↦
      let same : n ≡ k = omega arith in
      get_or_push (by_trip n ss) (of_trip n ss) [] k (length-by_trip n ss ∙ same) ∙ ap (λ j. of_trip j ss) same
]
