-- A list that is cut at starts, and each stretch of it changed to one of the same length: it is cut at the same starts.
use Rattle.std.proofs.Common.{◌≡◌, ◌∙◌, ◌+◌, ◌-◌, ◌≤◌, ◌++◌, ◌∷◌, [], ℕ, List, map, length, take, drop, get_or, refl, sym, ap, arith, append_assoc, length-append}
use Rattle.std.specs.List.{flat_map}
use Rattle.std.proofs.Math.Seq.{drop-append_seam}
use Rattle.std.proofs.lemmas.List.{take-append-le, take_all, length-take, length-drop}
use Rattle.csv.specs.Records.{Rising}
use Rattle.csv.proofs.RecordFacts.{rising-first}
use Rattle.gtfs_table.specs.FieldOffsets.{parts}

-- the next start, or the end
next-in : (e : ℕ) (starts : List ℕ) (size : ℕ) → Rising e starts size → (e ≤ get_or starts 0 size) × (get_or starts 0 size ≤ size)
unfolding Rising
next-in e [] size up = (up, omega arith)
next-in e (f ∷ starts) size up = (up.0, rising-first f starts size up.1)

module _ {X : Type 0} (g : List X → List X) (same : (xs : List X) → length (g xs) ≡ length xs) where
  abbrev pub changed : List ℕ → List X → List X
  changed starts xs = flat_map g (parts starts xs)

  first-length : (e next : ℕ) (xs : List X) → e ≤ next → next ≤ length xs → length (take (next - e) (drop e xs)) ≡ next - e
  first-length e next xs low high = omega (arith, length-take (next - e) (drop e xs), length-drop e xs)

  pub changed-length : (s : ℕ) (starts : List ℕ) (xs : List X) → Rising s starts (length xs) → length (changed starts xs) + get_or starts 0 (length xs) ≡ length xs
  unfolding parts Rising
  changed-length s [] xs up = omega arith
  changed-length s (e ∷ starts) xs up =
      let next = get_or starts 0 (length xs) in
      let in_it = next-in e starts (length xs) up.1 in
      let first = take (next - e) (drop e xs) in
      omega (arith, changed-length e starts xs up.1, in_it.0, in_it.1, first-length e next xs in_it.0 in_it.1, same first, length-append (g first) (changed starts xs))

  pub parts-changed : (s : ℕ) (starts : List ℕ) (xs before : List X) → Rising s starts (length xs) → length before ≡ get_or starts 0 (length xs)
      → parts starts (before ++ changed starts xs) ≡ map g (parts starts xs)
  unfolding parts Rising
  parts-changed s [] xs before up here = refl
  parts-changed s (e ∷ starts) xs before up here =
      let next = get_or starts 0 (length xs) in
      let in_it = next-in e starts (length xs) up.1 in
      let first = take (next - e) (drop e xs) in
      let rest = changed starts xs in
      let size = first-length e next xs in_it.0 in_it.1 in
      let total : length (before ++ (g first ++ rest)) ≡ length xs =
      omega (arith, changed-length e starts xs up.1, in_it.0, in_it.1, size, same first, here, length-append before (g first ++ rest), length-append (g first) rest) in
      let begins : drop e (before ++ (g first ++ rest)) ≡ g first ++ rest = ap (λ n. drop n (before ++ (g first ++ rest))) (sym here) ∙ drop-append_seam before (g first ++ rest) in
      let one : take (next - e) (g first ++ rest) ≡ g first =
      take-append-le (next - e) (g first) rest (omega (arith, size, same first)) ∙ take_all (next - e) (g first) (omega (arith, size, same first)) in
      let further : parts starts (before ++ (g first ++ rest)) ≡ map g (parts starts xs) =
      ap (parts starts) (sym (append_assoc before (g first) rest))
      ∙ parts-changed e starts xs (before ++ g first) up.1 (omega (arith, length-append before (g first), here, size, same first, in_it.0)) in
      λ i. head-is next total begins one i ∷ further i
    where
      head-is : (next : ℕ) → length (before ++ (g (take (get_or starts 0 (length xs) - e) (drop e xs)) ++ changed starts xs)) ≡ length xs
          → drop e (before ++ (g (take (get_or starts 0 (length xs) - e) (drop e xs)) ++ changed starts xs)) ≡ g (take (get_or starts 0 (length xs) - e) (drop e xs)) ++ changed starts xs
          → take (get_or starts 0 (length xs) - e) (g (take (get_or starts 0 (length xs) - e) (drop e xs)) ++ changed starts xs) ≡ g (take (get_or starts 0 (length xs) - e) (drop e xs))
          → take (get_or starts 0 (length (before ++ (g (take (get_or starts 0 (length xs) - e) (drop e xs)) ++ changed starts xs))) - e)
          (drop e (before ++ (g (take (get_or starts 0 (length xs) - e) (drop e xs)) ++ changed starts xs))) ≡ g (take (get_or starts 0 (length xs) - e) (drop e xs))
      head-is next total begins one = (λ i. take (get_or starts 0 (total i) - e) (begins i)) ∙ one
