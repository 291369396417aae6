-- Runs of bytes in one buffer: one more, and only the first ones. The latter also of other parts of a list.
use Rattle.std.proofs.Common.{◌≡◌, ◌<◌, ◌≤◌, ◌+◌, ◌-◌, ◌∷◌, ◌++◌, ◌∙◌, [], ℕ, zero, suc, List, length, take, drop, get_or, refl, sym, ap, arith, length-append}
use Rattle.std.proofs.lemmas.List.{drop-take, length-take-le, take-take, take_all}
use Rattle.csv.specs.Records.{Rising}
use Rattle.csv.proofs.RecordFacts.{field-bounds, rising-first, rising-prefix}
use Rattle.gtfs_table.specs.FieldOffsets.{parts}
use Rattle.gtfs_table.proofs.PartFacts.{count-parts, parts-push}
use Rattle.gtfs_table.proofs.StoreFacts.{rising-push}

-- a part that lies before a cut
before-cut : {X : Type 0} (n s f : ℕ) (xs : List X) → s + n ≤ f → take n (drop s (take f xs)) ≡ take n (drop s xs)
before-cut n s f xs h =
    let size : s + (f - s) ≡ f = omega (arith, h) in
    let cut : drop s (take f xs) ≡ take (f - s) (drop s xs) = rw size at (drop-take s (f - s) xs) in
    rw cut (take-take n (f - s) (drop s xs) (omega (arith, h)))

rising-low : (s : ℕ) (starts : List ℕ) (size k : ℕ) → Rising s starts size → k < length starts → s ≤ get_or starts k 0
unfolding Rising
rising-low s [] size k r lt = absurd (omega (arith, lt))
rising-low s (e ∷ starts) size zero r lt = r.0
rising-low s (e ∷ starts) size (suc k) r lt =
    let up = rising-low e starts size k r.1 (omega (arith, lt)) in
    omega (arith, r.0, up)

-- the first parts, cut at the start of the next one
pub parts-first : {X : Type 0} (s : ℕ) (starts : List ℕ) (xs : List X) (k : ℕ) → Rising s starts (length xs) → k < length starts
    → parts (take k starts) (take (get_or starts k 0) xs) ≡ take k (parts starts xs)
unfolding parts Rising
parts-first s starts xs zero r lt = refl
parts-first s [] xs (suc k) r lt = absurd (omega (arith, lt))
parts-first s (e ∷ []) xs (suc k) r lt = absurd (omega (arith, lt))
parts-first {X = X} s (e ∷ f ∷ rest) xs (suc zero) r lt =
    let up = rising-first f rest (length xs) r.1.1 in
    let size : length (take f xs) ≡ f = length-take-le f xs up in
    let here = before-cut (f - e) e f xs (omega (arith, r.1.0)) in
    rw (size, here) refl
parts-first {X = X} s (e ∷ f ∷ rest) xs (suc (suc k)) r lt =
    let start = rising-low f rest (length xs) k r.1.1 (omega (arith, lt)) in
    let here = before-cut (f - e) e (get_or rest k 0) xs (omega (arith, r.1.0, start)) in
    rw here (ap (λ (p : List (List X)). take (f - e) (drop e xs) ∷ p) (parts-first e (f ∷ rest) xs (suc k) r.1 (omega (arith, lt))))

-- runs that are seen as this list
pub record AreRuns {X : Type 0} (starts : List ℕ) (items : List X) (runs : List (List X)) : Type 0 where
  pub rising : Rising 0 starts (length items)
  pub value : parts starts items ≡ runs

pub run-push : (starts bytes new_starts new_bytes run : List ℕ) (runs : List (List ℕ)) → parts starts bytes ≡ runs → Rising 0 starts (length bytes)
    → new_starts ≡ starts ++ length bytes ∷ [] → new_bytes ≡ bytes ++ run → AreRuns new_starts new_bytes (runs ++ run ∷ [])
run-push starts bytes new_starts new_bytes run runs e r s b =
    rw (s, b) (record {
      rising = rising-push starts (length bytes) (length (bytes ++ run)) r (omega (arith, length-append bytes run));
      value = parts-push 0 starts bytes run r ∙ rw e refl;
    })

-- the first ones stay
pub runs-first : {X : Type 0} (starts new_starts : List ℕ) (items new_items : List X) (runs : List (List X)) (k start : ℕ) → parts starts items ≡ runs → Rising 0 starts (length items) → k < length starts
    → start ≡ get_or starts k 0 → new_starts ≡ take k starts → new_items ≡ take start items → AreRuns new_starts new_items (take k runs)
runs-first {X = X} starts new_starts items new_items runs k start e r lt at s b =
    let bounds = field-bounds 0 starts (length items) k r lt in
    let size : length (take (get_or starts k 0) items) ≡ get_or starts k 0 = length-take-le (get_or starts k 0) items bounds.1 in
    rw (s, b, at) (record {
      rising = rw size (rising-prefix 0 starts (length items) k (get_or starts k 0) r bounds.0 (omega (arith, lt)));
      value = parts-first 0 starts items k r lt ∙ ap (λ (t : List (List X)). take k t) e;
    })

-- all of them do
pub runs-all : {X : Type 0} (starts : List ℕ) (items : List X) (runs : List (List X)) (k : ℕ) → parts starts items ≡ runs → length starts ≤ k → runs ≡ take k runs
runs-all starts items runs k e le = sym (take_all k runs (omega (arith, le, count-parts starts items runs e)))

-- no byte lies before the first run, also where one more comes, or only the first ones stay
pub first-push : (starts bytes new_starts new_bytes run : List ℕ) → get_or starts 0 (length bytes) ≡ 0 → new_starts ≡ starts ++ length bytes ∷ [] → new_bytes ≡ bytes ++ run
    → get_or new_starts 0 (length new_bytes) ≡ 0
first-push [] bytes new_starts new_bytes run f s b = rw s f
first-push (e ∷ starts) bytes new_starts new_bytes run f s b = rw s f

pub first-take : (starts bytes new_starts new_bytes : List ℕ) (k start : ℕ) → get_or starts 0 (length bytes) ≡ 0 → k < length starts → start ≡ get_or starts k 0 → new_starts ≡ take k starts
    → new_bytes ≡ take start bytes → get_or new_starts 0 (length new_bytes) ≡ 0
first-take [] bytes new_starts new_bytes k start f lt at s b = absurd (omega (arith, lt))
first-take (e ∷ starts) bytes new_starts new_bytes zero start f lt at s b = let none : start ≡ 0 = at ∙ f in rw (s, b, none) refl
first-take (e ∷ starts) bytes new_starts new_bytes (suc k) start f lt at s b = rw s f
