-- A list cut at rising offsets.
use Rattle.std.proofs.Common.{◌≡◌, ◌<◌, ◌≤◌, ◌+◌, ◌-◌, ◌∷◌, ◌++◌, ◌∙◌, [], ℕ, zero, suc, Bool, true, List, length, take, drop, get_or, Some, refl, sym, ap, subst, arith, length-append}
use Rattle.std.proofs.Math.Seq.{drop-append_seam, take-length}
use Rattle.std.proofs.lemmas.List.{take-append-le, drop-append-le, length-drop, length_push, take_all}
use Rattle.std.proofs.lemmas.List.Elements.{All-nil, All-cons, All-head, All-tail}
use Rattle.std.proofs.lemmas.Option.{get_or_from_slice_get, slice_get_within}
use Rattle.std.specs.List.{All, list_all, slice_get}
use Rattle.csv.specs.Records.{Rising}
use Rattle.csv.proofs.RecordFacts.{rising-first}
use Rattle.gtfs_field.proofs.ListFacts.{all_dropped, all_taken}
use Rattle.gtfs_table.specs.FieldOffsets.{parts, add_to_last}

pub length-parts : {X : Type 0} (starts : List ℕ) (xs : List X) → length (parts starts xs) ≡ length starts
unfolding parts
length-parts [] xs = refl
length-parts (s ∷ starts) xs = rw (length-parts starts xs) refl

-- the part with this number
pub part-at : {X : Type 0} (starts : List ℕ) (xs : List X) (i : ℕ) → i < length starts
    → get_or (parts starts xs) i [] ≡ take (get_or starts (i + 1) (length xs) - get_or starts i 0) (drop (get_or starts i 0) xs)
unfolding parts
part-at [] xs i h = absurd (omega arith)
part-at (s ∷ starts) xs zero h = refl
part-at (s ∷ starts) xs (suc i) h = let e : suc i + 1 ≡ suc (i + 1) = omega arith in rw e (part-at starts xs i (omega arith))

-- what holds of all holds of those of a part
pub all_in_part : {X : Type 0} (q : X → Bool) (starts : List ℕ) (xs : List X) (i : ℕ) (part : List X) → list_all q xs ≡ true → slice_get (parts starts xs) i ≡ Some part
    → list_all q part ≡ true
all_in_part q starts xs i part all at =
    let within : i < length starts = omega (arith, slice_get_within (parts starts xs) i part at, length-parts starts xs) in
    let is = sym (part-at starts xs i within) ∙ get_or_from_slice_get (parts starts xs) i part [] at in
    subst (λ ys. list_all q ys ≡ true) is (all_taken q _ (drop (get_or starts i 0) xs) (all_dropped q (get_or starts i 0) xs all))

-- where a part begins and ends
pub part-bounds : (s : ℕ) (starts : List ℕ) (size i : ℕ) → Rising s starts size → i < length starts
    → (get_or starts i 0 ≤ get_or starts (i + 1) size) × (get_or starts (i + 1) size ≤ size)
unfolding Rising
part-bounds s [] size i r h = absurd (omega arith)
part-bounds s (e ∷ []) size zero r h = (r.1, omega arith)
part-bounds s (e ∷ f ∷ starts) size zero r h = (r.1.0, rising-first f starts size r.1.1)
part-bounds s (e ∷ []) size (suc i) r h = absurd (omega arith)
part-bounds s (e ∷ f ∷ starts) size (suc i) r h = let m : suc i + 1 ≡ suc (i + 1) = omega arith in rw m (part-bounds e (f ∷ starts) size i r.1 (omega arith))

-- one more part, at the end
pub parts-push : {X : Type 0} (s : ℕ) (starts : List ℕ) (xs ys : List X) → Rising s starts (length xs)
    → parts (starts ++ length xs ∷ []) (xs ++ ys) ≡ parts starts xs ++ ys ∷ []
unfolding parts Rising
parts-push {X = X} s [] xs ys r =
    let more : length (xs ++ ys) - length xs ≡ length ys = omega (arith, length-append xs ys) in
    rw (drop-append_seam xs ys, more, take-length ys) refl
parts-push {X = X} s (e ∷ []) xs ys r =
    let all : take (length xs - e) (drop e xs ++ ys) ≡ take (length xs - e) (drop e xs) =
    take-append-le (length xs - e) (drop e xs) ys (omega (arith, length-drop e xs)) in
    let here = drop-append-le e xs ys r.1 in
    let rest = parts-push e [] xs ys r.1 in
    rw (here, all) (ap (λ (p : List (List X)). take (length xs - e) (drop e xs) ∷ p) rest)
parts-push {X = X} s (e ∷ f ∷ starts) xs ys r =
    let up = rising-first f starts (length xs) r.1.1 in
    let low : e ≤ length xs = omega (arith, r.1.0) in
    let all : take (f - e) (drop e xs ++ ys) ≡ take (f - e) (drop e xs) = take-append-le (f - e) (drop e xs) ys (omega (arith, length-drop e xs)) in
    let here = drop-append-le e xs ys low in
    rw (here, all) (ap (λ (p : List (List X)). take (f - e) (drop e xs) ∷ p) (parts-push e (f ∷ starts) xs ys r.1))

-- one more item of the last part
pub parts-more : {X : Type 0} (s : ℕ) (starts : List ℕ) (xs : List X) (x : X) → Rising s starts (length xs)
    → parts starts (xs ++ x ∷ []) ≡ add_to_last (parts starts xs) x
unfolding parts Rising add_to_last
parts-more {X = X} s [] xs x r = refl
parts-more {X = X} s (e ∷ []) xs x r =
    let here = drop-append-le e xs (x ∷ []) r.1 in
    let old : take (length xs - e) (drop e xs) ≡ drop e xs = take_all (length xs - e) (drop e xs) (omega (arith, length-drop e xs)) in
    let new : take (length (xs ++ x ∷ []) - e) (drop e xs ++ x ∷ []) ≡ drop e xs ++ x ∷ [] =
    take_all (length (xs ++ x ∷ []) - e) (drop e xs ++ x ∷ []) (omega (arith, length-append (drop e xs) (x ∷ []), length-append xs (x ∷ []), length-drop e xs)) in
    rw (here, old, new) refl
parts-more {X = X} s (e ∷ f ∷ starts) xs x r =
    let up = rising-first f starts (length xs) r.1.1 in
    let low : e ≤ length xs = omega (arith, r.1.0) in
    let all : take (f - e) (drop e xs ++ x ∷ []) ≡ take (f - e) (drop e xs) = take-append-le (f - e) (drop e xs) (x ∷ []) (omega (arith, length-drop e xs)) in
    let here = drop-append-le e xs (x ∷ []) low in
    rw (here, all) (ap (λ (p : List (List X)). take (f - e) (drop e xs) ∷ p) (parts-more e (f ∷ starts) xs x r.1))

-- no part is without an item, also after one more
pub filled-more : {X : Type 0} (rs : List (List X)) (x : X) → All (λ (r : List X). 0 < length r) rs → All (λ (r : List X). 0 < length r) (add_to_last rs x)
unfolding add_to_last
filled-more {X = X} [] x h = h
filled-more {X = X} (r ∷ []) x h = All-cons (λ (r : List X). 0 < length r) (r ++ x ∷ []) [] (omega (arith, length_push r x)) (All-nil (λ (r : List X). 0 < length r))
filled-more {X = X} (r ∷ q ∷ rest) x h =
    All-cons (λ (r : List X). 0 < length r) r (add_to_last (q ∷ rest) x) (All-head (λ (r : List X). 0 < length r) r (q ∷ rest) h)
    (filled-more (q ∷ rest) x (All-tail (λ (r : List X). 0 < length r) r (q ∷ rest) h))

-- how many parts a list has that is seen as its parts
pub count-parts : {X : Type 0} (starts : List ℕ) (xs : List X) (rs : List (List X)) → parts starts xs ≡ rs → length rs ≡ length starts
count-parts starts xs rs e = rw (← e) (length-parts starts xs)

-- where a part of such a list begins and ends
pub bounds-of : {X : Type 0} (starts : List ℕ) (xs : List X) (rs : List (List X)) (i : ℕ) → parts starts xs ≡ rs → Rising 0 starts (length xs) → i < length rs
    → (i < length starts) × (get_or starts i 0 ≤ get_or starts (i + 1) (length xs)) × (get_or starts (i + 1) (length xs) ≤ length xs)
bounds-of starts xs rs i e r h =
    let lt : i < length starts = omega (arith, count-parts starts xs rs e) in
    let b = part-bounds 0 starts (length xs) i r lt in
    (lt, b.0, b.1)

-- the bytes of a part
pub part-of : {X : Type 0} (starts : List ℕ) (xs : List X) (rs : List (List X)) (i : ℕ) → parts starts xs ≡ rs → i < length rs
    → take (get_or starts (i + 1) (length xs) - get_or starts i 0) (drop (get_or starts i 0) xs) ≡ get_or rs i []
part-of starts xs rs i e h =
    let lt : i < length starts = omega (arith, count-parts starts xs rs e) in
    sym (part-at starts xs i lt) ∙ ap (λ (p : List (List _)). get_or p i []) e
