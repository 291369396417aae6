-- The windows of a slice are the stretches of its list.
use Rattle.std.proofs.Common.{◌≡◌, ◌<◌, ◌≤◌, ◌+◌, ◌∙◌, ℕ, suc, zero, Bool, true, false, cond, List, [], ◌∷◌, length, map, take, drop, filter, min, refl, sym, ap, subst, add-one, arith}
use Rattle.std.specs.Prelude.{◌==◌, nat_le}
use Rattle.std.specs.List.{range_with_len}
use Rattle.std.specs.Slice.Iter.{windows_rest, windows_size, windows_steps}
use Rattle.std.specs.declared.slice.Windows.{Windows}
use Rattle.std.proofs.lemmas.Bool.{lt-leb, le-leb}
use Rattle.std.proofs.lemmas.Bool.Decides.{nat_tests}
use Rattle.std.proofs.lemmas.List.{length-map, length-take, take-map}
use Rattle.std.proofs.lemmas.Iterator.{YieldsList}
use Rattle.std.proofs.lemmas.Iterator.Splits.{YieldsList-from_shown_while}
use Rattle.gtfs_rows.specs.Rows.{StopRow}
use Rattle.gtfs_advice.specs.StopTimes.{stretches}

abbrev pub windows : {X : Type 0} → ℕ → List X → List (List X)
windows n [] = []
windows n (x ∷ xs) = cond (nat_le n (suc (length xs))) (take n (x ∷ xs) ∷ windows n xs) (windows n xs)

windows-short : {X : Type 0} (n : ℕ) (xs : List X) → length xs < n → windows n xs ≡ []
windows-short n [] short = refl
windows-short n (x ∷ xs) short = rw (lt-leb n (suc (length xs)) short) (windows-short n xs (omega (arith, short)))

pub windows-next : {X : Type 0} (n : ℕ) (xs : List X) → 0 < n → n ≤ length xs → windows n xs ≡ take n xs ∷ windows n (drop 1 xs)
windows-next n [] some long = absurd (omega (arith, some, long))
windows-next n (x ∷ xs) some long = rw (le-leb n (suc (length xs)) long) refl

-- what a slice's windows give
pub YieldsList-from_windows : {X : Type 0} (s : Windows X) (n : ℕ) (xs : List X) → 0 < n → windows_size s ≡ n → windows_rest s ≡ xs
    → YieldsList (windows_steps {A = X}) (λ w. w.now) s (windows n xs)
YieldsList-from_windows {X = X} s n xs some size rest =
    subst (λ ws. YieldsList (windows_steps {A = X}) (λ w. w.now) s ws) (λ i. windows (size i) (rest i))
    (YieldsList-from_shown_while (windows_steps {A = X}) (λ w. w.now) (λ t. windows (windows_size t) (windows_rest t)) (λ t. 0 < windows_size t)
    (λ a b above step. ap length (windows-short (windows_size a) (windows_rest a) step.1.0))
    (λ a w b above step. (
      subst (λ k. 0 < k) (sym step.0) above,
      windows-next (windows_size a) (windows_rest a) above step.1.0 ∙ (λ i. sym step.1.1 i ∷ windows (sym step.0 i) (sym step.1.2 i)),
    ))
    s (subst (λ k. 0 < k) (sym size) some))

map-shifted : {Y : Type 0} (f : ℕ → Y) (a m : ℕ) → map f (range_with_len (a + 1) m) ≡ map (λ k. f (suc k)) (range_with_len a m)
map-shifted f a zero = refl
map-shifted f a (suc m) = λ i. f (add-one a i) ∷ map-shifted f (a + 1) m i

pub stretches-windows : (n : ℕ) (xs : List StopRow) → stretches n xs ≡ windows n xs
stretches-windows n [] = refl
stretches-windows n (x ∷ xs) =
    let test : (length (take n (x ∷ xs)) == n) ≡ nat_le n (suc (length xs)) = tests (length (take n (x ∷ xs))) (length-take n (x ∷ xs)) in
    let later = ap (filter (λ (s : List StopRow). length s == n)) (map-shifted (λ k. take n (drop k (x ∷ xs))) 0 (length xs)) ∙ stretches-windows n xs in
    λ i. cond (test i) (take n (x ∷ xs) ∷ later i) (later i)
  where
    tests : (m : ℕ) → m ≡ min n (suc (length xs)) → (m == n) ≡ nat_le n (suc (length xs))
    tests m is = grind (arith, nat_tests)

-- the windows of what other rows stand for
pub windows-map : {X Y : Type 0} (f : X → Y) (n : ℕ) (xs : List X) → windows n (map f xs) ≡ map (map f) (windows n xs)
windows-map f n [] = refl
windows-map {X = X} {Y = Y} f n (x ∷ xs) =
    (λ i. cond (nat_le n (suc (length-map xs f i))) (take-map f n (x ∷ xs) i ∷ windows-map f n xs i) (windows-map f n xs i))
    ∙ chosen (nat_le n (suc (length xs)))
  where
    chosen : (b : Bool) → cond b (map f (take n (x ∷ xs)) ∷ map (map f) (windows n xs)) (map (map f) (windows n xs))
        ≡ map (map f) (cond b (take n (x ∷ xs) ∷ windows n xs) (windows n xs))
    chosen true = refl
    chosen false = refl
