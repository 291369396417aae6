-- Lists that stand one after the other, and where each of them begins.
use Rattle.std.proofs.Common.{◌≡◌, ◌≤◌, ◌+◌, ◌-◌, ◌++◌, ◌∷◌, ◌∙◌, [], ℕ, suc, List, length, map, take, drop, get_or, refl, sym, ap, arith, append-nil, append_assoc, length-append}
use Rattle.std.specs.Prelude.{flat_map}
use Rattle.std.proofs.Math.Seq.{drop-append_seam, drop-length, take-append_seam}
use Rattle.std.proofs.lemmas.List.{drop-drop, drop-map, length-drop, length-map, length-take-le, take-append-drop, take-map, take_all}
use Rattle.csv.specs.Records.{Rising}
use Rattle.csv.proofs.RecordFacts.{rising-first}
use Rattle.gtfs_table.specs.FieldOffsets.{parts, starts_of}

pub length-starts : {X : Type 0} (s : ℕ) (ls : List (List X)) → length (starts_of s ls) ≡ length ls
unfolding starts_of
length-starts s [] = refl
length-starts s (l ∷ ls) = ap suc (length-starts (s + length l) ls)

-- ---- lists one after the other are the parts from where each begins

module _ {X : Type 0} where
  pub end-first : (s : ℕ) (ls : List (List X)) (size : ℕ) → size ≡ s + length (flat_map (λ l. l) ls) → get_or (starts_of s ls) 0 size ≡ s
  unfolding starts_of
  end-first s [] size all = omega (arith, all)
  end-first s (l ∷ ls) size all = refl

  pub rising-starts : (low s : ℕ) (ls : List (List X)) (size : ℕ) → low ≤ s → size ≡ s + length (flat_map (λ l. l) ls) → Rising low (starts_of s ls) size
  unfolding starts_of Rising
  rising-starts low s [] size up all = omega (arith, up, all)
  rising-starts low s (l ∷ ls) size up all =
      (up, rising-starts s (s + length l) ls size (omega arith) (omega (arith, all, length-append l (flat_map (λ x. x) ls))))

  joined-from : (before : List X) (ls : List (List X)) → parts (starts_of (length before) ls) (before ++ flat_map (λ l. l) ls) ≡ ls
  unfolding parts starts_of
  joined-from before [] = refl
  joined-from before (l ∷ ls) =
      let later = flat_map (λ x. x) ls in
      let xs = before ++ (l ++ later) in
      let size : length xs ≡ length before + length l + length later = omega (arith, length-append before (l ++ later), length-append l later) in
      let next : length before + length l ≡ length (before ++ l) = sym (length-append before l) in
      let len : length before + length l - length before ≡ length l = omega arith in
      let here : take (get_or (starts_of (length before + length l) ls) 0 (length xs) - length before) (drop (length before) xs) ≡ l =
      ap (λ e. take (e - length before) (drop (length before) xs)) (end-first (length before + length l) ls (length xs) size)
      ∙ ap (λ n. take n (drop (length before) xs)) len
      ∙ ap (take (length l)) (drop-append_seam before (l ++ later))
      ∙ take-append_seam l later in
      let rest : parts (starts_of (length before + length l) ls) xs ≡ ls =
      ap (λ n. parts (starts_of n ls) xs) next
      ∙ ap (parts (starts_of (length (before ++ l)) ls)) (sym (append_assoc before l later))
      ∙ joined-from (before ++ l) ls in
      ap (λ p. p ∷ parts (starts_of (length before + length l) ls) xs) here ∙ ap (λ ps. l ∷ ps) rest

  pub parts-in_turn : (ls : List (List X)) → parts (starts_of 0 ls) (flat_map (λ l. l) ls) ≡ ls
  parts-in_turn ls = joined-from [] ls

-- ---- the parts of a list are lists one after the other

pub parts-joined : {X : Type 0} (low : ℕ) (starts : List ℕ) (xs : List X) → Rising low starts (length xs)
    → flat_map (λ p. p) (parts starts xs) ≡ drop (get_or starts 0 (length xs)) xs
unfolding parts Rising
parts-joined low [] xs up = sym (drop-length xs)
parts-joined low (s ∷ []) xs up =
    append-nil (take (length xs - s) (drop s xs)) ∙ take_all (length xs - s) (drop s xs) (omega (arith, length-drop s xs))
parts-joined low (s ∷ e ∷ starts) xs up =
    let part = take (e - s) (drop s xs) in
    let end : s + (e - s) ≡ e = omega (arith, up.1.0) in
    ap (λ later. part ++ later) (parts-joined s (e ∷ starts) xs up.1 ∙ ap (λ n. drop n xs) (sym end) ∙ sym (drop-drop (e - s) s xs))
    ∙ take-append-drop (e - s) (drop s xs)

-- they begin where they were cut
pub starts-parts : {X : Type 0} (low s : ℕ) (starts : List ℕ) (xs : List X) → Rising low starts (length xs) → get_or starts 0 (length xs) ≡ s
    → starts_of s (parts starts xs) ≡ starts
unfolding parts starts_of Rising
starts-parts low s [] xs up first = refl
starts-parts low s (a ∷ []) xs up first = ap (λ n. n ∷ []) (sym first)
starts-parts low s (a ∷ e ∷ starts) xs up first =
    let within : e - a ≤ length (drop a xs) = omega (arith, length-drop a xs, rising-first e starts (length xs) up.1.1) in
    let next : e ≡ s + length (take (e - a) (drop a xs)) = omega (arith, length-take-le (e - a) (drop a xs) within, first, up.1.0) in
    ap (λ n. n ∷ starts_of (s + length (take (e - a) (drop a xs))) (parts (e ∷ starts) xs)) (sym first)
    ∙ ap (λ ns. a ∷ ns) (starts-parts a (s + length (take (e - a) (drop a xs))) (e ∷ starts) xs up.1 next)

pub parts-map : {X Y : Type 0} (f : X → Y) (starts : List ℕ) (xs : List X) → parts starts (map f xs) ≡ map (map f) (parts starts xs)
unfolding parts
parts-map f [] xs = refl
parts-map f (s ∷ rest) xs =
    ap (λ n. take (get_or rest 0 n - s) (drop s (map f xs)) ∷ parts rest (map f xs)) (length-map xs f)
    ∙ ap (λ ys. take (get_or rest 0 (length xs) - s) ys ∷ parts rest (map f xs)) (drop-map f s xs)
    ∙ ap (λ ys. ys ∷ parts rest (map f xs)) (take-map f (get_or rest 0 (length xs) - s) (drop s xs))
    ∙ ap (λ ps. map f (take (get_or rest 0 (length xs) - s) (drop s xs)) ∷ ps) (parts-map f rest xs)
