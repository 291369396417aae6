-- Lists that stand one after another in one list.
use Rattle.std.proofs.Common.{◌≡◌, ◌+◌, ◌<◌, ◌∙◌, ◌++◌, ◌∷◌, [], ℕ, zero, suc, List, length, map, take, get_or, sym, ap, subst, refl, arith, length-append, add-one, append-nil}
use Rattle.std.specs.List.{All, flat_map}
use Rattle.std.proofs.Math.Seq.{take-suc}
use Rattle.std.proofs.lemmas.List.Concat.{flat_map-append}
use Rattle.std.proofs.lemmas.List.{map-append, length-map, get_or-map}
use Rattle.csv.specs.Records.{Rising}
use Rattle.csv.proofs.RecordFacts.{rising-end, rising-more}
use Rattle.gtfs_table.specs.FieldOffsets.{parts}
use Rattle.gtfs_table.proofs.PartFacts.{length-parts, parts-push}
use Rattle.gtfs_rows.proofs.Cuts.{first_push as first-stays}
use Rattle.gtfs_merge.specs.TripRows.{StandInTurn}

-- none yet
pub none-in_turn : {X : Type 0} → StandInTurn {X = X} [] [] []
unfolding parts Rising
none-in_turn = record { whole = refl; stretches = refl; rising = omega arith; from_first = refl }

pub start-in_turn : {X : Type 0} (starts : List ℕ) (rows : List X) → starts ≡ [] → rows ≡ [] → StandInTurn [] starts rows
start-in_turn {X = X} starts rows no_starts no_rows =
    subst (λ (ks : List ℕ). StandInTurn {X = X} [] ks rows) (sym no_starts) (subst (λ (rs : List X). StandInTurn {X = X} [] [] rs) (sym no_rows) none-in_turn)

-- one more list
pub more-in_turn : {X : Type 0} (lists : List (List X)) (starts : List ℕ) (rows next : List X) → StandInTurn lists starts rows → StandInTurn (lists ++ next ∷ []) (starts ++ length rows ∷ []) (rows ++ next)
more-in_turn lists starts rows next so_far = record {
  whole = ap (λ rs. rs ++ next) so_far.whole ∙ sym (flat_map-append (λ xs. xs) lists (next ∷ []) ∙ ap (λ z. flat_map (λ xs. xs) lists ++ z) (append-nil next));
  stretches = parts-push 0 starts rows next so_far.rising ∙ ap (λ ls. ls ++ next ∷ []) so_far.stretches;
  rising = rising-more 0 (starts ++ length rows ∷ []) (length rows) (length (rows ++ next)) (rising-end 0 starts (length rows) so_far.rising) (omega (arith, length-append rows next));
  from_first = first-stays starts (length rows) (length (rows ++ next)) so_far.from_first;
}

-- the list of one more element, in a loop over a mapped list
pub turn-in_turn : {A B X : Type 0} (f : B → List X) (v : A → B) (items : List A) (n : ℕ) (d : A) (starts starts_after : List ℕ) (rows rows_after : List X) → n < length items
    → StandInTurn (map f (take n (map v items))) starts rows → starts_after ≡ starts ++ length rows ∷ [] → rows_after ≡ rows ++ f (v (get_or items n d)) → StandInTurn (map f (take (n + 1) (map v items))) starts_after rows_after
turn-in_turn {X = X} f v items n d starts starts_after rows rows_after within so_far started added =
    let inside : n < length (map v items) = omega (arith, length-map items v) in
    let one : take (n + 1) (map v items) ≡ take n (map v items) ++ v (get_or items n d) ∷ [] = ap (λ m. take m (map v items)) (add-one n) ∙ take-suc (map v items) n (v d) inside ∙ ap (λ e. take n (map v items) ++ e ∷ []) (get_or-map v items n d (v d) within) in
    let lists : map f (take (n + 1) (map v items)) ≡ map f (take n (map v items)) ++ f (v (get_or items n d)) ∷ [] = ap (map f) one ∙ map-append f (take n (map v items)) (v (get_or items n d) ∷ []) in
    subst (λ (ls : List (List X)). StandInTurn ls starts_after rows_after) (sym lists)
    (subst (λ (ks : List ℕ). StandInTurn (map f (take n (map v items)) ++ f (v (get_or items n d)) ∷ []) ks rows_after) (sym started)
    (subst (λ (rs : List X). StandInTurn (map f (take n (map v items)) ++ f (v (get_or items n d)) ∷ []) (starts ++ length rows ∷ []) rs) (sym added)
    (more-in_turn (map f (take n (map v items))) starts rows (f (v (get_or items n d))) so_far)))

-- as many starts as lists
pub starts-in_turn : {X : Type 0} (lists : List (List X)) (starts : List ℕ) (rows : List X) → StandInTurn lists starts rows → length starts ≡ length lists
starts-in_turn lists starts rows stand = sym (length-parts starts rows) ∙ ap length stand.stretches

-- what holds of all of a mapped list holds of the one at an index
pub all-mapped : {A B : Type 0} (v : A → B) (P : B → Type 0) (items : List A) (n : ℕ) (a : A) → All P (map v items) → n < length items → a ≡ get_or items n a → P (v a)
all-mapped v P items n a all within is =
    subst P (get_or-map v items n a (v a) within ∙ ap v (sym is)) (all n (v a) (omega (arith, length-map items v)))

-- an element does not depend on what stands for none
pub same-index : {X : Type 0} (xs : List X) (n : ℕ) (d e : X) → n < length xs → get_or xs n d ≡ get_or xs n e
same-index [] n d e within = absurd (omega arith)
same-index (x ∷ xs) zero d e within = refl
same-index (x ∷ xs) (suc n) d e within = same-index xs n d e (omega arith)
