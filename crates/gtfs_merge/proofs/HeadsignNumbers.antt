-- Headsigns that are numbered, each text once.
use Rattle.std.proofs.Common.{◌≡◌, ◌<◌, ◌+◌, ◌∙◌, ◌++◌, ◌∷◌, [], ℕ, zero, suc, List, Bool, true, false, Option, Some, None, length, map, take, get_or, refl, sym, ap, bytes_eq, subst, add-one}
use Rattle.std.specs.Prelude.{if◌then◌else◌, option_and_then, option_map}
use Rattle.std.specs.List.{slice_get}
use Rattle.std.proofs.Math.Seq.{take-suc}
use Rattle.std.proofs.lemmas.List.{map-append}
use Rattle.gtfs_rows.specs.Headsigns.{AreDistinct, KeepsHeadsigns}
use Rattle.gtfs_rows.proofs.HeadsignFacts.{kept-append as kept-longer}
use Rattle.gtfs_merge.specs.Headsigns.{AreHeadsigns, AreNumbersOf, numbers_on}
use Rattle.gtfs_merge.specs.MergedSides.{side_parts}
use Rattle.gtfs_merge.specs.declared.kind.Side.{Side}
use Rattle.gtfs_merge.specs.declared.kind.Side.TheVariants as side
use Rattle.gtfs_merge.specs.declared.sides.Sides.{Sides}

pub kept-insert : {S : Type 0} (bytes : S → List ℕ) (there : Bool) (keys after : List S) (key : S) (old : List (List ℕ)) → map bytes keys ≡ old → after ≡ (if there then keys else keys ++ key ∷ [])
    → KeepsHeadsigns old (map bytes after)
kept-insert bytes there keys after key old is inserted k t e = by there inserted
  where
    from : slice_get (map bytes keys) k ≡ Some t
    from = ap (λ ts. slice_get ts k) is ∙ e

    by : (b : Bool) → after ≡ (if b then keys else keys ++ key ∷ []) → slice_get (map bytes after) k ≡ Some t
    by true i = ap (λ ks. slice_get (map bytes ks) k) i ∙ from
    by false i = ap (λ ks. slice_get (map bytes ks) k) i ∙ ap (λ ts. slice_get ts k) (map-append bytes keys (key ∷ [])) ∙ kept-longer (map bytes keys) (bytes key ∷ []) k t from

pub number-told : {S : Type 0} (bytes : S → List ℕ) (keys : List S) (k : ℕ) (found key : S) (t : List ℕ) → ((x y : List ℕ) → bytes_eq x y ≡ true → x ≡ y) → slice_get keys k ≡ Some found → bytes_eq (bytes key) (bytes found) ≡ true → bytes key ≡ t
    → slice_get (map bytes keys) k ≡ Some t
number-told bytes keys k found key t exact at same is = mapped keys k ∙ ap (option_map bytes) at ∙ ap Some (sym (exact (bytes key) (bytes found) same) ∙ is)
  where
    mapped : (ks : List _) (k : ℕ) → slice_get (map bytes ks) k ≡ option_map bytes (slice_get ks k)
    mapped [] k = refl
    mapped (x ∷ ks) zero = refl
    mapped (x ∷ ks) (suc k) = mapped ks k

-- numbers stay right while texts are added
told-later : (old new : List (List ℕ)) → KeepsHeadsigns old new → (o : Option ℕ) (t : List ℕ) → option_and_then (slice_get old) o ≡ Some t → option_and_then (slice_get new) o ≡ Some t
told-later old new kept None t e = cc e
told-later old new kept (Some k) t e = kept k t e

numbers-later : (old new : List (List ℕ)) → KeepsHeadsigns old new → (olds : List (List ℕ)) (numbers : List (Option ℕ)) → AreNumbersOf old olds numbers → AreNumbersOf new olds numbers
numbers-later old new kept [] [] e = refl
numbers-later old new kept [] (o ∷ numbers) e = cc e
numbers-later old new kept (t ∷ olds) [] e = cc e
numbers-later old new kept (t ∷ olds) (o ∷ numbers) e = λ i. told-later old new kept o t (cc e) i ∷ numbers-later old new kept olds numbers (cc e) i

pub numbers-more : (old new olds : List (List ℕ)) (n : ℕ) (numbers : List (Option ℕ)) (o : Option ℕ) → KeepsHeadsigns old new → n < length olds → AreNumbersOf old (take n olds) numbers
    → option_and_then (slice_get new) o ≡ Some (get_or olds n []) → AreNumbersOf new (take (n + 1) olds) (numbers ++ o ∷ [])
numbers-more old new olds n numbers o kept within so_far told =
    map-append (option_and_then (slice_get new)) numbers (o ∷ [])
    ∙ (λ i. numbers-later old new kept (take n olds) numbers so_far i ++ told i ∷ [])
    ∙ sym (map-append Some (take n olds) (get_or olds n [] ∷ []))
    ∙ ap (map Some) (sym (ap (λ m. take m olds) (add-one n) ∙ take-suc olds n [] within))

pub kept-twice : (a b c : List (List ℕ)) → KeepsHeadsigns a b → KeepsHeadsigns b c → KeepsHeadsigns a c
kept-twice a b c first second k t e = second k t (first k t e)

-- the headsigns of both feeds
pub both-sides : (sides : Sides) (first all texts of_a of_b : List (List ℕ)) (a b : List (Option ℕ)) → of_a ≡ sides.a.now.headsigns → of_b ≡ sides.b.now.headsigns → AreNumbersOf first of_a a → KeepsHeadsigns first all
    → AreNumbersOf all of_b b → texts ≡ all → AreDistinct all → AreHeadsigns sides (record { texts = texts; a = a; b = b })
both-sides sides first all texts of_a of_b a b own_a own_b numbers_a kept numbers_b are distinct = record {
  numbers = λ s. on s;
  distinct = subst AreDistinct (sym are) distinct;
}
  where
    on : (s : Side) → AreNumbersOf texts (side_parts s sides).headsigns (numbers_on (record { texts = texts; a = a; b = b }) s)
    on side.A = subst (λ ts. AreNumbersOf ts sides.a.now.headsigns a) (sym are) (subst (λ hs. AreNumbersOf all hs a) own_a (numbers-later first all kept of_a a numbers_a))
    on side.B = subst (λ ts. AreNumbersOf ts sides.b.now.headsigns b) (sym are) (subst (λ hs. AreNumbersOf all hs b) own_b numbers_b)
