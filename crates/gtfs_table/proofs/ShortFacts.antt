-- Lists of short records, and of long ones after them.
use Rattle.std.proofs.Common.{◌≡◌, ◌<◌, ◌-◌, ◌∷◌, ◌++◌, ◌∙◌, [], ℕ, zero, suc, List, length, take, get_or, map, refl, sym, ap, arith}
use Rattle.std.specs.List.{All}
use Rattle.std.proofs.lemmas.List.{get_or-map, length-map, map-append, take-map}
use Rattle.std.proofs.lemmas.List.Elements.{All-get_or, All-map, All-push, All-take, All-weaker}
use Rattle.csv.specs.Records.{AllText, IsRecord, Row, fields_of}
use Rattle.gtfs_table.specs.FieldOffsets.{add_to_last}
use Rattle.gtfs_table.specs.StoredRecords.{IsRun, fields_in, run_of}
use Rattle.gtfs_table.proofs.MarkedFacts.{run-fields, run-whole}

-- runs of records that are seen as this list
pub record AreShort (runs : List (List ℕ)) (records : List (List (List ℕ))) : Type 0 where
  pub each : All IsRun runs
  pub value : map fields_in runs ≡ records

pub short-count : (runs : List (List ℕ)) (records : List (List (List ℕ))) → map fields_in runs ≡ records → length records ≡ length runs
short-count runs records e = rw (← e) (length-map runs fields_in)

pub short-at : (runs : List (List ℕ)) (records : List (List (List ℕ))) (i : ℕ) → map fields_in runs ≡ records → i < length records
    → fields_in (get_or runs i []) ≡ get_or records i []
short-at runs records i e lt =
    let there : i < length runs = omega (arith, lt, short-count runs records e) in
    sym (get_or-map fields_in runs i [] [] there) ∙ ap (λ (p : List (List (List ℕ))). get_or p i []) e

pub short-run : (runs : List (List ℕ)) (records : List (List (List ℕ))) (i : ℕ) → map fields_in runs ≡ records → All IsRun runs → i < length records → IsRun (get_or runs i [])
short-run runs records i e all lt = All-get_or IsRun runs i [] (omega (arith, lt, short-count runs records e)) all

pub short-filled : (runs : List (List ℕ)) (records : List (List (List ℕ))) → map fields_in runs ≡ records → All IsRun runs → All (λ (r : List (List ℕ)). 0 < length r) records
short-filled runs records e all =
    rw e at (All-map (λ (r : List (List ℕ)). 0 < length r) fields_in runs (All-weaker IsRun (λ (run : List ℕ). 0 < length (fields_in run)) (λ run h. h.filled) runs all))

pub short-texts : (runs : List (List ℕ)) (records : List (List (List ℕ))) → map fields_in runs ≡ records → All IsRun runs → All AllText records
short-texts runs records e all = rw e at (All-map AllText fields_in runs (All-weaker IsRun (λ (run : List ℕ). AllText (fields_in run)) (λ run h. h.text) runs all))

pub short-push : (runs new : List (List ℕ)) (records : List (List (List ℕ))) (row : Row) → map fields_in runs ≡ records → All IsRun runs → IsRecord row → 0 < length (fields_of row)
    → AllText (fields_of row) → new ≡ runs ++ run_of row ∷ [] → AreShort new (records ++ fields_of row ∷ [])
short-push runs new records row e all r some text n =
    rw n (record {
      each = All-push IsRun runs (run_of row) all (run-whole row r some text);
      value = map-append fields_in runs (run_of row ∷ []) ∙ rw (e, run-fields row r) refl;
    })

pub short-take : (runs new : List (List ℕ)) (records : List (List (List ℕ))) (k : ℕ) → map fields_in runs ≡ records → All IsRun runs → new ≡ take k runs → AreShort new (take k records)
short-take runs new records k e all n =
    rw n (record {
      each = All-take IsRun k runs all;
      value = sym (take-map fields_in k runs) ∙ ap (λ (p : List (List (List ℕ))). take k p) e;
    })

-- ---- short records, and then long ones

-- the first of both
pub take-both : (short long : List (List (List ℕ))) (count more : ℕ) → more ≡ count - length short → take count (short ++ long) ≡ take count short ++ take more long
take-both [] long count more e = let is : more ≡ count = omega (arith, e) in rw is (nothing count long)
  where
    nothing : (n : ℕ) (xs : List (List (List ℕ))) → take n xs ≡ take n [] ++ take n xs
    nothing zero xs = refl
    nothing (suc n) xs = refl
take-both (r ∷ short) long zero more e = let is : more ≡ 0 = omega (arith, e) in rw is refl
take-both (r ∷ short) long (suc count) more e = ap (λ (t : List (List (List ℕ))). r ∷ t) (take-both short long count more (omega (arith, e)))

add-after : (short long : List (List (List ℕ))) (field : List ℕ) → 0 < length long → short ++ add_to_last long field ≡ add_to_last (short ++ long) field
unfolding add_to_last
add-after [] long field some = refl
add-after (r ∷ short) [] field some = absurd (omega (arith, some))
add-after (r ∷ []) (q ∷ long) field some = refl
add-after (r ∷ s ∷ short) (q ∷ long) field some = ap (λ (p : List (List (List ℕ))). r ∷ p) (add-after (s ∷ short) (q ∷ long) field some)

pub field-after : (short long new records : List (List (List ℕ))) (field : List ℕ) → short ++ long ≡ records → 0 < length long → new ≡ add_to_last long field
    → short ++ new ≡ add_to_last records field
field-after short long new records field e some n = rw n (add-after short long field some ∙ ap (λ (p : List (List (List ℕ))). add_to_last p field) e)
