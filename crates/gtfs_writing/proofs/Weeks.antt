-- The row of a week: seven flags between an id and two dates.
use Rattle.std.proofs.Common.{◌≡◌, ◌∙◌, ap, sym, refl, ℕ, ◌++◌, ◌∷◌, List, [], Bool, if◌then◌else◌, map, length, arith, Some, Result, Ok, Err}
use Rattle.std.specs.Prelude.{ℤ}
use Rattle.std.specs.Result.{OnOk}
use Rattle.gtfs_field.specs.Canonical.{count_text, date_text}
use Rattle.gtfs_days.specs.declared.week.Week.{Week}
use Rattle.gtfs_table.specs.declared.file.File.TheVariants as file
use Rattle.gtfs_schema.specs.Columns.{columns_of}
use Rattle.gtfs_schema.specs.FieldValues.{word, amount}
use Rattle.gtfs_rows.specs.Cells.{record_text}
use Rattle.gtfs_rows.specs.RowCells.{flag, week_cells}
use Rattle.gtfs_writing.specs.TakenRecords.{Taking, with_fields, with_row}
use Rattle.gtfs_writing.proofs.Taken.{with_fields-append}

abbrev flag_text : Bool → List ℕ
flag_text d = count_text (if d then 1 else 0)

week_text : (id : List ℕ) (days : List Bool) (a b : ℤ) → length days ≡ 7
    → record_text (columns_of file.Calendar) (Some (word id) ∷ (map flag days ++ Some (amount a) ∷ Some (amount b) ∷ []))
    ≡ id ∷ (map flag_text days ++ date_text a ∷ date_text b ∷ [])
week_text id (d1 ∷ d2 ∷ d3 ∷ d4 ∷ d5 ∷ d6 ∷ d7 ∷ []) a b size = refl
week_text id (d1 ∷ d2 ∷ d3 ∷ d4 ∷ d5 ∷ d6 ∷ d7 ∷ d8 ∷ ds) a b size = absurd (omega (arith, size))
week_text id (d1 ∷ d2 ∷ d3 ∷ d4 ∷ d5 ∷ d6 ∷ []) a b size = absurd (omega (arith, size))
week_text id (d1 ∷ d2 ∷ d3 ∷ d4 ∷ d5 ∷ []) a b size = absurd (omega (arith, size))
week_text id (d1 ∷ d2 ∷ d3 ∷ d4 ∷ []) a b size = absurd (omega (arith, size))
week_text id (d1 ∷ d2 ∷ d3 ∷ []) a b size = absurd (omega (arith, size))
week_text id (d1 ∷ d2 ∷ []) a b size = absurd (omega (arith, size))
week_text id (d1 ∷ []) a b size = absurd (omega (arith, size))
week_text id [] a b size = absurd (omega (arith, size))

pub week_row : {S : Type 0} (t : Taking S) (old s1 s2 s3 s4 : S) (id : List ℕ) (w : Week) → length w.days ≡ 7 → s1 ≡ t.first old id
    → s2 ≡ with_fields t s1 (map (λ d. count_text (if d then 1 else 0)) w.days) → s3 ≡ t.next s2 (date_text w.start) → s4 ≡ t.next s3 (date_text w.end)
    → t.last s4 ≡ with_row t old (record_text (columns_of file.Calendar) (week_cells (id, w)))
week_row t old s1 s2 s3 s4 id w size e1 e2 e3 e4 =
    let flags = map flag_text w.days in
    let dates = date_text w.start ∷ date_text w.end ∷ [] in
    let all : s4 ≡ with_fields t (t.first old id) (flags ++ dates) =
    e4 ∙ ap (λ s. t.next s (date_text w.end)) (e3 ∙ ap (λ s. t.next s (date_text w.start)) (e2 ∙ ap (λ s. with_fields t s flags) e1))
    ∙ sym (with_fields-append t (t.first old id) flags dates) in
    ap t.last all ∙ sym (ap (with_row t old) (week_text id w.days w.start w.end size))

-- what holds after a call that succeeds
pub on_ok_then : {T E A : Type 0} (r : Result T E) (x y z : A) → OnOk r (x ≡ y) → y ≡ z → OnOk r (x ≡ z)
on_ok_then (Ok v) x y z e same = e ∙ same
on_ok_then (Err v) x y z e same = tt
