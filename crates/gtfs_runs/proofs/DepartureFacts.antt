-- A stop time that is not the last of its trip, by its position.
use Rattle.std.proofs.Common.{◌≡◌, ◌<◌, ◌≤◌, ◌+◌, ◌-◌, ◌∙◌, ℕ, suc, Bool, true, false, List, [], ◌∷◌, length, map, get_or, refl, sym, ap, arith, inl, inr, ◌&&◌}
use Rattle.std.specs.Prelude.{nat_lt, AllPairs}
use Rattle.std.specs.List.{list_any}
use Rattle.std.proofs.lemmas.Bool.{cases_Bool, ltb-true, ltb-false, lt-ltb, le-ltb}
use Rattle.std.proofs.lemmas.List.Folds.{list_any_at as any_from}
use Rattle.gtfs_field.proofs.ListFacts.{any_mapped}
use Rattle.gtfs_rows.specs.declared.parts.Parts.{Parts}
use Rattle.gtfs_stop_times.specs.declared.stop_row.StopRow.{StopRow}
use Rattle.gtfs_rows.specs.RowsInMemory.{stop_row_of}

any_none : {X : Type 0} (q : X → Bool) (xs : List X) (d : X) → ((k : ℕ) → k < length xs → q (get_or xs k d) ≡ false) → list_any q xs ≡ false
any_none q [] d none = refl
any_none q (x ∷ xs) d none = rw (none 0 (omega arith)) (any_none q xs d (λ k within. none (suc k) (omega arith)))

-- rows ascend: a later one follows where the position is not the last
pub not_last : (p : Parts) (rs : List StopRow) (k : ℕ) (d : StopRow) → AllPairs (λ r s. r.stop_sequence < s.stop_sequence) rs → k < length rs
    → list_any (λ other. nat_lt (get_or rs k d).stop_sequence other.stop_sequence) (map (stop_row_of p) rs) ≡ nat_lt k (length rs - 1)
not_last p rs k d up within =
    let n = (get_or rs k d).stop_sequence in
    any_mapped (λ other. nat_lt n other.stop_sequence) (stop_row_of p) rs ∙ elim (cases_Bool (nat_lt k (length rs - 1))) [
      | inl before ↦
          let more : k < length rs - 1 = ltb-true k (length rs - 1) before in
          let later : k + 1 < length rs = omega arith in
          any_from (λ r. nat_lt n r.stop_sequence) rs (k + 1) d later (lt-ltb n (get_or rs (k + 1) d).stop_sequence (up k (k + 1) d (omega arith) later)) ∙ sym before
      | inr last ↦ any_none (λ r. nat_lt n r.stop_sequence) rs d (λ j inside. upto j inside (ltb-false k (length rs - 1) last)) ∙ sym last
    ]
  where
    upto : (j : ℕ) → j < length rs → length rs - 1 ≤ k → nat_lt (get_or rs k d).stop_sequence (get_or rs j d).stop_sequence ≡ false
    upto j inside past = elim (cases_Bool (nat_lt j k)) [
      | inl earlier ↦ le-ltb (get_or rs k d).stop_sequence (get_or rs j d).stop_sequence (omega (arith, up j k d (ltb-true j k earlier) within))
      | inr not_earlier ↦
          let same : j ≡ k = omega (arith, ltb-false j k not_earlier) in
          rw same (le-ltb (get_or rs k d).stop_sequence (get_or rs k d).stop_sequence (omega arith))
    ]

-- ---- the steps of the code

pub departs : (timed last boards r : Bool) → r ≡ (timed && boards) → last ≡ true → r ≡ (timed && last && boards)
departs true last boards r is later = rw later is
departs false last boards r is later = is

pub ends : (timed last boards r : Bool) → r ≡ last → last ≡ false → r ≡ (timed && last && boards)
ends true last boards r is never = is ∙ never ∙ sym (ap (λ b. b && boards) never)
ends false last boards r is never = is ∙ never
