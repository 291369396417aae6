-- One reference of a written content: a part of E10.
use Rattle.std.proofs.Common.{arith, ◌≡◌, ◌+◌, ◌<◌, ℕ, List, [], ◌∷◌, length, get_or, map, true, false, Option, Some, None, refl, sym, ap, subst, ◌∙◌, inl, inr}
use Rattle.std.specs.Prelude.{◌&&◌, not, bytes_eq, codes, option_map, is_some}
use Prim.Native.String.{String as Literal}
use Rattle.std.specs.List.{list_all}
use Rattle.std.proofs.lemmas.Bool.{and_parts, and_left, and_right, or_left, cases_Bool, not_from_true, eqb-true}
use Rattle.gtfs_table.specs.declared.file.File.{File}
use Rattle.gtfs_table.specs.declared.file.File.TheVariants as file
use Rattle.gtfs_table.specs.Rows.{is_row, records_in, is_empty}
use Rattle.gtfs_schema.specs.Columns.{columns_of, id}
use Rattle.gtfs_schema.specs.KeyRules.{is_known}
use Rattle.gtfs_schema.specs.steps.ProblemOrder.{same_file}
use Rattle.gtfs_schema.specs.References.{stop_targets, route_targets, trip_targets}
use Rattle.gtfs_schema.specs.RowConditions.{file_rank, is_file, text_in, value_in}
use Rattle.gtfs_schema.specs.FieldValues.{Value, word}
use Rattle.gtfs_schema.proofs.SiteFacts.{text_is}
use Rattle.gtfs_rows.specs.Cells.{Cell, are_cells, cell_text}
use Rattle.gtfs_rows.specs.Content.{Content}
use Rattle.gtfs_rows.specs.NamedCells.{cell_named, text_named}
use Rattle.gtfs_rows.specs.RowCells.{cells_in, route_cells, trip_cells}
use Rattle.gtfs_rows.specs.SoundContent.{IsSound, if_given, has_id, is_stop_of}
use Rattle.gtfs_rows.specs.WrittenContent.{written_beside}
use Rattle.gtfs_rows.proofs.FileRows.{row_index}
use Rattle.gtfs_rows.proofs.ReferenceCodes.{known_in, stop_known}
use Rattle.gtfs_rows.proofs.Views.{value_at, text_at', count_is}

nothing_there : (o : Option Value) → o ≡ None → is_some o ≡ true → ⊥
nothing_there None e h = cc
nothing_there (Some v) e h = cc

module _ {X : Type 0} (others : List (List ℕ)) (c : Content) (x0 : File) (xs : List X) (cells : X → List Cell) (are : cells_in c x0 ≡ map cells xs) (sound : list_all (are_cells (columns_of x0)) (cells_in c x0) ≡ true)
    (column : Literal) (filled : is_empty (codes column) ≡ false) (targets : List (File × List ℕ)) (of : X → Option (List ℕ))
    (cell : (r : X) → cell_named (columns_of x0) (cells r) (codes column) ≡ option_map word (of r))
    (as_text : (r : X) → text_named (columns_of x0) (cells r) (codes column) ≡ cell_text id (option_map word (of r)))
    (known : (k : ℕ) (e : X) → k < length xs → if_given (of (get_or xs k e)) (is_known (written_beside others c) targets) ≡ true) where
  -- a row names what is known
  known_at : (k : ℕ) (e : X) → k < length xs → is_some (value_in (written_beside others c) x0 (k + 2) (codes column)) ≡ true → is_known (written_beside others c) targets (text_in (written_beside others c) x0 (k + 2) (codes column)) ≡ true
  known_at k e h there =
      by_cell (of (get_or xs k e)) (value_at others c x0 xs cells are sound k e h (codes column) filled ∙ cell (get_or xs k e)) (text_at' others c x0 xs cells are sound k e h (codes column) filled ∙ as_text (get_or xs k e)) (known k e h)
    where
      by_cell : (o : Option (List ℕ)) → value_in (written_beside others c) x0 (k + 2) (codes column) ≡ option_map word o → text_in (written_beside others c) x0 (k + 2) (codes column) ≡ cell_text id (option_map word o)
          → if_given o (is_known (written_beside others c) targets) ≡ true → is_known (written_beside others c) targets (text_in (written_beside others c) x0 (k + 2) (codes column)) ≡ true
      by_cell None value text fine = absurd (nothing_there (value_in (written_beside others c) x0 (k + 2) (codes column)) value there)
      by_cell (Some t) value text fine = ap (is_known (written_beside others c) targets) text ∙ fine

  known_here : (n : ℕ) → (is_row (records_in (written_beside others c) x0) n && is_some (value_in (written_beside others c) x0 n (codes column))) ≡ true → is_known (written_beside others c) targets (text_in (written_beside others c) x0 n (codes column)) ≡ true
  known_here n there =
      let parts = and_parts (is_row (records_in (written_beside others c) x0) n) (is_some (value_in (written_beside others c) x0 n (codes column))) there in
      let element = row_index others (cells_in c) x0 sound n parts.0 in
      let within : element.index < length xs = subst (λ m. element.index < m) (count_is others c x0 xs cells are sound) element.within in
      at_some xs refl element.index within element.is parts.1
    where
      at_some : (ys : List X) → xs ≡ ys → (k : ℕ) → k < length xs → n ≡ k + 2 → is_some (value_in (written_beside others c) x0 n (codes column)) ≡ true → is_known (written_beside others c) targets (text_in (written_beside others c) x0 n (codes column)) ≡ true
      at_some [] same k h is some = let e = ap length same in absurd (omega (arith, e))
      at_some (d ∷ ys) same k h is some =
          ap (λ m. is_known (written_beside others c) targets (text_in (written_beside others c) x0 m (codes column))) is ∙ known_at k d h (ap (λ m. is_some (value_in (written_beside others c) x0 m (codes column))) (sym is) ∙ some)

  -- the reference is told nowhere
  pub reference_ok : (x : File) (n : ℕ) (name : List ℕ) → (is_row (records_in (written_beside others c) x) n && is_some (value_in (written_beside others c) x n name)) ≡ true
      → (is_file x0 x && bytes_eq (codes column) name && not (is_known (written_beside others c) targets (text_in (written_beside others c) x n name))) ≡ false
  reference_ok x n name there = elim (cases_Bool (is_file x0 x && bytes_eq (codes column) name)) [
    | inr other ↦ and_left (is_file x0 x && bytes_eq (codes column) name) (not (is_known (written_beside others c) targets (text_in (written_beside others c) x n name))) other
    | inl here ↦
        let parts = and_parts (is_file x0 x) (bytes_eq (codes column) name) here in
        let f : x0 ≡ x = same_file x0 x (eqb-true (file_rank x0) (file_rank x) parts.0) in
        let t : codes column ≡ name = text_is (codes column) name parts.1 in
        let start : (is_row (records_in (written_beside others c) x0) n && is_some (value_in (written_beside others c) x0 n (codes column))) ≡ true = (λ i. is_row (records_in (written_beside others c) (f i)) n && is_some (value_in (written_beside others c) (f i) n (t i))) ∙ there in
        and_right (is_file x0 x && bytes_eq (codes column) name) (not (is_known (written_beside others c) targets (text_in (written_beside others c) x n name)))
        (not_from_true (is_known (written_beside others c) targets (text_in (written_beside others c) x n name)) (sym (λ i. is_known (written_beside others c) targets (text_in (written_beside others c) (f i) n (t i))) ∙ known_here n start))
  ]

-- ---- what is known

module _ (others : List (List ℕ)) (c : Content) (sound : IsSound c) where
  pub stop_is_known : (types : List ℕ) (t : List ℕ) → is_stop_of c types t ≡ true → is_known (written_beside others c) stop_targets t ≡ true
  stop_is_known types t h = or_left _ false (stop_known others c sound types t h)

  pub route_is_known : (t : List ℕ) → has_id (λ r. r.route_id) c.routes t ≡ true → is_known (written_beside others c) route_targets t ≡ true
  route_is_known t h = or_left _ false (known_in others c file.Routes c.routes route_cells refl (sound.cells file.Routes) "route_id" refl (λ r. r.route_id) (λ r. refl) t ∙ h)

  pub trip_is_known : (t : List ℕ) → has_id (λ r. r.trip_id) c.trips t ≡ true → is_known (written_beside others c) trip_targets t ≡ true
  trip_is_known t h = or_left _ false (known_in others c file.Trips c.trips trip_cells refl (sound.cells file.Trips) "trip_id" refl (λ r. r.trip_id) (λ r. refl) t ∙ h)
