-- A written content has no transfer twice: E09 of transfers.txt, whose key has parts that may be empty.
use Rattle.std.proofs.Common.{◌≡◌, ◌+◌, ◌<◌, ℕ, List, [], ◌∷◌, length, get_or, map, true, false, Bool, Option, Some, None, refl, sym, ap, ◌∙◌, arith}
use Rattle.std.specs.Prelude.{not, bytes_eq, codes, if◌then◌else◌, option_map, unwrap_or, is_none, is_some}
use Prim.Native.String.{String as Literal}
use Rattle.std.specs.Cmp.{tied_itself}
use Rattle.std.specs.Cmp.Lexicographic.{pointwise}
use Rattle.std.specs.declared.cmp.Ordering.TheVariants.{Less, Equal}
use Rattle.std.proofs.lemmas.Bool.{and_parts, false_from_ne_true}
use Rattle.gtfs_table.specs.declared.file.File.TheVariants as file
use Rattle.gtfs_table.specs.Rows.{is_empty}
use Rattle.gtfs_schema.specs.Columns.{columns_of, column_named, optional, id}
use Rattle.gtfs_schema.specs.KeyRules.{all_there, key_part, key_in, key_twice}
use Rattle.gtfs_schema.specs.RowConditions.{value_in, is_empty_in}
use Rattle.gtfs_schema.specs.FieldValues.{Value, word, value_eq, if_both}
use Rattle.gtfs_schema.proofs.SiteFacts.{text_is}
use Rattle.gtfs_rows.specs.Cells.{are_cells, is_cell, is_clean}
use Rattle.gtfs_rows.specs.Content.{Content}
use Rattle.gtfs_rows.specs.NamedCells.{cell_named}
use Rattle.gtfs_rows.specs.TransferOrder.{transfer_key, transfer_key_cmp}
use Rattle.gtfs_rows.specs.RowCells.{transfer_cells}
use Rattle.gtfs_rows.specs.Rows.{Transfer}
use Rattle.gtfs_rows.specs.SoundContent.{IsSound, if_given}
use Rattle.gtfs_rows.specs.WrittenContent.{written_beside}
use Rattle.gtfs_rows.proofs.ContentAgain.{transfer_total}
use Rattle.gtfs_rows.proofs.KeyCodes.{no_repeat}
use Rattle.gtfs_rows.proofs.Views.{cells_ok, value_at, empty_at}

-- ---- one part of a key: an id that is not empty, or the empty text

abbrev part : Option (List ℕ) → List ℕ
part o = unwrap_or o []

part_of : (o : Option (List ℕ)) (empty : Bool) (value : Option Value) → empty ≡ is_none (option_map word o) → value ≡ option_map word o
    → (if empty then Some (word []) else value) ≡ Some (word (part o))
part_of None empty value e v = rw e refl
part_of (Some t) empty value e v = rw e v

abbrev has_bytes : List ℕ → Bool
has_bytes t = not (is_empty t)

part_filled : (column : Literal) (o : Option (List ℕ)) → is_cell (optional column id) (option_map word o) ≡ true → if_given o has_bytes ≡ true
part_filled column None h = refl
part_filled column (Some t) h = (and_parts (is_clean t) (has_bytes t) h).1

never : false ≡ true → ⊥
never e = cc

ends_same : (o p : Option (List ℕ)) → if_given o has_bytes ≡ true → if_given p has_bytes ≡ true → bytes_eq (part o) (part p) ≡ true → o ≡ p
ends_same None None g h e = refl
ends_same None (Some t) g h e = absurd (let same : [] ≡ t = text_is [] t e in never (ap has_bytes same ∙ h))
ends_same (Some s) None g h e = absurd (let same : s ≡ [] = text_is s [] e in never (ap has_bytes (sym same) ∙ g))
ends_same (Some s) (Some t) g h e = ap Some (text_is s t e)

-- ---- the key of a row

abbrev key_of : Transfer → Option (List Value)
key_of t = Some (map (λ o. word (part o)) (transfer_key t))

-- each part that is there has bytes
record IsFilled (t : Transfer) : Type 0 where
  from_stop : if_given t.from_stop_id has_bytes ≡ true
  to_stop : if_given t.to_stop_id has_bytes ≡ true
  from_route : if_given t.from_route_id has_bytes ≡ true
  to_route : if_given t.to_route_id has_bytes ≡ true
  from_trip : if_given t.from_trip_id has_bytes ≡ true
  to_trip : if_given t.to_trip_id has_bytes ≡ true

filled_parts : (t : Transfer) → are_cells (columns_of file.Transfers) (transfer_cells t) ≡ true → IsFilled t
filled_parts t h =
    let a = and_parts (is_cell (optional "from_stop_id" id) (option_map word t.from_stop_id)) _ h in
    let b = and_parts (is_cell (optional "to_stop_id" id) (option_map word t.to_stop_id)) _ a.1 in
    let c = and_parts (is_cell (optional "from_route_id" id) (option_map word t.from_route_id)) _ b.1 in
    let d = and_parts (is_cell (optional "to_route_id" id) (option_map word t.to_route_id)) _ c.1 in
    let e = and_parts (is_cell (optional "from_trip_id" id) (option_map word t.from_trip_id)) _ d.1 in
    let f = and_parts (is_cell (optional "to_trip_id" id) (option_map word t.to_trip_id)) _ e.1 in
    record {
      from_stop = part_filled "from_stop_id" t.from_stop_id a.0;
      to_stop = part_filled "to_stop_id" t.to_stop_id b.0;
      from_route = part_filled "from_route_id" t.from_route_id c.0;
      to_route = part_filled "to_route_id" t.to_route_id d.0;
      from_trip = part_filled "from_trip_id" t.from_trip_id e.0;
      to_trip = part_filled "to_trip_id" t.to_trip_id f.0;
    }

keys_same : (a b : Transfer) → IsFilled a → IsFilled b → pointwise value_eq (map (λ o. word (part o)) (transfer_key b)) (map (λ o. word (part o)) (transfer_key a)) ≡ true
    → transfer_key b ≡ transfer_key a
keys_same a b fa fb h =
    let p = and_parts (bytes_eq (part b.from_stop_id) (part a.from_stop_id)) _ h in
    let q = and_parts (bytes_eq (part b.to_stop_id) (part a.to_stop_id)) _ p.1 in
    let r = and_parts (bytes_eq (part b.from_route_id) (part a.from_route_id)) _ q.1 in
    let s = and_parts (bytes_eq (part b.to_route_id) (part a.to_route_id)) _ r.1 in
    let t = and_parts (bytes_eq (part b.from_trip_id) (part a.from_trip_id)) _ s.1 in
    let u = and_parts (bytes_eq (part b.to_trip_id) (part a.to_trip_id)) _ t.1 in
    λ i. ends_same b.from_stop_id a.from_stop_id fb.from_stop fa.from_stop p.0 i
    ∷ ends_same b.to_stop_id a.to_stop_id fb.to_stop fa.to_stop q.0 i
    ∷ ends_same b.from_route_id a.from_route_id fb.from_route fa.from_route r.0 i
    ∷ ends_same b.to_route_id a.to_route_id fb.to_route fa.to_route s.0 i
    ∷ ends_same b.from_trip_id a.from_trip_id fb.from_trip fa.from_trip t.0 i
    ∷ ends_same b.to_trip_id a.to_trip_id fb.to_trip fa.to_trip u.0 i ∷ []

keys_differ : (a b : Transfer) → IsFilled a → IsFilled b → transfer_key_cmp (transfer_key a) (transfer_key b) ≡ Less → if_both (key_of b) (key_of a) (pointwise value_eq) ≡ false
keys_differ a b fa fb less = false_from_ne_true (pointwise value_eq (map (λ o. word (part o)) (transfer_key b)) (map (λ o. word (part o)) (transfer_key a))) (λ e.
    let same = keys_same a b fa fb e in
    let tie : transfer_key_cmp (transfer_key a) (transfer_key b) ≡ Equal = ap (transfer_key_cmp (transfer_key a)) same ∙ tied_itself transfer_total (transfer_key a) in
    let clash : Less ≡ Equal = sym less ∙ tie in
    cc)

module _ (others : List (List ℕ)) (c : Content) (sound : IsSound c) where
  module _ (k : ℕ) (e : Transfer) (within : k < length c.transfers) where
    filled_at : IsFilled (get_or c.transfers k e)
    filled_at = filled_parts (get_or c.transfers k e) (cells_ok others c file.Transfers c.transfers transfer_cells refl (sound.cells file.Transfers) k e within)

    part_at : (column : Literal) → is_empty (codes column) ≡ false → (o : Option (List ℕ)) → cell_named (columns_of file.Transfers) (transfer_cells (get_or c.transfers k e)) (codes column) ≡ option_map word o
        → is_some (column_named file.Transfers (codes column)) ≡ true → key_part (written_beside others c) file.Transfers (k + 2) (codes column) ≡ Some (word (part o))
    part_at column named o is kept =
        part_of o (is_empty_in (written_beside others c) file.Transfers (k + 2) column) (value_in (written_beside others c) file.Transfers (k + 2) (codes column))
        (empty_at others c file.Transfers c.transfers transfer_cells refl (sound.cells file.Transfers) k e within column named (option_map word o) is kept)
        (value_at others c file.Transfers c.transfers transfer_cells refl (sound.cells file.Transfers) k e within (codes column) named ∙ is)

    key_at : key_in (written_beside others c) file.Transfers (k + 2) ≡ key_of (get_or c.transfers k e)
    key_at =
        let t = get_or c.transfers k e in
        λ i. all_there (part_at "from_stop_id" refl t.from_stop_id refl refl i
        ∷ part_at "to_stop_id" refl t.to_stop_id refl refl i
        ∷ part_at "from_route_id" refl t.from_route_id refl refl i
        ∷ part_at "to_route_id" refl t.to_route_id refl refl i
        ∷ part_at "from_trip_id" refl t.from_trip_id refl refl i
        ∷ part_at "to_trip_id" refl t.to_trip_id refl refl i ∷ [])

  pub no_transfer_twice : (n : ℕ) (name : List ℕ) → key_twice (written_beside others c) file.Transfers n name ≡ false
  no_transfer_twice = no_repeat others c file.Transfers c.transfers transfer_cells refl (sound.cells file.Transfers) key_of key_at
      (λ i j d h l. keys_differ (get_or c.transfers i d) (get_or c.transfers j d) (filled_at i d (omega arith)) (filled_at j d l) (sound.in_order.transfers i j d h l))
