-- Rows whose ids stand before them can be left out of rows by id.
use Rattle.std.proofs.Common.{◌≡◌, ℕ, Bool, true, false, cond, List, [], ◌∷◌, ◌++◌, Some, Option, refl, sym, ap, ◌∙◌, inl, inr, filter, map, bytes_eq, true≢false}
use Rattle.std.specs.Cmp.Lexicographic.{nat_list_cmp_total, texts_ties}
use Rattle.std.specs.FinMap as table
use Rattle.gtfs_schema.proofs.NamedFacts.{text_turned as bytes_flip}
use Rattle.gtfs_schema.proofs.SiteFacts.{text_is as same_bytes}
use Rattle.gtfs_field.specs.TextOrder.{text_cmp}
use Rattle.gtfs_rows.proofs.Members.{In}
use Rattle.gtfs_merge.specs.Merged.{by_id}
use Rattle.gtfs_merge.proofs.Lookups.{bytes_same, look}

module _ {X : Type 0} (id : X → List ℕ) where
  abbrev entry : X → List ℕ × X
  entry r = (id r, r)

  look-rows : (rows : List X) (q : List ℕ) → table.find text_cmp q (map entry rows) ≡ look id rows q
  look-rows [] q = refl
  look-rows (r ∷ rs) q = λ i. cond ((sym (texts_ties q (id r)) ∙ bytes_flip q (id r)) i) (Some r) (look-rows rs q i)

  by_id-same : (xs ys : List X) → ((q : List ℕ) → look id xs q ≡ look id ys q) → by_id id xs ≡ by_id id ys
  by_id-same xs ys h = ap table.values (table.same_map nat_list_cmp_total (table.slice_cmp-IsAntisymmetric table.nat_cmp-IsAntisymmetric)
      (table.from_entries {R = text_cmp} (map entry xs)) (table.from_entries {R = text_cmp} (map entry ys))
      (λ q. table.get-from_entries nat_list_cmp_total (map entry xs) q ∙ look-rows xs q ∙ h q ∙ sym (look-rows ys q) ∙ sym (table.get-from_entries nat_list_cmp_total (map entry ys) q)))

  -- a row of the first list with the id
  abbrev pub Has : List X → List ℕ → Type 0
  Has rows q = (a : X) × In a rows × (id a ≡ q)

  first-agrees : (x : X) (q : List ℕ) (t : Bool) → bytes_eq (id x) q ≡ t → (o p : Option X) → ((bytes_eq (id x) q ≡ false) → o ≡ p) → cond t (Some x) o ≡ cond t (Some x) p
  first-agrees x q true e o p same = refl
  first-agrees x q false e o p same = same e

  look-first : (xs ys zs : List X) (q : List ℕ) → ((Has xs q → ⊥) → look id ys q ≡ look id zs q) → look id (xs ++ ys) q ≡ look id (xs ++ zs) q
  look-first [] ys zs q rest = rest (λ h. elim h.1 [ ])
  look-first (x ∷ xs) ys zs q rest = first-agrees x q (bytes_eq (id x) q) refl (look id (xs ++ ys) q) (look id (xs ++ zs) q)
      (λ other. look-first xs ys zs q (λ none. rest (λ h. elim h.1 as (λ v. ⊥) [
        | inl is ↦ true≢false (sym (bytes_same (id x) q (ap id is ∙ h.2)) ∙ other)
        | inr i ↦ none (h.0, i, h.2)
      ])))

  module _ {Y : Type 0} (g : Y → X) where
    -- a row that is left out has an id of the first list
    abbrev pub AreDropped : List X → (Y → Bool) → List Y → Type 0
    AreDropped xs left ys = (y : Y) → In y ys → left y ≡ false → Has xs (id (g y))

    look-left : (xs : List X) (ys : List Y) (left : Y → Bool) (q : List ℕ) → AreDropped xs left ys → (Has xs q → ⊥) → look id (map g ys) q ≡ look id (map g (filter left ys)) q
    look-left xs [] left q dropped none = refl
    look-left xs (y ∷ ys) left q dropped none = by (look-left xs ys left q (λ z i e. dropped z (inr i) e) none) (left y) refl (bytes_eq (id (g y)) q) refl
      where
        by : look id (map g ys) q ≡ look id (map g (filter left ys)) q → (l : Bool) → left y ≡ l → (t : Bool) → bytes_eq (id (g y)) q ≡ t
            → cond (bytes_eq (id (g y)) q) (Some (g y)) (look id (map g ys) q) ≡ look id (map g (cond l (y ∷ filter left ys) (filter left ys))) q
        by rest true e t d = ap (cond (bytes_eq (id (g y)) q) (Some (g y))) rest
        by rest false e true d = let h = dropped y (inl refl) e in absurd (none (h.0, h.1, h.2 ∙ same_bytes (id (g y)) q d))
        by rest false e false d = ap (λ b. cond b (Some (g y)) (look id (map g ys) q)) d ∙ rest

    pub by_id-dropped : (xs : List X) (ys : List Y) (left : Y → Bool) → AreDropped xs left ys → by_id id (xs ++ map g ys) ≡ by_id id (xs ++ map g (filter left ys))
    by_id-dropped xs ys left dropped = by_id-same (xs ++ map g ys) (xs ++ map g (filter left ys)) (λ q. look-first xs (map g ys) (map g (filter left ys)) q (look-left xs ys left q dropped))
