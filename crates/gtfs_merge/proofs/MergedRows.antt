-- The merged rows of one kind of id: what a look-up finds there.
use Rattle.std.proofs.Common.{◌≡◌, ℕ, Bool, true, false, List, [], ◌∷◌, ◌++◌, Some, None, Option, refl, sym, ap, ◌∙◌, subst, inl, inr, ◌⊎◌, map, bytes_eq, find, option_map, is_some, true≢false}
use Rattle.std.specs.Prelude.{◌||◌}
use Rattle.std.specs.Option.{option_or}
use Rattle.std.specs.List.{list_any}
use Rattle.std.proofs.lemmas.Bool.{cases_Bool}
use Rattle.std.proofs.lemmas.List.Folds.{find-append}
use Rattle.gtfs_schema.proofs.SiteFacts.{text_is as same_bytes}
use Rattle.gtfs_schema.proofs.NamedFacts.{text_turned as bytes_flip}
use Rattle.gtfs_schema.proofs.BoolFacts.{same_test as same_tests}
use Rattle.gtfs_rows.proofs.Members.{In}
use Rattle.gtfs_merge.specs.Merged.{by_id}
use Rattle.gtfs_merge.specs.Renaming.{lists_id, joined_by, Renaming}
use Rattle.gtfs_merge.proofs.Lookups.{bytes_same, In-list_any, find-alike, find-map, find-In, find-Some, find-None, holds_at-Some, look, look_any, IsKeyed, look-by_id}

module _ {X : Type 0} (id : X → List ℕ) where
  -- the ids of rows, and the rows found by them
  pub has-look : (rows : List X) (q : List ℕ) → lists_id (map id rows) q ≡ list_any (λ r. bytes_eq (id r) q) rows
  has-look [] q = refl
  has-look (r ∷ rs) q = λ i. bytes_flip q (id r) i || has-look rs q i

  pub found : (rows : List X) (q : List ℕ) → lists_id (map id rows) q ≡ true → (r : X) × (look id rows q ≡ Some r)
  found rows q h = find-Some (λ r. bytes_eq (id r) q) rows (sym (has-look rows q) ∙ h)

  pub not_found : (rows : List X) (q : List ℕ) → lists_id (map id rows) q ≡ false → look id rows q ≡ None
  not_found rows q h = find-None (λ r. bytes_eq (id r) q) rows (sym (has-look rows q) ∙ h)

  pub found_id : (rows : List X) (q : List ℕ) (r : X) → look id rows q ≡ Some r → In r rows × (id r ≡ q)
  found_id rows q r e = let f = find-In (λ r. bytes_eq (id r) q) rows r e in (f.0, same_bytes (id r) q f.1)

  pub has_own : (rows : List X) (r : X) → In r rows → lists_id (map id rows) (id r) ≡ true
  has_own rows r i = has-look rows (id r) ∙ In-list_any (λ s. bytes_eq (id s) (id r)) rows r i (bytes_same (id r) (id r) refl)

  pub has_found : (rows : List X) (q : List ℕ) (r : X) → look id rows q ≡ Some r → lists_id (map id rows) q ≡ true
  has_found rows q r e = let f = found_id rows q r e in subst (λ x. lists_id (map id rows) x ≡ true) f.1 (has_own rows r f.0)

  -- the rows of a joined id, and that they are the same
  pub joined-rows : (same : X → X → Bool) (rows_a rows_b : List X) → IsKeyed id rows_a → IsKeyed id rows_b → (x : List ℕ) → joined_by id same rows_a rows_b x ≡ true
      → (r s : X) × (look id rows_a x ≡ Some r) × (look id rows_b x ≡ Some s) × (same r s ≡ true)
  joined-rows same rows_a rows_b keyed_a keyed_b x j =
      let a = holds_at-Some _ _ (sym (keyed_a x (λ row. look_any id rows_b x (same row))) ∙ j) in
      let b = holds_at-Some _ _ (sym (keyed_b x (same a.0)) ∙ a.2) in
      (a.0, b.0, a.1, b.1, b.2)

-- A's rows by f and then B's by g, which renames their ids
module _ {X : Type 0} (id : X → List ℕ) (f g : X → X) (rename : Renaming) (rows_a rows_b : List X)
    (f_id : (r : X) → id (f r) ≡ id r) (g_id : (r : X) → id (g r) ≡ rename (id r)) where
  abbrev rows : List X
  rows = by_id id (map f rows_a ++ map g rows_b)

  look-a : (q : List ℕ) → look id (map f rows_a) q ≡ option_map f (look id rows_a q)
  look-a q = find-map (λ r. bytes_eq (id r) q) f rows_a ∙ ap (option_map f) (find-alike (λ r. bytes_eq (id (f r)) q) (λ r. bytes_eq (id r) q) rows_a (λ r i. ap (λ x. bytes_eq x q) (f_id r)))

  look-both : (q : List ℕ) → look id rows q ≡ option_or (option_map f (look id rows_a q)) (look id (map g rows_b) q)
  look-both q = look-by_id id (map f rows_a ++ map g rows_b) q ∙ find-append (λ r. bytes_eq (id r) q) (map f rows_a) (map g rows_b) ∙ ap (λ o. option_or o (look id (map g rows_b) q)) (look-a q)

  -- a row of A is found under its id
  pub merged-a : (q : List ℕ) (r : X) → look id rows_a q ≡ Some r → look id rows q ≡ Some (f r)
  merged-a q r e = look-both q ∙ ap (λ o. option_or (option_map f o) (look id (map g rows_b) q)) e

  past_a : (q : List ℕ) → lists_id (map id rows_a) q ≡ false → look id rows q ≡ look id (map g rows_b) q
  past_a q h = look-both q ∙ ap (λ o. option_or (option_map f o) (look id (map g rows_b) q)) (not_found id rows_a q h)

  -- a row of B whose new id A lacks and no other id of B gets is found under that id
  pub merged-b : (x : List ℕ) → ((y : List ℕ) → lists_id (map id rows_b) y ≡ true → rename y ≡ rename x → y ≡ x) → lists_id (map id rows_a) (rename x) ≡ false → look id rows (rename x) ≡ option_map g (look id rows_b x)
  merged-b x apart h = past_a (rename x) h ∙ find-map (λ r. bytes_eq (id r) (rename x)) g rows_b
      ∙ ap (option_map g) (find-alike (λ r. bytes_eq (id (g r)) (rename x)) (λ r. bytes_eq (id r) x) rows_b
      (λ r i. same_tests _ _
      (λ e. bytes_same _ _ (apart (id r) (has_own id rows_b r i) (sym (g_id r) ∙ same_bytes _ _ e)))
      (λ e. bytes_same _ _ (g_id r ∙ ap rename (same_bytes _ _ e)))))

  -- what is found there is A's, or has the new id of a row of B
  pub merged-from : (q : List ℕ) (r : X) → look id rows q ≡ Some r → (lists_id (map id rows_a) q ≡ true) ⊎ ((lists_id (map id rows_a) q ≡ false) × (s : X) × In s rows_b × (rename (id s) ≡ q))
  merged-from q r e = elim (cases_Bool (lists_id (map id rows_a) q)) as (λ w. (lists_id (map id rows_a) q ≡ true) ⊎ ((lists_id (map id rows_a) q ≡ false) × (s : X) × In s rows_b × (rename (id s) ≡ q))) [
    | inl h ↦ inl h
    | inr h ↦
        let o : option_map g (find (λ s. bytes_eq (id (g s)) q) rows_b) ≡ Some r = sym (find-map (λ r. bytes_eq (id r) q) g rows_b) ∙ sym (past_a q h) ∙ e in
        let s = some_of (find (λ s. bytes_eq (id (g s)) q) rows_b) r o in
        let w = find-In (λ s. bytes_eq (id (g s)) q) rows_b s.0 s.1 in
        inr (h, s.0, w.0, sym (g_id s.0) ∙ same_bytes _ _ w.1)
  ]
    where
      some_of : (o : Option X) (r : X) → option_map g o ≡ Some r → (s : X) × (o ≡ Some s)
      some_of None r e = absurd (true≢false (ap is_some (sym e)))
      some_of (Some s) r e = (s, refl)

  -- where names follow the rule of all kinds, and joined rows are one: each row of B is found under its new id
  pub merged-renamed : (same : X → X → Bool) → IsKeyed id rows_a → IsKeyed id rows_b
      → ((x y : List ℕ) → lists_id (map id rows_b) x ≡ true → lists_id (map id rows_b) y ≡ true → rename x ≡ rename y → x ≡ y)
      → ((x : List ℕ) → lists_id (map id rows_a) (rename x) ≡ true → (rename x ≡ x) × (joined_by id same rows_a rows_b x ≡ true))
      → ((r s : X) → id r ≡ id s → rename (id s) ≡ id s → same r s ≡ true → f r ≡ g s)
      → (x : List ℕ) → lists_id (map id rows_b) x ≡ true → look id rows (rename x) ≡ option_map g (look id rows_b x)
  merged-renamed same keyed_a keyed_b apart into agree x hx = elim (cases_Bool (lists_id (map id rows_a) (rename x))) as (λ w. look id rows (rename x) ≡ option_map g (look id rows_b x)) [
    | inr h ↦ merged-b x (λ y hy e. apart y x hy hx e) h
    | inl h ↦
        let w = into x h in
        let j = joined-rows id same rows_a rows_b keyed_a keyed_b x w.1 in
        let ra = found_id id rows_a x j.0 j.2 in
        let rb = found_id id rows_b x j.1 j.3 in
        ap (look id rows) w.0 ∙ merged-a x j.0 j.2 ∙ ap Some (agree j.0 j.1 (ra.1 ∙ sym rb.1) (ap rename rb.1 ∙ w.0 ∙ sym rb.1) j.4) ∙ ap (option_map g) (sym j.3)
  ]
