-- The new numbers of both sides are those of the rows that their ids became.
use Rattle.std.proofs.Common.{◌≡◌, ◌<◌, ◌+◌, ◌^◌, ℕ, zero, suc, true, not, List, [], ◌∷◌, ◌++◌, Some, None, Option, refl, sym, ap, ◌∙◌, subst, inl, inr, length, map, filter, get_or, bytes_eq, is_some, arith}
use Rattle.std.specs.Prelude.{IfSome}
use Rattle.std.specs.List.{All, Contains, range_with_len}
use Rattle.std.proofs.lemmas.List.{get_or-map, length-map}
use Rattle.std.proofs.lemmas.List.Elements.{Contains-append_cases, Contains-append_left, Contains-append_right, Contains-get_or}
use Rattle.std.proofs.lemmas.List.Quantifiers.{position-Some}
use Rattle.gtfs_schema.proofs.SiteFacts.{text_is as same_bytes}
use Rattle.gtfs_rows.specs.RowsInMemory.{IsSoundParts, content_of_parts, text_of_number}
use Rattle.gtfs_rows.proofs.SameElements.{contains-filter, contains-from_map, contains-map, same-from_permutation}
use Rattle.gtfs_merge.specs.MergeEntries.{Entry, entry_of, is_apart, rows_of_a, rows_of_b}
use Rattle.gtfs_merge.specs.EntryRows.{AreMergedRows}
use Rattle.gtfs_merge.specs.FeedIds.{known_ids}
use Rattle.gtfs_merge.specs.NewNumbers.{AreNewNumbers, AreNumbered, AreRenumbered, IsIndexOf, NewNumbers, number_or, numbers_of}
use Rattle.gtfs_merge.specs.Renaming.{lists_id, ids, renaming}
use Rattle.gtfs_merge.specs.MergedSides.{side_parts, side_names, merged_ids}
use Rattle.gtfs_merge.specs.Twins.{of_kind, twin_number, twin_rows}
use Rattle.gtfs_merge.specs.declared.kind.Kind.{Kind}
use Rattle.gtfs_merge.specs.declared.kind.Side.{Side}
use Rattle.gtfs_merge.specs.declared.kind.Side.TheVariants as side
use Rattle.gtfs_merge.specs.declared.sides.Sides.{Sides}
use Rattle.gtfs_merge.proofs.JoinedIds.{of-kind, twin-at}
use Rattle.gtfs_merge.proofs.MergedOrder.{range-has}
use Rattle.gtfs_merge.proofs.MergesOfKinds.{has-twin, twin-stays}

-- lists that agree at each index under both functions
maps-alike : {X Y Z : Type 0} (f : X → Z) (g : Y → Z) (xs : List X) (ys : List Y) (x : X) (y : Y) → length xs ≡ length ys → ((k : ℕ) → k < length ys → f (get_or xs k x) ≡ g (get_or ys k y)) → map f xs ≡ map g ys
maps-alike f g [] [] x y long each = refl
maps-alike f g [] (v ∷ ys) x y long each = absurd (omega (arith, long))
maps-alike f g (u ∷ xs) [] x y long each = absurd (omega (arith, long))
maps-alike f g (u ∷ xs) (v ∷ ys) x y long each =
    let rest : length xs ≡ length ys = omega (arith, long) in
    λ i. each 0 (omega arith) i ∷ maps-alike f g xs ys x y rest (λ k within. each (suc k) (omega arith)) i

module _ (k : Kind) (sides : Sides) (es : List Entry) (rows : AreMergedRows k sides es) where
  abbrev merged : List (List ℕ)
  merged = merged_ids k sides

  abbrev named : Side → ℕ → List ℕ
  named s n = renaming (side_names s sides) k (text_of_number (known_ids k (side_parts s sides)) n)

  abbrev known : Side → List (List ℕ)
  known s = known_ids k (side_parts s sides)

  -- an entry is what its side and its number tell
  pub own-entry : (e : Entry) → Contains es e → e ≡ entry_of e.side k sides e.number
  own-entry e at = elim (Contains-append_cases (rows_of_a k sides) (rows_of_b k sides) e ((same-from_permutation (rows_of_a k sides ++ rows_of_b k sides) es rows.same).back e at)) as (λ w. e ≡ entry_of e.side k sides e.number) [
    | inl first ↦ let n = contains-from_map (entry_of side.A k sides) (range_with_len 0 (length (known_ids k sides.a.now))) e first in sym n.1.1 ∙ ap (λ (o : Entry). entry_of o.side k sides o.number) n.1.1
    | inr second ↦
        let n = contains-from_map (entry_of side.B k sides) (filter (is_apart k sides) (range_with_len 0 (length (known_ids k sides.b.now)))) e second in
        sym n.1.1 ∙ ap (λ (o : Entry). entry_of o.side k sides o.number) n.1.1
  ]

  has-a : (n : ℕ) → n < length (known_ids k sides.a.now) → Contains es (entry_of side.A k sides n)
  has-a n within = (same-from_permutation (rows_of_a k sides ++ rows_of_b k sides) es rows.same).there (entry_of side.A k sides n)
      (Contains-append_left (rows_of_a k sides) (rows_of_b k sides) (entry_of side.A k sides n) (contains-map (entry_of side.A k sides) (range_with_len 0 (length (known_ids k sides.a.now))) n (range-has (length (known_ids k sides.a.now)) n within)))

  has-b : (n : ℕ) → n < length (known_ids k sides.b.now) → is_apart k sides n ≡ true → Contains es (entry_of side.B k sides n)
  has-b n within apart = (same-from_permutation (rows_of_a k sides ++ rows_of_b k sides) es rows.same).there (entry_of side.B k sides n)
      (Contains-append_right (rows_of_a k sides) (rows_of_b k sides) (entry_of side.B k sides n) (contains-map (entry_of side.B k sides) (filter (is_apart k sides) (range_with_len 0 (length (known_ids k sides.b.now)))) n
      (contains-filter (is_apart k sides) (range_with_len 0 (length (known_ids k sides.b.now))) n apart (range-has (length (known_ids k sides.b.now)) n within))))

  -- a new number: the merged feed has there what the id became
  pub record IsNew (s : Side) (n index : ℕ) : Type 0 where
    pub within : index < length merged
    pub is : text_of_number merged index ≡ named s n

  new-by : (s : Side) (n index : ℕ) → IsIndexOf es (entry_of s k sides n) index → IsNew s n index
  new-by s n index at =
      let e : Entry = get_or es index (entry_of s k sides n) in
      let count : length merged ≡ length es = ap length (sym rows.ids) ∙ length-map es (λ e. e.id) in
      let inside = at.within in
      let own = own-entry e (Contains-get_or es index (entry_of s k sides n) inside) in
      record {
        within = omega arith;
        is = ap (λ xs. get_or xs index []) (sym rows.ids) ∙ get_or-map (λ (e : Entry). e.id) es index (entry_of s k sides n) [] inside ∙ ap (λ (o : Entry). o.id) own
            ∙ (λ i. named (at.side (entry_of s k sides n) i) (at.number (entry_of s k sides n) i));
      }

  module _ (n : NewNumbers) (are : AreNumbered es n es) where
    new-at : (s : Side) (m : ℕ) → Contains es (entry_of s k sides m) → IsNew s m (get_or (numbers_of n s) m 0)
    new-at s m at = new-by s m (get_or (numbers_of n s) m 0)
        (subst (λ (e : Entry). IsIndexOf es e (get_or (numbers_of n e.side) e.number 0)) at.2 (are at.0 (entry_of s k sides m) at.1))

  -- numbers of which each is new
  pub are-new : (s : Side) (numbers : List ℕ) → length numbers ≡ length (known s) → ((m : ℕ) → m < length (known s) → IsNew s m (get_or numbers m 0)) → AreNewNumbers merged (renaming (side_names s sides) k) (known s) numbers
  are-new s numbers count each = record {
    within = λ m d inside. subst (λ x. x < length merged) (get_or_same numbers m 0 d inside) (each m (omega (arith, inside, count))).within;
    named = maps-alike (text_of_number merged) (renaming (side_names s sides) k) numbers (known s) 0 [] count (λ m inside. (each m inside).is);
  }
    where
      get_or_same : (xs : List ℕ) (m c d : ℕ) → m < length xs → get_or xs m c ≡ get_or xs m d
      get_or_same [] m c d within = absurd (omega arith)
      get_or_same (x ∷ xs) zero c d within = refl
      get_or_same (x ∷ xs) (suc m) c d within = get_or_same xs m c d (omega arith)

  module _ (sound_a : IsSoundParts sides.a.now) (sound_b : IsSoundParts sides.b.now) (few : (k : Kind) → length (ids k (content_of_parts sides.a.now)) + length (ids k (content_of_parts sides.b.now)) < 2 ^ 65) where
    abbrev twin_of : ℕ → Option ℕ
    twin_of m = twin_number k sides (get_or (known_ids k sides.b.now) m [])

    -- what is told of a row of B, with a twin or without
    new-b : (old new : NewNumbers) → AreNumbered es old es → (m : ℕ) → m < length (known_ids k sides.b.now) → (o : Option ℕ) → twin_of m ≡ o → get_or new.b m 0 ≡ number_or old.a o (get_or old.b m 0) → IsNew side.B m (get_or new.b m 0)
    new-b old new are m within None none is = subst (IsNew side.B m) (sym is) (new-at old are side.B m (has-b m within (ap (λ o. not (is_some o)) none)))
    new-b old new are m within (Some first) some is =
        let x = get_or (known_ids k sides.b.now) m [] in
        let name = renaming (side_names side.B sides) k x in
        let there = position-Some (bytes_eq name) (known_ids k sides.a.now) first [] some in
        let same : name ≡ get_or (known_ids k sides.a.now) first [] = same_bytes name (get_or (known_ids k sides.a.now) first []) there.1 in
        let has : lists_id (ids k (content_of_parts sides.a.now)) name ≡ true = sym (has-twin sides sound_a sound_b few k x) ∙ ap is_some some in
        let of_a = new-at old are side.A first (has-a first there.0) in
        record {
          within = subst (λ n. n < length merged) (sym is) of_a.within;
          is = ap (text_of_number merged) is ∙ of_a.is ∙ ap (renaming (side_names side.A sides) k) (sym same) ∙ twin-stays sides sound_a sound_b few k x has;
        }

    pub renumbered : (old new : NewNumbers) → AreNumbered es old es → length old.a ≡ length (known_ids k sides.a.now) → length old.b ≡ length (known_ids k sides.b.now) → new.a ≡ old.a → length new.b ≡ length old.b
        → ((m : ℕ) → m < length old.b → get_or new.b m 0 ≡ number_or old.a (get_or (of_kind (twin_rows sides) k) m None) (get_or old.b m 0)) → AreRenumbered k sides new
    renumbered old new are long_a long_b kept count each side.A =
        are-new side.A new.a (ap length kept ∙ long_a) (λ m within. subst (λ (xs : List ℕ). IsNew side.A m (get_or xs m 0)) (sym kept) (new-at old are side.A m (has-a m within)))
    renumbered old new are long_a long_b kept count each side.B =
        are-new side.B new.b (count ∙ long_b) (λ m within.
        new-b old new are m within (twin_of m) refl (each m (omega (arith, within, long_b)) ∙ ap (λ o. number_or old.a o (get_or old.b m 0)) (twin-at sides k m within)))

-- the twins of rows of B are there
pub twins-within : (k : Kind) (sides : Sides) → All (λ o. IfSome o (λ n. n < length (known_ids k sides.a.now))) (of_kind (twin_rows sides) k)
twins-within k sides = subst (All (λ o. IfSome o (λ n. n < length (known_ids k sides.a.now)))) (sym (of-kind sides k)) (each (known_ids k sides.b.now))
  where
    some : (x : List ℕ) (o : Option ℕ) → twin_number k sides x ≡ o → IfSome o (λ n. n < length (known_ids k sides.a.now))
    some x None e = tt
    some x (Some n) e = (position-Some (bytes_eq (renaming (side_names side.B sides) k x)) (known_ids k sides.a.now) n [] e).0

    each : (xs : List (List ℕ)) → All (λ o. IfSome o (λ n. n < length (known_ids k sides.a.now))) (map (twin_number k sides) xs)
    each [] m d within = absurd (omega arith)
    each (x ∷ xs) zero d within = some x (twin_number k sides x) refl
    each (x ∷ xs) (suc m) d within = each xs m d (omega arith)

-- the number of an entry is that of a row of its side
pub entry-within : (k : Kind) (sides : Sides) (n : NewNumbers) → length n.a ≡ length (known_ids k sides.a.now) → length n.b ≡ length (known_ids k sides.b.now) → (s : Side) (m : ℕ) → m < length (known_ids k (side_parts s sides)) → m < length (numbers_of n s)
entry-within k sides n long_a long_b side.A m within = subst (λ x. m < x) (sym long_a) within
entry-within k sides n long_a long_b side.B m within = subst (λ x. m < x) (sym long_b) within
