-- Numbers that are given to trips: those of trips.txt have theirs, and others get theirs one after the other.
use Rattle.std.proofs.Common.{◌≡◌, ◌+◌, ◌<◌, ◌∙◌, ◌++◌, ◌∷◌, [], ℕ, List, map, filter, append-nil, length, length-append, get_or, true, false, Bool, cond, Bor, Option, Some, None, refl, sym, ap, arith, inl, inr}
use Rattle.std.specs.Prelude.{bytes_eq, position}
use Rattle.std.specs.BTreeMap.{BTreeMap, is_at, IsUnchanged}
use Rattle.std.specs.Cmp.Lexicographic.{slice_cmp}
use Rattle.std.specs.List.{All}
use Rattle.std.specs.Map.{lookup, update}
use Rattle.std.specs.Ordering.{nat_cmp}
use Rattle.std.specs.Option.{option_or, unwrap_or}
use Rattle.std.proofs.lemmas.Bool.{cases_Bool}
use Rattle.std.proofs.Math.ListN.{get_or-append}
use Rattle.std.proofs.Math.Seq.{get_or-append_seam}
use Rattle.std.proofs.lemmas.List.{append_assoc, length-map, map-append}
use Rattle.std.proofs.lemmas.List.Quantifiers.{position-Some}
use Rattle.std.proofs.lemmas.List.Elements.{All-filter, All-push}
use Rattle.gtfs_stop_times.specs.declared.stop_time.StopTime.{StopTime}
use Rattle.gtfs_trip_rules.specs.TripNotes.{note_of}
use Rattle.gtfs_trip_rules.specs.TripNumbers.{AllNumbered, AreNamed, AreNumbered, HaveNumbers, IsNumbered, Keeps, name_at, number_of_trip, other_number}
use Rattle.gtfs_schema.proofs.SiteFacts.{text_is, text_itself}
use Rattle.gtfs_stop_times.proofs.KeptListFacts.{map_alike}

module _ (trips : List (List ℕ)) where
  -- ---- a trip more that has no number yet

  abbrev texts : List (Bor (List ℕ)) → List (List ℕ)
  texts names = map (λ (t : Bor (List ℕ)). t.now) names

  more : (names : List (Bor (List ℕ))) (name : Bor (List ℕ)) → trips ++ texts (names ++ name ∷ []) ≡ (trips ++ texts names) ++ name.now ∷ []
  more names name = ap (λ ts. trips ++ ts) (map-append (λ (t : Bor (List ℕ)). t.now) names (name ∷ [])) ∙ sym (append_assoc trips (texts names) (name.now ∷ []))

  many : (names : List (Bor (List ℕ))) → length (trips ++ texts names) ≡ length trips + length names
  many names = length-append trips (texts names) ∙ ap (λ n. length trips + n) (length-map names (λ (t : Bor (List ℕ)). t.now))

  pub name_first : (names : List (Bor (List ℕ))) (name : Bor (List ℕ)) (n : ℕ) → n < length trips + length names → name_at trips (names ++ name ∷ []) n ≡ name_at trips names n
  name_first names name n below =
      ap (λ ts. get_or ts n []) (more names name)
      ∙ get_or-append (trips ++ texts names) (name.now ∷ []) [] n (omega (arith, below, many names))

  name_last : (names : List (Bor (List ℕ))) (name : Bor (List ℕ)) → name_at trips (names ++ name ∷ []) (length trips + length names) ≡ name.now
  name_last names name =
      ap (λ ts. get_or ts (length trips + length names) []) (more names name)
      ∙ ap (λ n. get_or ((trips ++ texts names) ++ name.now ∷ []) n []) (sym (many names))
      ∙ get_or-append_seam (trips ++ texts names) name.now [] []

  pub still_named : (numbers : BTreeMap (Bor (List ℕ)) ℕ) (names : List (Bor (List ℕ))) (name : Bor (List ℕ)) → AreNamed trips numbers names → AreNamed trips numbers (names ++ name ∷ [])
  still_named numbers names name named id n has =
      let before = named id n has in
      (omega (arith, before.0, length-append names (name ∷ [])), name_first names name n before.0 ∙ before.1)

  abbrev rank : List ℕ → Option ℕ
  rank id = position (λ k. bytes_eq k id) trips

  or_none : (o : Option ℕ) → option_or o None ≡ o
  or_none None = refl
  or_none (Some n) = refl

  -- the trips of trips.txt have their numbers
  pub first_named : (numbers : BTreeMap (Bor (List ℕ)) ℕ) → ((id : List ℕ) → other_number numbers id ≡ None) → AreNamed trips numbers []
  first_named numbers none id n has =
      let at = position-Some (λ k. bytes_eq k id) trips n [] (sym (ap (option_or (rank id)) (none id) ∙ or_none (rank id)) ∙ has) in
      (omega (arith, at.0), ap (λ ts. get_or ts n []) (append-nil trips) ∙ text_is (get_or trips n []) id at.1)

  module _ (old new : BTreeMap (Bor (List ℕ)) ℕ) (names : List (Bor (List ℕ))) (name : Bor (List ℕ)) (next : ℕ) (is_next : next ≡ length trips + length names)
      (no_rank : rank name.now ≡ None) (none : other_number old name.now ≡ None)
      (wrote : (id : List ℕ) → other_number new id ≡ update bytes_eq (other_number old) name.now (Some next) id) where
    written : (id : List ℕ) (b : Bool) → bytes_eq name.now id ≡ b → number_of_trip trips new id ≡ option_or (rank id) (cond b (Some next) (other_number old id))
    written id b is = ap (option_or (rank id)) (wrote id ∙ ap (λ t. cond t (Some next) (other_number old id)) is)

    new_number : (id : List ℕ) → bytes_eq name.now id ≡ true → number_of_trip trips new id ≡ Some next
    new_number id same = written id true same ∙ ap (λ o. option_or o (Some next)) (ap rank (sym (text_is name.now id same)) ∙ no_rank)

    pub number_stays : Keeps trips old new
    number_stays id n has = elim (cases_Bool (bytes_eq name.now id)) [
      | inl same ↦
          let is : name.now ≡ id = text_is name.now id same in
          let nowhere : number_of_trip trips old id ≡ None = ap (number_of_trip trips old) (sym is) ∙ (λ i. option_or (no_rank i) (none i)) in
          let clash : None ≡ Some n = sym nowhere ∙ has in cc
      | inr other ↦ written id false other ∙ has
    ]

    -- the new trip has the next number
    pub now_numbered : number_of_trip trips new name.now ≡ Some next
    now_numbered = new_number name.now (text_itself name.now)

    pub now_named : AreNamed trips old names → AreNamed trips new (names ++ name ∷ [])
    now_named named id n has = elim (cases_Bool (bytes_eq name.now id)) [
      | inl same ↦
          let last : length trips + length names ≡ n = sym is_next ∙ ap (λ o. unwrap_or o 0) (sym (new_number id same) ∙ has) in
          (omega (arith, last, length-append names (name ∷ [])), ap (name_at trips (names ++ name ∷ [])) (sym last) ∙ name_last names name ∙ text_is name.now id same)
      | inr other ↦ still_named old names name named id n (sym (written id false other) ∙ has)
    ]

  -- ---- rows with the numbers of their trips

  module _ (old new : BTreeMap (Bor (List ℕ)) ℕ) (names more : List (Bor (List ℕ))) (rows : List StopTime) (each : HaveNumbers trips old names rows) (keeps : Keeps trips old new) (named : AreNamed trips new more) where
    -- each row's trip keeps its name
    names_stay : All (λ r. name_at trips more r.trip ≡ name_at trips names r.trip) rows
    names_stay k d below = (named _ _ (keeps _ _ (each k d below))).1

    pub rows_stay : HaveNumbers trips new more rows
    rows_stay k d below = ap (number_of_trip trips new) (names_stay k d below) ∙ keeps _ _ (each k d below)

    pub notes_stay : map (note_of (name_at trips more)) rows ≡ map (note_of (name_at trips names)) rows
    notes_stay = map_alike (note_of (name_at trips more)) (note_of (name_at trips names)) rows (λ k d below. of_name (get_or rows k d) (names_stay k d below))
      where
        of_name : (r : StopTime) → name_at trips more r.trip ≡ name_at trips names r.trip → note_of (name_at trips more) r ≡ note_of (name_at trips names) r
        of_name r same = ap (λ t. note_of (λ n. t) r) same

  pub kept_numbers : (numbers : BTreeMap (Bor (List ℕ)) ℕ) (names : List (Bor (List ℕ))) (rows : List StopTime) (p : StopTime → Bool) → AreNumbered trips numbers names rows
      → AllNumbered (λ id. unwrap_or (number_of_trip trips numbers id) 0) (name_at trips names) (filter p rows)
  kept_numbers numbers names rows p are =
      All-filter p (IsNumbered (λ id. unwrap_or (number_of_trip trips numbers id) 0) (name_at trips names)) rows (λ k d below. ap (λ o. unwrap_or o 0) (are.numbered k d below))

  pub one_numbered : (numbers : BTreeMap (Bor (List ℕ)) ℕ) (names : List (Bor (List ℕ))) (rows : List StopTime) (row : StopTime) (id : List ℕ) → AreNamed trips numbers names → HaveNumbers trips numbers names rows
      → number_of_trip trips numbers id ≡ Some row.trip → AreNumbered trips numbers names (rows ++ row ∷ [])
  one_numbered numbers names rows row id named each here = record {
    named = named;
    numbered = All-push (λ (r : StopTime). number_of_trip trips numbers (name_at trips names r.trip) ≡ Some r.trip) rows row each (ap (number_of_trip trips numbers) (named _ _ here).1 ∙ here);
  }

-- the map as it was
pub unchanged : (old new : BTreeMap (Bor (List ℕ)) ℕ) → IsUnchanged old new → (id : List ℕ) → other_number new id ≡ other_number old id
unchanged old new same id = ap (lookup (is_at (λ (key : Bor (List ℕ)). slice_cmp nat_cmp id key.now))) same
