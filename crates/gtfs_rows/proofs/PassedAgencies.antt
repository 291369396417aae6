-- The agencies and routes of a dataset that passes: E01, E02, E05, E12 and E13.
use Rattle.std.proofs.Common.{◌≡◌, ◌∙◌, ℕ, List, [], ◌∷◌, length, map, true, false, Bool, Option, Some, None, refl, sym, ap, inl, inr, arith}
use Rattle.std.specs.Prelude.{◌==◌, ◌&&◌, ◌||◌, not, nat_lt, bytes_eq, codes, find, is_some, option_and_then, unwrap_or}
use Rattle.std.specs.Cmp.Lexicographic.{nat_list_cmp_total}
use Rattle.std.specs.List.{Contains, list_all}
use Rattle.std.proofs.lemmas.Bool.{and_from, or_left, or_right, cases_Bool, not_from_false, and_cases, true≢false, not-false as not_false}
use Rattle.std.proofs.lemmas.Bool.Decides.{nat_tests}
use Rattle.gtfs_field.specs.TextOrder.{text_cmp}
use Rattle.gtfs_table.specs.Rows.{is_row, records_in, rows, is_empty, has_no_record}
use Rattle.gtfs_table.specs.Tables.{Dataset, table_of, table_state}
use Rattle.gtfs_table.specs.declared.file.File.TheVariants as file
use Rattle.gtfs_table.specs.declared.state.State.{State}
use Rattle.gtfs_table.specs.declared.state.State.TheVariants as state
use Rattle.gtfs_schema.specs.declared.code.Code.TheVariants as code
use Rattle.gtfs_schema.specs.Columns.{id, text}
use Rattle.gtfs_schema.specs.FileRules.{is_absent_state, is_not_utf8_state, is_read_state, is_read}
use Rattle.gtfs_schema.specs.PresenceRules.{has_many_agencies, lacks_agency, lacks_name, first_zone, has_other_zone}
use Rattle.gtfs_schema.specs.Problems.{Passes}
use Rattle.gtfs_schema.specs.RowConditions.{text_in, value_in, word_in, is_readable_in, is_empty_in, row_with}
use Rattle.gtfs_schema.specs.FieldValues.{if_both}
use Rattle.gtfs_schema.proofs.SiteFacts.{text_is, text_itself}
use Rattle.gtfs_rows.specs.TransferOrder.{by_key}
use Rattle.gtfs_rows.specs.ContentRead.{text_at, agency_in, first_agency, route_in, content_of}
use Rattle.gtfs_rows.specs.Rows.{Agency}
use Rattle.gtfs_rows.specs.SoundContent.{has_id, is_sound_agency, is_sound_route}
use Rattle.gtfs_rows.proofs.ContentRows.{row_of, all_made}
use Rattle.gtfs_rows.proofs.Held.{text_antisymmetric}
use Rattle.gtfs_rows.proofs.KeyedRows.{stays, found_is}
use Rattle.gtfs_rows.proofs.PassedReferences.{after, after_one, one_known, no_error, none_unknown, has_made, agency_known}
use Rattle.gtfs_rows.proofs.KindOptions.{value_of_word}
use Rattle.gtfs_rows.proofs.PassedValues.{word_is, word_there, given_id, optional_id, word_if_filled}
use Rattle.gtfs_rows.proofs.SameElements.{contains-first, contains-none, contains-cases, contains-map}
use Rattle.gtfs_rows.proofs.TripsAgain.{by_key_again}

-- ---- lists

pub nonempty : {X : Type 0} (xs : List X) (x : X) → Contains xs x → (length xs == 0) ≡ false
nonempty [] x at = absurd (contains-none x at)
nonempty (y ∷ xs) x at = let e : (length (y ∷ xs) == 0) ≡ false = grind (arith, nat_tests) in e

pub some_row : (ns : List ℕ) → (length ns == 0) ≡ false → (n : ℕ) × Contains ns n
some_row [] none = cc
some_row (n ∷ ns) some = (n, contains-first n n ns refl)

only_row : (ns : List ℕ) (n : ℕ) → Contains ns n → nat_lt 1 (length ns) ≡ false → ns ≡ n ∷ []
only_row [] n at few = absurd (contains-none n at)
only_row (m ∷ []) n at few = elim (contains-cases n m [] at) [
  | inl same ↦ ap (λ k. k ∷ []) same
  | inr later ↦ absurd (contains-none n later)
]
only_row (m ∷ k ∷ ns) n at few = let many : nat_lt 1 (length (m ∷ k ∷ ns)) ≡ true = grind (arith, nat_tests) in absurd (true≢false (sym many ∙ few))

pub not_missed : {X : Type 0} (p : X → Bool) (xs : List X) (x : X) → Contains xs x → p x ≡ true → find p xs ≡ None → ⊥
not_missed p [] x at passes none = contains-none x at
not_missed p (y ∷ xs) x at passes none = elim (cases_Bool (p y)) [
  | inl here ↦ let some : Some y ≡ None = rw here at none in cc
  | inr other ↦ elim (contains-cases x y xs at) [
    | inl same ↦ true≢false (sym passes ∙ ap p (sym same) ∙ other)
    | inr later ↦ not_missed p xs x later passes (rw other at none)
  ]
]

pub filled_some : (some empty : Bool) → some ≡ not empty → empty ≡ false → some ≡ true
filled_some some empty same filled = same ∙ not_from_false empty filled

-- ---- agency.txt has a row

read_from : (s : State) → ((is_absent_state s || false) || false) ≡ false → is_not_utf8_state s ≡ false → is_read_state s ≡ true
read_from state.Absent absent other = cc
read_from state.NotUtf8 absent other = cc
read_from state.Read absent other = refl

filled_from : (read none blank : Bool) → read ≡ true → (read && (none || false)) ≡ false → (read && (not none && blank)) ≡ false → blank ≡ false
filled_from true true blank r first second = cc
filled_from true false blank r first second = second
filled_from false none blank r first second = cc

module _ (d : Dataset) (passes : Passes d) where
  agency_read : is_read d file.Agency ≡ true
  agency_read = read_from (table_state (table_of d file.Agency)) (no_error d passes code.E01 file.Agency 0 [] refl) (no_error d passes code.E02 file.Agency 0 [] refl)

  has_agency_row : (length (rows d file.Agency) == 0) ≡ false
  has_agency_row = filled_from (is_read d file.Agency) (has_no_record d file.Agency) (length (rows d file.Agency) == 0) agency_read
      (no_error d passes code.E05 file.Agency 0 [] refl) (no_error d passes code.E05 file.Agency 1 [] refl)

  pub has_agency : not (length (content_of d).agencies == 0) ≡ true
  has_agency =
      let n = some_row (rows d file.Agency) has_agency_row in
      let a = stays text_cmp nat_list_cmp_total (λ a. a.agency_id) (map (agency_in d) (rows d file.Agency)) (agency_in d n.0) (contains-map (agency_in d) (rows d file.Agency) n.0 n.1) in
      ap not (nonempty (content_of d).agencies a.row a.among)

  -- ---- agencies

  -- E12: an agency without an id is the only one
  only_agency : (n : ℕ) → Contains (rows d file.Agency) n → is_empty_in d file.Agency n "agency_id" ≡ true → (length (content_of d).agencies == 1) ≡ true
  only_agency n at empty =
      let row = row_of d file.Agency n at in
      let lacks : lacks_agency file.Agency d n ≡ false = after_one (is_row (records_in d file.Agency) n) (lacks_agency file.Agency d n) row (no_error d passes code.E12 file.Agency n (codes "agency_id") refl) in
      let few : has_many_agencies d ≡ false = before (has_many_agencies d) (is_empty_in d file.Agency n "agency_id") empty lacks in
      ap (λ ns. length (by_key text_cmp (λ (a : Agency). a.agency_id) (map (agency_in d) ns)) == 1) (only_row (rows d file.Agency) n at few)
      ∙ ap (λ (xs : List Agency). length xs == 1) (by_key_again text_cmp nat_list_cmp_total text_antisymmetric (λ (a : Agency). a.agency_id) (agency_in d n ∷ []) (λ i j e h l. absurd (omega arith)))
    where
      before : (a b : Bool) → b ≡ true → (a && b) ≡ false → a ≡ false
      before true b h e = absurd (true≢false (sym h ∙ e))
      before false b h e = refl

  zone_is : (n : ℕ) → Contains (rows d file.Agency) n → word_in d file.Agency n "agency_timezone" ≡ Some (text_at d file.Agency n "agency_timezone")
  zone_is n at = word_is d passes file.Agency n (row_of d file.Agency n at) "agency_timezone" id refl refl

  zone_readable : (n : ℕ) → Contains (rows d file.Agency) n → is_readable_in d file.Agency n "agency_timezone" ≡ true
  zone_readable n at = ap is_some (word_there d passes file.Agency n (row_of d file.Agency n at) "agency_timezone" id refl refl).reads.is

  -- E13: the zone of a row is the first row's
  as_first : (n m : ℕ) → Contains (rows d file.Agency) n → Contains (rows d file.Agency) m → first_zone d ≡ Some (text_at d file.Agency m "agency_timezone")
      → text_at d file.Agency n "agency_timezone" ≡ text_at d file.Agency m "agency_timezone"
  as_first n m at bt first =
      let zone = text_at d file.Agency n "agency_timezone" in
      let other = text_at d file.Agency m "agency_timezone" in
      let none : has_other_zone d n ≡ false = after (is_row (records_in d file.Agency) n) (has_other_zone d n) (row_of d file.Agency n at) (no_error d passes code.E13 file.Agency n (codes "agency_timezone") refl) in
      let same : not (bytes_eq zone other) ≡ false = sym (λ i. if_both (zone_is n at i) (first i) (λ z f. not (bytes_eq z f))) ∙ none in
      text_is zone other (not_false (bytes_eq zone other) same)

  first_zone_is : (o : Option ℕ) → find (λ m. is_readable_in d file.Agency m "agency_timezone") (rows d file.Agency) ≡ o → (n m : ℕ) → Contains (rows d file.Agency) n → Contains (rows d file.Agency) m
      → text_at d file.Agency n "agency_timezone" ≡ text_at d file.Agency m "agency_timezone"
  first_zone_is None none n m at bt = absurd (not_missed (λ k. is_readable_in d file.Agency k "agency_timezone") (rows d file.Agency) n at (zone_readable n at) none)
  first_zone_is (Some k) found n m at bt =
      let among = (found_is (λ j. is_readable_in d file.Agency j "agency_timezone") (rows d file.Agency) k found).among in
      let first : first_zone d ≡ Some (text_at d file.Agency k "agency_timezone") = ap (option_and_then (λ j. word_in d file.Agency j "agency_timezone")) found ∙ zone_is k among in
      as_first n k at among first ∙ sym (as_first m k bt among first)

  same_zone : (n m : ℕ) → Contains (rows d file.Agency) n → Contains (rows d file.Agency) m → bytes_eq (text_at d file.Agency n "agency_timezone") (text_at d file.Agency m "agency_timezone") ≡ true
  same_zone n m at bt =
      ap (bytes_eq (text_at d file.Agency n "agency_timezone")) (sym (first_zone_is _ refl n m at bt)) ∙ text_itself (text_at d file.Agency n "agency_timezone")

  agency_sound : (n : ℕ) → Contains (rows d file.Agency) n → is_sound_agency (content_of d) (agency_in d n) ≡ true
  agency_sound n at =
      let t = text_at d file.Agency n "agency_id" in
      let row = row_of d file.Agency n at in
      and_from (not (is_empty t) || (length (content_of d).agencies == 1)) _
      (elim (cases_Bool (is_empty_in d file.Agency n "agency_id")) [
        | inl empty ↦ or_right (not (is_empty t)) (length (content_of d).agencies == 1) (only_agency n at empty)
        | inr filled ↦ or_left (not (is_empty t)) (length (content_of d).agencies == 1)
            (not_from_false (is_empty t) (ap is_empty (sym (given_id d passes file.Agency n row "agency_id" refl)) ∙ filled))
      ])
      (all_made text_cmp nat_list_cmp_total (λ a. a.agency_id) (agency_in d) (rows d file.Agency) (λ b. bytes_eq (text_at d file.Agency n "agency_timezone") b.agency_timezone) (λ m bt. same_zone n m at bt))

  pub agencies_sound : list_all (is_sound_agency (content_of d)) (content_of d).agencies ≡ true
  agencies_sound = all_made text_cmp nat_list_cmp_total (λ a. a.agency_id) (agency_in d) (rows d file.Agency) (is_sound_agency (content_of d)) agency_sound

  -- ---- routes

  -- the first agency is one of the content
  first_known : (ns : List ℕ) → (length ns == 0) ≡ false → ((m : ℕ) → Contains ns m → has_id (λ a. a.agency_id) (content_of d).agencies (text_at d file.Agency m "agency_id") ≡ true)
      → has_id (λ a. a.agency_id) (content_of d).agencies (first_agency d ns) ≡ true
  first_known [] some each = cc
  first_known (m ∷ ns) some each = each m (contains-first m m ns refl)

  route_agency : (n : ℕ) → is_row (records_in d file.Routes) n ≡ true → (o : Option (List ℕ)) → word_in d file.Routes n "agency_id" ≡ o
      → has_id (λ a. a.agency_id) (content_of d).agencies (unwrap_or o (first_agency d (rows d file.Agency))) ≡ true
  route_agency n row None none = first_known (rows d file.Agency) has_agency_row (has_made (λ a. a.agency_id) (agency_in d) (rows d file.Agency))
  route_agency n row (Some t) named =
      let there : is_some (value_in d file.Routes n (codes "agency_id")) ≡ true = value_of_word (value_in d file.Routes n (codes "agency_id")) t named in
      let text_is = optional_id d passes file.Routes n row "agency_id" refl t named in
      agency_known d passes t (ap (λ u. is_some (row_with d file.Agency (codes "agency_id") u)) (sym text_is)
      ∙ one_known (is_some (row_with d file.Agency (codes "agency_id") (text_in d file.Routes n (codes "agency_id")))) (none_unknown d passes file.Routes n (codes "agency_id") row there))

  route_sound : (n : ℕ) → Contains (rows d file.Routes) n → is_sound_route (content_of d) (route_in d n) ≡ true
  route_sound n at =
      let row = row_of d file.Routes n at in
      let short = is_some (word_in d file.Routes n "route_short_name") in
      let long = is_some (word_in d file.Routes n "route_long_name") in
      let lacks : lacks_name d n ≡ false = after_one (is_row (records_in d file.Routes) n) (lacks_name d n) row (no_error d passes code.E12 file.Routes n (codes "route_short_name") refl) in
      and_from (has_id (λ a. a.agency_id) (content_of d).agencies (route_in d n).agency_id) (short || long)
      (route_agency n row (word_in d file.Routes n "agency_id") refl)
      (elim (and_cases (is_empty_in d file.Routes n "route_short_name") (is_empty_in d file.Routes n "route_long_name") lacks) [
        | inl there ↦ or_left short long (filled_some short _ (word_if_filled d passes file.Routes n row "route_short_name" text refl refl) there)
        | inr there ↦ or_right short long (filled_some long _ (word_if_filled d passes file.Routes n row "route_long_name" text refl refl) there)
      ])

  pub routes_sound : list_all (is_sound_route (content_of d)) (content_of d).routes ≡ true
  routes_sound = all_made text_cmp nat_list_cmp_total (λ r. r.route_id) (route_in d) (rows d file.Routes) (is_sound_route (content_of d)) route_sound
