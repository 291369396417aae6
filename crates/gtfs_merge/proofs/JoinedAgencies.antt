-- Agencies of two feeds have one new id exactly where they are joined.
use Rattle.std.proofs.Common.{◌≡◌, ◌<◌, ◌+◌, ◌^◌, ℕ, Bool, true, false, not, List, [], ◌∷◌, ◌++◌, refl, sym, ap, ◌∙◌, subst, inl, inr, length, bytes_eq, codes, true≢false, length-append, arith}
use Rattle.std.specs.Prelude.{◌&&◌, ◌||◌, ◌==◌, if◌then◌else◌}
use Rattle.std.specs.List.{position}
use Rattle.std.proofs.lemmas.Bool.{and_parts, and_from, cases_Bool, not-true, or_left, or_parts}
use Rattle.gtfs_schema.proofs.SiteFacts.{text_is as same_bytes}
use Rattle.gtfs_schema.proofs.BoolFacts.{same_test as same_tests}
use Rattle.gtfs_rows.specs.Content.{Content}
use Rattle.gtfs_rows.specs.SoundContent.{IsSound}
use Rattle.gtfs_merge.specs.JoinedNumbers.{number_if}
use Rattle.gtfs_merge.specs.Renaming.{ids, lists_id, free_id, renamed_b, agency_a, agency_b, joined_agency}
use Rattle.gtfs_merge.specs.declared.kind.Kind.TheVariants as kind
use Rattle.gtfs_merge.proofs.Apart.{no-text, one-agency}
use Rattle.gtfs_merge.proofs.Fresh.{free_number-free, joined_stays, renamed_into_a}
use Rattle.gtfs_merge.proofs.FreeSearch.{has_both}
use Rattle.gtfs_merge.proofs.JoinedStops.{no-index, renamed-number}
use Rattle.gtfs_merge.proofs.Lookups.{bytes_same}

module _ (a b : Content) (sound_a : IsSound a) (few : length (ids kind.Agency a) + length (ids kind.Agency b) < 2 ^ 65) where
  abbrev ids_a : List (List ℕ)
  ids_a = ids kind.Agency a

  abbrev ids_b : List (List ℕ)
  ids_b = ids kind.Agency b

  abbrev taken : List (List ℕ)
  taken = ids_a ++ ids_b

  abbrev name : List ℕ
  name = codes "agency"

  -- the empty id that is not joined
  abbrev is_named : List ℕ → Bool
  is_named x = (length x == 0) && not (joined_agency a b x)

  -- the ids that the new id of B's empty one keeps clear of
  abbrev taken_b : List (List ℕ)
  taken_b = if lists_id ids_a [] then taken ++ agency_a a b [] ∷ [] else taken

  abbrev rule : List ℕ → List ℕ
  rule = renamed_b ids_a ids_b (joined_agency a b)

  few_both : length ids_a + length ids_b + 2 < 10 ^ 64
  few_both = omega arith

  free_of : (xs : List (List ℕ)) → length xs + 2 < 10 ^ 64 → lists_id xs (free_id xs name) ≡ false
  free_of xs small = (free_number-free xs name small).0

  few_taken : length taken + 2 < 10 ^ 64
  few_taken = let e = length-append ids_a ids_b in omega arith

  free : (lists_id ids_a (free_id taken name) ≡ false) × (lists_id ids_b (free_id taken name) ≡ false)
  free = or_parts _ _ (sym (has_both ids_a ids_b (free_id taken name)) ∙ free_of taken few_taken)

  few_more : (x : List ℕ) → length (taken ++ x ∷ []) + 2 < 10 ^ 64
  few_more x = let e = length-append taken (x ∷ []) in let f = length-append ids_a ids_b in omega arith

  free_more : (x : List ℕ) → (lists_id taken (free_id (taken ++ x ∷ []) name) ≡ false) × (lists_id (x ∷ []) (free_id (taken ++ x ∷ []) name) ≡ false)
  free_more x = or_parts _ _ (sym (has_both taken (x ∷ []) (free_id (taken ++ x ∷ []) name)) ∙ free_of (taken ++ x ∷ []) (few_more x))

  -- the new id of B's empty one is none of A's
  free_b : lists_id ids_a (free_id taken_b name) ≡ false
  free_b = elim (lists_id ids_a []) as (λ h. lists_id ids_a (free_id (if h then taken ++ agency_a a b [] ∷ [] else taken) name) ≡ false) [
    | true ↦ (or_parts _ _ (sym (has_both ids_a ids_b (free_id (taken ++ agency_a a b [] ∷ []) name)) ∙ (free_more (agency_a a b [])).0)).0
    | false ↦ free.0
  ]

  named_a : (x : List ℕ) → is_named x ≡ true → agency_a a b x ≡ free_id taken name
  named_a x e = ap (λ c. if c then free_id taken name else x) e

  kept_a : (x : List ℕ) → is_named x ≡ false → agency_a a b x ≡ x
  kept_a x e = ap (λ c. if c then free_id taken name else x) e

  named_b : (x : List ℕ) → is_named x ≡ true → agency_b a b x ≡ free_id taken_b name
  named_b x e = ap (λ c. if c then free_id taken_b name else rule x) e

  ruled_b : (x : List ℕ) → is_named x ≡ false → agency_b a b x ≡ rule x
  ruled_b x e = ap (λ c. if c then free_id taken_b name else rule x) e

  and-false : (c : Bool) → (c && false) ≡ false
  and-false true = refl
  and-false false = refl

  joined_kept : (x : List ℕ) → joined_agency a b x ≡ true → is_named x ≡ false
  joined_kept x j = ap (λ c. (length x == 0) && not c) j ∙ and-false (length x == 0)

  -- the free id of A's empty one is no new id of B
  never-free : (s t : List ℕ) → lists_id ids_a s ≡ true → lists_id ids_b t ≡ true → is_named s ≡ true → free_id taken name ≡ agency_b a b t → ⊥
  never-free s t hs ht named e =
      let parts = and_parts (length s == 0) (not (joined_agency a b s)) named in
      let empty : s ≡ [] = no-text s parts.0 in
      let has_empty : lists_id ids_a [] ≡ true = subst (λ x. lists_id ids_a x ≡ true) empty hs in
      let is : agency_a a b [] ≡ free_id taken name = ap (agency_a a b) (sym empty) ∙ named_a s named in
      elim (cases_Bool (is_named t)) as (λ w. ⊥) [
        | inl n ↦
            let more : free_id taken_b name ≡ free_id (taken ++ agency_a a b [] ∷ []) name = ap (λ h. free_id (if h then taken ++ agency_a a b [] ∷ [] else taken) name) has_empty in
            let same : agency_a a b [] ≡ free_id (taken ++ agency_a a b [] ∷ []) name = is ∙ e ∙ named_b t n ∙ more in
            let at : lists_id (agency_a a b [] ∷ []) (free_id (taken ++ agency_a a b [] ∷ []) name) ≡ true =
            or_left _ _ (bytes_same _ _ (sym same)) in
            true≢false (sym at ∙ (free_more (agency_a a b [])).1)
        | inr n ↦ elim (cases_Bool (lists_id ids_a t)) as (λ w. ⊥) [
          | inl h ↦
              let t_empty : t ≡ [] = one-agency a sound_a has_empty t h in
              let same : s ≡ t = empty ∙ sym t_empty in
              true≢false (sym named ∙ ap is_named same ∙ n)
          | inr h ↦
              let stays : rule t ≡ t = ap (λ h. if not h || joined_agency a b t then t else free_id taken t) h in
              true≢false (sym ht ∙ ap (lists_id ids_b) (sym stays ∙ sym (ruled_b t n) ∙ sym e) ∙ free.1)
        ]
      ]

  -- a joined id stays
  pub agency-stays_a : (x : List ℕ) → joined_agency a b x ≡ true → agency_a a b x ≡ x
  agency-stays_a x j = kept_a x (joined_kept x j)

  pub agency-stays_b : (x : List ℕ) → joined_agency a b x ≡ true → agency_b a b x ≡ x
  agency-stays_b x j = ruled_b x (joined_kept x j) ∙ joined_stays ids_a ids_b (joined_agency a b) few_both x j

  -- an id of A and one of B become one exactly where they are one that is joined
  pub agencies-meet : (s t : List ℕ) → lists_id ids_a s ≡ true → lists_id ids_b t ≡ true → bytes_eq (agency_a a b s) (agency_b a b t) ≡ (joined_agency a b t && bytes_eq s t)
  agencies-meet s t hs ht = same_tests _ _ (λ e. forth (same_bytes _ _ e)) (λ e. let parts = and_parts (joined_agency a b t) (bytes_eq s t) e in back parts.0 (same_bytes s t parts.1))
    where
      forth : agency_a a b s ≡ agency_b a b t → (joined_agency a b t && bytes_eq s t) ≡ true
      forth e = elim (cases_Bool (is_named s)) as (λ w. (joined_agency a b t && bytes_eq s t) ≡ true) [
        | inl n ↦ absurd (never-free s t hs ht n (sym (named_a s n) ∙ e))
        | inr n ↦
            let is : s ≡ agency_b a b t = sym (kept_a s n) ∙ e in
            elim (cases_Bool (is_named t)) as (λ w. (joined_agency a b t && bytes_eq s t) ≡ true) [
              | inl m ↦ absurd (true≢false (sym hs ∙ ap (lists_id ids_a) (is ∙ named_b t m) ∙ free_b))
              | inr m ↦
                  let into = renamed_into_a ids_a ids_b (joined_agency a b) few_both t (subst (λ x. lists_id ids_a x ≡ true) (is ∙ ruled_b t m) hs) in
                  and_from _ _ into.1 (bytes_same s t (is ∙ ruled_b t m ∙ into.0))
            ]
      ]

      back : joined_agency a b t ≡ true → s ≡ t → bytes_eq (agency_a a b s) (agency_b a b t) ≡ true
      back j e =
          bytes_same _ _ (agency-stays_a s (ap (joined_agency a b) e ∙ j) ∙ e ∙ sym (agency-stays_b t j))

  -- the new id of an agency of B is one of A only where the agency is joined
  pub agency-into : (x : List ℕ) → lists_id ids_a (agency_b a b x) ≡ true → joined_agency a b x ≡ true
  agency-into x h = elim (cases_Bool (is_named x)) as (λ w. joined_agency a b x ≡ true) [
    | inl n ↦ absurd (true≢false (sym h ∙ ap (lists_id ids_a) (named_b x n) ∙ free_b))
    | inr n ↦ (renamed_into_a ids_a ids_b (joined_agency a b) few_both x (subst (λ y. lists_id ids_a y ≡ true) (ruled_b x n) h)).1
  ]

  -- the empty id that is not joined gets one that A lacks, and every other one goes by the rule of all kinds
  pub agency-number : (x : List ℕ) → position (bytes_eq (agency_b a b x)) ids_a ≡ number_if (joined_agency a b x) ids_a x
  agency-number x = elim (cases_Bool (is_named x)) as (λ w. position (bytes_eq (agency_b a b x)) ids_a ≡ number_if (joined_agency a b x) ids_a x) [
    | inl n ↦
        let apart : joined_agency a b x ≡ false = not-true (joined_agency a b x) (and_parts (length x == 0) (not (joined_agency a b x)) n).1 in
        ap (λ y. position (bytes_eq y) ids_a) (named_b x n) ∙ no-index ids_a (free_id taken_b name) free_b ∙ ap (λ j. number_if j ids_a x) (sym apart)
    | inr n ↦ ap (λ y. position (bytes_eq y) ids_a) (ruled_b x n) ∙ renamed-number ids_a ids_b (joined_agency a b) few_both x
  ]
