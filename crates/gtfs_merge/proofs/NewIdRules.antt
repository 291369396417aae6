-- What each id becomes, case by case.
use Rattle.std.proofs.Common.{◌≡◌, ◌<◌, ◌+◌, ◌^◌, ℕ, Bool, true, false, cond, not, List, [], ◌∷◌, ◌++◌, Some, refl, sym, ap, ◌∙◌, inl, inr, length, map, bytes_eq, codes, unwrap_or, eqb-true, true≢false, find, length-append, arith}
use Rattle.std.specs.Prelude.{◌&&◌, ◌||◌, ◌==◌, if◌then◌else◌, IfOk, Result, Ok, Err}
use Rattle.std.specs.List.{range_with_len}
use Rattle.std.proofs.lemmas.Bool.{and_parts, or_cases, false_from_ne_true}
use Rattle.gtfs_table.specs.Rows.{is_empty}
use Rattle.gtfs_schema.proofs.SiteFacts.{text_is as same_bytes}
use Rattle.gtfs_rows.specs.Content.{Content}
use Rattle.gtfs_rows.specs.Rows.{Agency}
use Rattle.gtfs_rows.specs.SoundContent.{IsSound, is_sound_agency}
use Rattle.gtfs_rows.specs.declared.parts.Parts.{Parts}
use Rattle.gtfs_rows.specs.RowsInMemory.{IsSoundParts, content_of_parts}
use Rattle.gtfs_rows.proofs.Members.{In, list_all-In}
use Rattle.gtfs_merge.specs.FeedIds.{known_ids}
use Rattle.gtfs_merge.specs.MergedDepartures.{AreFew, IsNearness}
use Rattle.gtfs_merge.specs.Names.{is_nameless}
use Rattle.gtfs_merge.specs.Renaming.{Nearness, lists_id, ids, is_joined, free_id, merged_id, renamed_b, renaming, names_a, names_b, agency_a, agency_b, joined_agency, joined_stop_under, stop_within}
use Rattle.gtfs_merge.specs.declared.kind.Kind.{Kind}
use Rattle.gtfs_merge.specs.declared.kind.Kind.TheVariants as kind
use Rattle.gtfs_merge.specs.declared.sides.Sides.{Sides}
use Rattle.gtfs_merge.proofs.Apart.{no-text}
use Rattle.gtfs_merge.proofs.JoinedAgencies.{agency-stays_b}
use Rattle.gtfs_merge.proofs.JoinedIds.{joined-has}
use Rattle.gtfs_merge.proofs.JoinedKinds.{ids-known}
use Rattle.gtfs_merge.proofs.Fresh.{merged_id-number}
use Rattle.gtfs_merge.proofs.Lookups.{bytes_same}
use Rattle.gtfs_merge.proofs.MergedRows.{found, found_id}
use Rattle.gtfs_merge.proofs.Premises.{sound-places}
use Rattle.gtfs_merge.proofs.Stops.{by_rule}

-- ---- the ids that are taken

pub taken-known : (k : Kind) (sides : Sides) → IsSoundParts sides.a.now → IsSoundParts sides.b.now → (base : List ℕ) → free_id (known_ids k sides.a.now ++ known_ids k sides.b.now) base ≡ free_id (ids k (content_of_parts sides.a.now) ++ ids k (content_of_parts sides.b.now)) base
taken-known k sides sound_a sound_b base = sym (λ i. free_id (ids-known k sides.a.now sound_a i ++ ids-known k sides.b.now sound_b i) base)

pub few-taken : (k : Kind) (sides : Sides) → IsSoundParts sides.a.now → IsSoundParts sides.b.now → length (ids k (content_of_parts sides.a.now)) + length (ids k (content_of_parts sides.b.now)) < 2 ^ 65 → length (known_ids k sides.a.now ++ known_ids k sides.b.now) + 2 < 2 ^ 128
few-taken k sides sound_a sound_b few =
    let e : length (ids k (content_of_parts sides.a.now)) ≡ length (known_ids k sides.a.now) = ap length (ids-known k sides.a.now sound_a) in
    let f : length (ids k (content_of_parts sides.b.now)) ≡ length (known_ids k sides.b.now) = ap length (ids-known k sides.b.now sound_b) in
    let g = length-append (known_ids k sides.a.now) (known_ids k sides.b.now) in
    omega arith

pub has-known : (k : Kind) (p : Parts) → IsSoundParts p → (x : List ℕ) (b : Bool) → lists_id (known_ids k p) x ≡ b → lists_id (ids k (content_of_parts p)) x ≡ b
has-known k p sound x b e = ap (λ xs. lists_id xs x) (ids-known k p sound) ∙ e

pub on-ok : {T E : Type 0} {P Q : T → Type 0} (r : Result T E) → IfOk r P → ((x : T) → P x → Q x) → IfOk r Q
on-ok (Ok x) h f = f x h
on-ok (Err e) h f = tt

-- ---- A

pub new-a : (near : Nearness) (a b : Content) (k : Kind) (x : List ℕ) (c : Bool) → (is_nameless k x && not (is_joined near k a b x)) ≡ c
    → renaming (names_a a b) k x ≡ (if c then free_id (ids kind.Agency a ++ ids kind.Agency b) (codes "agency") else x)
new-a near a b kind.Agency x c e = ap (λ c. if c then free_id (ids kind.Agency a ++ ids kind.Agency b) (codes "agency") else x) e
new-a near a b kind.Stop x c e = ap (λ c. if c then free_id (ids kind.Agency a ++ ids kind.Agency b) (codes "agency") else x) e
new-a near a b kind.Route x c e = ap (λ c. if c then free_id (ids kind.Agency a ++ ids kind.Agency b) (codes "agency") else x) e
new-a near a b kind.Service x c e = ap (λ c. if c then free_id (ids kind.Agency a ++ ids kind.Agency b) (codes "agency") else x) e
new-a near a b kind.Trip x c e = ap (λ c. if c then free_id (ids kind.Agency a ++ ids kind.Agency b) (codes "agency") else x) e

-- ---- B

-- an id that A has and that becomes none of A gets a free one
unjoined : (ids_a ids_b : List (List ℕ)) (is_joined : List ℕ → Bool) (x : List ℕ) → lists_id ids_a x ≡ true → lists_id ids_a (renamed_b ids_a ids_b is_joined x) ≡ false → renamed_b ids_a ids_b is_joined x ≡ free_id (ids_a ++ ids_b) x
unjoined ids_a ids_b is_joined x has lacks = by (is_joined x) refl
  where
    by : (j : Bool) → is_joined x ≡ j → renamed_b ids_a ids_b is_joined x ≡ free_id (ids_a ++ ids_b) x
    by true e =
        let stays : renamed_b ids_a ids_b is_joined x ≡ x = λ i. if not (has i) || e i then x else free_id (ids_a ++ ids_b) x in
        absurd (true≢false (sym has ∙ sym (ap (lists_id ids_a) stays) ∙ lacks))
    by false e = λ i. if not (has i) || e i then x else free_id (ids_a ++ ids_b) x

module _ (near : Nearness) (nearness : IsNearness near) (a b : Content) (sound_a : IsSound a) (sound_b : IsSound b) (few : AreFew kind.Stop a b) where
  -- some rule of all kinds made it
  abbrev IsRuled : Kind → List ℕ → Type 0
  IsRuled k x = (is_joined : List ℕ → Bool) × (renaming (names_b near a b) k x ≡ renamed_b (ids k a) (ids k b) is_joined x)

  ruled : (k : Kind) (x : List ℕ) → lists_id (ids k b) x ≡ true → (is_nameless k x && not (is_joined near k a b x)) ≡ false → lists_id (ids k a) (renaming (names_b near a b) k x) ≡ false → IsRuled k x
  ruled kind.Agency x h e lacks = (
    joined_agency a b,
    ap (λ c. if c then free_id (if lists_id (ids kind.Agency a) [] then (ids kind.Agency a ++ ids kind.Agency b) ++ agency_a a b [] ∷ [] else ids kind.Agency a ++ ids kind.Agency b) (codes "agency") else renamed_b (ids kind.Agency a) (ids kind.Agency b) (joined_agency a b) x) e,
  )
  ruled kind.Stop x h e lacks = (joined_stop_under (stop_within near 2 a b) a b, by_rule near nearness a b (sound-places a sound_a) (sound-places b sound_b) few x h lacks)
  ruled kind.Route x h e lacks = (is_joined near kind.Route a b, refl)
  ruled kind.Service x h e lacks = (is_joined near kind.Service a b, refl)
  ruled kind.Trip x h e lacks = (is_joined near kind.Trip a b, refl)

  pub stays-lacking : (k : Kind) (x : List ℕ) → lists_id (ids k b) x ≡ true → (is_nameless k x && not (is_joined near k a b x)) ≡ false → lists_id (ids k a) (renaming (names_b near a b) k x) ≡ false → lists_id (ids k a) x ≡ false
      → renaming (names_b near a b) k x ≡ x
  stays-lacking k x h e none lacks =
      let r = ruled k x h e none in
      r.1 ∙ ap (λ c. if not c || r.0 x then x else free_id (ids k a ++ ids k b) x) lacks

  pub gets-free : (k : Kind) (x : List ℕ) → lists_id (ids k b) x ≡ true → (is_nameless k x && not (is_joined near k a b x)) ≡ false → lists_id (ids k a) (renaming (names_b near a b) k x) ≡ false → lists_id (ids k a) x ≡ true
      → renaming (names_b near a b) k x ≡ free_id (ids k a ++ ids k b) x
  gets-free k x h e none has =
      let r = ruled k x h e none in
      r.1 ∙ unjoined (ids k a) (ids k b) r.0 x has (ap (lists_id (ids k a)) (sym r.1) ∙ none)

-- an empty id is that of an agency
pub nameless-there : (p : Parts) (k : Kind) (x : List ℕ) → is_nameless k x ≡ true → lists_id (known_ids k p) x ≡ true → lists_id (known_ids kind.Agency p) [] ≡ true
nameless-there p kind.Agency x e h = ap (lists_id (known_ids kind.Agency p)) (sym (no-text x e)) ∙ h
nameless-there p kind.Stop x e h = absurd (true≢false (sym e))
nameless-there p kind.Route x e h = absurd (true≢false (sym e))
nameless-there p kind.Service x e h = absurd (true≢false (sym e))
nameless-there p kind.Trip x e h = absurd (true≢false (sym e))

pub nameless-name : (near : Nearness) (a b : Content) (k : Kind) (x : List ℕ) → is_nameless k x ≡ true → agency_b a b [] ≡ renaming (names_b near a b) k x
nameless-name near a b kind.Agency x e = ap (agency_b a b) (sym (no-text x e))
nameless-name near a b kind.Stop x e = absurd (true≢false (sym e))
nameless-name near a b kind.Route x e = absurd (true≢false (sym e))
nameless-name near a b kind.Service x e = absurd (true≢false (sym e))
nameless-name near a b kind.Trip x e = absurd (true≢false (sym e))

-- it is not joined where it becomes none of A
pub nameless-apart : (near : Nearness) (a b : Content) → IsSound a → ((k : Kind) → length (ids k a) + length (ids k b) < 2 ^ 65) → (k : Kind) (x : List ℕ) → is_nameless k x ≡ true → lists_id (ids k a) (renaming (names_b near a b) k x) ≡ false
    → joined_agency a b [] ≡ false
nameless-apart near a b sound_a few kind.Agency x e none = false_from_ne_true (joined_agency a b []) (λ j.
    let stays = agency-stays_b a b sound_a (few kind.Agency) [] j in
    true≢false (sym (joined-has near kind.Agency a b [] j).0 ∙ ap (lists_id (ids kind.Agency a)) (sym stays ∙ ap (agency_b a b) (sym (no-text x e))) ∙ none))
nameless-apart near a b sound_a few kind.Stop x e none = absurd (true≢false (sym e))
nameless-apart near a b sound_a few kind.Route x e none = absurd (true≢false (sym e))
nameless-apart near a b sound_a few kind.Service x e none = absurd (true≢false (sym e))
nameless-apart near a b sound_a few kind.Trip x e none = absurd (true≢false (sym e))

-- ---- an agency of B without an id

-- an empty id stands alone
lone : (rows : List Agency) → length rows ≡ 1 → (r : Agency) → In r rows → r.agency_id ≡ [] → map (λ r. r.agency_id) rows ≡ [] ∷ []
lone [] one r i e = elim i [ ]
lone (z ∷ []) one r (inl same) e = ap (λ t. t ∷ []) (ap (λ r. r.agency_id) same ∙ e)
lone (z ∷ []) one r (inr i) e = elim i [ ]
lone (z ∷ w ∷ rows) one r i e = absurd (omega arith)

pub lone-agency : (f : Content) → IsSound f → lists_id (ids kind.Agency f) [] ≡ true → ids kind.Agency f ≡ [] ∷ []
lone-agency f sound h =
    let r = found (λ r. r.agency_id) f.agencies [] h in
    let i = found_id (λ r. r.agency_id) f.agencies [] r.0 r.1 in
    let p = and_parts _ _ (list_all-In (is_sound_agency f) f.agencies sound.agencies r.0 i.0) in
    elim (or_cases (not (is_empty r.0.agency_id)) (length f.agencies == 1) p.0) as (λ w. ids kind.Agency f ≡ [] ∷ []) [
      | inl n ↦ absurd (true≢false (sym n ∙ ap (λ x. not (is_empty x)) i.1))
      | inr one ↦ lone f.agencies (eqb-true _ _ one) r.0 i.0 i.1
    ]

-- where the first name alone is taken, the second one is free
second-free : (taken : List (List ℕ)) (base : List ℕ) → length taken ≡ 3 → lists_id taken (merged_id base 1) ≡ true → lists_id taken (merged_id base 2) ≡ false → free_id taken base ≡ merged_id base 2
second-free taken base three first second =
    let free : ℕ → Bool = λ n. not (lists_id taken (merged_id base n)) in
    ap (λ k. merged_id base (unwrap_or (find free (range_with_len 1 (k + 1))) 0)) three
    ∙ (λ i. merged_id base (unwrap_or (cond (not (first i)) (Some 1) (cond (not (second i)) (Some 2) (find free (range_with_len 3 2)))) 0))

two-apart : (base : List ℕ) → bytes_eq (merged_id base 2) (merged_id base 1) ≡ false
two-apart base = false_from_ne_true _ (λ e. absurd (not-one (merged_id-number base 2 1 (omega arith) (omega arith) (same_bytes _ _ e))))
  where
    not-one : ◌≡◌ {A = ℕ} 2 1 → ⊥
    not-one e = omega (arith, e)

-- where both feeds have one, A's takes the first number and B's the second
pub second-name : (a b : Content) → IsSound a → IsSound b → lists_id (ids kind.Agency a) [] ≡ true → lists_id (ids kind.Agency b) [] ≡ true → joined_agency a b [] ≡ false → agency_b a b [] ≡ merged_id (codes "agency") 2
second-name a b sound_a sound_b has_a has_b apart =
    let first = lone-agency a sound_a has_a in
    let second = lone-agency b sound_b has_b in
    let base = codes "agency" in
    let name : agency_a a b [] ≡ free_id (ids kind.Agency a ++ ids kind.Agency b) base = ap (λ j. if not j then free_id (ids kind.Agency a ++ ids kind.Agency b) base else []) apart in
    (λ i. if not (apart i) then free_id (if has_a i then (ids kind.Agency a ++ ids kind.Agency b) ++ name i ∷ [] else ids kind.Agency a ++ ids kind.Agency b) base else renamed_b (ids kind.Agency a) (ids kind.Agency b) (joined_agency a b) [])
    ∙ (λ i. free_id ((first i ++ second i) ++ free_id (first i ++ second i) base ∷ []) base)
    ∙ second-free ([] ∷ [] ∷ merged_id base 1 ∷ []) base refl
    (ap (λ t. t || false) (bytes_same (merged_id base 1) (merged_id base 1) refl)) (ap (λ t. t || false) (two-apart base))

pub only-name : (a b : Content) → lists_id (ids kind.Agency a) [] ≡ false → joined_agency a b [] ≡ false → agency_b a b [] ≡ free_id (ids kind.Agency a ++ ids kind.Agency b) (codes "agency")
only-name a b lacks apart =
    λ i. if not (apart i) then free_id (if lacks i then (ids kind.Agency a ++ ids kind.Agency b) ++ agency_a a b [] ∷ [] else ids kind.Agency a ++ ids kind.Agency b) (codes "agency") else renamed_b (ids kind.Agency a) (ids kind.Agency b) (joined_agency a b) []
