-- The names of a merge fit both feeds: each id is there under its new name, which is a text that a field holds.
use Rattle.std.proofs.Common.{◌≡◌, ℕ, suc, ◌+◌, ◌<◌, ◌^◌, Bool, true, false, cond, not, List, [], ◌∷◌, ◌++◌, Some, None, refl, sym, ap, ◌∙◌, subst, inl, inr, map, length, bytes_eq, count_by, codes, true≢false, eqb-true, arith, length-append}
use Rattle.std.specs.Prelude.{◌&&◌, ◌||◌, ◌==◌, if◌then◌else◌}
use Rattle.std.specs.List.{list_any}
use Rattle.std.proofs.lemmas.Bool.{and_parts, and_from, or_cases, or_left, or_right, cases_Bool}
use Rattle.std.proofs.lemmas.List.{length-map}
use Rattle.std.proofs.lemmas.List.Sums.{sum_by-cons}
use Prim.Native.String.{String as Literal}
use Rattle.gtfs_table.specs.Rows.{is_empty}
use Rattle.gtfs_table.specs.declared.file.File.TheVariants as file
use Rattle.gtfs_schema.specs.Columns.{columns_of, optional, id}
use Rattle.gtfs_schema.specs.FieldValues.{if_there, word}
use Rattle.gtfs_schema.proofs.SiteFacts.{text_is as same_bytes}
use Rattle.gtfs_rows.specs.Cells.{is_cell, is_clean, is_filled}
use Rattle.gtfs_rows.specs.Content.{Content}
use Rattle.gtfs_rows.specs.RowCells.{id_cell, agency_cells, stop_cells}
use Rattle.gtfs_rows.specs.Rows.{Agency, Stop}
use Rattle.gtfs_rows.specs.SoundContent.{IsSound, is_stop_of, is_sound_agency}
use Rattle.gtfs_rows.proofs.Members.{In, In-map, cells-at, list_all-In, map-In}
use Rattle.gtfs_merge.specs.MergedDepartures.{AreFew, IsNearness}
use Rattle.gtfs_merge.specs.Merged.{merged, agency_with, service_with}
use Rattle.gtfs_merge.specs.Renaming.{Names, Nearness, lists_id, ids, free_id, renamed_b, renaming, names_a, names_b, agency_a, agency_b, joined_agency, joined_route, joined_service, joined_trip, joined_stop_under, stop_within, stop_b, stop_with, route_with, trip_with}
use Rattle.gtfs_merge.specs.SameRows.{same_agency}
use Rattle.gtfs_merge.specs.declared.kind.Kind.{Kind}
use Rattle.gtfs_merge.specs.declared.kind.Kind.TheVariants as kind
use Rattle.gtfs_merge.proofs.Lookups.{list_any-In, look}
use Rattle.gtfs_merge.proofs.Fresh.{joined_stays}
use Rattle.gtfs_merge.proofs.MergedRows.{found, found_id, has_own}
use Rattle.gtfs_merge.proofs.Carried.{trip_id_of, service_id_of}
use Rattle.gtfs_merge.proofs.Stops.{stop_id_of, HasPlaces, merged-stop-a, merged-stop-b, stop_case, like-near}
use Rattle.gtfs_merge.proofs.Premises.{sound-places, of_type-found}
use Rattle.gtfs_merge.proofs.Apart.{one-agency, no-text}
use Rattle.gtfs_merge.proofs.Fitting.{Fits}
use Rattle.gtfs_merge.proofs.NewNames.{own-by_id, either, from-a, from-b, agency_filled, filled-free, filled-renamed, not-empty, empty_clean}

-- the cells of a row of the list
-- an id that may be empty is a clean text, both ways
clean-cell : (name : Literal) (t : List ℕ) → is_cell (optional name id) (id_cell t) ≡ true → is_clean t ≡ true
clean-cell name t h = by (is_empty t) refl h
  where
    by : (b : Bool) → is_empty t ≡ b → is_cell (optional name id) (if b then None else Some (word t)) ≡ true → is_clean t ≡ true
    by true e h = ap is_clean (no-text t e) ∙ empty_clean
    by false e h = (and_parts (is_clean t) (not (is_empty t)) h).0

pub cell-clean : (name : Literal) (t : List ℕ) → is_clean t ≡ true → is_cell (optional name id) (id_cell t) ≡ true
cell-clean name t clean = by (is_empty t) refl
  where
    by : (b : Bool) → is_empty t ≡ b → is_cell (optional name id) (if b then None else Some (word t)) ≡ true
    by true e = refl
    by false e = and_from (is_clean t) (not (is_empty t)) clean (ap not e)

small : (x y z : ℕ) → x ≡ 1 → y ≡ 1 → z ≡ x + y + 1 → z + 2 < 10 ^ 64
small x y z a b c = omega arith

module _ (near : Nearness) (nearness : IsNearness near) (a b : Content) (sound_a : IsSound a) (sound_b : IsSound b) (few : (c : Kind) → AreFew c a b) where
  abbrev m : Content
  m = merged near a b

  abbrev na : Names
  na = names_a a b

  abbrev nb : Names
  nb = names_b near a b

  abbrev pa : HasPlaces a
  pa = sound-places a sound_a

  abbrev pb : HasPlaces b
  pb = sound-places b sound_b

  abbrev agency_id_of : Agency → List ℕ
  agency_id_of r = r.agency_id

  named-a : (k : Kind) (x : List ℕ) → lists_id (ids k a) x ≡ true → lists_id (ids k m) (renaming na k x) ≡ true
  named-a kind.Agency x h = from-a agency_id_of (agency_with na.agency) (agency_with nb.agency) na.agency a.agencies b.agencies (λ r. refl) x h
  named-a kind.Stop x h = from-a stop_id_of (stop_with na.stop) (stop_with nb.stop) na.stop a.stops b.stops (λ r. refl) x h
  named-a kind.Route x h = from-a (λ r. r.route_id) (route_with na.route na.agency) (route_with nb.route nb.agency) na.route a.routes b.routes (λ r. refl) x h
  named-a kind.Service x h = from-a service_id_of (service_with na.service) (service_with nb.service) na.service a.services b.services (λ r. refl) x h
  named-a kind.Trip x h = from-a trip_id_of (trip_with na.trip na.route na.service na.stop) (trip_with nb.trip nb.route nb.service nb.stop) na.trip a.trips b.trips (λ r. refl) x h

  named-b : (k : Kind) (x : List ℕ) → lists_id (ids k b) x ≡ true → lists_id (ids k m) (renaming nb k x) ≡ true
  named-b kind.Agency x h = from-b agency_id_of (agency_with na.agency) (agency_with nb.agency) nb.agency a.agencies b.agencies (λ r. refl) x h
  named-b kind.Stop x h = from-b stop_id_of (stop_with na.stop) (stop_with nb.stop) nb.stop a.stops b.stops (λ r. refl) x h
  named-b kind.Route x h = from-b (λ r. r.route_id) (route_with na.route na.agency) (route_with nb.route nb.agency) nb.route a.routes b.routes (λ r. refl) x h
  named-b kind.Service x h = from-b service_id_of (service_with na.service) (service_with nb.service) nb.service a.services b.services (λ r. refl) x h
  named-b kind.Trip x h = from-b trip_id_of (trip_with na.trip na.route na.service na.stop) (trip_with nb.trip nb.route nb.service nb.stop) nb.trip a.trips b.trips (λ r. refl) x h

  typed-at : (types : List ℕ) (q : List ℕ) (s z : Stop) → look stop_id_of m.stops q ≡ Some z → z.location_type ≡ s.location_type → list_any (λ t. t == s.location_type) types ≡ true → is_stop_of m types q ≡ true
  typed-at types q s z e t h = ap (λ o. if_there o (λ s. list_any (λ t. t == s.location_type) types)) e ∙ ap (λ l. list_any (λ t. t == l) types) t ∙ h

  typed-a : (types x : List ℕ) → is_stop_of a types x ≡ true → is_stop_of m types x ≡ true
  typed-a types x e = let s = of_type-found a types x e in typed-at types x s.0 s.0 (merged-stop-a near nearness a b pa pb (few kind.Stop) x s.0 s.1) refl s.2

  typed-b : (types x : List ℕ) → is_stop_of b types x ≡ true → is_stop_of m types (stop_b near a b x) ≡ true
  typed-b types x e =
      let s = of_type-found b types x e in
      let z = merged-stop-b near nearness a b pa pb (few kind.Stop) x s.0 s.1 in
      typed-at types (stop_b near a b x) s.0 z.0 z.1 z.2 s.2

  filled-a : (k : Kind) (x : List ℕ) → lists_id (ids k a) x ≡ true → is_filled x ≡ true → is_filled (renaming na k x) ≡ true
  filled-a kind.Agency x h e = ap (λ c. is_filled (if c && not (joined_agency a b x) then free_id (ids kind.Agency a ++ ids kind.Agency b) (codes "agency") else x)) (not-empty x e) ∙ e
  filled-a kind.Stop x h e = e
  filled-a kind.Route x h e = e
  filled-a kind.Service x h e = e
  filled-a kind.Trip x h e = e

  filled-stop : (x : List ℕ) → lists_id (ids kind.Stop b) x ≡ true → is_filled x ≡ true → is_filled (stop_b near a b x) ≡ true
  filled-stop x h e =
      let y = found stop_id_of b.stops x h in
      elim (stop_case near nearness a b pa pb (few kind.Stop) x) as (λ w. is_filled (stop_b near a b x) ≡ true) [
        | inl c ↦ elim c as (λ w. is_filled (stop_b near a b x) ≡ true) [
          | inl j ↦ ap is_filled j.1 ∙ e
          | inr n ↦
              let l = like-near near nearness a b pa pb (few kind.Stop) x y.0 n.0 y.1 n.1 in
              let i = found_id stop_id_of a.stops n.0 l.0 l.1 in
              ap is_filled (n.2 ∙ sym i.1) ∙ filled-at l.0 i.0
        ]
        | inr r ↦ ap is_filled r ∙ filled-renamed (ids kind.Stop a) (ids kind.Stop b) (joined_stop_under (stop_within near 2 a b) a b) (few kind.Stop) x e
      ]
    where
      filled-at : (s : Stop) → In s a.stops → is_filled s.stop_id ≡ true
      filled-at s i = (and_parts _ _ (cells-at (columns_of file.Stops) stop_cells a.stops (sound_a.cells file.Stops) s i)).0

  filled-b : (k : Kind) (x : List ℕ) → lists_id (ids k b) x ≡ true → is_filled x ≡ true → is_filled (renaming nb k x) ≡ true
  filled-b kind.Agency x h e = ap (λ c. is_filled (if c && not (joined_agency a b x) then free_id (if lists_id (ids kind.Agency a) [] then (ids kind.Agency a ++ ids kind.Agency b) ++ agency_a a b [] ∷ [] else ids kind.Agency a ++ ids kind.Agency b) (codes "agency") else renamed_b (ids kind.Agency a) (ids kind.Agency b) (joined_agency a b) x)) (not-empty x e)
      ∙ filled-renamed (ids kind.Agency a) (ids kind.Agency b) (joined_agency a b) (few kind.Agency) x e
  filled-b kind.Stop x h e = filled-stop x h e
  filled-b kind.Route x h e = filled-renamed (ids kind.Route a) (ids kind.Route b) (joined_route a b) (few kind.Route) x e
  filled-b kind.Service x h e = filled-renamed (ids kind.Service a) (ids kind.Service b) (joined_service a b) (few kind.Service) x e
  filled-b kind.Trip x h e = filled-renamed (ids kind.Trip a) (ids kind.Trip b) (joined_trip near a b) (few kind.Trip) x e

  -- all ids are empty: there is one agency
  one-merged : ((r : Agency) → In r m.agencies → r.agency_id ≡ []) → (r : Agency) → In r m.agencies → (length m.agencies == 1) ≡ true
  one-merged h r i =
      let once = list_all-In (λ x. count_by (bytes_eq x) (ids kind.Agency m) == 1) (ids kind.Agency m) (own-by_id agency_id_of (map (agency_with na.agency) a.agencies ++ map (agency_with nb.agency) b.agencies)) r.agency_id (map-In agency_id_of m.agencies r i) in
      ap (λ n. n == 1) (sym (all_count m.agencies h)) ∙ ap (λ x. count_by (bytes_eq x) (ids kind.Agency m) == 1) (sym (h r i)) ∙ once
    where
      one_more : (n : ℕ) → 1 + n ≡ suc n
      one_more n = omega arith

      all_count : (xs : List Agency) → ((r : Agency) → In r xs → r.agency_id ≡ []) → count_by (bytes_eq []) (map agency_id_of xs) ≡ length xs
      all_count [] h = refl
      all_count (x ∷ xs) h = sum_by-cons (λ y. cond (bytes_eq [] y) 1 0) x.agency_id (map agency_id_of xs)
          ∙ (λ i. cond (bytes_eq [] (h x (inl refl) i)) 1 0 + all_count xs (λ r j. h r (inr j)) i) ∙ one_more (length xs)

  abbrev pub id_part : Agency → Bool
  id_part r = is_clean r.agency_id && (not (is_empty r.agency_id) || (length m.agencies == 1))

  filled-part : (r : Agency) → is_filled r.agency_id ≡ true → id_part r ≡ true
  filled-part r e = let p = and_parts (is_clean r.agency_id) (not (is_empty r.agency_id)) e in and_from _ _ p.0 (or_left _ _ p.1)

  clean-id : (f : Content) → IsSound f → (x : Agency) → In x f.agencies → (is_clean x.agency_id ≡ true) × ((not (is_empty x.agency_id) || (length f.agencies == 1)) ≡ true)
  clean-id f s x i = (
    clean-cell "agency_id" x.agency_id (and_parts _ _ (cells-at (columns_of file.Agency) agency_cells f.agencies (s.cells file.Agency) x i)).0,
    (and_parts _ _ (list_all-In (is_sound_agency f) f.agencies s.agencies x i)).0,
  )

  -- where an agency has no id it is the only one
  one-length : (f : Content) → IsSound f → (x : Agency) → In x f.agencies → (length x.agency_id == 0) ≡ true → length f.agencies ≡ 1
  one-length f s x i e = elim (or_cases (not (is_empty x.agency_id)) (length f.agencies == 1) (clean-id f s x i).1) as (λ w. length f.agencies ≡ 1) [
    | inl n ↦ absurd (true≢false (sym n ∙ ap not e))
    | inr one ↦ eqb-true _ _ one
  ]

  joined-has : joined_agency a b [] ≡ true → (lists_id (ids kind.Agency a) [] ≡ true) × (lists_id (ids kind.Agency b) [] ≡ true)
  joined-has j =
      let r = list_any-In (λ row. bytes_eq row.agency_id [] && list_any (λ other. bytes_eq other.agency_id [] && same_agency row other) b.agencies) a.agencies j in
      let p = and_parts (bytes_eq r.0.agency_id []) _ r.2 in
      let t = list_any-In (λ other. bytes_eq other.agency_id [] && same_agency r.0 other) b.agencies p.1 in
      let q = and_parts (bytes_eq t.0.agency_id []) _ t.2 in (
        subst (λ z. lists_id (ids kind.Agency a) z ≡ true) (same_bytes _ _ p.0) (has_own agency_id_of a.agencies r.0 r.1),
        subst (λ z. lists_id (ids kind.Agency b) z ≡ true) (same_bytes _ _ q.0) (has_own agency_id_of b.agencies t.0 t.1),
      )

  stays-a : joined_agency a b [] ≡ true → agency_a a b [] ≡ []
  stays-a j = ap (λ c. if not c then free_id (ids kind.Agency a ++ ids kind.Agency b) (codes "agency") else []) j

  stays-b : joined_agency a b [] ≡ true → agency_b a b [] ≡ []
  stays-b j = ap (λ c. if not c then free_id (if lists_id (ids kind.Agency a) [] then (ids kind.Agency a ++ ids kind.Agency b) ++ agency_a a b [] ∷ [] else ids kind.Agency a ++ ids kind.Agency b) (codes "agency") else renamed_b (ids kind.Agency a) (ids kind.Agency b) (joined_agency a b) []) j
      ∙ joined_stays (ids kind.Agency a) (ids kind.Agency b) (joined_agency a b) (few kind.Agency) [] j

  all-empty : joined_agency a b [] ≡ true → (r : Agency) → In r m.agencies → r.agency_id ≡ []
  all-empty j r i = elim (either agency_id_of (agency_with na.agency) (agency_with nb.agency) a.agencies b.agencies r i) as (λ w. r.agency_id ≡ []) [
    | inl x ↦ sym (ap agency_id_of x.2) ∙ ap na.agency (one-agency a sound_a (joined-has j).0 x.0.agency_id (has_own agency_id_of a.agencies x.0 x.1)) ∙ stays-a j
    | inr x ↦ sym (ap agency_id_of x.2) ∙ ap nb.agency (one-agency b sound_b (joined-has j).1 x.0.agency_id (has_own agency_id_of b.agencies x.0 x.1)) ∙ stays-b j
  ]

  alone : joined_agency a b [] ≡ true → (length m.agencies == 1) ≡ true
  alone j =
      let h = named-a kind.Agency [] (joined-has j).0 in
      let x = list_any-In (bytes_eq (na.agency [])) (ids kind.Agency m) h in
      let y = In-map agency_id_of m.agencies x.0 x.1 in
      one-merged (all-empty j) y.0 y.1

  empty-part : (r : Agency) → r.agency_id ≡ [] → joined_agency a b [] ≡ true → id_part r ≡ true
  empty-part r e j = and_from _ _ (ap is_clean e ∙ empty_clean) (or_right _ _ (alone j))

  pub part-a : (x : Agency) → In x a.agencies → id_part (agency_with na.agency x) ≡ true
  part-a x i = elim (cases_Bool (length x.agency_id == 0)) as (λ w. id_part (agency_with na.agency x) ≡ true) [
    | inr n ↦ filled-part (agency_with na.agency x) (filled-a kind.Agency x.agency_id (has_own agency_id_of a.agencies x i) (and_from _ _ (clean-id a sound_a x i).0 (ap not n)))
    | inl e ↦
        let z = no-text x.agency_id e in
        elim (cases_Bool (joined_agency a b [])) as (λ w. id_part (agency_with na.agency x) ≡ true) [
          | inl j ↦ empty-part (agency_with na.agency x) (ap na.agency z ∙ stays-a j) j
          | inr k ↦ filled-part (agency_with na.agency x) (ap (λ v. is_filled (na.agency v)) z
              ∙ ap (λ c. is_filled (if not c then free_id (ids kind.Agency a ++ ids kind.Agency b) (codes "agency") else [])) k
              ∙ filled-free (ids kind.Agency a ++ ids kind.Agency b) (codes "agency") (subst (λ n. n + 2 < 10 ^ 64) (sym (length-append (ids kind.Agency a) (ids kind.Agency b))) (few kind.Agency)) agency_filled)
        ]
  ]

  pub part-b : (x : Agency) → In x b.agencies → id_part (agency_with nb.agency x) ≡ true
  part-b x i = elim (cases_Bool (length x.agency_id == 0)) as (λ w. id_part (agency_with nb.agency x) ≡ true) [
    | inr n ↦ filled-part (agency_with nb.agency x) (filled-b kind.Agency x.agency_id (has_own agency_id_of b.agencies x i) (and_from _ _ (clean-id b sound_b x i).0 (ap not n)))
    | inl e ↦
        let z = no-text x.agency_id e in
        elim (cases_Bool (joined_agency a b [])) as (λ w. id_part (agency_with nb.agency x) ≡ true) [
          | inl j ↦ empty-part (agency_with nb.agency x) (ap nb.agency z ∙ stays-b j) j
          | inr k ↦ filled-part (agency_with nb.agency x) (ap (λ v. is_filled (nb.agency v)) z
              ∙ ap (λ c. is_filled (if not c then free_id taken_b (codes "agency") else renamed_b (ids kind.Agency a) (ids kind.Agency b) (joined_agency a b) [])) k
              ∙ filled-free taken_b (codes "agency") (few_b (one-length b sound_b x i e)) agency_filled)
        ]
  ]
    where
      taken : List (List ℕ)
      taken = ids kind.Agency a ++ ids kind.Agency b

      taken_b : List (List ℕ)
      taken_b = if lists_id (ids kind.Agency a) [] then (ids kind.Agency a ++ ids kind.Agency b) ++ agency_a a b [] ∷ [] else ids kind.Agency a ++ ids kind.Agency b

      few_b : length b.agencies ≡ 1 → length taken_b + 2 < 10 ^ 64
      few_b one = elim (lists_id (ids kind.Agency a) []) as (λ h. lists_id (ids kind.Agency a) [] ≡ h → length (if h then taken ++ agency_a a b [] ∷ [] else taken) + 2 < 10 ^ 64) [
        | false ↦ λ t. subst (λ n. n + 2 < 10 ^ 64) (sym (length-append (ids kind.Agency a) (ids kind.Agency b))) (few kind.Agency)
        | true ↦ λ t.
            let r = found agency_id_of a.agencies [] t in
            let w = found_id agency_id_of a.agencies [] r.0 r.1 in
            let one_a = one-length a sound_a r.0 w.0 (ap (λ v. length v == 0) w.1) in
            small (length (ids kind.Agency a)) (length (ids kind.Agency b)) _ (length-map a.agencies agency_id_of ∙ one_a) (length-map b.agencies agency_id_of ∙ one)
            (length-append taken (agency_a a b [] ∷ []) ∙ ap (λ n. n + 1) (length-append (ids kind.Agency a) (ids kind.Agency b)))
      ] refl

  -- ---- what fits

  abbrev agency_clean : Content → (List ℕ → List ℕ) → Type 0
  agency_clean f rename = (x : List ℕ) → lists_id (ids kind.Agency f) x ≡ true → is_clean (rename x) ≡ true

  clean-from : (f : Content) (rename : List ℕ → List ℕ) → ((x : Agency) → In x f.agencies → id_part (agency_with rename x) ≡ true) → agency_clean f rename
  clean-from f rename part x h =
      let r = found agency_id_of f.agencies x h in
      let i = found_id agency_id_of f.agencies x r.0 r.1 in
      subst (λ v. is_clean (rename v) ≡ true) i.1 (and_parts (is_clean (rename r.0.agency_id)) _ (part r.0 i.0)).0

  pub fits-a : Fits m a na
  fits-a = record { named = named-a; typed = typed-a; filled = filled-a; clean = clean-from a na.agency part-a }

  pub fits-b : Fits m b nb
  fits-b = record { named = named-b; typed = typed-b; filled = filled-b; clean = clean-from b nb.agency part-b }
