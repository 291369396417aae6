-- Stops of two feeds in the merged feed: their types and parents under the new names.
use Rattle.std.proofs.Common.{◌≡◌, ℕ, Bool, true, false, not, List, ◌++◌, Some, None, Option, refl, sym, ap, ◌∙◌, subst, inl, inr, ◌⊎◌, bytes_eq, option_map, option_and_then, unwrap_or, find, true≢false, is_some}
use Rattle.std.specs.Prelude.{◌&&◌, ◌||◌, ◌==◌, if◌then◌else◌}
use Rattle.std.specs.List.{list_any}
use Rattle.std.specs.Option.{option_eq}
use Rattle.std.proofs.lemmas.Bool.{and_parts, and_from, cases_Bool}
use Rattle.gtfs_rows.specs.Rows.{Stop, StopRow, Trip}
use Rattle.gtfs_rows.specs.Content.{Content}
use Rattle.gtfs_rows.specs.Places.{is_plain_stop}
use Rattle.gtfs_rows.proofs.Members.{In}
use Rattle.gtfs_merge.specs.SameRows.{same_stop}
use Rattle.gtfs_merge.specs.Renaming.{Renaming, Nearness, never_near, kept_as_is, lists_id, ids, free_id, stop_with, joined_stop_under, near_stop_under, stop_under, stop_within, stop_b, renamed_b}
use Rattle.gtfs_merge.specs.Merged.{merged}
use Rattle.gtfs_nearby.specs.NearRows.{are_close, same_given_name}
use Rattle.gtfs_merge.specs.NearStops.{near_by, nearness}
use Rattle.gtfs_merge.specs.declared.kind.Kind.TheVariants as kind
pub use Rattle.gtfs_merge.specs.MergedDepartures.{IsNearness}
use Rattle.gtfs_merge.proofs.Lookups.{bytes_same, In-list_any, find-In, holds_at, look, IsKeyed}
use Rattle.gtfs_merge.proofs.Fresh.{renamed_into_a, renamed_apart}
use Rattle.gtfs_merge.proofs.Equal.{alike-stop, exact-nat, exact-text}
use Rattle.gtfs_merge.proofs.MergedRows.{found, has_found, has_own, joined-rows, merged-a, merged-b}
use Rattle.gtfs_merge.proofs.Union.{AreFew}

abbrev pub stop_id_of : Stop → List ℕ
stop_id_of s = s.stop_id

pub never-nearness : IsNearness never_near
never-nearness = record { reads_parent = λ r s y x e. refl; alike = λ r y x h. absurd (true≢false (sym h)) }

pub near-nearness : (n : ℕ) → IsNearness (near_by n)
near-nearness n = record {
  reads_parent = λ r s y x e i. (y.location_type == x.location_type) && same_given_name y.stop_name x.stop_name
      && are_close n y.stop_lat x.stop_lat && are_close n y.stop_lon x.stop_lon && option_eq bytes_eq (e i) x.parent_station;
  alike = λ r y x h.
      let p = and_parts _ _ h in
      let q = and_parts _ _ p.0 in
      let u = and_parts _ _ q.0 in
      let v = and_parts _ _ u.0 in
      (sym (exact-nat y.location_type x.location_type v.0), sym (exact-text (option_map r y.parent_station) x.parent_station p.1));
}

pub is-nearness : (o : Option ℕ) → IsNearness (nearness o)
is-nearness None = never-nearness
is-nearness (Some n) = near-nearness n

-- what is known of the stops of a feed
pub record HasPlaces (f : Content) : Type 0 where
  pub keyed : IsKeyed stop_id_of f.stops
  pub rows_named : (t : Trip) → In t f.trips → (row : StopRow) → In row t.stop_rows → lists_id (ids kind.Stop f) row.stop_id ≡ true
  pub parents_named : (s : Stop) → In s f.stops → (p : List ℕ) → s.parent_station ≡ Some p → lists_id (ids kind.Stop f) p ≡ true
  pub stations : (s : Stop) → In s f.stops → is_plain_stop s ≡ true → (p : List ℕ) (q : Stop) → s.parent_station ≡ Some p → look stop_id_of f.stops p ≡ Some q → q.parent_station ≡ None

module _ (near : Nearness) (nearness : IsNearness near) (a b : Content) (places_a : HasPlaces a) (places_b : HasPlaces b) (few : AreFew kind.Stop a b) where
  -- ---- names of stops read the names of parents alone

  module _ (r s : Renaming) (x : List ℕ) (y : Stop) (e : look stop_id_of b.stops x ≡ Some y) (p : option_map r y.parent_station ≡ option_map s y.parent_station) where
    joined-is : (r : Renaming) → joined_stop_under r a b x ≡ list_any (λ row. bytes_eq row.stop_id x && same_stop row (stop_with r y)) a.stops
    joined-is r = λ i. list_any (λ row. bytes_eq row.stop_id x && (places_b.keyed x (λ other. same_stop row (stop_with r other)) ∙ ap (λ o. holds_at o (λ other. same_stop row (stop_with r other))) e) i) a.stops

    pub joined-same : joined_stop_under r a b x ≡ joined_stop_under s a b x
    joined-same = joined-is r ∙ (λ i. list_any (λ row. bytes_eq row.stop_id x && same_stop row (record y { parent_station = p i })) a.stops) ∙ sym (joined-is s)

    pub near-same : near_stop_under near r a b x ≡ near_stop_under near s a b x
    near-same = ap (option_and_then (λ y. option_map stop_id_of (find (near r y) a.stops))) e
        ∙ (λ i. option_map stop_id_of (find (λ z. nearness.reads_parent r s y z p i) a.stops))
        ∙ sym (ap (option_and_then (λ y. option_map stop_id_of (find (near s y) a.stops))) e)

    pub under-same : stop_under near r a b x ≡ stop_under near s a b x
    under-same = λ i. if joined-same i then x else unwrap_or (near-same i) (if not (lists_id (ids kind.Stop a) x) || joined-same i then x else free_id (ids kind.Stop a ++ ids kind.Stop b) x)

  abbrev pub two : Renaming
  two = stop_within near 2 a b

  -- the parent of a stop has its last name after two steps
  abbrev pub IsSettled : Stop → Type 0
  IsSettled y = option_map two y.parent_station ≡ option_map (stop_b near a b) y.parent_station

  pub settled : (y : Stop) → In y b.stops → is_plain_stop y ≡ true → IsSettled y
  settled y i plain = by y.parent_station refl
    where
      by : (o : Option (List ℕ)) → y.parent_station ≡ o → option_map two o ≡ option_map (stop_b near a b) o
      by None e = refl
      by (Some p) e =
          let q = found stop_id_of b.stops p (places_b.parents_named y i p e) in
          let none = places_b.stations y i plain p q.0 e q.1 in
          ap Some (under-same (stop_within near 1 a b) two p q.0 q.1 (ap (option_map (stop_within near 1 a b)) none ∙ sym (ap (option_map two) none)))

  -- ---- the three ways to a name

  abbrev pub StopCase : List ℕ → Type 0
  StopCase x = (((joined_stop_under two a b x ≡ true) × (stop_b near a b x ≡ x))
      ⊎ ((z : List ℕ) × (near_stop_under near two a b x ≡ Some z) × (stop_b near a b x ≡ z)))
      ⊎ (stop_b near a b x ≡ renamed_b (ids kind.Stop a) (ids kind.Stop b) (joined_stop_under two a b) x)

  pub stop_case : (x : List ℕ) → StopCase x
  stop_case x = by (joined_stop_under two a b x) refl (near_stop_under near two a b x) refl
    where
      by : (j : Bool) → joined_stop_under two a b x ≡ j → (o : Option (List ℕ)) → near_stop_under near two a b x ≡ o → StopCase x
      by true e o f = inl (inl (e, ap (λ j. if j then x else unwrap_or (near_stop_under near two a b x) (renamed_b (ids kind.Stop a) (ids kind.Stop b) (joined_stop_under two a b) x)) e))
      by false e (Some z) f = inl (inr (z, f, (λ i. if e i then x else unwrap_or (f i) (renamed_b (ids kind.Stop a) (ids kind.Stop b) (joined_stop_under two a b) x))))
      by false e None f = inr (λ i. if e i then x else unwrap_or (f i) (renamed_b (ids kind.Stop a) (ids kind.Stop b) (joined_stop_under two a b) x))

  -- where a stop of B became a stop of A, that one has the type and the parent
  abbrev pub IsLike : Stop → List ℕ → Type 0
  IsLike y q = (z : Stop) × (look stop_id_of a.stops q ≡ Some z) × (z.location_type ≡ y.location_type) × (z.parent_station ≡ option_map two y.parent_station)

  pub like-joined : (x : List ℕ) (y : Stop) → look stop_id_of b.stops x ≡ Some y → joined_stop_under two a b x ≡ true → IsLike y x
  like-joined x y e j =
      let r = joined-rows stop_id_of (λ row other. same_stop row (stop_with two other)) a.stops b.stops places_a.keyed places_b.keyed x j in
      let same : r.1 ≡ y = ap (λ o. unwrap_or o y) (sym r.3 ∙ e) in
      let l = alike-stop r.0 (stop_with two r.1) r.4 in
      (r.0, r.2, l.0 ∙ ap (λ s. s.location_type) same, l.1 ∙ ap (λ s. option_map two s.parent_station) same)

  pub like-near : (x : List ℕ) (y : Stop) (q : List ℕ) → look stop_id_of b.stops x ≡ Some y → near_stop_under near two a b x ≡ Some q → IsLike y q
  like-near x y q e n =
      let o : option_map stop_id_of (find (near two y) a.stops) ≡ Some q = sym (ap (option_and_then (λ y. option_map stop_id_of (find (near two y) a.stops))) e) ∙ n in
      let s = mapped (find (near two y) a.stops) o in
      let w = find-In (near two y) a.stops s.0 s.1 in
      let z = found stop_id_of a.stops q (subst (λ v. lists_id (ids kind.Stop a) v ≡ true) s.2 (has_own stop_id_of a.stops s.0 w.0)) in
      let passes : near two y z.0 ≡ true = sym (places_a.keyed q (near two y) ∙ ap (λ o. holds_at o (near two y)) z.1)
      ∙ In-list_any (λ v. bytes_eq v.stop_id q && near two y v) a.stops s.0 w.0 (and_from _ _ (bytes_same _ _ s.2) w.1) in
      let l = nearness.alike two y z.0 passes in
      (z.0, z.1, l.0, l.1)
    where
      mapped : (o : Option Stop) → option_map stop_id_of o ≡ Some q → (s : Stop) × (o ≡ Some s) × (s.stop_id ≡ q)
      mapped None f = absurd (true≢false (sym (ap is_some f)))
      mapped (Some s) f = (s, refl, ap (λ o. unwrap_or o q) f)

  -- a stop of B gets an id of A only where it is like it
  into_a : (x : List ℕ) (y : Stop) → look stop_id_of b.stops x ≡ Some y → lists_id (ids kind.Stop a) (stop_b near a b x) ≡ true → IsLike y (stop_b near a b x)
  into_a x y e h = elim (stop_case x) as (λ w. IsLike y (stop_b near a b x)) [
    | inl c ↦ elim c as (λ w. IsLike y (stop_b near a b x)) [
      | inl j ↦ subst (IsLike y) (sym j.1) (like-joined x y e j.0)
      | inr n ↦ subst (IsLike y) (sym n.2) (like-near x y n.0 e n.1)
    ]
    | inr r ↦
        let s = renamed_into_a (ids kind.Stop a) (ids kind.Stop b) (joined_stop_under two a b) few x (subst (λ v. lists_id (ids kind.Stop a) v ≡ true) r h) in
        subst (IsLike y) (sym (r ∙ s.0)) (like-joined x y e s.1)
  ]

  -- an id that A lacks was made by the rule of all kinds
  pub by_rule : (x : List ℕ) → lists_id (ids kind.Stop b) x ≡ true → lists_id (ids kind.Stop a) (stop_b near a b x) ≡ false → stop_b near a b x ≡ renamed_b (ids kind.Stop a) (ids kind.Stop b) (joined_stop_under two a b) x
  by_rule x h lacks =
      let y = found stop_id_of b.stops x h in
      elim (stop_case x) as (λ w. stop_b near a b x ≡ renamed_b (ids kind.Stop a) (ids kind.Stop b) (joined_stop_under two a b) x) [
        | inl c ↦ elim c as (λ w. stop_b near a b x ≡ renamed_b (ids kind.Stop a) (ids kind.Stop b) (joined_stop_under two a b) x) [
          | inl j ↦ let l = like-joined x y.0 y.1 j.0 in absurd (true≢false (sym (has_found stop_id_of a.stops x l.0 l.1) ∙ sym (ap (lists_id (ids kind.Stop a)) j.1) ∙ lacks))
          | inr n ↦ let l = like-near x y.0 n.0 y.1 n.1 in absurd (true≢false (sym (has_found stop_id_of a.stops n.0 l.0 l.1) ∙ sym (ap (lists_id (ids kind.Stop a)) n.2) ∙ lacks))
        ]
        | inr r ↦ r
      ]

  -- ---- stops in the merged feed

  kept_parent : (o : Option (List ℕ)) → option_map kept_as_is o ≡ o
  kept_parent None = refl
  kept_parent (Some x) = refl

  pub merged-stop-a : (x : List ℕ) (y : Stop) → look stop_id_of a.stops x ≡ Some y → look stop_id_of (merged near a b).stops x ≡ Some y
  merged-stop-a x y e = merged-a stop_id_of (stop_with kept_as_is) (stop_with (stop_b near a b)) (stop_b near a b) a.stops b.stops (λ s. refl) (λ s. refl) x y e ∙ ap Some (λ i. record y { parent_station = kept_parent y.parent_station i })

  pub merged-stop-b : (x : List ℕ) (y : Stop) → look stop_id_of b.stops x ≡ Some y
      → (z : Stop) × (look stop_id_of (merged near a b).stops (stop_b near a b x) ≡ Some z) × (z.location_type ≡ y.location_type) × (IsSettled y → z.parent_station ≡ option_map (stop_b near a b) y.parent_station)
  merged-stop-b x y e = elim (cases_Bool (lists_id (ids kind.Stop a) (stop_b near a b x))) as (λ w. (z : Stop) × (look stop_id_of (merged near a b).stops (stop_b near a b x) ≡ Some z) × (z.location_type ≡ y.location_type) × (IsSettled y → z.parent_station ≡ option_map (stop_b near a b) y.parent_station)) [
    | inl h ↦ let l = into_a x y e h in (l.0, merged-stop-a (stop_b near a b x) l.0 l.1, l.2, λ s. l.3 ∙ s)
    | inr h ↦
        let hx = has_found stop_id_of b.stops x y e in (
          stop_with (stop_b near a b) y,
          merged-b stop_id_of (stop_with kept_as_is) (stop_with (stop_b near a b)) (stop_b near a b) a.stops b.stops (λ s. refl) (λ s. refl) x
              (λ v hv f. renamed_apart (ids kind.Stop a) (ids kind.Stop b) (joined_stop_under two a b) few v x hv hx (sym (by_rule v hv (ap (lists_id (ids kind.Stop a)) f ∙ h)) ∙ f ∙ by_rule x hx h))
              h
              ∙ ap (option_map (stop_with (stop_b near a b))) e,
          refl,
          λ s. refl,
        )
  ]
