-- Three steps of parents decide the names of all stops.
use Rattle.std.proofs.Common.{◌≡◌, ℕ, Bool, true, false, List, [], ◌∷◌, Some, None, Option, refl, sym, ap, ◌∙◌, inl, inr, option_map, eqb-true, true≢false}
use Rattle.std.specs.Prelude.{◌==◌, if◌then◌else◌}
use Rattle.std.specs.List.{list_any}
use Rattle.std.proofs.lemmas.Bool.{or_cases}
use Rattle.gtfs_rows.specs.Content.{Content}
use Rattle.gtfs_rows.specs.Rows.{Stop}
use Rattle.gtfs_rows.specs.SoundContent.{IsSound, is_stop_of, has_right_parent}
use Rattle.gtfs_rows.proofs.Members.{In}
use Rattle.gtfs_merge.specs.MergedDepartures.{AreFew, IsNearness}
use Rattle.gtfs_merge.specs.Renaming.{Nearness, lists_id, ids, joined_stop, joined_stop_under, near_stop_under, stop_b, stop_within}
use Rattle.gtfs_merge.specs.declared.kind.Kind.TheVariants as kind
use Rattle.gtfs_merge.proofs.MergedRows.{found, found_id}
use Rattle.gtfs_merge.proofs.Premises.{of_type-found, right-parent, sound-parent, sound-places}
use Rattle.gtfs_merge.proofs.Stops.{joined-same, near-same, stop_id_of, under-same}

of-type : (t u : ℕ) → list_any (λ x. x == u) (t ∷ []) ≡ true → u ≡ t
of-type t u e = elim (or_cases (t == u) false e) as (λ w. u ≡ t) [
  | inl h ↦ sym (eqb-true t u h)
  | inr h ↦ absurd (true≢false (sym h))
]

module _ (near : Nearness) (nearness : IsNearness near) (a b : Content) (sound_a : IsSound a) (sound_b : IsSound b) (few : AreFew kind.Stop a b) where
  abbrev within : ℕ → List ℕ → List ℕ
  within n = stop_within near n a b

  no-parent : (o : Option (List ℕ)) → has_right_parent b 1 o ≡ true → o ≡ None
  no-parent None e = refl
  no-parent (Some p) e = absurd (true≢false (sym e))

  -- a station has its name at once
  station-named : (s : List ℕ) → is_stop_of b (1 ∷ []) s ≡ true → within 1 s ≡ within 2 s
  station-named s e =
      let u = of_type-found b (1 ∷ []) s e in
      let there = (found_id stop_id_of b.stops s u.0 u.1).0 in
      let none = no-parent u.0.parent_station (ap (λ t. has_right_parent b t u.0.parent_station) (sym (of-type 1 u.0.location_type u.2)) ∙ sound-parent b sound_b u.0 there) in
      under-same near nearness a b (sound-places a sound_a) (sound-places b sound_b) few (within 0) (within 1) s u.0 u.1 (ap (option_map (within 0)) none ∙ sym (ap (option_map (within 1)) none))

  -- so does the parent of each stop but a boarding area
  lower : (v : Stop) → In v b.stops → (v.location_type == 4) ≡ false → option_map (within 1) v.parent_station ≡ option_map (within 2) v.parent_station
  lower v i other = by v.parent_station refl
    where
      by : (o : Option (List ℕ)) → v.parent_station ≡ o → option_map (within 1) o ≡ option_map (within 2) o
      by None e = refl
      by (Some s) e =
          let right = ap (has_right_parent b v.location_type) (sym e) ∙ sound-parent b sound_b v i in
          ap Some (station-named s (ap (λ c. is_stop_of b ((if c then 0 else 1) ∷ []) s) (sym other) ∙ right-parent b v.location_type s right))

  not-boarding : (c : Bool) (t : ℕ) → t ≡ (if c then 0 else 1) → (t == 4) ≡ false
  not-boarding true t e = ap (λ n. n == 4) e
  not-boarding false t e = ap (λ n. n == 4) e

  pub parents-named : (y : Stop) → In y b.stops → option_map (within 2) y.parent_station ≡ option_map (within 3) y.parent_station
  parents-named y i = by y.parent_station refl
    where
      by : (o : Option (List ℕ)) → y.parent_station ≡ o → option_map (within 2) o ≡ option_map (within 3) o
      by None e = refl
      by (Some p) e =
          let right = ap (has_right_parent b y.location_type) (sym e) ∙ sound-parent b sound_b y i in
          let v = of_type-found b ((if y.location_type == 4 then 0 else 1) ∷ []) p (right-parent b y.location_type p right) in
          let there = (found_id stop_id_of b.stops p v.0 v.1).0 in
          let below = lower v.0 there (not-boarding (y.location_type == 4) v.0.location_type (of-type _ v.0.location_type v.2)) in
          ap Some (under-same near nearness a b (sound-places a sound_a) (sound-places b sound_b) few (within 1) (within 2) p v.0 v.1 below)

  -- so what decides after two steps decides in the end
  pub joined-settled : (x : List ℕ) → lists_id (ids kind.Stop b) x ≡ true → joined_stop_under (within 2) a b x ≡ joined_stop near a b x
  joined-settled x h =
      let y = found stop_id_of b.stops x h in
      let there = (found_id stop_id_of b.stops x y.0 y.1).0 in
      joined-same near nearness a b (sound-places a sound_a) (sound-places b sound_b) few (within 2) (within 3) x y.0 y.1 (parents-named y.0 there)

  pub near-settled : (x : List ℕ) → lists_id (ids kind.Stop b) x ≡ true → near_stop_under near (within 2) a b x ≡ near_stop_under near (stop_b near a b) a b x
  near-settled x h =
      let y = found stop_id_of b.stops x h in
      let there = (found_id stop_id_of b.stops x y.0 y.1).0 in
      near-same near nearness a b (sound-places a sound_a) (sound-places b sound_b) few (within 2) (within 3) x y.0 y.1 (parents-named y.0 there)
