-- Rows of a sound feed stay sound under new names that fit.
use Rattle.std.proofs.Common.{◌≡◌, ℕ, Bool, true, not, List, [], ◌∷◌, Some, None, Option, refl, sym, ap, ◌∙◌, map, option_map, is_some, nat_le}
use Rattle.std.specs.Prelude.{◌&&◌, ◌||◌, ◌==◌, if◌then◌else◌}
use Rattle.std.specs.List.{list_all}
use Rattle.std.proofs.lemmas.Bool.{and_parts, and_from}
use Rattle.std.proofs.lemmas.List.Folds.{list_all-map}
use Rattle.gtfs_rows.specs.Cells.{is_clean, is_filled}
use Rattle.gtfs_rows.specs.Content.{Content}
use Rattle.gtfs_rows.specs.Rows.{Stop, Route, StopRow, Trip, Transfer}
use Rattle.gtfs_rows.specs.SoundContent.{has_id as has_row, if_given, is_stop_of, has_right_parent, is_sound_stop, is_sound_route, is_sound_stop_row, keeps_time, is_end, is_sound_in, leaves, is_sound_period, is_sound_trip, has_ends, is_sound_transfer}
use Rattle.gtfs_rows.proofs.Members.{list_all-In, list_all-from}
use Rattle.gtfs_merge.specs.declared.kind.Kind.{Kind}
use Rattle.gtfs_merge.specs.declared.kind.Kind.TheVariants as kind
use Rattle.gtfs_merge.specs.Merged.{transfer_with}
use Rattle.gtfs_merge.specs.Renaming.{Names, lists_id, ids, renaming, stop_with, route_with, stop_row_with, trip_with}
use Rattle.gtfs_merge.proofs.Premises.{row-id}

-- m has each id of f under its new name, and stops of the same types
pub record Fits (m f : Content) (n : Names) : Type 0 where
  pub named : (k : Kind) (x : List ℕ) → lists_id (ids k f) x ≡ true → lists_id (ids k m) (renaming n k x) ≡ true
  pub typed : (types : List ℕ) (x : List ℕ) → is_stop_of f types x ≡ true → is_stop_of m types (n.stop x) ≡ true
  pub filled : (k : Kind) (x : List ℕ) → lists_id (ids k f) x ≡ true → is_filled x ≡ true → is_filled (renaming n k x) ≡ true
  pub clean : (x : List ℕ) → lists_id (ids kind.Agency f) x ≡ true → is_clean (n.agency x) ≡ true

module _ (m f : Content) (n : Names) (fits : Fits m f n) where
  -- a row that is named in f is named in m
  fit-row : {X : Type 0} (k : Kind) (id : X → List ℕ) (rows news : List X) → map id rows ≡ ids k f → map id news ≡ ids k m
      → (x : List ℕ) → has_row id rows x ≡ true → has_row id news (renaming n k x) ≡ true
  fit-row k id rows news here there x e =
      sym (row-id id news (renaming n k x)) ∙ ap (λ l. lists_id l (renaming n k x)) there
      ∙ fits.named k x (ap (λ l. lists_id l x) (sym here) ∙ row-id id rows x ∙ e)

  fit-right : (type : ℕ) (o : Option (List ℕ)) → has_right_parent f type o ≡ true → has_right_parent m type (option_map n.stop o) ≡ true
  fit-right type None e = e
  fit-right type (Some p) e =
      let q = and_parts (not (type == 1)) (is_stop_of f ((if type == 4 then 0 else 1) ∷ []) p) e in
      and_from (not (type == 1)) (is_stop_of m ((if type == 4 then 0 else 1) ∷ []) (n.stop p)) q.0 (fits.typed ((if type == 4 then 0 else 1) ∷ []) p q.1)

  pub fit-stop : (s : Stop) → is_sound_stop f s ≡ true → is_sound_stop m (stop_with n.stop s) ≡ true
  fit-stop s e =
      let p = and_parts _ (has_right_parent f s.location_type s.parent_station) e in
      and_from _ _ p.0 (fit-right s.location_type s.parent_station p.1)

  pub fit-route : (r : Route) → is_sound_route f r ≡ true → is_sound_route m (route_with n.route n.agency r) ≡ true
  fit-route r e =
      let p = and_parts (has_row (λ a. a.agency_id) f.agencies r.agency_id) _ e in
      and_from _ _ (fit-row kind.Agency (λ a. a.agency_id) f.agencies m.agencies refl refl r.agency_id p.0) p.1

  -- ---- trips

  fit-stop_row : (r : StopRow) → is_sound_stop_row f r ≡ true → is_sound_stop_row m (stop_row_with n.stop r) ≡ true
  fit-stop_row r e =
      let p = and_parts (is_stop_of f (0 ∷ []) r.stop_id) _ e in
      and_from _ _ (fits.typed (0 ∷ []) r.stop_id p.0) p.1

  end-same : (rows : List StopRow) (r : StopRow) → is_end (map (stop_row_with n.stop) rows) (stop_row_with n.stop r) ≡ is_end rows r
  end-same rows r = λ i. list_all-map (λ s. nat_le r.stop_sequence s.stop_sequence) (stop_row_with n.stop) rows i
      || list_all-map (λ s. nat_le s.stop_sequence r.stop_sequence) (stop_row_with n.stop) rows i

  fit-stop_rows : (rows : List StopRow) → list_all (is_sound_in f rows) rows ≡ true
      → list_all (is_sound_in m (map (stop_row_with n.stop) rows)) (map (stop_row_with n.stop) rows) ≡ true
  fit-stop_rows rows e =
      list_all-map (is_sound_in m (map (stop_row_with n.stop) rows)) (stop_row_with n.stop) rows ∙ list_all-from _ rows (λ r i.
      let q = and_parts (is_sound_stop_row f r && (is_some (leaves r) || not (is_end rows r))) _ (list_all-In (is_sound_in f rows) rows e r i) in
      let s = and_parts (is_sound_stop_row f r) _ q.0 in
      and_from _ _ (and_from _ _ (fit-stop_row r s.0) (ap (λ b. is_some (leaves r) || not b) (end-same rows r) ∙ s.1)) (list_all-map (keeps_time r) (stop_row_with n.stop) rows ∙ q.1))

  pub fit-trip : (t : Trip) → is_sound_trip f t ≡ true → is_sound_trip m (trip_with n.trip n.route n.service n.stop t) ≡ true
  fit-trip t e =
      let p = and_parts _ (list_all (is_sound_period t.frequencies) t.frequencies) e in
      let q = and_parts _ (list_all (is_sound_in f t.stop_rows) t.stop_rows) p.0 in
      let r = and_parts (has_row (λ r. r.route_id) f.routes t.route_id) (has_row (λ s. s.service_id) f.services t.service_id) q.0 in
      and_from _ _ (and_from _ _ (and_from _ _
      (fit-row kind.Route (λ r. r.route_id) f.routes m.routes refl refl t.route_id r.0)
      (fit-row kind.Service (λ s. s.service_id) f.services m.services refl refl t.service_id r.1))
      (fit-stop_rows t.stop_rows q.1)) p.1

  -- ---- transfers

  fit-place : (o : Option (List ℕ)) → if_given o (is_stop_of f (0 ∷ 1 ∷ [])) ≡ true → if_given (option_map n.stop o) (is_stop_of m (0 ∷ 1 ∷ [])) ≡ true
  fit-place None e = refl
  fit-place (Some x) e = fits.typed (0 ∷ 1 ∷ []) x e

  fit-route_name : (o : Option (List ℕ)) → if_given o (has_row (λ r. r.route_id) f.routes) ≡ true → if_given (option_map n.route o) (has_row (λ r. r.route_id) m.routes) ≡ true
  fit-route_name None e = refl
  fit-route_name (Some x) e = fit-row kind.Route (λ r. r.route_id) f.routes m.routes refl refl x e

  fit-trip_name : (o : Option (List ℕ)) → if_given o (has_row (λ r. r.trip_id) f.trips) ≡ true → if_given (option_map n.trip o) (has_row (λ r. r.trip_id) m.trips) ≡ true
  fit-trip_name None e = refl
  fit-trip_name (Some x) e = fit-row kind.Trip (λ r. r.trip_id) f.trips m.trips refl refl x e

  same-there : {X Y : Type 0} (h : X → Y) (o : Option X) → is_some (option_map h o) ≡ is_some o
  same-there h None = refl
  same-there h (Some x) = refl

  fit-ends : (t : Transfer) → has_ends (transfer_with n t) ≡ has_ends t
  fit-ends t = λ i. (t.transfer_type == 0) || (nat_le t.transfer_type 3 && same-there n.stop t.from_stop_id i && same-there n.stop t.to_stop_id i)
      || (nat_le 4 t.transfer_type && same-there n.trip t.from_trip_id i && same-there n.trip t.to_trip_id i)

  abbrev places : Content → Transfer → Bool
  places c t = if_given t.from_stop_id (is_stop_of c (0 ∷ 1 ∷ [])) && if_given t.to_stop_id (is_stop_of c (0 ∷ 1 ∷ []))

  abbrev with_routes : Content → Transfer → Bool
  with_routes c t = places c t && if_given t.from_route_id (has_row (λ r. r.route_id) c.routes) && if_given t.to_route_id (has_row (λ r. r.route_id) c.routes)

  abbrev with_trips : Content → Transfer → Bool
  with_trips c t = with_routes c t && if_given t.from_trip_id (has_row (λ r. r.trip_id) c.trips) && if_given t.to_trip_id (has_row (λ r. r.trip_id) c.trips)

  pub fit-transfer : (t : Transfer) → is_sound_transfer f t ≡ true → is_sound_transfer m (transfer_with n t) ≡ true
  fit-transfer t e =
      let p = and_parts (with_trips f t) (has_ends t) e in
      let q = and_parts (with_routes f t && if_given t.from_trip_id (has_row (λ r. r.trip_id) f.trips)) _ p.0 in
      let r = and_parts (with_routes f t) _ q.0 in
      let u = and_parts (places f t && if_given t.from_route_id (has_row (λ r. r.route_id) f.routes)) _ r.0 in
      let v = and_parts (places f t) _ u.0 in
      let w = and_parts (if_given t.from_stop_id (is_stop_of f (0 ∷ 1 ∷ []))) _ v.0 in
      and_from (with_trips m (transfer_with n t)) (has_ends (transfer_with n t)) (and_from _ _ (and_from _ _ (and_from _ _ (and_from _ _ (and_from _ _
      (fit-place t.from_stop_id w.0) (fit-place t.to_stop_id w.1))
      (fit-route_name t.from_route_id v.1)) (fit-route_name t.to_route_id u.1))
      (fit-trip_name t.from_trip_id r.1)) (fit-trip_name t.to_trip_id q.1)) (fit-ends t ∙ p.1)
