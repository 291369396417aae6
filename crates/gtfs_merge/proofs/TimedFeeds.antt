-- A feed under a choice of times: its rows keep their stops.
use Rattle.std.proofs.Common.{◌≡◌, ◌∙◌, ◌+◌, ℕ, Bool, true, false, List, [], ◌∷◌, Option, refl, sym, ap, inl, inr, subst}
use Rattle.std.specs.Prelude.{if◌then◌else◌}
use Rattle.std.specs.List.{enumerate_from}
use Rattle.gtfs_rows.specs.Content.{Content}
use Rattle.gtfs_rows.specs.Rows.{StopRow, Trip}
use Rattle.gtfs_rows.specs.Runs.{is_timed}
use Rattle.gtfs_times.specs.Filling.{filled_row, time_at, timed, timed_stop_rows, timed_trip}
use Rattle.gtfs_times.specs.declared.times.Times.{Times}
use Rattle.gtfs_times.specs.declared.times.Times.TheVariants as times
use Rattle.gtfs_rows.proofs.Members.{In, In-map}
use Rattle.gtfs_merge.specs.Renaming.{lists_id, ids}
use Rattle.gtfs_merge.specs.declared.kind.Kind.TheVariants as kind
use Rattle.gtfs_merge.proofs.Stops.{HasPlaces}

-- ---- rows keep their stops

in-placed : {X : Type 0} (a : ℕ) (xs : List X) (x : ℕ × X) → In x (enumerate_from a xs) → In x.1 xs
in-placed a [] x i = elim i [ ]
in-placed a (y ∷ ys) x (inl e) = inl (ap (λ z. z.1) e)
in-placed a (y ∷ ys) x (inr i) = inr (in-placed (a + 1) ys x i)

stop-kept : (b : Bool) (r : StopRow) (t : Option ℕ) → (if b then r else record r { arrival_time = t; departure_time = t }).stop_id ≡ r.stop_id
stop-kept true r t = refl
stop-kept false r t = refl

row-of : (choice : Times) (rows : List StopRow) (row : StopRow) → In row (timed_stop_rows choice rows) → (own : StopRow) × In own rows × (own.stop_id ≡ row.stop_id)
row-of times.Given rows row i = (row, i, refl)
row-of times.Interpolated rows row i =
    let r = In-map (filled_row rows) (enumerate_from 0 rows) row i in
    (r.0.1, in-placed 0 rows r.0 r.1, sym (stop-kept (is_timed r.0.1) r.0.1 (time_at rows r.0.0)) ∙ ap (λ (x : StopRow). x.stop_id) r.2)

pub places-timed : (choice : Times) (f : Content) → HasPlaces f → HasPlaces (timed choice f)
places-timed choice f places = record {
  keyed = places.keyed;
  rows_named = λ t i row j.
      let r = In-map (timed_trip choice) f.trips t i in
      let w = row-of choice r.0.stop_rows row (subst (λ (u : Trip). In row u.stop_rows) (sym r.2) j) in
      ap (lists_id (ids kind.Stop f)) (sym w.2) ∙ places.rows_named r.0 r.1 w.0 w.1;
  parents_named = places.parents_named;
  stations = places.stations;
}
