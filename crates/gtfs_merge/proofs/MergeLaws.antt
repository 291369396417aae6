-- The law of a merge of two sound feeds.
use Rattle.std.proofs.Common.{refl, sym, ◌∙◌}
use Rattle.gtfs_merge.specs.declared.kind.Kind.{Kind}
use Rattle.gtfs_merge.specs.declared.kind.Kind.TheVariants as kind
use Rattle.gtfs_rows.specs.Content.{Content}
use Rattle.gtfs_times.specs.Filling.{timed}
use Rattle.gtfs_times.specs.declared.times.Times.{Times}
use Rattle.gtfs_rows.specs.Departures.{any_row}
use Rattle.gtfs_rows.specs.SoundContent.{IsSound}
use Rattle.gtfs_merge.specs.SameRows.{same_trip}
use Rattle.gtfs_merge.specs.Renaming.{Nearness, kept_as_is, names_a, trip_with, route_b, service_b, stop_b}
use Rattle.gtfs_merge.specs.DeparturesOfBoth.{IsImage, HasUnion, SharesJoined, HasBoards}
use Rattle.gtfs_merge.specs.MergedDepartures.{SharesExactly}
use Rattle.gtfs_merge.proofs.MergedRows.{joined-rows, has_found}
use Rattle.gtfs_merge.proofs.Carried.{trip_id_of}
use Rattle.gtfs_merge.proofs.Union.{AreFew, has-union, shares-joined, departs-a}
use Rattle.gtfs_merge.proofs.Stops.{IsNearness}
use Rattle.gtfs_merge.proofs.Places.{has-boards}
use Rattle.gtfs_merge.proofs.Premises.{sound-keys, sound-services, sound-places}

module _ (choice : Times) (near : Nearness) (nearness : IsNearness near) (a b : Content) (sound_a : IsSound a) (sound_b : IsSound b) (few : (c : Kind) → AreFew c a b) where
  pub merge-union : HasUnion choice near a b
  merge-union = has-union near a b (sound-keys a sound_a) (sound-keys b sound_b) (few kind.Trip) (few kind.Service) choice (sound-services a sound_a) (sound-services b sound_b)

  pub merge-shares : SharesJoined choice near a b
  merge-shares = shares-joined near a b (sound-keys a sound_a) (sound-keys b sound_b) (few kind.Trip) (few kind.Service) choice (sound-services a sound_a) (sound-services b sound_b)

  pub merge-boards : HasBoards choice near a b
  merge-boards = has-boards choice near nearness a b (sound-keys a sound_a) (sound-keys b sound_b) (few kind.Trip) (few kind.Service) (sound-services a sound_a) (sound-services b sound_b) (sound-places a sound_a) (sound-places b sound_b) (few kind.Stop)

  pub merge-shares-exactly : SharesExactly choice near a b
  merge-shares-exactly origin k e = (
    λ w. (merge-shares origin k w.0).0 w.1,
    λ j.
        let keys_a = sound-keys a sound_a in
        let keys_b = sound-keys b sound_b in
        let r = joined-rows trip_id_of (λ row other. same_trip row (trip_with kept_as_is (route_b a b) (service_b a b) (stop_b near a b) other)) a.trips b.trips keys_a.trips keys_b.trips k.trip j in
        let h = has_found trip_id_of a.trips k.trip r.0 r.2 in
        let in_a : IsImage (timed choice a) origin (names_a a b) k = (k, sym (departs-a near a b keys_a keys_b (few kind.Trip) (few kind.Service) choice (sound-services a sound_a) (sound-services b sound_b) origin any_row k h) ∙ e, refl) in
        (in_a, (merge-shares origin k in_a).1 j),
  )
