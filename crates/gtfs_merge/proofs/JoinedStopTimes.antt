-- Stop times of two feeds, compared by the numbers of their stops.
use Rattle.std.proofs.Common.{◌≡◌, ◌<◌, ℕ, Bool, List, Some, None, Option, sym, ap, ◌∙◌, length, map, get_or, bytes_eq, nat_eq, option_map, arith}
use Rattle.std.specs.Option.{option_eq}
use Rattle.std.proofs.lemmas.List.{length-map}
use Rattle.gtfs_rows.specs.RowsInMemory.{IsSoundParts, stop_ids, text_of_number}
use Rattle.gtfs_rows.proofs.SoundOrder.{in_order}
use Rattle.gtfs_merge.specs.Renaming.{stop_b}
use Rattle.gtfs_merge.specs.MergedSides.{content_a, content_b, nearness_of}
use Rattle.gtfs_merge.specs.Twins.{twin_numbers}
use Rattle.gtfs_merge.specs.declared.kind.Kind.TheVariants as kind
use Rattle.gtfs_merge.specs.declared.sides.Sides.{Sides}
use Rattle.gtfs_merge.proofs.JoinedNames.{twin-at-index}
use Rattle.gtfs_merge.proofs.JoinedStops.{by-number}

-- a stop of A has the new id of one of B exactly where it is its twin
pub stop-meets : (sides : Sides) → IsSoundParts sides.a.now → {T : Type 0} (number : T → ℕ) (stops : List (Option T)) → map (option_map number) stops ≡ twin_numbers kind.Stop sides
    → (m j : ℕ) → m < length sides.a.now.stops → j < length sides.b.now.stops → (same : Bool) → same ≡ option_eq nat_eq (Some m) (get_or (map (option_map number) stops) j None)
    → bytes_eq (text_of_number (stop_ids sides.a.now) m) (stop_b (nearness_of sides) (content_a sides) (content_b sides) (text_of_number (stop_ids sides.b.now) j)) ≡ same
stop-meets sides sound_a number stops known m j within_p within_q same is =
    by-number (λ s. s.stop_id) sides.a.now.stops (in_order sides.a.now sound_a).stops m within_p (stop_b (nearness_of sides) (content_a sides) (content_b sides) (text_of_number (stop_ids sides.b.now) j))
    ∙ ap (option_eq nat_eq (Some m)) (sym (twin-at-index number kind.Stop sides stops j known (omega (arith, length-map sides.b.now.stops (λ s. s.stop_id)))))
    ∙ sym is
