-- Which trips have a marked row.
use Rattle.std.proofs.Common.{◌≡◌, ◌∙◌, ◌∷◌, ◌++◌, [], ℕ, Bool, List, Vec, Global, map, refl, sym, ap}
use Rattle.std.specs.Prelude.{◌||◌}
use Rattle.std.specs.List.{list_any}
use Rattle.std.proofs.lemmas.Simd.{map-map}
use Rattle.gtfs_table.specs.FieldOffsets.{parts}
use Rattle.gtfs_stop_times.specs.StopTimesByTrip.{StopTimesOfTrips, at_places, items_in, rows_in}
use Rattle.gtfs_stop_times.specs.declared.by_trip.Places.TheVariants as places
use Rattle.gtfs_stop_times.specs.declared.by_trip.Places.{Places}
use Rattle.gtfs_stop_times.specs.declared.by_trip.RowRange.{RowRange}
use Rattle.gtfs_stop_times.specs.declared.stop_row.StopRow.{StopRow}
use Rattle.gtfs_stop_times.proofs.Places.{lists-are}
use Rattle.gtfs_stop_times.proofs.RangeFacts.{items-map}
use Rattle.gtfs_stop_times.proofs.Turns.{parts-map}

abbrev any-mark : List Bool → Bool
any-mark marks = list_any (λ mark. mark) marks

module _ (f : StopRow → Bool) where
  any-marked : (xs : List StopRow) → any-mark (map f xs) ≡ list_any f xs
  any-marked [] = refl
  any-marked (x ∷ xs) = ap (λ b. f x || b) (any-marked xs)

  all-marked : (ps : List (List StopRow)) → map any-mark (map (map f) ps) ≡ map (list_any f) ps
  all-marked [] = refl
  all-marked (p ∷ ps) = (λ i. any-marked p i ∷ all-marked ps i)

  module _ (rows : List StopRow) (p : Places) (t : StopTimesOfTrips) (seen : at_places rows p ≡ t) (marks : List Bool) where
    pub in-turn-marked : (starts : Vec ℕ Global) → p ≡ places.InTurn starts → marks ≡ map f rows → map any-mark (parts starts.items marks) ≡ map (list_any f) (parts t.starts t.rows)
    in-turn-marked starts is are =
        ap (λ ms. map any-mark (parts starts.items ms)) are ∙ ap (map any-mark) (parts-map f starts.items rows)
        ∙ all-marked (parts starts.items rows)
        ∙ ap (λ x. map (list_any f) (parts x.starts x.rows)) (ap (at_places rows) (sym is) ∙ seen)

    pub in-ranges-marked : (more : Vec StopRow Global) (ranges : Vec RowRange Global) (len : ℕ) → p ≡ places.Anywhere more ranges len → marks ≡ map f (rows ++ more.items)
        → map (λ s. any-mark (items_in marks s)) ranges.items ≡ map (list_any f) (parts t.starts t.rows)
    in-ranges-marked more ranges len is are =
        let all = rows ++ more.items in
        ap (λ (g : RowRange → Bool). map g ranges.items) (λ i s. (ap (λ ms. any-mark (items_in ms s)) are ∙ ap any-mark (items-map f all s) ∙ any-marked (rows_in all s)) i)
        ∙ sym (map-map (list_any f) (rows_in all) ranges.items)
        ∙ ap (map (list_any f)) (lists-are rows p more ranges len is t seen)
