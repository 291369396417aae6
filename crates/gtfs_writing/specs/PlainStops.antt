-- Texts that need no quotes, and the ids of stops.
use Rattle.std.specs.Prelude.{◌≡◌, Bool, List, map, not}
use Rattle.std.specs.List.{list_all}
use Rattle.csv.specs.Writing.{default_writer, needs_quotes}
use Rattle.gtfs_rows.specs.declared.stop.Stop.{Stop}
use Rattle.gtfs_writing.specs.declared.stop_ids.StopIds.{StopIds}

-- the stop's id needs no quotes
abbrev pub is_plain_stop : Stop → Bool
is_plain_stop s = not (needs_quotes default_writer s.stop_id)

-- these are the ids of the stops, in their order, and it is noted whether none needs quotes
pub record AreIdsOf (stops : List Stop) (own : StopIds) : Type 0 where
  pub ids : own.ids.items ≡ map (λ s. s.stop_id) stops
  pub plain : own.are_plain ≡ list_all is_plain_stop stops
