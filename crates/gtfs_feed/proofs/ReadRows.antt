-- The rows of a dataset that passed, with its stop times: they stand for its content, and make a feed.
use Rattle.std.proofs.Common.{◌≡◌, ◌∙◌, length, map, refl, sym, ap, subst}
use Rattle.std.proofs.lemmas.List.{length-map}
use Rattle.gtfs_field.proofs.ListFacts.{map_alike}
use Rattle.gtfs_table.specs.FieldOffsets.{parts}
use Rattle.gtfs_table.specs.Tables.{Dataset}
use Rattle.gtfs_schema.specs.Problems.{Passes}
use Rattle.gtfs_rows.specs.declared.parts.Parts.{Parts}
use Rattle.gtfs_rows.specs.ContentRead.{content_of}
use Rattle.gtfs_rows.specs.SoundContent.{IsSound}
use Rattle.gtfs_rows.specs.RowsInMemory.{IsSoundParts, content_of_parts, stop_row_of}
use Rattle.gtfs_rows.proofs.PassingIsSound.{passing_is_sound}
use Rattle.gtfs_reading.specs.FeedRows.{AreRowsOf, rows_in}
use Rattle.gtfs_rows.specs.NamedRows.{stop_named, trip_named, without_rows}
use Rattle.gtfs_reading.specs.declared.feed_rows.FeedRows.{FeedRows}
use Rattle.gtfs_reading.proofs.OfParts.{cut_in_parts, numbers_in_parts, rows_in_parts}
use Rattle.gtfs_reading.specs.StopTimeLists.{AreStopTimesOf, content_stop_ids}
use Rattle.gtfs_reading.specs.declared.stop_times.StopTimes.{StopTimes}

module _ (d : Dataset) (r : FeedRows) (are : AreRowsOf d r) where
  -- as many trips as the content has
  pub counted : length r.trips ≡ length (content_of d).trips
  counted =
      let named = trip_named (map (λ x. x.route_id) r.routes) (map (λ s. s.service_id) r.services) in
      sym (length-map r.trips named) ∙ ap length are.trips ∙ length-map (content_of d).trips without_rows

  stops_counted : length r.stops ≡ length (content_of d).stops
  stops_counted = sym (length-map r.stops (stop_named (map (λ s. s.stop_id) r.stops))) ∙ ap length are.stops

  stops_named : map (λ s. s.stop_id) r.stops ≡ content_stop_ids d
  stops_named =
      map_alike (stop_named (map (λ s. s.stop_id) r.stops)) (λ s. s.stop_id) (λ s. s.stop_id) (λ s. refl) r.stops ∙ ap (map (λ s. s.stop_id)) are.stops

module _ (d : Dataset) (passes : Passes d) (p : Parts) (are : AreRowsOf d (rows_in p)) (lists : StopTimes) (of : AreStopTimesOf d lists)
    (times : p.stop_times ≡ lists.stop_times) (headsigns : p.headsigns ≡ lists.headsigns)
    (made : map (map (stop_row_of p)) (parts p.stop_times.starts p.stop_times.rows) ≡ map (λ t. t.stop_rows) (content_of d).trips → content_of_parts p ≡ content_of d) where
  -- they stand for the content
  pub content_is : content_of_parts p ≡ content_of d
  content_is = made (rows_in_parts d lists of p times headsigns (stops_named d (rows_in p) are))

  -- they make a feed
  pub make_a_feed : IsSoundParts p
  make_a_feed = record {
    names_rows = record {
      stops = are.within.stops;
      routes = are.within.routes;
      trips = are.within.trips;
      stop_rows = numbers_in_parts d lists of p times headsigns (stops_counted d (rows_in p) are);
      transfers = are.within.transfers;
    };
    stop_rows = cut_in_parts d lists of p times headsigns (counted d (rows_in p) are);
    frequencies = are.cut;
    content = subst IsSound (sym content_is) (passing_is_sound d passes);
  }
