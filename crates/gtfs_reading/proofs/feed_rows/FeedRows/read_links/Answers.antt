use Rattle.gtfs_reading.proofs.RowsAlike.{rows_alike, same_cut}
use Rattle.gtfs_reading.proofs.feed_rows.FeedRows.read_links.Goals as goal

pub returns : goal.returns
returns c =
    let t = c.requires.trips in
    let n = t.network in
    rows_alike c.args.tables.now c.requires.passes _ (record {
      agencies = n.agencies;
      stops = n.stops;
      parents = n.parents;
      routes = n.routes;
      agency_numbers = n.agency_numbers;
      services = t.services;
      trips = t.trips;
      trip_numbers = t.trip_numbers;
      transfers = c.in_ok-self.ensures.rows;
      ends = c.in_ok-self.ensures.numbers;
      frequencies = c.in_ok-rows.ensures.rows;
      cut = same_cut _ _ _ _ c.requires.ids.trips c.in_ok-rows.ensures.cut;
    })
