use Rattle.gtfs_reading.proofs.feed_rows.FeedRows.read_trips.Goals as goal

pub returns : goal.returns
returns c =
    let n = c.requires.network in
    record {
      network = record {
        agencies = n.agencies;
        stops = n.stops;
        parents = n.parents;
        routes = n.routes;
        agency_numbers = n.agency_numbers;
      };
      services = c.in_ok-self.ensures;
      trips = c.in_ok-self-2.ensures.rows;
      trip_numbers = c.in_ok-self-2.ensures.numbers;
    }
