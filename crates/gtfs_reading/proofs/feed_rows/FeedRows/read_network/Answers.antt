use Rattle.gtfs_reading.proofs.feed_rows.FeedRows.read_network.Goals as goal

pub returns : goal.returns
returns c = record {
  agencies = c.in_ok-self.ensures;
  stops = c.in_ok-self-2.ensures.rows;
  parents = c.in_ok-self-2.ensures.numbers;
  routes = c.in_ok-self-3.ensures.rows;
  agency_numbers = c.in_ok-self-3.ensures.numbers;
}
