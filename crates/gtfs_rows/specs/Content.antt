-- The content of a feed: its rows ascending by id, transfers by their key.
use Rattle.std.specs.Prelude.{List}
use Rattle.gtfs_rows.specs.Rows.{Agency, Stop, Route, ServiceRow, Trip, Transfer}

pub record Content : Type 0 where
  pub agencies : List Agency
  pub stops : List Stop
  pub routes : List Route
  pub services : List ServiceRow
  pub trips : List Trip
  pub transfers : List Transfer
