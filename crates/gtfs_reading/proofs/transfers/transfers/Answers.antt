use Rattle.std.proofs.Common.{rules, ◌∙◌, ap, codes, map}
use Rattle.std.specs.List.{list_all}
use Rattle.std.proofs.lemmas.List.Sorted.{answers_always}
use Rattle.gtfs_table.specs.declared.file.File.TheVariants as file
use Rattle.gtfs_schema.specs.steps.Ids.{first_rows}
use Rattle.gtfs_reading.specs.NamedTexts.{ids_of}
use Rattle.gtfs_rows.specs.TransferEnds.{names_ends, transfer_named, transfer_numbers}
use Rattle.gtfs_reading.proofs.TransferFacts.{all_moved, transfers_sorted}
use Rattle.gtfs_reading.proofs.transfers.transfers.Goals as goal

pub push_in_file_order-requires-clause-none : goal.push_in_file_order-requires-clause-none
push_in_file_order-requires-clause-none c = c.new-transfers.ensures.items

pub returns-clause-rows : goal.returns-clause-rows
returns-clause-rows c =
    let d = c.args.tables.now in
    ap (map (transfer_named (ids_of d file.Stops "stop_id") (ids_of d file.Routes "route_id") (ids_of d file.Trips "trip_id"))) c.new.ensures
    ∙ transfers_sorted d c.requires.passes (first_rows d file.Stops (codes "stop_id")) (first_rows d file.Routes (codes "route_id")) (first_rows d file.Trips (codes "trip_id"))
    c.push_in_file_order.new.transfers.items c.sort_unstable_by_key.new.self.items c.in_ok-push_in_file_order.ensures.rows c.in_ok-push_in_file_order.ensures.numbers
    c.sort_unstable_by_key.ensures.permutation
    (c.sort_unstable_by_key.ensures.sorted transfer_numbers (answers_always _ _ _ (λ f a r g called. search rules)))

pub returns-clause-numbers : goal.returns-clause-numbers
returns-clause-numbers c =
    let d = c.args.tables.now in
    ap (list_all (names_ends (ids_of d file.Stops "stop_id") (ids_of d file.Routes "route_id") (ids_of d file.Trips "trip_id"))) c.new.ensures
    ∙ all_moved (names_ends (ids_of d file.Stops "stop_id") (ids_of d file.Routes "route_id") (ids_of d file.Trips "trip_id")) c.push_in_file_order.new.transfers.items c.sort_unstable_by_key.new.self.items c.in_ok-push_in_file_order.ensures.numbers c.sort_unstable_by_key.ensures.permutation
