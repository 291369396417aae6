use Rattle.std.proofs.Common.{◌≡◌, ◌++◌, codes, map}
use Rattle.gtfs_table.specs.Rows.{numbers}
use Rattle.gtfs_schema.specs.RowConditions.{text_in}
use Rattle.gtfs_reading.proofs.service_ids.push_ids.Given as goal

-- the ids of the rows so far
abbrev pub invariant-loop-record : goal.invariant-loop-record
invariant-loop-record l = map (λ id. id.now) l.ids.items
    ≡ map (λ id. id.now) l.initial.ids.items ++ map (λ n. text_in l.tables l.fn.file n (codes "service_id")) (numbers l.yielded)
