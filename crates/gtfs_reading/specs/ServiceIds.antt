-- The ids of services.
use Rattle.std.specs.Prelude.{◌≡◌, ◌++◌, ◌<◌, ℕ, [], List, length, map, slice_index_or, codes, MatchOption, Option}
use Rattle.std.specs.List.{All, Contains}
use Rattle.gtfs_field.specs.TextOrder.{text_cmp}
use Rattle.gtfs_table.specs.Tables.{Dataset}
use Rattle.gtfs_table.specs.Rows.{rows}
use Rattle.gtfs_table.specs.declared.file.File.TheVariants as file
use Rattle.gtfs_schema.specs.RowConditions.{text_in}
use Rattle.gtfs_rows.specs.TransferOrder.{by_key}
use Rattle.gtfs_rows.specs.ContentRead.{services_named}

-- the ids of both files by their bytes, each once
abbrev pub service_ids : Dataset → List (List ℕ)
service_ids d = by_key text_cmp (λ t. t) (services_named d)

-- the ids as they stand in the rows of both files
abbrev pub service_texts : Dataset → List (List ℕ)
service_texts d = map (λ n. text_in d file.Calendar n (codes "service_id")) (rows d file.Calendar)
    ++ map (λ n. text_in d file.CalendarDates n (codes "service_id")) (rows d file.CalendarDates)

-- the number of a text in a list; there is none where the list does not have it
abbrev pub NumbersText : List (List ℕ) → List ℕ → Option ℕ → Type 0
NumbersText ids t o = MatchOption o (All (λ id. id ≡ t → ⊥) ids) (λ k. (k < length ids) × (slice_index_or ids k [] ≡ t))

-- each text is in the other list too
abbrev pub HasAll : List (List ℕ) → List (List ℕ) → Type 0
HasAll ts ids = (t : List ℕ) → Contains ts t → Contains ids t
