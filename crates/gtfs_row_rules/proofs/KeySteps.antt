-- What is reported of rows that repeat an earlier key, in a file whose key has several parts.
use Rattle.std.proofs.Common.{◌≡◌, ℕ, List, [], ◌∷◌, sym, codes, Option}
use Rattle.std.specs.Prelude.{◌&&◌}
use Rattle.gtfs_table.specs.Tables.{Dataset, column_of, field_under, record_at}
use Rattle.gtfs_table.specs.declared.file.File.{File}
use Rattle.gtfs_table.specs.declared.file.File.TheVariants as file
use Rattle.gtfs_table.specs.Rows.{is_row, records_in}
use Rattle.gtfs_schema.specs.KeyRules.{all_there, key_in, key_twice}
use Rattle.gtfs_schema.specs.FieldValues.{Value}
use Rattle.gtfs_row_rules.specs.RowKeys.{KeyAt, end_part, key_at, numbered_in, numbered_key, repeats_key}
use Rattle.gtfs_row_rules.specs.declared.keys.Number.{Number}

pub same_keys : (key read : KeyAt) → ((m : ℕ) → read m ≡ key m) → (d : Dataset) (x : File) (n : ℕ)
    → (is_row (records_in d x) n && repeats_key key d x n) ≡ (is_row (records_in d x) n && repeats_key read d x n)
same_keys key read same d x n = λ i. is_row (records_in d x) n && repeats_key (λ m. sym (same m) i) d x n

-- keys read by the indices of their columns
pub numbered_found : (kind : Number) (d : Dataset) (x : File) (id_name number_name : List ℕ) (a b : Option ℕ)
    → a ≡ column_of (records_in d x) id_name → b ≡ column_of (records_in d x) number_name → (m : ℕ)
    → key_at (λ r. numbered_key kind (field_under r a) (field_under r b)) d x m ≡ numbered_in kind d x id_name number_name m
numbered_found kind d x id_name number_name a b e f m = λ i. numbered_key kind (field_under (record_at (records_in d x) m) (e i)) (field_under (record_at (records_in d x) m) (f i))

abbrev ends : (from_stop to_stop from_route to_route from_trip to_trip : Option ℕ) → List (List ℕ) → Option (List Value)
ends from_stop to_stop from_route to_route from_trip to_trip r = all_there (end_part (field_under r from_stop) ∷ end_part (field_under r to_stop)
    ∷ end_part (field_under r from_route) ∷ end_part (field_under r to_route)
    ∷ end_part (field_under r from_trip) ∷ end_part (field_under r to_trip) ∷ [])

pub transfers_repeated : (d : Dataset) (from_stop to_stop from_route to_route from_trip to_trip : Option ℕ)
    → from_stop ≡ column_of (records_in d file.Transfers) (codes "from_stop_id")
    → to_stop ≡ column_of (records_in d file.Transfers) (codes "to_stop_id")
    → from_route ≡ column_of (records_in d file.Transfers) (codes "from_route_id")
    → to_route ≡ column_of (records_in d file.Transfers) (codes "to_route_id")
    → from_trip ≡ column_of (records_in d file.Transfers) (codes "from_trip_id")
    → to_trip ≡ column_of (records_in d file.Transfers) (codes "to_trip_id") → (n : ℕ)
    → key_twice d file.Transfers n (codes "from_stop_id")
    ≡ (is_row (records_in d file.Transfers) n && repeats_key (key_at (ends from_stop to_stop from_route to_route from_trip to_trip) d file.Transfers) d file.Transfers n)
transfers_repeated d from_stop to_stop from_route to_route from_trip to_trip a b e f g h =
    same_keys (key_in d file.Transfers) (key_at (ends from_stop to_stop from_route to_route from_trip to_trip) d file.Transfers)
    (λ m i. ends (a i) (b i) (e i) (f i) (g i) (h i) (record_at (records_in d file.Transfers) m)) d file.Transfers
