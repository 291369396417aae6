-- Trees in memory whose keys are texts, seen as maps from the texts' bytes.
use Rattle.std.specs.Prelude.{List, String, string_bytes, map}
use Rattle.std.specs.Coded.{Coded, coded_ℕ, coded_list}
use Rattle.std.specs.FinMap as finite
use Rattle.gtfs_field.specs.TextOrder.{text_cmp}
use Rattle.gtfs_devices.specs.Folder.{Files, Store}

-- entries under texts, as the map from the texts' bytes
abbrev pub by_text : {X Y : Type 0} → List (String Y × X) → finite.FinMap text_cmp X
by_text entries = finite.from_entries (map (λ e. (string_bytes e.0, e.1)) entries)

-- the files of a folder, and folders, as lists of their entries
abbrev pub files_code : Coded Files
files_code = finite.code (coded_list coded_ℕ) (coded_list coded_ℕ)

abbrev pub store_code : Coded Store
store_code = finite.code (coded_list coded_ℕ) files_code
