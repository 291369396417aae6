-- Problems of one code at some columns of some files.
use Rattle.std.specs.Prelude.{ℕ, Bool, List}
use Rattle.std.specs.List.{list_any}
use Rattle.gtfs_table.specs.declared.file.File.{File}
use Rattle.gtfs_schema.specs.declared.code.Code.{Code}
use Rattle.gtfs_schema.specs.steps.KeptColumns.{at_column}
use Rattle.gtfs_schema.specs.Problems.{Problem}

abbrev pub at_sites : Code → List (File × List ℕ) → Problem → Bool
at_sites c sites p = list_any (λ site. at_column c site.0 site.1 p) sites
