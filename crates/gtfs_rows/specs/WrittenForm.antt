-- What is promised of the written form of a content that makes a feed.
use Rattle.std.specs.Prelude.{◌≡◌, ℕ, false, List}
use Rattle.gtfs_table.specs.Tables.{table_of, table_records}
use Rattle.gtfs_table.specs.TableTexts.{is_marked}
use Rattle.gtfs_table.specs.declared.file.File.{File}
use Rattle.gtfs_schema.specs.Problems.{Passes}
use Rattle.gtfs_rows.specs.Content.{Content}
use Rattle.gtfs_rows.specs.ContentRead.{content_of}
use Rattle.gtfs_rows.specs.WrittenContent.{written, written_beside}

-- whatever else the folder holds, the written form has no error and its content is the same; and no file begins with a mark
-- that a reader would cut
pub record IsWrittenForm (c : Content) : Type 0 where
  pub passes : (others : List (List ℕ)) → Passes (written_beside others c)
  pub reads_back : (others : List (List ℕ)) → content_of (written_beside others c) ≡ c
  pub unmarked : (x : File) → is_marked (table_records (table_of (written c) x)) ≡ false
