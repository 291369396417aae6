-- The text of a file of the written form.
use Rattle.std.specs.Prelude.{ℕ, Bool, nat_lt, List, length}
use Rattle.gtfs_table.specs.Tables.{table_of, table_records}
use Rattle.gtfs_table.specs.TableTexts.{text_of_records}
use Rattle.gtfs_table.specs.declared.file.File.{File}
use Rattle.gtfs_rows.specs.Content.{Content}
use Rattle.gtfs_rows.specs.WrittenContent.{written}

-- the text of the records of its table (RFC 4180, section 2, with LF at the end of each record)
abbrev pub written_text : Content → File → List ℕ
written_text c x = text_of_records (table_records (table_of (written c) x))

-- a file has more bytes than this
abbrev pub is_longer : Content → ℕ → File → Bool
is_longer c limit x = nat_lt limit (length (written_text c x))
