-- The records and values of worked files.
use Rattle.std.proofs.Common.{◌≡◌, ◌∷◌, ◌++◌, [], codes, refl, ℕ, List, Some, None}
use Rattle.csv.specs.Machine.{next_record}
use Rattle.csv.specs.Reading.{records_from, strip_bom}
use Rattle.gtfs_table.specs.Blanks.{cut, without_first_blanks}
use Rattle.gtfs_table.specs.Tables.{column_of, records_of, value, without_marks}

mark : List ℕ
mark = 0xEF ∷ 0xBB ∷ 0xBF ∷ []

-- a mark, CRLF, blanks, a short row and an open quote
worn : List ℕ
worn =
    mark ++ (codes "trip_id,arrival_time,departure_time,stop_id,stop_sequence\r\nT1, 08:00:00 ,08:00:00,S1,1\r\n"
    ++ codes "T1,24:60:00,24:10:00,S2,2\r\nT1,25:00:00,25:00:00,S3,3\r\nT1,26:00:00,26:00:00,S1\r\nT1,\"27:00:00")

worn-value : value (records_of worn) 2 (codes "arrival_time") ≡ codes "08:00:00"
unfolding worn mark without_marks records_from strip_bom next_record without_first_blanks
worn-value = refl

worn-short : value (records_of worn) 5 (codes "stop_sequence") ≡ []
unfolding worn mark without_marks records_from strip_bom next_record without_first_blanks
worn-short = refl

worn-quoted : value (records_of worn) 6 (codes "arrival_time") ≡ codes "27:00:00"
unfolding worn mark without_marks records_from strip_bom next_record without_first_blanks
worn-quoted = refl

-- a file of marks alone
marks-alone : records_of (mark ++ (mark ++ mark)) ≡ []
unfolding mark without_marks records_from strip_bom next_record
marks-alone = refl

-- of a column named twice the first counts, and the empty name is no column
twice : column_of (records_of (codes "a, b ,,b\n")) (codes "b") ≡ Some 1
unfolding without_marks records_from strip_bom next_record without_first_blanks
twice = refl

unnamed : column_of (records_of (codes "a,,b\n")) [] ≡ None
unfolding without_marks records_from strip_bom next_record without_first_blanks
unnamed = refl

blanks : cut (codes "\t \0a b\r \n") ≡ codes "a b"
unfolding without_first_blanks
blanks = refl
