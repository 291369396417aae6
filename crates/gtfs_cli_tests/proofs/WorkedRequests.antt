-- Requests' files: their lines, their fields, and the first line that is refused.
use Rattle.std.proofs.Common.{◌≡◌, ◌++◌, ℕ, pos, [], ◌∷◌, codes, refl, true, false, Some, None, Ok, Err}
use Rattle.std.specs.Prelude.{List, Option}
use Rattle.gtfs_table.specs.Tables as tables
use Rattle.gtfs_cli.specs.BoardsRequests.{request_heading, numbered_lines, request_texts, RequestTexts}

-- LF and CRLF end lines, the last line has neither; the second line is empty and is counted
three_lines : numbered_lines (codes "a" ++ 10 ∷ 13 ∷ 10 ∷ codes "b" ++ 13 ∷ 10 ∷ codes "c") ≡ (1, codes "a") ∷ (3, codes "b") ∷ (4, codes "c") ∷ []
unfolding tables.without_marks
three_lines = refl

-- a CR elsewhere is part of its line, and so is one at the end of a text without LF
other_returns : numbered_lines (codes "a" ++ 13 ∷ codes "b" ++ 10 ∷ codes "c" ++ 13 ∷ []) ≡ (1, codes "a" ++ 13 ∷ codes "b") ∷ (2, codes "c" ++ 13 ∷ []) ∷ []
unfolding tables.without_marks
other_returns = refl

-- marks at the beginning are cut, and nothing has no lines
marks : numbered_lines (239 ∷ 187 ∷ 191 ∷ 239 ∷ 187 ∷ 191 ∷ codes "a" ++ 10 ∷ []) ≡ (1, codes "a") ∷ []
unfolding tables.without_marks
marks = refl

no_lines : numbered_lines [] ≡ []
unfolding tables.without_marks
no_lines = refl

-- an id may hold blanks
three : request_texts (codes "S 1" ++ 9 ∷ codes "@0" ++ 9 ∷ codes "@1") ≡ Some (record { stop = codes "S 1"; from = codes "@0"; until = codes "@1"; limit = None; after = None })
three = refl

-- an empty limit is none
five : request_texts (codes "S1" ++ 9 ∷ codes "@0" ++ 9 ∷ codes "@1" ++ 9 ∷ 9 ∷ codes "@0/T1/0/1/20240401")
    ≡ Some (record { stop = codes "S1"; from = codes "@0"; until = codes "@1"; limit = None; after = Some (codes "@0/T1/0/1/20240401") })
five = refl

two : request_texts (codes "S1" ++ 9 ∷ codes "@0") ≡ None
two = refl

six : request_texts (codes "S1" ++ 9 ∷ codes "@0" ++ 9 ∷ codes "@1" ++ 9 ∷ 9 ∷ 9 ∷ []) ≡ None
six = refl

heading : request_heading (record { stop = codes "S 1"; from = codes "20240401"; until = codes "@1"; limit = None; after = None }) ≡ codes "== S 1 20240401 @1" ++ 10 ∷ []
heading = refl
