-- The codes of problems: their names, their texts and their order. They are this toolkit's own.
use Rattle.std.specs.Prelude.{ℕ, Bool, List, [], ◌∷◌, take, bytes_eq, codes}
use Rattle.gtfs_schema.specs.declared.code.Code.{Code}
use Rattle.gtfs_schema.specs.declared.code.Code.TheVariants as code

-- every code, in order: errors, then warnings
abbrev pub all_codes : List Code
all_codes =
    code.E01 ∷ code.E02 ∷ code.E03 ∷ code.E04 ∷ code.E05 ∷ code.E06 ∷ code.E07
    ∷ code.E08 ∷ code.E09 ∷ code.E10 ∷ code.E11 ∷ code.E12 ∷ code.E13 ∷ code.E14
    ∷ code.E15 ∷ code.E16 ∷ code.E17 ∷ code.E18 ∷ code.E19 ∷ code.E20 ∷ code.W01
    ∷ code.W02 ∷ code.W03 ∷ code.W04 ∷ code.W05 ∷ code.W06 ∷ code.W07 ∷ code.W08 ∷ []

-- a code's rank in that order
abbrev pub code_rank : Code → ℕ
code_rank code.E01 = 0
code_rank code.E02 = 1
code_rank code.E03 = 2
code_rank code.E04 = 3
code_rank code.E05 = 4
code_rank code.E06 = 5
code_rank code.E07 = 6
code_rank code.E08 = 7
code_rank code.E09 = 8
code_rank code.E10 = 9
code_rank code.E11 = 10
code_rank code.E12 = 11
code_rank code.E13 = 12
code_rank code.E14 = 13
code_rank code.E15 = 14
code_rank code.E16 = 15
code_rank code.E17 = 16
code_rank code.E18 = 17
code_rank code.E19 = 18
code_rank code.E20 = 19
code_rank code.W01 = 20
code_rank code.W02 = 21
code_rank code.W03 = 22
code_rank code.W04 = 23
code_rank code.W05 = 24
code_rank code.W06 = 25
code_rank code.W07 = 26
code_rank code.W08 = 27

abbrev pub code_name : Code → List ℕ
code_name code.E01 = codes "E01"
code_name code.E02 = codes "E02"
code_name code.E03 = codes "E03"
code_name code.E04 = codes "E04"
code_name code.E05 = codes "E05"
code_name code.E06 = codes "E06"
code_name code.E07 = codes "E07"
code_name code.E08 = codes "E08"
code_name code.E09 = codes "E09"
code_name code.E10 = codes "E10"
code_name code.E11 = codes "E11"
code_name code.E12 = codes "E12"
code_name code.E13 = codes "E13"
code_name code.E14 = codes "E14"
code_name code.E15 = codes "E15"
code_name code.E16 = codes "E16"
code_name code.E17 = codes "E17"
code_name code.E18 = codes "E18"
code_name code.E19 = codes "E19"
code_name code.E20 = codes "E20"
code_name code.W01 = codes "W01"
code_name code.W02 = codes "W02"
code_name code.W03 = codes "W03"
code_name code.W04 = codes "W04"
code_name code.W05 = codes "W05"
code_name code.W06 = codes "W06"
code_name code.W07 = codes "W07"
code_name code.W08 = codes "W08"

-- what a code says
abbrev pub code_text : Code → List ℕ
code_text code.E01 = codes "file missing"
code_text code.E02 = codes "not UTF-8"
code_text code.E03 = codes "column missing"
code_text code.E04 = codes "column twice"
code_text code.E05 = codes "file empty"
code_text code.E06 = codes "value empty"
code_text code.E07 = codes "value unreadable"
code_text code.E08 = codes "value out of range"
code_text code.E09 = codes "key twice"
code_text code.E10 = codes "unknown reference"
code_text code.E11 = codes "wrong kind of stop"
code_text code.E12 = codes "value missing or forbidden"
code_text code.E13 = codes "zones differ"
code_text code.E14 = codes "end before start"
code_text code.E15 = codes "first or last row untimed"
code_text code.E16 = codes "departure before arrival"
code_text code.E17 = codes "time goes back"
code_text code.E18 = codes "period empty"
code_text code.E19 = codes "periods overlap"
code_text code.E20 = codes "control character in id"
code_text code.W01 = codes "short row"
code_text code.W02 = codes "long row"
code_text code.W03 = codes "file not kept"
code_text code.W04 = codes "column not kept"
code_text code.W05 = codes "control character in text"
code_text code.W06 = codes "fewer than two rows"
code_text code.W07 = codes "service never active"
code_text code.W08 = codes "one time of two"

-- the code is that of an error, and not of a warning: its name begins with E
abbrev pub is_error : Code → Bool
is_error c = bytes_eq (take 1 (code_name c)) (codes "E")
