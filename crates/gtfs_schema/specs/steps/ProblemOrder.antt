-- The order of problems is total, no two problems tie, and so there is one report of a dataset.
use Rattle.std.proofs.Common.{◌≡◌, ◌==◌, false, refl, sym, ap, ◌∙◌, slice_index_or}
use Rattle.std.specs.Cmp.{IsTotalOrder, IsEquivalence, nat_cmp_total, on_total, then_total, eq_by_cmp_equiv}
use Rattle.std.specs.Cmp.Lexicographic.{nat_list_cmp_total}
use Rattle.std.specs.FinMap.{IsAntisymmetric, nat_cmp-IsAntisymmetric, slice_cmp-IsAntisymmetric}
use Rattle.std.specs.Ordering.{eq_by_cmp, ordering_then}
use Rattle.std.specs.declared.cmp.Ordering.{Ordering}
use Rattle.std.specs.declared.cmp.Ordering.TheVariants.{Less, Equal, Greater}
use Rattle.gtfs_table.specs.TablesRead.{kept_files}
use Rattle.gtfs_table.specs.declared.file.File.{File}
use Rattle.gtfs_table.specs.declared.file.File.TheVariants as file
use Rattle.gtfs_schema.specs.declared.code.Code.{Code}
use Rattle.gtfs_schema.specs.declared.code.Code.TheVariants as code
use Rattle.gtfs_schema.specs.Codes.{all_codes, code_rank}
use Rattle.gtfs_schema.specs.RowConditions.{file_rank}
use Rattle.gtfs_schema.specs.Problems.{FileName, kept, other, Problem, name_rank, name_bytes, name_cmp, problem_cmp}

-- ---- the order is total

pub name_total : IsTotalOrder name_cmp
name_total = then_total (on_total name_rank nat_cmp_total) (on_total name_bytes nat_list_cmp_total)

pub problem_total : IsTotalOrder problem_cmp
problem_total = then_total (on_total (λ (p : Problem). p.file) name_total)
    (then_total (on_total (λ (p : Problem). p.row) nat_cmp_total)
    (then_total (on_total (λ (p : Problem). code_rank p.code) nat_cmp_total)
    (on_total (λ (p : Problem). p.column) nat_list_cmp_total)))

-- ---- no two problems tie

then_first : (r s : Ordering) → ordering_then r s ≡ Equal → r ≡ Equal
then_first Less s e = cc e
then_first Equal s e = refl
then_first Greater s e = cc e

then_second : (r s : Ordering) → ordering_then r s ≡ Equal → s ≡ Equal
then_second Less s e = cc e
then_second Equal s e = e
then_second Greater s e = cc e

-- a file and a code are known by their ranks
file_at_rank : (x : File) → slice_index_or kept_files (file_rank x) file.Agency ≡ x
file_at_rank file.Agency = refl
file_at_rank file.Stops = refl
file_at_rank file.Routes = refl
file_at_rank file.Trips = refl
file_at_rank file.StopTimes = refl
file_at_rank file.Calendar = refl
file_at_rank file.CalendarDates = refl
file_at_rank file.Frequencies = refl
file_at_rank file.Transfers = refl

pub same_file : (x y : File) → file_rank x ≡ file_rank y → x ≡ y
same_file x y e = sym (file_at_rank x) ∙ ap (λ n. slice_index_or kept_files n file.Agency) e ∙ file_at_rank y

code_at_rank : (c : Code) → slice_index_or all_codes (code_rank c) code.E01 ≡ c
code_at_rank code.E01 = refl
code_at_rank code.E02 = refl
code_at_rank code.E03 = refl
code_at_rank code.E04 = refl
code_at_rank code.E05 = refl
code_at_rank code.E06 = refl
code_at_rank code.E07 = refl
code_at_rank code.E08 = refl
code_at_rank code.E09 = refl
code_at_rank code.E10 = refl
code_at_rank code.E11 = refl
code_at_rank code.E12 = refl
code_at_rank code.E13 = refl
code_at_rank code.E14 = refl
code_at_rank code.E15 = refl
code_at_rank code.E16 = refl
code_at_rank code.E17 = refl
code_at_rank code.E18 = refl
code_at_rank code.E19 = refl
code_at_rank code.E20 = refl
code_at_rank code.W01 = refl
code_at_rank code.W02 = refl
code_at_rank code.W03 = refl
code_at_rank code.W04 = refl
code_at_rank code.W05 = refl
code_at_rank code.W06 = refl
code_at_rank code.W07 = refl
code_at_rank code.W08 = refl

pub same_code : (a b : Code) → code_rank a ≡ code_rank b → a ≡ b
same_code a b e = sym (code_at_rank a) ∙ ap (λ n. slice_index_or all_codes n code.E01) e ∙ code_at_rank b

-- the nine files stand before the other names
kept_is_none : (x : File) → (file_rank x == 9) ≡ false
kept_is_none file.Agency = refl
kept_is_none file.Stops = refl
kept_is_none file.Routes = refl
kept_is_none file.Trips = refl
kept_is_none file.StopTimes = refl
kept_is_none file.Calendar = refl
kept_is_none file.CalendarDates = refl
kept_is_none file.Frequencies = refl
kept_is_none file.Transfers = refl

apart : {X : Type 0} (x : File) → file_rank x ≡ 9 → X
apart x e = let none : (9 == 9) ≡ false = rw e at (kept_is_none x) in cc none

same_name : (a b : FileName) → name_rank a ≡ name_rank b → name_bytes a ≡ name_bytes b → a ≡ b
same_name (kept x) (kept y) rank bytes = ap kept (same_file x y rank)
same_name (kept x) (other name) rank bytes = apart x rank
same_name (other name) (kept y) rank bytes = apart y (sym rank)
same_name (other name) (other name') rank bytes = ap other bytes

pub name_anti : IsAntisymmetric name_cmp
name_anti a b e = same_name a b (nat_cmp-IsAntisymmetric _ _ (then_first _ _ e))
    (slice_cmp-IsAntisymmetric nat_cmp-IsAntisymmetric _ _ (then_second _ _ e))

pub problem_anti : IsAntisymmetric problem_cmp
problem_anti p q e =
    let after_file = then_second _ _ e in
    let after_row = then_second _ _ after_file in
    let file : p.file ≡ q.file = name_anti p.file q.file (then_first _ _ e) in
    let row : p.row ≡ q.row = nat_cmp-IsAntisymmetric _ _ (then_first _ _ after_file) in
    let code : p.code ≡ q.code = same_code p.code q.code (nat_cmp-IsAntisymmetric _ _ (then_first _ _ after_row)) in
    let column : p.column ≡ q.column = slice_cmp-IsAntisymmetric nat_cmp-IsAntisymmetric _ _ (then_second _ _ after_row) in
    λ i. record { file = file i; row = row i; code = code i; column = column i }

-- ---- equality by the order

pub name_equal : IsEquivalence (eq_by_cmp name_cmp)
name_equal = eq_by_cmp_equiv name_total

pub problem_equal : IsEquivalence (eq_by_cmp problem_cmp)
problem_equal = eq_by_cmp_equiv problem_total
