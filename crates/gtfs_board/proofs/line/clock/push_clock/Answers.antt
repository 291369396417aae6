use Rattle.std.proofs.Common.{◌≡◌, ◌∙◌, ap, ◌++◌, ◌%◌, ◌==◌, if◌then◌else◌, false, int_lt, pos, string_bytes, unsigned_abs, arith, FitsSigned, w16, w32}
use Rattle.std.proofs.lemmas.Bool.Decides.{nat_tests}
use Rattle.std.proofs.lemmas.Int.{to_z-of_z}
use Rattle.std.proofs.lemmas.Str.{IsAscii-drop, IsAscii-take}
use Rattle.gtfs_board.proofs.Joined.{clock_frame, clock-shown}
use Rattle.gtfs_board.proofs.line.clock.push_clock.Goals.{then-civil-lt0, else-civil-lt0, then-unsigned_abs-eq0, else-unsigned_abs-eq0}
use Rattle.gtfs_board.proofs.line.clock.push_clock.Goals as goal

pub push_ascii-requires-clause-ascii : goal.push_ascii-requires-clause-ascii
push_ascii-requires-clause-ascii c = IsAscii-take _ _ (IsAscii-drop _ _ c.clock_bytes.ensures.ascii)

pub returns-clause-appended : goal.returns-clause-appended
returns-clause-appended c =
    let civil = c.args.civil in
    let year_fits : FitsSigned w16 civil.year = assumption in
    let offset_fits : FitsSigned w32 civil.offset = assumption in
    let year_is = to_z-of_z w16 civil.year year_fits in
    let seconds_are : c.unsigned_abs.result ≡ unsigned_abs civil.offset = c.unsigned_abs.ensures.value ∙ ap unsigned_abs (to_z-of_z w32 civil.offset offset_fits) in
    let start : c.if-civil-lt0.start ≡ (if int_lt civil.year (pos 0) then 0 else 1) = elim c.if-civil-lt0.branch [
      | then-civil-lt0 w ↦ let negative = rw year_is at w.if-civil-lt0.true in rw negative w.start-is
      | else-civil-lt0 w ↦ let positive = rw year_is at w.if-civil-lt0.false in rw positive w.start-is
    ] in
    let end : c.if-unsigned_abs-eq0.end ≡ (if unsigned_abs civil.offset % 60 == 0 then 28 else 31) = elim c.if-unsigned_abs-eq0.branch [
      | then-unsigned_abs-eq0 w ↦ let whole = rw seconds_are at w.if-unsigned_abs-eq0.true in rw whole w.end-is
      | else-unsigned_abs-eq0 w ↦
          let part = rw seconds_are at w.if-unsigned_abs-eq0.false in
          let isnt : (unsigned_abs civil.offset % 60 == 0) ≡ false = grind (arith, nat_tests, part) in
          rw isnt w.end-is
    ] in
    let bytes : c.clock_bytes.result ≡ clock_frame civil = c.clock_bytes.ensures.value in
    c.push_ascii.ensures.appended ∙ ap (λ k. string_bytes c.args.text.now ++ k) (clock-shown civil c.clock_bytes.result c.if-civil-lt0.start c.if-unsigned_abs-eq0.end bytes start end)
