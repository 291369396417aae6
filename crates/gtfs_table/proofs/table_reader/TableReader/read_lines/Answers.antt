use Rattle.std.proofs.Common.{◌≡◌, ◌≤◌, ◌<◌, ◌-◌, ◌∙◌, ◌++◌, refl, length, take, drop, get_or, sym, subst, arith, false}
use Rattle.std.proofs.Math.Seq.{drop-append_seam}
use Rattle.std.proofs.lemmas.List.{length-drop, take_all}
use Rattle.std.specs.Str.{IsUtf8}
use Rattle.csv.specs.Reading.{default_config, records}
use Rattle.gtfs_table.specs.FilePieces.{ends_within}
use Rattle.gtfs_table.specs.ReadingProgress.{Progress}
use Rattle.gtfs_table.specs.Tables.{without_marks}
use Rattle.gtfs_table.proofs.MarkFacts.{strip-without_marks}
use Rattle.gtfs_table.proofs.ProgressFacts.{lines-refused, lines-taken, never-text}
use Rattle.gtfs_table.proofs.table_reader.TableReader.read_lines.Goals as goal

pub read_all-requires : goal.read_all-requires
read_all-requires c =
    let text : c.in-Ok.text.now ≡ without_marks (take c.lines_end-end.result c.self.inside.left.items) = rw (c.deref-2.ensures.value) at (c.in-Ok.ensures.cases.0 ∙ c.cut_marks.ensures) in
    rw text (strip-without_marks (take c.lines_end-end.result c.self.inside.left.items))

pub returns-in-Err : goal.returns-in-Err
returns-in-Err c = λ rest.
    let p : Progress = record { records = c.self.inside.records; left = c.self.inside.left.items; is_text = c.self.inside.is_text } in
    let new : Progress = record { records = c.self.inside.records; left = c.self.inside.left.items; is_text = false } in
    let end = c.lines_end-end.result in
    let within : end ≤ length c.self.inside.left.items = rw (c.deref.ensures.value) at c.lines_end-end.ensures.within in
    let bad : IsUtf8 (without_marks (take end c.self.inside.left.items)) → ⊥ = rw (c.cut_marks.ensures, c.deref-2.ensures.value) at c.in-Err.ensures.cases.0 in
    rw (← c.self.view_is) (lines-refused p end within (rw (c.deref.ensures.value) at c.lines_end-end.ensures.ended) bad rest ∙ sym (never-text new rest refl))

pub returns : goal.returns
returns c = λ rest.
    let p : Progress = record { records = c.self.inside.records; left = c.self.inside.left.items; is_text = c.self.inside.is_text } in
    let end = c.lines_end-end.result in
    let within : end ≤ length c.self.inside.left.items = rw (c.deref.ensures.value) at c.lines_end-end.ensures.within in
    let some : 0 < end = omega (arith, c.if-end-le1.false) in
    let ended : get_or c.self.inside.left.items (end - 1) 0 ≡ 10 = (rw (c.deref.ensures.value) at c.lines_end-end.ensures.ended) some in
    let text : c.in-Ok.text.now ≡ without_marks (take end c.self.inside.left.items) = rw (c.deref-2.ensures.value) at (c.in-Ok.ensures.cases.0 ∙ c.cut_marks.ensures) in
    let good : IsUtf8 c.in-Ok.text.now = subst IsUtf8 (sym c.in-Ok.ensures.cases.0) c.in-Ok.ensures.cases.1 in
    let read = records default_config c.in-Ok.text.now in
    let behind : drop c.len-count.result (c.self.inside.records ++ read) ≡ read = rw (c.len-count.ensures) (drop-append_seam c.self.inside.records read) in
    let whole : ends_within read ≡ false = rw (c.in_ok-read_all-in-Ok.ensures, behind) at (sym c.ends_within.ensures ∙ c.if-ends_within.false) in
    let part =
    rw (c.clear.ensures.items, c.deref-4.ensures.value, c.in_ok-rest.ensures.items, c.deref-3.ensures.value) at c.in_ok-extend_from_slice.ensures.items in
    let kept : c.extend_from_slice.new.self.items ≡ drop (end - 1) c.self.inside.left.items =
    part ∙ take_all _ (drop (end - 1) c.self.inside.left.items) (omega (arith, length-drop (end - 1) c.self.inside.left.items)) in
    rw (← c.self.view_is, c.in_ok-read_all-in-Ok.ensures, kept) (lines-taken p end c.in-Ok.text.now some within ended text good whole rest)
