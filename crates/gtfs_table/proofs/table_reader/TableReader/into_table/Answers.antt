use Rattle.std.proofs.Common.{◌≡◌, ◌∙◌, [], sym, subst}
use Rattle.std.specs.Str.{IsUtf8}
use Rattle.gtfs_table.specs.ReadingProgress.{Progress}
use Rattle.gtfs_table.specs.Tables.{without_marks}
use Rattle.gtfs_table.proofs.MarkFacts.{strip-without_marks}
use Rattle.gtfs_table.proofs.ProgressFacts.{never-text, rest-not_utf8, rest-read}
use Rattle.gtfs_table.proofs.table_reader.TableReader.into_table.Goals.{in_default-via-in-Ok+else-is_text, in_default-via-in_default}
use Rattle.gtfs_table.proofs.table_reader.TableReader.into_table.Goals as goal

pub read_all-requires : goal.read_all-requires
read_all-requires c =
    let text : c.in-Ok.text.now ≡ without_marks c.self.inside.left.items = rw (c.deref.ensures.value) at (c.in-Ok.ensures.cases.0 ∙ c.cut_marks.ensures) in
    rw text (strip-without_marks c.self.inside.left.items)

pub returns-in_ok-read_all-in-Ok : goal.returns-in_ok-read_all-in-Ok
returns-in_ok-read_all-in-Ok c =
    let p : Progress = record { records = c.self.inside.records; left = c.self.inside.left.items; is_text = c.self.inside.is_text } in
    let text : c.in-Ok.text.now ≡ without_marks c.self.inside.left.items = rw (c.deref.ensures.value) at (c.in-Ok.ensures.cases.0 ∙ c.cut_marks.ensures) in
    rw (c.in_ok-read_all-in-Ok.ensures, ← c.self.view_is) (rest-read p c.in-Ok.text.now c.if-is_text.true text (subst IsUtf8 (sym c.in-Ok.ensures.cases.0) c.in-Ok.ensures.cases.1))

pub returns-in_default : goal.returns-in_default
returns-in_default c =
    let p : Progress = record { records = c.self.inside.records; left = c.self.inside.left.items; is_text = c.self.inside.is_text } in
    rw (← c.self.view_is) (elim c.in_default.branch [
      | in_default-via-in-Ok+else-is_text w ↦ sym (never-text p [] w.if-is_text.false)
      | in_default-via-in_default w ↦ rest-not_utf8 p (rw (c.cut_marks.ensures, c.deref.ensures.value) at w.in_default.ensures.cases.0)
    ])
