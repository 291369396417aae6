use Rattle.std.proofs.Common.{◌∙◌, ◌++◌, ap, sym}
use Rattle.gtfs_table.specs.ReadingProgress.{Progress, table_after}
use Rattle.gtfs_table.proofs.ProgressFacts.{never-text, piece-kept}
use Rattle.gtfs_table.proofs.table_reader.TableReader.take_part.Goals as goal

pub returns-then-not-self : goal.returns-then-not-self
returns-then-not-self c = λ rest.
    let p : Progress = record { records = c.self.inside.records; left = c.self.inside.left.items; is_text = c.self.inside.is_text } in
    rw (← c.self.view_is) (never-text p (c.args.part.now ++ rest) c.if-not-self.true ∙ sym (never-text p rest c.if-not-self.true))

pub returns-else-len-self : goal.returns-else-len-self
returns-else-len-self c = λ rest.
    let p : Progress = record { records = c.self.inside.records; left = c.self.inside.left.items; is_text = c.self.inside.is_text } in
    rw (← c.self.view_is, c.in_ok-extend_from_slice.ensures.items) (piece-kept p c.args.part.now rest)

pub returns-in_ok-read_lines : goal.returns-in_ok-read_lines
returns-in_ok-read_lines c = λ rest.
    let p : Progress = record { records = c.self.inside.records; left = c.self.inside.left.items; is_text = c.self.inside.is_text } in
    let read = rw (c.in_ok-extend_from_slice.ensures.items) at (c.in_ok-read_lines.ensures rest) in
    rw (← c.self.view_is) (piece-kept p c.args.part.now rest ∙ read ∙ ap (λ (q : Progress). table_after q rest) (sym c.self-then-len-self.view_is))
