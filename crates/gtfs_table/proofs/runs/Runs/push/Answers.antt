use Rattle.std.proofs.Common.{◌≡◌, ◌+◌, ◌++◌, ◌∷◌, ◌∙◌, [], ℕ, List, length, ap, arith, append_assoc, length-append}
use Rattle.csv.specs.Records.{fields_of}
use Rattle.gtfs_table.specs.FieldOffsets.{marks_of}
use Rattle.gtfs_table.specs.StoredRecords.{run_of}
use Rattle.gtfs_table.proofs.MarkedFacts.{count-marks}
use Rattle.gtfs_table.proofs.RunFacts.{AreRuns, first-push, run-push}
use Rattle.gtfs_table.proofs.runs.Runs.push.Goals as goal

pub unwrap-requires : goal.unwrap-requires
unwrap-requires c =
    let fields = fields_of c.args.row.now in
    let marked : c.with_marks.result.items ≡ c.self.inside.bytes.items ++ marks_of (length (fields_of c.args.row.now) + 1) (fields_of c.args.row.now) =
    rw (c.replace-bytes.ensures.value, c.reserve.ensures.items) at c.with_marks.ensures.marks in
    let marks = marks_of (length fields + 1) fields in
    let room = rw (c.replace-bytes.ensures.value) at c.with_marks.ensures.same_room in
    let size : length c.with_marks.result.items ≡ length c.self.inside.bytes.items + (length fields + 1) =
    ap (λ (t : List ℕ). length t) marked ∙ omega (arith, length-append c.self.inside.bytes.items marks, count-marks (length fields + 1) fields) in
    let old = rw (c.reserve.ensures.items) at c.reserve.new.self.ok.0 in
    let text : length c.as_slice-text.result.now ≡ length c.args.row.now.bytes = ap (λ (t : List ℕ). length t) c.as_slice-text.ensures in
    c.extend_from_slice.ensures.succeeds (omega (arith, room, size, old, text, c.with_marks.result.ok.0, c.in_ok-reserve.ensures.ok))

pushed_starts : (c : goal.After-unwrap) → c.push.new.self ≡ c.self.inside.starts ++ length c.self.inside.bytes.items ∷ []
pushed_starts c =
    let size : c.len-2.result ≡ length c.self.inside.bytes.items = c.len-2.ensures ∙ rw (c.reserve.ensures.items) at c.reserve.new.self.ok.0 in
    rw size at c.in_ok-push.ensures.ok

pushed_bytes : (c : goal.After-unwrap) → c.extend_from_slice.new.self.items ≡ c.self.inside.bytes.items ++ run_of c.args.row.now
pushed_bytes c =
    let fields = fields_of c.args.row.now in
    let marked : c.with_marks.result.items ≡ c.self.inside.bytes.items ++ marks_of (length (fields_of c.args.row.now) + 1) (fields_of c.args.row.now) =
    rw (c.replace-bytes.ensures.value, c.reserve.ensures.items) at c.with_marks.ensures.marks in
    let text = rw (c.unwrap.ensures, c.as_slice-text.ensures) at c.extend_from_slice.ensures.items in
    text ∙ ap (λ (t : List ℕ). t ++ c.args.row.now.bytes) marked ∙ append_assoc c.self.inside.bytes.items (marks_of (length fields + 1) fields) c.args.row.now.bytes

pushed : (c : goal.After-unwrap) → AreRuns c.push.new.self c.extend_from_slice.new.self.items (c.args.self.now ++ run_of c.args.row.now ∷ [])
pushed c =
    run-push c.self.inside.starts c.self.inside.bytes.items _ _ (run_of c.args.row.now) c.args.self.now c.self.view_is c.self.invariant.rising (pushed_starts c) (pushed_bytes c)

pub invariant_of-self-2 : goal.invariant_of-self-2
invariant_of-self-2 c = record {
  rising = (pushed c).rising;
  first = first-push c.self.inside.starts c.self.inside.bytes.items _ _ (run_of c.args.row.now) c.self.invariant.first (pushed_starts c) (pushed_bytes c);
}

pub returns-clause-ok : goal.returns-clause-ok
returns-clause-ok c = (pushed c).value
