use Rattle.std.proofs.Common.{◌∙◌, ◌+◌, ap, sym, drop, get_or, length}
use Rattle.std.proofs.lemmas.Bool.{ne_eqb}
use Rattle.csv.specs.Writing.{default_writer, escaped}
use Rattle.gtfs_writing.specs.TakenRecords.{room_after}
use Rattle.gtfs_writing.proofs.TextFacts.{room-done, room-other, room-quote}
use Rattle.gtfs_writing.proofs.room_rows.RoomRows.take_escaped.Goals as goal
use Rattle.gtfs_writing.proofs.room_rows.RoomRows.take_escaped.Goals.{then-byte-eq34, else-byte-eq34}

pub loop-byte-preserved : goal.loop-byte-preserved
loop-byte-preserved c =
    let field = c.args.field.now in
    let i = c.loop-byte.byte-index in
    let s = c.loop-byte.self in
    let later = length (escaped default_writer (drop (i + 1) field)) in
    elim c.if-byte-eq34.branch [
      | then-byte-eq34 w ↦
          ap (λ r. room_after r later) (c.take.ensures ∙ ap (room_after s) w.take-is)
          ∙ room-quote s field i c.loop-byte-test.true w.if-byte-eq34.true
          ∙ c.loop-byte.invariant
      | else-byte-eq34 w ↦
          ap (λ r. room_after r later) (c.take.ensures ∙ ap (room_after s) w.take-is)
          ∙ room-other s field i c.loop-byte-test.true (ne_eqb (get_or field i 0) 34 w.if-byte-eq34.false)
          ∙ c.loop-byte.invariant
    ]

pub returns : goal.returns
returns c = sym (room-done c.loop-byte.self c.args.field.now c.loop-byte.byte-index c.loop-byte-test.false) ∙ c.loop-byte.invariant
