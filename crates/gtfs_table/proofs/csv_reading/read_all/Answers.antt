use Rattle.std.proofs.Common.{◌∙◌, ◌++◌, ◌∷◌, [], ℕ, List, Some, Bor, inl, inr, refl, sym, ap, append_assoc}
use Rattle.std.proofs.lemmas.List.{append-nil}
use Rattle.csv.specs.Reading.{Reached}
use Rattle.csv.specs.Records.{fields_of}
use Rattle.gtfs_table.proofs.ReadSteps.{read-step, read-more, read-end}
use Rattle.gtfs_table.proofs.csv_reading.read_all.Goals as goal

pub loop-records-init : goal.loop-records-init
unfolding Reached
loop-records-init c =
    let fr = c.from_reader-reader.ensures in
    let e = c.has_headers.ensures in
    let f = c.flexible.ensures in
    let bytes = c.as_bytes.ensures.value in
    let source = fr.source in (
      rw (f, e) at fr.trim ∙ c.new.ensures.trim,
      inr (inr (rw (f, e) at fr.has_headers, fr.headers)),
      rw (f, e) at fr.config ∙ c.new.ensures.config,
      c.args.text.now,
      rw (bytes, c.requires) at source,
      [],
      sym (append-nil _),
      (sym fr.state, refl),
      c.utf8.text,
      rw (fr.state) refl,
    )

pub push_row-requires-clause-text : goal.push_row-requires-clause-text
push_row-requires-clause-text c =
    let (trim, ready, config, y, source, read_so_far, grown, reached, utf8, open_a) = c.loop-records.invariant in
    let read = rw (c.in-Ok-true.field-0-test) at (c.in-Ok-true.ensures.reads trim ready) in
    (read-step (λ (s : Bor (List ℕ)). Some s.now) c.loop-records.reader c.read_byte_record.new.self (fields_of c.read_byte_record.new.row) y config source utf8 open_a read).text

pub push_row-requires-clause-filled : goal.push_row-requires-clause-filled
push_row-requires-clause-filled c =
    let (trim, ready, config, y, source, read_so_far, grown, reached, utf8, open_a) = c.loop-records.invariant in
    let read = rw (c.in-Ok-true.field-0-test) at (c.in-Ok-true.ensures.reads trim ready) in
    (read-step (λ (s : Bor (List ℕ)). Some s.now) c.loop-records.reader c.read_byte_record.new.self (fields_of c.read_byte_record.new.row) y config source utf8 open_a read).filled

pub loop-records-smaller : goal.loop-records-smaller
loop-records-smaller c =
    let (trim, ready, config, y, source, read_so_far, grown, reached, utf8, open_a) = c.loop-records.invariant in
    let read = rw (c.in-Ok-true.field-0-test) at (c.in-Ok-true.ensures.reads trim ready) in
    (read-step (λ (s : Bor (List ℕ)). Some s.now) c.loop-records.reader c.read_byte_record.new.self (fields_of c.read_byte_record.new.row) y config source utf8 open_a read).shorter

pub loop-records-preserved : goal.loop-records-preserved
loop-records-preserved c =
    let (trim, ready, config, y, source, read_so_far, grown, reached, utf8, open_a) = c.loop-records.invariant in
    let read = rw (c.in-Ok-true.field-0-test) at (c.in-Ok-true.ensures.reads trim ready) in
    let (z, at_z, more, utf8_z, open_z) =
    read-more (λ (s : Bor (List ℕ)). Some s.now) c.loop-records.reader c.read_byte_record.new.self (fields_of c.read_byte_record.new.row) c.args.text.now y read_so_far config source utf8 open_a reached read in
    let fields = fields_of c.read_byte_record.new.row in (
      read.3 ∙ trim,
      inl (c.in-Ok-true.ensures.ready trim),
      read.2 ∙ config,
      z,
      at_z,
      read_so_far ++ fields ∷ [],
      rw (c.in_ok-push_row-in-Ok-true.ensures.ok, grown) (append_assoc c.args.records.now read_so_far (fields ∷ [])),
      more,
      utf8_z,
      open_z,
    )

pub returns-in-Ok-false : goal.returns-in-Ok-false
returns-in-Ok-false c =
    let (trim, ready, config, y, source, read_so_far, grown, reached, utf8, open_a) = c.loop-records.invariant in
    let read = rw (c.in-Ok-false.field-0-test) at (c.in-Ok-false.ensures.reads trim ready) in
    let all = read-end (λ (s : Bor (List ℕ)). Some s.now) c.loop-records.reader c.read_byte_record.new.self (fields_of c.read_byte_record.new.row) c.args.text.now y read_so_far config source reached read in
    grown ∙ ap (λ (r : List (List (List ℕ))). c.args.records.now ++ r) all
