use Rattle.std.proofs.Common.{◌∙◌, ◌++◌, ap, sym, append_assoc, append-nil, string_bytes}
use Rattle.std.specs.Prelude.{encode_utf8}
use Rattle.csv.specs.Writing.{default_writer, escaped}
use Rattle.gtfs_writing.proofs.Quotes.{escaped-none, escaped-past}
use Rattle.gtfs_writing.proofs.text_rows.push_escaped.Goals as goal

pub loop-c-preserved : goal.loop-c-preserved
loop-c-preserved c =
    let later = c.next.new.self.rest.now in
    let before = string_bytes c.loop-c.text in
    let own = escaped default_writer (encode_utf8 c.in-Some.c) in
    let past = escaped-past c.loop-c.c-iterator.rest.now later c.in-Some.c c.in-Some.ensures.steps.0 in
    ap (λ t. t ++ escaped default_writer later) c.in_ok-push_doubled.ensures
    ∙ append_assoc before own (escaped default_writer later)
    ∙ ap (λ t. before ++ t) (sym past)
    ∙ c.loop-c.invariant

pub returns : goal.returns
returns c =
    sym (append-nil (string_bytes c.loop-c.text))
    ∙ ap (λ t. string_bytes c.loop-c.text ++ t) (sym (escaped-none c.loop-c.c-iterator.rest.now c.in-None.ensures.steps.0.0))
    ∙ c.loop-c.invariant
