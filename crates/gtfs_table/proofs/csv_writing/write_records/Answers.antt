use Rattle.std.proofs.Common.{◌≡◌, ◌≢◌, ◌∙◌, ◌++◌, ℕ, List, [], take, get_or, false, sym, refl, ap, arith}
use Rattle.std.specs.Result.{is_err}
use Rattle.std.proofs.lemmas.List.{take_more, take_all}
use Rattle.csv.proofs.ReadFacts.{on-ok}
use Rattle.csv.specs.Writing.{writer_setup}
use Rattle.csv.specs.declared.writer.QuoteStyle.TheVariants as style
use Rattle.gtfs_table.specs.TableTexts.{text_of_records}
use Rattle.gtfs_table.proofs.ValueFacts.{next-record}
use Rattle.gtfs_table.proofs.WriteFacts.{reads-back, row-flexible, text-more}
use Rattle.gtfs_table.proofs.csv_writing.write_records.Goals as goal

pub loop-i-init : goal.loop-i-init
unfolding text_of_records
loop-i-init c =
    let from = c.from_writer-writer.ensures in
    record {
      setup = rw (c.flexible.ensures, c.new.ensures) at from.cfg;
      fields = from.fields;
      wrote = from.wrote;
      text = rw (from.wtr, c.new-2.ensures.items, from.empty) refl;
    }

pub loop-i-preserved : goal.loop-i-preserved
loop-i-preserved c =
    let inv = c.loop-i.invariant in
    let wrote = c.write_byte_record.ensures in
    let good : is_err c.write_byte_record.result ≡ false = sym c.is_err.ensures.value ∙ c.if-is_err.false in
    let plain : (writer_setup c.loop-i.writer).style ≢ style.NonNumeric = rw (inv.setup) (λ e. cc e) in
    let appends = on-ok c.write_byte_record.result good wrote.bytes inv.fields inv.wrote plain in
    let old : c.loop-i.writer.wtr.inner.items ++ c.loop-i.writer.wtr.buf ≡ text_of_records (take c.loop-i.i c.args.records.now) = cc inv.text in
    let copied = c.in_ok-copy_record.ensures ∙ c.record.ensures ∙ next-record c.args.records.now c.loop-i.i in
    let more = take_more c.args.records.now c.loop-i.i [] (omega (arith, c.loop-i-test.true, c.len-i-end.ensures)) in
    record {
      setup = on-ok c.write_byte_record.result good wrote.setup ∙ inv.setup;
      fields = on-ok c.write_byte_record.result good wrote.ended;
      wrote = on-ok c.write_byte_record.result good wrote.clean;
      text = rw (more, text-more (take c.loop-i.i c.args.records.now) (get_or c.args.records.now c.loop-i.i []), appends, old, inv.setup, copied, row-flexible (get_or c.args.records.now c.loop-i.i [])) refl;
    }

pub returns-in-Ok-clause-reads_back : goal.returns-in-Ok-clause-reads_back
returns-in-Ok-clause-reads_back c unmarked =
    let old : c.loop-i.writer.wtr.inner.items ++ c.loop-i.writer.wtr.buf ≡ text_of_records (take c.loop-i.i c.args.records.now) = cc c.loop-i.invariant.text in
    let all = take_all c.loop-i.i c.args.records.now (omega (arith, c.loop-i-test.false, c.len-i-end.ensures)) in
    let text : c.in-Ok.text.items ≡ text_of_records c.args.records.now = c.in-Ok.ensures.ok ∙ old ∙ ap (λ (rs : List (List (List ℕ))). text_of_records rs) all in
    rw text (reads-back c.args.records.now c.are_filled_with_text.ensures.filled c.are_filled_with_text.ensures.text unmarked)
