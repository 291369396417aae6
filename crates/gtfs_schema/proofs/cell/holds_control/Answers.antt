use Rattle.std.proofs.Common.{◌≡◌, ◌<◌, ◌≤◌, ◌∙◌, ap, false, get_or, length, sym}
use Rattle.std.specs.List.{list_any}
use Rattle.std.proofs.lemmas.List.{take_all}
use Rattle.std.proofs.lemmas.List.Folds.{list_any_more}
use Rattle.gtfs_table.specs.Blanks.{is_control}
use Rattle.gtfs_schema.proofs.cell.holds_control.Goals as goal

pub loop-byte-preserved : goal.loop-byte-preserved
loop-byte-preserved c =
    let text = c.args.bytes.now in
    let i = c.loop-byte.byte-index in
    let within : i < length text = c.loop-byte-test.true in
    let at_byte = c.is_control.ensures in
    let other : is_control (get_or text i 0) ≡ false = sym at_byte ∙ c.if-is_control.false in
    rw (list_any_more is_control text i 0 within, c.loop-byte.invariant) other

pub returns : goal.returns
returns c =
    let text = c.args.bytes.now in
    let done : length text ≤ c.loop-byte.byte-index = c.loop-byte-test.false in
    sym c.loop-byte.invariant ∙ ap (list_any is_control) (take_all c.loop-byte.byte-index text done)
