use Rattle.std.proofs.Common.{ap, sym, ◌∙◌, None}
use Rattle.std.specs.Prelude.{option_and_then}
use Rattle.gtfs_rows.specs.SoundContent.{comes}
use Rattle.gtfs_rows.specs.RowsInMemory.{stop_row_of}
use Rattle.gtfs_advice.proofs.Rows.{last_is}
use Rattle.gtfs_advice.proofs.reached_and_left.last_reached_at.Goals as goal

pub returns : goal.returns
returns c p =
    let rows = c.args.rows.now in
    c.arrives.ensures ∙ sym (ap (option_and_then comes) (last_is (stop_row_of p) rows c.in_ok-last.field-0.now None (sym c.in_ok-last.ensures.value)))
