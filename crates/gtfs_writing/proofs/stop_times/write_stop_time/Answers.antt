use Rattle.std.proofs.Common.{◌∙◌, ap, sym}
use Rattle.gtfs_rows.specs.RowsInMemory.{text_of_number}
use Rattle.gtfs_writing.proofs.PlainTexts.{plain-stop}
use Rattle.gtfs_writing.proofs.stop_times.write_stop_time.Goals as goal

pub known_text-requires : goal.known_text-requires
known_text-requires g c =
    λ plain. plain-stop c.args.parts.now _ _ (c.id.ensures ∙ ap (λ ids. text_of_number ids c.args.row.now.stop_id.0) c.requires.stops.ids) (sym c.requires.stops.plain ∙ plain)
