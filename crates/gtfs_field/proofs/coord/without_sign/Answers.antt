use Rattle.std.proofs.Common.{sym}
use Rattle.gtfs_field.proofs.Coordinates.{boundary-sign}
use Rattle.gtfs_field.proofs.coord.without_sign.Goals as goal

pub range_from-requires : goal.range_from-requires
range_from-requires c = λ _. boundary-sign c.args.text.now c.utf8.text (rw c.as_bytes.ensures.value at (sym c.if-begins_with_sign.ensures))
