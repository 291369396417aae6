use Rattle.gtfs_table.proofs.BlankFacts.{cut-utf8}
use Rattle.gtfs_table.proofs.blanks.cut_ends.Goals as goal

pub from_utf8_unchecked-requires : goal.from_utf8_unchecked-requires
from_utf8_unchecked-requires c = rw (c.cut_end-bytes.ensures, c.cut_start.ensures, c.as_bytes.ensures.value) (cut-utf8 c.args.text.now c.utf8.text)
