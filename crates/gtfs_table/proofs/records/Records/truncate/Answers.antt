use Rattle.std.proofs.Common.{◌∙◌, take, List, ℕ, sym, ap, arith}
use Rattle.gtfs_table.proofs.ShortFacts.{take-both}
use Rattle.gtfs_table.proofs.records.Records.truncate.Goals as goal

pub returns : goal.returns
returns c =
    let short = c.self.inside.short in
    rw (c.truncate.ensures, c.truncate-2.ensures)
    (sym (take-both short c.self.inside.long c.args.count (c.saturating_sub.result) (omega (arith, c.saturating_sub.ensures, c.len-short.ensures.count)))
    ∙ ap (λ (r : List (List (List ℕ))). take c.args.count r) c.self.view_is)
