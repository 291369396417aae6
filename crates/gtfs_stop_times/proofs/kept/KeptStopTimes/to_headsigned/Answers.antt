use Rattle.std.proofs.Common.{◌∙◌, ap, map, subst, sym}
use Rattle.std.specs.Prelude.{nat_eq}
use Rattle.std.specs.List.{IsDistinct}
use Rattle.gtfs_stop_times.proofs.HeadsignedFacts.{own-numbers}
use Rattle.gtfs_stop_times.proofs.kept.KeptStopTimes.to_headsigned.Goals as goal

pub of-requires-clause-once : goal.of-requires-clause-once
of-requires-clause-once c =
    let k = c.self.inside in
    subst (IsDistinct nat_eq) (ap (map (λ s. s.row)) (sym c.self.view_is) ∙ own-numbers k.rows.items k.notes.items k.order ∙ sym c.in_ok-order.ensures) c.requires.once
