use Rattle.std.proofs.Common.{◌<◌, ◌+◌, ◌∙◌, ◌++◌, ap, arith, drop, length, map, subst, sym, take}
use Rattle.std.proofs.lemmas.Option.{get_or_from_slice_get}
use Rattle.gtfs_stop_times.specs.HeadsignedRows.{AreGiven, Headsigned, rows_at, with_headsign_at}
use Rattle.gtfs_stop_times.specs.KeptLists.{stop_times_at}
use Rattle.gtfs_stop_times.proofs.HeadsignedFacts.{few-more, given-more, in-rows, left-is, left-more, rows-more, unnamed-next, within}
use Rattle.gtfs_stop_times.proofs.headsigned.HeadsignedStopTimes.give.Goals as goal

pub get-row-requires : goal.get-row-requires
get-row-requires c =
    let k = c.self.inside in
    let more = subst (λ (h : Headsigned). 0 < length h.left) (sym c.self.view_is) c.requires in
    within k.rows.items k.notes.items k.order k.len k.given c.self.invariant more

pub name-requires-clause-within : goal.name-requires-clause-within
name-requires-clause-within c =
    let k = c.self.inside in
    let more = subst (λ (h : Headsigned). 0 < length h.left) (sym c.self.view_is) c.requires in
    let here = get_or_from_slice_get k.order k.given c.get-row.result 0 c.get-row.ensures in
    in-rows k.rows.items k.notes.items k.order k.len k.given c.self.invariant more c.get-row.result here

pub name-requires-clause-unnamed : goal.name-requires-clause-unnamed
name-requires-clause-unnamed c =
    let k = c.self.inside in
    let more = subst (λ (h : Headsigned). 0 < length h.left) (sym c.self.view_is) c.requires in
    let here = get_or_from_slice_get k.order k.given c.get-row.result 0 c.get-row.ensures in
    unnamed-next k.rows.items k.notes.items k.order k.len k.given c.self.invariant more c.get-row.result here

pub overflow_add-self : goal.overflow_add-self
overflow_add-self c =
    let k = c.self.inside in
    let more = subst (λ (h : Headsigned). 0 < length h.left) (sym c.self.view_is) c.requires in
    let few = few-more k.rows.items k.notes.items k.order k.len k.given c.self.invariant more in
    omega (arith, few)

pub invariant_of-self : goal.invariant_of-self
invariant_of-self c =
    let k = c.self.inside in
    let more = subst (λ (h : Headsigned). 0 < length h.left) (sym c.self.view_is) c.requires in
    let here = get_or_from_slice_get k.order k.given c.get-row.result 0 c.get-row.ensures in
    subst (λ rows. AreGiven rows k.notes.items k.order k.len (k.given + 1)) (sym c.name.ensures) (given-more k.rows.items k.notes.items k.order k.len k.given c.self.invariant more c.get-row.result here c.args.headsign)

pub returns-clause-left : goal.returns-clause-left
returns-clause-left c =
    let k = c.self.inside in
    let more = subst (λ (h : Headsigned). 0 < length h.left) (sym c.self.view_is) c.requires in
    let here = get_or_from_slice_get k.order k.given c.get-row.result 0 c.get-row.ensures in
    ap (λ rows. stop_times_at rows k.notes.items (drop (k.given + 1) k.order)) c.name.ensures
    ∙ left-more k.rows.items k.notes.items k.order k.len k.given c.self.invariant more c.get-row.result here c.args.headsign
    ∙ ap (drop 1) (sym (left-is k.rows.items k.notes.items k.order k.len k.given c.self.invariant more c.get-row.result here))
    ∙ ap (λ (h : Headsigned). drop 1 h.left) c.self.view_is

pub returns-clause-given : goal.returns-clause-given
returns-clause-given c =
    let k = c.self.inside in
    let more = subst (λ (h : Headsigned). 0 < length h.left) (sym c.self.view_is) c.requires in
    let here = get_or_from_slice_get k.order k.given c.get-row.result 0 c.get-row.ensures in
    ap (λ rows. rows_at rows (take (k.given + 1) k.order)) c.name.ensures
    ∙ rows-more k.rows.items k.notes.items k.order k.len k.given c.self.invariant more c.get-row.result here c.args.headsign
    ∙ ap (λ (h : Headsigned). h.rows ++ map (λ s. with_headsign_at s c.args.headsign) (take 1 h.left)) c.self.view_is
