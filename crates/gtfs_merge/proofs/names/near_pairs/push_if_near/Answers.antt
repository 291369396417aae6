use Rattle.std.proofs.Common.{◌≡◌, ◌++◌, ◌∙◌, Some, None, ap, arith, length, subst, sym, append-nil}
use Rattle.std.specs.Prelude.{OnOk}
use Rattle.std.proofs.lemmas.List.{length-map}
use Rattle.gtfs_rows.specs.RowsInMemory.{stop_ids}
use Rattle.gtfs_merge.specs.MergedSides.{is_joined_id}
use Rattle.gtfs_merge.specs.Twins.{near_at, pairs_at, twin_number, twin_rows}
use Rattle.gtfs_merge.specs.declared.kind.Kind.TheVariants as kind
use Rattle.gtfs_merge.proofs.NearPairs.{near-within}
use Rattle.gtfs_merge.proofs.names.near_pairs.push_if_near.Goals as goal

pub near-requires-clause-within : goal.near-requires-clause-within
near-requires-clause-within c =
    let count = ap (λ t. length t.stops) c.requires.twins ∙ length-map (stop_ids c.args.sides.now.b.now) (twin_number kind.Stop c.args.sides.now) in
    omega (arith, count, c.requires.within)

pub near-requires-clause-flags : goal.near-requires-clause-flags
near-requires-clause-flags c =
    let ids = stop_ids c.args.sides.now.b.now in
    ap (λ t. length t.joined_stops) c.requires.twins ∙ length-map ids (is_joined_id kind.Stop c.args.sides.now)
    ∙ sym (ap (λ t. length t.stops) c.requires.twins ∙ length-map ids (twin_number kind.Stop c.args.sides.now))

pub push_pair-requires-clause-first : goal.push_pair-requires-clause-first
push_pair-requires-clause-first c =
    near-within c.args.sides.now c.args.number c.in-Some.first c.requires.within (ap (λ t. near_at t c.args.number) (sym c.requires.twins) ∙ sym c.in-Some.ensures)

pub returns-in-Some : goal.returns-in-Some
returns-in-Some c =
    let near : near_at (twin_rows c.args.sides.now) c.args.number ≡ Some c.in-Some.first = ap (λ t. near_at t c.args.number) (sym c.requires.twins) ∙ sym c.in-Some.ensures in
    subst (λ o. OnOk c.push_pair.result (c.push_pair.new.pairs.items ≡ c.args.pairs.now.items ++ pairs_at c.args.sides.now o c.args.number)) (sym near) c.push_pair.ensures

pub returns-in-None : goal.returns-in-None
returns-in-None c =
    let near : near_at (twin_rows c.args.sides.now) c.args.number ≡ None = ap (λ t. near_at t c.args.number) (sym c.requires.twins) ∙ sym c.in-None.ensures in
    let old = c.args.pairs.now.items in
    sym (append-nil old) ∙ ap (λ o. old ++ pairs_at c.args.sides.now o c.args.number) (sym near)
