use Rattle.std.proofs.Common.{◌≡◌, ◌<◌, ◌∙◌, ℕ, None, ap, get_or, length, map, subst, sym}
use Rattle.std.specs.Prelude.{All, IfSome}
use Rattle.gtfs_merge.specs.Twins.{twin_rows, of_kind}
use Rattle.gtfs_merge.specs.FeedIds.{known_ids}
use Rattle.gtfs_merge.specs.MergeEntries.{entry_value}
use Rattle.gtfs_merge.specs.NewNumbers.{number_or}
use Rattle.gtfs_merge.specs.declared.kind.Side.TheVariants as side
use Rattle.gtfs_merge.proofs.JoinedIds.{of-kind-length}
use Rattle.gtfs_merge.proofs.NewNumbers.{entry-within, twins-within, renumbered}
use Rattle.gtfs_merge.proofs.numbering.new_numbers.Numbers.of_rows.Goals as goal

pub set_rows-requires : goal.set_rows-requires
set_rows-requires c = λ j d inside.
    entry-within c.args.kind c.args.sides.now c.in_ok-numbers.numbers (c.in_ok-numbers.ensures.a ∙ c.count_of.ensures) (c.in_ok-numbers.ensures.b ∙ c.count_of-2.ensures) _ _ (c.requires.rows.within j d inside)

pub set_twins-requires-clause-count : goal.set_twins-requires-clause-count
set_twins-requires-clause-count c =
    ap (λ j. length (of_kind j c.args.kind)) c.requires.twins ∙ of-kind-length c.args.sides.now c.args.kind
    ∙ sym (c.set_rows.ensures.count side.B ∙ c.in_ok-numbers.ensures.b ∙ c.count_of-2.ensures)

pub set_twins-requires-clause-within : goal.set_twins-requires-clause-within
set_twins-requires-clause-within c =
    let long : length c.set_rows.new.self.a ≡ length (known_ids c.args.kind c.args.sides.now.a.now) = c.set_rows.ensures.count side.A ∙ c.in_ok-numbers.ensures.a ∙ c.count_of.ensures in
    subst (λ j. All (λ o. IfSome o (λ first. first < length c.set_rows.new.self.a)) (of_kind j c.args.kind)) (sym c.requires.twins)
    (subst (λ (m : ℕ). All (λ o. IfSome o (λ first. first < m)) (of_kind (twin_rows c.args.sides.now) c.args.kind)) (sym long) (twins-within c.args.kind c.args.sides.now))

pub returns : goal.returns
returns c =
    let sides = c.args.sides.now in
    let k = c.args.kind in
    renumbered k sides (map entry_value c.args.rows.now) c.requires.rows c.soundness.ensures.a c.soundness.ensures.b c.soundness.ensures.few c.set_rows.new.self c.set_twins.new.self c.set_rows.ensures.numbers
    (c.set_rows.ensures.count side.A ∙ c.in_ok-numbers.ensures.a ∙ c.count_of.ensures) (c.set_rows.ensures.count side.B ∙ c.in_ok-numbers.ensures.b ∙ c.count_of-2.ensures)
    c.set_twins.ensures.a c.set_twins.ensures.count
    (λ m within. c.set_twins.ensures.numbers m within ∙ ap (λ j. number_or c.set_rows.new.self.a (get_or (of_kind j k) m None) (get_or c.set_rows.new.self.b m 0)) c.requires.twins)
