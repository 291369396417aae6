use Rattle.std.proofs.Common.{◌∙◌, ◌+◌, ℕ, List, [], Some, ap, refl, subst, sym, take}
use Rattle.std.proofs.lemmas.List.{take_all}
use Rattle.gtfs_merge.specs.Headsigns.{AreNumbersOf}
use Rattle.gtfs_merge.proofs.HeadsignNumbers.{kept-twice, numbers-more}
use Rattle.gtfs_merge.proofs.InTurn.{same-index}
use Rattle.gtfs_merge.proofs.rows.headsigns.FoundHeadsigns.numbers.Goals as goal

pub loop-headsign-init : goal.loop-headsign-init
loop-headsign-init c = record {
  numbers = subst (AreNumbersOf c.args.self.now []) (sym c.in_ok-numbers.ensures.items) refl;
  kept = λ k t e. e;
}

pub loop-headsign-preserved : goal.loop-headsign-preserved
loop-headsign-preserved c =
    let olds = c.args.headsigns.now in
    let n = c.loop-headsign.headsign-index in
    record {
      numbers = subst (AreNumbersOf c.number.new.self (take (n + 1) olds)) (sym c.in_ok-push.ensures.items)
          (numbers-more c.loop-headsign.self c.number.new.self olds n c.loop-headsign.numbers.items c.in_ok-number.field-0 c.in_ok-number.ensures.kept c.loop-headsign-test.true c.loop-headsign.invariant.numbers
          (c.in_ok-number.ensures.number ∙ ap Some (c.as_str.ensures ∙ c.headsign-item.is ∙ same-index olds n c.headsign-item.result [] c.loop-headsign-test.true)));
      kept = kept-twice _ c.loop-headsign.self c.number.new.self c.loop-headsign.invariant.kept c.in_ok-number.ensures.kept;
    }

pub returns-clause-numbers : goal.returns-clause-numbers
returns-clause-numbers c =
    subst (λ (ts : List (List ℕ)). AreNumbersOf c.loop-headsign.self ts c.loop-headsign.numbers.items) (take_all c.loop-headsign.headsign-index c.args.headsigns.now c.loop-headsign-test.false) c.loop-headsign.invariant.numbers
