use Rattle.std.proofs.Common.{◌<◌, ℕ, List, length, take, sym, subst, arith}
use Rattle.std.proofs.lemmas.List.Elements.{All-take}
use Rattle.gtfs_table.proofs.StoreFacts.{AllFilled}
use Rattle.gtfs_table.proofs.RunFacts.{AreRuns, runs-all, runs-first}
use Rattle.gtfs_table.proofs.long_records.LongRecords.truncate.Goals as goal

pub span-start-requires : goal.span-start-requires
span-start-requires c = omega (arith, c.if-count-len.true, c.len.ensures.count)

first : (c : goal.After-truncate-then-count-len) → AreRuns c.truncate.new.self c.truncate-then-count-len.new.self (take c.args.count c.args.self.now)
first c =
    runs-first c.self.inside.starts c.truncate.new.self c.self.inside.fields c.truncate-then-count-len.new.self c.args.self.now c.args.count c.span-start.result.0
    c.self.view_is c.self.invariant.rising (omega (arith, c.if-count-len.true, c.len.ensures.count)) c.span-start.ensures.start c.truncate.ensures c.truncate-then-count-len.ensures

pub invariant_of-self : goal.invariant_of-self
invariant_of-self c = record {
  rising = (first c).rising;
  filled = subst AllFilled (sym (first c).value) (All-take (λ (r : List (List ℕ)). 0 < length r) c.args.count c.args.self.now (subst AllFilled c.self.view_is c.self.invariant.filled));
}

pub returns-then-count-len : goal.returns-then-count-len
returns-then-count-len c = (first c).value

pub returns-else-count-len : goal.returns-else-count-len
returns-else-count-len c =
    runs-all c.self.inside.starts c.self.inside.fields c.args.self.now c.args.count c.self.view_is (omega (arith, c.if-count-len.false, c.len.ensures.count))
