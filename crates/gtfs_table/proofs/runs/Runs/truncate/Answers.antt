use Rattle.std.proofs.Common.{take, arith}
use Rattle.gtfs_table.proofs.RunFacts.{AreRuns, first-take, runs-all, runs-first}
use Rattle.gtfs_table.proofs.runs.Runs.truncate.Goals as goal

pub span-start-requires : goal.span-start-requires
span-start-requires c = omega (arith, c.if-count-len.true, c.len.ensures.count)

first : (c : goal.After-truncate-then-count-len) → AreRuns c.truncate.new.self c.truncate-then-count-len.new.self.items (take c.args.count c.args.self.now)
first c =
    runs-first c.self.inside.starts c.truncate.new.self c.self.inside.bytes.items c.truncate-then-count-len.new.self.items c.args.self.now c.args.count c.span-start.result.0
    c.self.view_is c.self.invariant.rising (omega (arith, c.if-count-len.true, c.len.ensures.count)) c.span-start.ensures.start c.truncate.ensures c.truncate-then-count-len.ensures.items

pub invariant_of-self : goal.invariant_of-self
invariant_of-self c = record {
  rising = (first c).rising;
  first = first-take c.self.inside.starts c.self.inside.bytes.items _ _ c.args.count c.span-start.result.0 c.self.invariant.first (omega (arith, c.if-count-len.true, c.len.ensures.count))
      c.span-start.ensures.start c.truncate.ensures c.truncate-then-count-len.ensures.items;
}

pub returns-then-count-len : goal.returns-then-count-len
returns-then-count-len c = (first c).value

pub returns-else-count-len : goal.returns-else-count-len
returns-else-count-len c =
    runs-all c.self.inside.starts c.self.inside.bytes.items c.args.self.now c.args.count c.self.view_is (omega (arith, c.if-count-len.false, c.len.ensures.count))
