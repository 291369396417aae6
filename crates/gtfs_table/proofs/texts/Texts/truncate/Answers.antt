use Rattle.std.proofs.Common.{◌∷◌, [], ℕ, zero, suc, List, take, sym, subst, arith}
use Rattle.csv.specs.Records.{AllText}
use Rattle.gtfs_table.proofs.RunFacts.{AreRuns, runs-all, runs-first}
use Rattle.gtfs_table.proofs.texts.Texts.truncate.Goals as goal

pub span-start-requires : goal.span-start-requires
span-start-requires c = omega (arith, c.if-count-len.true, c.len.ensures.count)

text-first : (count : ℕ) (texts : List (List ℕ)) → AllText texts → AllText (take count texts)
unfolding AllText
text-first zero texts all = tt
text-first (suc count) [] all = tt
text-first (suc count) (t ∷ texts) all = (all.0, text-first count texts all.1)

first : (c : goal.After-truncate-then-count-len) → AreRuns c.truncate.new.self c.truncate-then-count-len.new.self.items (take c.args.count c.args.self.now)
first c =
    runs-first c.self.inside.starts c.truncate.new.self c.self.inside.bytes.items c.truncate-then-count-len.new.self.items c.args.self.now c.args.count c.span-start.result.0
    c.self.view_is c.self.invariant.rising (omega (arith, c.if-count-len.true, c.len.ensures.count)) c.span-start.ensures.start c.truncate.ensures c.truncate-then-count-len.ensures.items

pub invariant_of-self : goal.invariant_of-self
invariant_of-self c = record {
  rising = (first c).rising;
  utf8 = subst AllText (sym (first c).value) (text-first c.args.count c.args.self.now (subst AllText c.self.view_is c.self.invariant.utf8));
}

pub returns-then-count-len : goal.returns-then-count-len
returns-then-count-len c = (first c).value

pub returns-else-count-len : goal.returns-else-count-len
returns-else-count-len c =
    runs-all c.self.inside.starts c.self.inside.bytes.items c.args.self.now c.args.count c.self.view_is (omega (arith, c.if-count-len.false, c.len.ensures.count))
