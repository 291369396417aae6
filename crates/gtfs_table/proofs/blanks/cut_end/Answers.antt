use Rattle.std.proofs.Common.{◌≡◌, ◌-◌, ◌∙◌, ℕ, List, length, get_or, reverse, true, false, sym, ap, arith}
use Rattle.gtfs_table.specs.Blanks.{is_blank}
use Rattle.gtfs_table.proofs.BlankFacts.{end-blank, end-other, end-none}
use Rattle.gtfs_table.proofs.blanks.cut_end.Goals as goal

pub loop-left-preserved : goal.loop-left-preserved
loop-left-preserved c =
    let blank : is_blank (get_or c.loop-left.left.now (length c.loop-left.left.now - 1) 0) ≡ true = sym c.is_blank.ensures ∙ c.if-not-is_blank.false in
    end-blank c.loop-left.left.now (omega (arith, c.in-len1-up.len_at_least)) blank ∙ c.loop-left.invariant

pub returns-in_default : goal.returns-in_default
returns-in_default c = end-none c.loop-left.left.now (omega (arith, c.in_default.len_below)) ∙ ap (λ (z : List ℕ). reverse z) c.loop-left.invariant

pub returns-then-not-is_blank : goal.returns-then-not-is_blank
returns-then-not-is_blank c =
    let other : is_blank (get_or c.loop-left.left.now (length c.loop-left.left.now - 1) 0) ≡ false = sym c.is_blank.ensures ∙ c.if-not-is_blank.true in
    end-other c.loop-left.left.now (omega (arith, c.in-len1-up.len_at_least)) other ∙ ap (λ (z : List ℕ). reverse z) c.loop-left.invariant
