use Rattle.std.proofs.Common.{◌≡◌, ◌-◌, ◌∙◌, ℕ, List, length, take, drop, get_or, true, false, subst, sym, arith}
use Rattle.std.proofs.lemmas.List.{take_all, length-drop}
use Rattle.gtfs_table.specs.Blanks.{is_blank, without_first_blanks}
use Rattle.gtfs_table.proofs.BlankFacts.{start-blank, start-other, start-none}
use Rattle.gtfs_table.proofs.blanks.cut_start.Goals as goal

pub loop-left-preserved : goal.loop-left-preserved
loop-left-preserved c =
    let blank : is_blank (get_or c.loop-left.left.now 0 0) ≡ true = sym c.is_blank.ensures ∙ c.if-not-is_blank.false in
    let rest : take (length c.loop-left.left.now - 1) (drop 1 c.loop-left.left.now) ≡ drop 1 c.loop-left.left.now =
    take_all (length c.loop-left.left.now - 1) (drop 1 c.loop-left.left.now) (omega (arith, length-drop 1 c.loop-left.left.now)) in
    subst (λ (z : List ℕ). without_first_blanks z ≡ without_first_blanks c.args.bytes.now) (sym rest)
    (start-blank c.loop-left.left.now (omega (arith, c.in-len1-up.len_at_least)) blank ∙ c.loop-left.invariant)

pub returns-in_default : goal.returns-in_default
returns-in_default c = start-none c.loop-left.left.now (omega (arith, c.in_default.len_below)) ∙ c.loop-left.invariant

pub returns-then-not-is_blank : goal.returns-then-not-is_blank
returns-then-not-is_blank c =
    let other : is_blank (get_or c.loop-left.left.now 0 0) ≡ false = sym c.is_blank.ensures ∙ c.if-not-is_blank.true in
    sym (start-other c.loop-left.left.now (omega (arith, c.in-len1-up.len_at_least)) other) ∙ c.loop-left.invariant
