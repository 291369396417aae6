use Rattle.std.proofs.Common.{◌≡◌, ◌<◌, ◌++◌, List, [], ◌∷◌, ℕ, All, ap, subst, sym, ◌∙◌, arith}
use Rattle.std.proofs.lemmas.List.Elements.{All-push}
use Rattle.gtfs_runs.proofs.Tallies.{second_left, second_pushed}
use Rattle.gtfs_runs.proofs.flat.push_starts.Goals.{then-second-start-eq0+in_ok-push, else-second-start-eq0}
use Rattle.gtfs_runs.proofs.Pushes.{none-done}
use Rattle.gtfs_runs.proofs.flat.push_starts.Goals as goal

pub loop-second-preserved : goal.loop-second-preserved
loop-second-preserved c =
    let start = c.seconds-start.result in
    let second = c.loop-second.second in
    let headway = c.args.period.now.headway_secs in
    let before : List ℕ = c.loop-second.starts.items in
    let old : List ℕ = c.args.starts.now.items in
    let so_far = c.loop-second.invariant in
    let early : second < 7_200_000 = omega (arith, c.loop-second-test.true, c.seconds-second-end.ensures.bound) in
    elim c.if-second-start-eq0.branch [
      | then-second-start-eq0+in_ok-push w ↦
          let items : c.if-second-start-eq0.starts.items ≡ before ++ second ∷ [] = ap (λ v. v.items) w.starts-is ∙ w.in_ok-push.ensures.items in (
            λ r. second_pushed start headway second r old before _ items so_far.2 w.if-second-start-eq0.true (so_far.0 r),
            λ all. subst (All (λ r. r < 7_200_000)) (sym items) (All-push (λ r. r < 7_200_000) before second (so_far.1 all) early),
            omega (arith, so_far.2),
            omega (arith, c.loop-second-test.true),
          )
      | else-second-start-eq0 w ↦
          let items : c.if-second-start-eq0.starts.items ≡ before = ap (λ v. v.items) w.starts-is in (
            λ r. second_left start headway second r old before _ items so_far.2 w.if-second-start-eq0.false (so_far.0 r),
            λ all. subst (All (λ r. r < 7_200_000)) (sym items) (so_far.1 all),
            omega (arith, so_far.2),
            omega (arith, c.loop-second-test.true),
          )
    ]

pub returns-in_err-push : goal.returns-in_err-push
returns-in_err-push c =
    let r = c.from_residual.result in
    let refused = c.from_residual.ensures.1 in
    record { runs = none-done r _ _ refused; early = none-done r _ _ refused }
