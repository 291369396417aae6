use Rattle.std.proofs.Common.{◌∙◌, refl, sym, arith}
use Rattle.std.proofs.Math.Nat.{le_refl}
use Rattle.gtfs_runs.proofs.Pushes.{none-done, none-made}
use Rattle.gtfs_board.proofs.Pages.{all-left, counted-faults, faults-steps, page-ends, page-faults, page-full, rises-since, same-settings, settings-since, steps-done, steps-more, written-more}
use Rattle.gtfs_board.proofs.page.write_page.Goals as goal

pub loop-lines-init : goal.loop-lines-init
loop-lines-init g c = record {
  written = all-left _ _ _;
  within = omega arith;
  clock = c.new-clock.ensures ∙ c.zone.ensures;
  settings = same-settings _;
  queued = λ before. before;
  steps = omega arith;
  no_failure = refl;
}

pub loop-lines-preserved : goal.loop-lines-preserved
loop-lines-preserved g c =
    let h = c.loop-lines.invariant in
    let sent = rw (h.settings.zone, c.if-not-branch.false) at c.in_ok-write_next.ensures.sent in
    let steps = rw c.if-not-branch.false at c.in_ok-write_next.ensures.steps in
    record {
      written = written-more _ _ _ _ _ _ _ _ _ h.written sent.written;
      within = omega arith;
      clock = c.write_next.ensures.clock ∙ h.clock;
      settings = settings-since _ _ _ h.settings c.write_next.ensures.settings;
      queued = λ before. c.write_next.ensures.queued (h.queued before);
      steps = steps-more _ _ _ _ _ h.steps steps;
      no_failure = c.in_ok-write_next.ensures.no_failure ∙ h.no_failure;
    }

pub write_next-requires : goal.write_next-requires
write_next-requires g c = c.loop-lines.invariant.clock ∙ sym c.loop-lines.invariant.settings.zone

pub returns-in_err-write_next : goal.returns-in_err-write_next
returns-in_err-write_next g c =
    let h = c.loop-lines.invariant in
    let failed = c.from_residual.ensures.1 in
    record {
      page = none-made c.from_residual.result _ _ failed;
      fault = page-faults c.from_residual.result _ _ _ _ _ _ _ _ _ _ _ failed h.written h.settings.zone c.loop-lines-test.true c.in_err-write_next.ensures.fault;
      counted = counted-faults c.from_residual.result _ _ _ _ failed h.no_failure c.in_err-write_next.ensures.counted;
      grows = rises-since _ _ _ h.no_failure c.write_next.ensures.grows;
      no_failure = none-done c.from_residual.result _ _ failed;
      settings = settings-since _ _ _ h.settings c.write_next.ensures.settings;
      queued = λ before. c.write_next.ensures.queued (h.queued before);
      steps = none-made c.from_residual.result _ _ failed;
      fault_steps = faults-steps c.from_residual.result _ _ _ _ _ _ _ _ _ _ _ _ _ failed h.written h.steps c.in_err-write_next.ensures.fault c.in_err-write_next.ensures.fault_steps;
    }

pub returns-then-not-branch : goal.returns-then-not-branch
returns-then-not-branch g c =
    let h = c.loop-lines.invariant in
    let sent = rw (h.settings.zone, c.if-not-branch.true) at c.in_ok-write_next.ensures.sent in
    let steps = rw c.if-not-branch.true at c.in_ok-write_next.ensures.steps in
    record {
      page = page-ends _ _ _ _ _ _ _ _ _ h.written sent c.loop-lines-test.true;
      fault = tt;
      counted = tt;
      grows = rises-since _ _ _ h.no_failure c.write_next.ensures.grows;
      no_failure = c.in_ok-write_next.ensures.no_failure ∙ h.no_failure;
      settings = settings-since _ _ _ h.settings c.write_next.ensures.settings;
      queued = λ before. c.write_next.ensures.queued (h.queued before);
      steps = steps-done _ _ _ _ h.steps steps;
      fault_steps = tt;
    }

pub returns : goal.returns
returns g c =
    let h = c.loop-lines.invariant in
    record {
      page = page-full _ _ _ _ _ _ _ h.written h.within c.loop-lines-test.false;
      fault = tt;
      counted = tt;
      grows = rises-since _ _ _ h.no_failure (le_refl _);
      no_failure = h.no_failure;
      settings = h.settings;
      queued = h.queued;
      steps = h.steps;
      fault_steps = tt;
    }
