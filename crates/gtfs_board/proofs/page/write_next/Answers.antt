use Rattle.std.proofs.Common.{refl}
use Rattle.std.proofs.Math.Nat.{le_refl}
use Rattle.gtfs_board.specs.LentKeys.{listed}
use Rattle.gtfs_board.proofs.Pages.{line-none, line-refused, line-unmade, line-sent, line-cut, on-ok, refused-steps}
use Rattle.gtfs_board.proofs.page.write_next.Goals as goal

pub returns-in-Ok-None : goal.returns-in-Ok-None
returns-in-Ok-None g c =
    let next = rw c.in-Ok-None.field-0-is at c.in-Ok-None.ensures in
    record {
      sent = line-none _ _ _ _ next.first.0 next.first.1;
      fault = tt;
      counted = tt;
      grows = le_refl _;
      no_failure = refl;
      clock = refl;
      settings = c.next.ensures.settings;
      queued = λ before. c.next.ensures.queued;
      steps = next.steps;
      fault_steps = tt;
    }

pub returns-in-Err : goal.returns-in-Err
returns-in-Err g c = record {
  sent = tt;
  fault = (refl, line-refused _ _ _ _ c.in-Err.ensures.kept.0);
  counted = refl;
  grows = le_refl _;
  no_failure = tt;
  clock = refl;
  settings = c.next.ensures.settings;
  queued = λ before. c.next.ensures.queued;
  steps = tt;
  fault_steps = refused-steps _ _ _ _ c.in-Err.ensures.kept.0;
}

pub returns-then-is_err : goal.returns-then-is_err
returns-then-is_err g c =
    let next = rw c.in-Ok-Some.field-0-is at c.in-Ok-Some.ensures in
    record {
      sent = tt;
      fault = (refl, line-unmade _ _ _ (listed c.in-Ok-Some.departure) _ next.first);
      counted = refl;
      grows = le_refl _;
      no_failure = tt;
      clock = c.push_line_by.ensures.zone;
      settings = c.next.ensures.settings;
      queued = λ before. c.next.ensures.queued;
      steps = tt;
      fault_steps = λ gone. next.steps;
    }

pub returns-in-Ok : goal.returns-in-Ok
returns-in-Ok g c =
    let next = rw c.in-Ok-Some.field-0-is at c.in-Ok-Some.ensures in
    let line = on-ok c.push_line_by.result _ c.if-is_err.ensures.value c.push_line_by.ensures.appended in
    record {
      sent = line-sent _ _ _ _ _ _ _ _ _ _ next.first c.requires c.clear.ensures.bytes line c.as_bytes.ensures.value c.in-Ok.ensures.whole;
      fault = tt;
      counted = tt;
      grows = c.write_text.ensures.grows;
      no_failure = c.in-Ok.ensures.no_failure;
      clock = c.push_line_by.ensures.zone;
      settings = c.next.ensures.settings;
      queued = λ before. c.next.ensures.queued;
      steps = next.steps;
      fault_steps = tt;
    }

pub returns-in-Err-write_text : goal.returns-in-Err-write_text
returns-in-Err-write_text g c =
    let next = rw c.in-Ok-Some.field-0-is at c.in-Ok-Some.ensures in
    let line = on-ok c.push_line_by.result _ c.if-is_err.ensures.value c.push_line_by.ensures.appended in
    let cut = c.in-Err-write_text.ensures in
    record {
      sent = tt;
      fault = (refl, line-cut _ _ _ _ _ _ _ _ _ _ _ next.first c.requires c.clear.ensures.bytes line c.as_bytes.ensures.value cut.prefix cut.within);
      counted = cut.once;
      grows = c.write_text.ensures.grows;
      no_failure = tt;
      clock = c.push_line_by.ensures.zone;
      settings = c.next.ensures.settings;
      queued = λ before. c.next.ensures.queued;
      steps = tt;
      fault_steps = next.steps;
    }
