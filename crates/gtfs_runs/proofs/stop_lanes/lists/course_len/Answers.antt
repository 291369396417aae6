use Rattle.std.proofs.Common.{◌∙◌, ◌<◌, length, get_or, sym, arith}
use Rattle.std.proofs.lemmas.List.{get_or_default}
use Rattle.gtfs_runs.proofs.Chunks.{course_more, no_event}
use Rattle.gtfs_runs.proofs.Numbers.{alike_more}
use Rattle.gtfs_runs.proofs.stop_lanes.lists.course_len.Goals as goal

pub loop-len-preserved : goal.loop-len-preserved
loop-len-preserved c =
    let xs = c.args.listed.now in
    let n = c.loop-len.len in
    let inside : n < length xs = c.loop-len-test.true in
    let a = get_or xs 0 no_event in
    let b = get_or xs n no_event in
    record {
      some = omega arith;
      within = omega (arith, inside);
      alike = alike_more xs n a b inside (get_or_default xs 0 no_event a (omega (arith, inside))) (get_or_default xs n no_event b inside) (sym c.is_one_course.ensures.numbers ∙ c.if-is_one_course.true)
          c.loop-len.invariant.alike;
      same = λ p k d numbers. course_more p xs n a b numbers inside (get_or_default xs 0 no_event a (omega (arith, inside))) (get_or_default xs n no_event b inside)
          (λ is. sym (c.is_one_course.ensures.courses p is) ∙ c.if-is_one_course.true) (λ j e. c.loop-len.invariant.same p j e numbers) k d;
    }
