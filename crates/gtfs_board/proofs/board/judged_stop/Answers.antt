use Rattle.std.proofs.Common.{◌∙◌, ap, refl, sym}
use Rattle.std.specs.Prelude.{option_map}
use Rattle.std.proofs.lemmas.Bool.{true≢false}
use Rattle.gtfs_board.proofs.Opened.{stop_none, stop_some}
use Rattle.gtfs_board.proofs.Results.{bad_is_known, never_unknown, not_bad}
use Rattle.gtfs_board.proofs.board.judged_stop.Goals as goal

pub returns-in-None : goal.returns-in-None
returns-in-None c =
    let none = stop_none c.args.feed.now c.args.stop.now (sym c.stop.ensures ∙ ap (option_map (λ n. n.0)) c.in-None.is) in
    record {
      unknown = (λ _. none, λ _. refl);
      bad = (λ bad. absurd (not_bad _ refl bad), λ both. absurd (true≢false (sym both.0 ∙ none)));
      known = λ is valid. absurd (true≢false (sym is ∙ none));
      stop = tt;
      named = tt;
      span = tt;
    }

pub returns-then-is_valid-clause-unknown : goal.returns-then-is_valid-clause-unknown
returns-then-is_valid-clause-unknown c =
    let known = stop_some c.args.feed.now c.args.stop.now c.in-Some.number.0 (sym c.stop.ensures ∙ ap (option_map (λ n. n.0)) c.in-Some.is) in
    (λ unknown. absurd (never_unknown _ tt unknown), λ none. absurd (true≢false (sym known.1.1 ∙ none)))

pub returns-then-is_valid-clause-named : goal.returns-then-is_valid-clause-named
returns-then-is_valid-clause-named c =
    (stop_some c.args.feed.now c.args.stop.now c.in-Some.number.0 (sym c.stop.ensures ∙ ap (option_map (λ n. n.0)) c.in-Some.is)).1.0

pub returns-else-is_valid-clause-unknown : goal.returns-else-is_valid-clause-unknown
returns-else-is_valid-clause-unknown c =
    let known = stop_some c.args.feed.now c.args.stop.now c.in-Some.number.0 (sym c.stop.ensures ∙ ap (option_map (λ n. n.0)) c.in-Some.is) in
    (λ unknown. absurd (never_unknown _ bad_is_known unknown), λ none. absurd (true≢false (sym known.1.1 ∙ none)))

pub returns-else-is_valid-clause-bad : goal.returns-else-is_valid-clause-bad
returns-else-is_valid-clause-bad c =
    let known = stop_some c.args.feed.now c.args.stop.now c.in-Some.number.0 (sym c.stop.ensures ∙ ap (option_map (λ n. n.0)) c.in-Some.is) in
    (λ _. (known.1.1, sym c.is_valid.ensures ∙ c.if-is_valid.false), λ _. refl)
