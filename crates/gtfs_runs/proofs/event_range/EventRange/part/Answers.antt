use Rattle.std.proofs.Common.{◌≡◌, ◌≤◌, ◌+◌, ◌-◌, ◌∙◌, ℕ, List, drop, length, take, sym, ap, arith}
use Rattle.std.proofs.lemmas.List.{drop-drop, drop-take, length-drop, length-take-le, take-take}
use Rattle.gtfs_runs.specs.declared.event.Event.{Event}
use Rattle.gtfs_runs.proofs.event_range.EventRange.part.Goals as goal

-- a part of a part is a part of the whole
within_part : (xs : List Event) (from n start len : ℕ) → from + n ≤ length xs → start + len ≤ n → take len (drop (from + start) xs) ≡ take len (drop start (take n (drop from xs)))
within_part xs from n start len inside fits =
    let rest : List Event = drop from xs in
    let cut : start + (n - start) ≡ n = omega (arith, fits) in
    ap (take len) (sym (drop-drop start from xs))
    ∙ sym (take-take len (n - start) (drop start rest) (omega (arith, fits)))
    ∙ ap (take len) (sym (drop-take start (n - start) rest) ∙ ap (λ m. drop start (take m rest)) cut)

pub returns : goal.returns
returns c =
    let own = c.self.inside in
    let all : List Event = own.all.value.items in
    let now = sym c.self.view_is in
    let fits : c.args.start + c.args.len ≤ own.len =
    let long = ap length now ∙ length-take-le own.len (drop own.start all) (let left = length-drop own.start all in omega (arith, left, c.self.invariant)) in
    omega (arith, long, c.requires) in
    ap (λ v. take c.args.len (drop (own.start + c.args.start) v.items)) c.in_ok-all.ensures.cases
    ∙ within_part all own.start own.len c.args.start c.args.len c.self.invariant fits ∙ ap (λ v. take c.args.len (drop c.args.start v)) (sym now)
