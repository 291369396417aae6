-- Problems of one code, file and column, and how many there are.
use Rattle.std.proofs.Common.{◌≡◌, ◌∙◌, ap, sym, refl, zero, suc, ℕ, ◌+◌, ◌<◌, ◌==◌, Bool, true, false, cond, ◌-◌, List, [], ◌∷◌, length, map, take, get_or, Option, Some, None, arith}
use Rattle.std.specs.Prelude.{count_by, unwrap_or}
use Rattle.std.specs.BTreeMap.{get, BTreeMap}
use Rattle.std.specs.List.{list_any}
use Rattle.std.specs.Ordering.{is_eq}
use Rattle.std.proofs.lemmas.Grind.{common_steps}
use Rattle.std.proofs.lemmas.List.{get_or-map, length-map}
use Rattle.std.proofs.lemmas.List.Sums.{count_by_more_no, count_by_more_yes}
use Rattle.gtfs_table.specs.Tables.{Dataset}
use Rattle.gtfs_schema.specs.Problems.{Problem}
use Rattle.gtfs_schema.specs.ProblemTexts.{problem_of}
use Rattle.gtfs_schema.specs.declared.problem.Problem.{Problem as Lent}
use Rattle.gtfs_schema.specs.steps.ProblemOrder.{problem_equal}
use Rattle.gtfs_cli.specs.CheckLines.{count_alike, is_alike, kind_of, shown_line}
use Rattle.gtfs_cli.specs.FirstOfEachKind.{firsts, if_counted}
use Rattle.gtfs_cli.specs.CountsByKind.{held_for, if_any, lent_cmp}
use Rattle.gtfs_cli.specs.declared.commands.check.kind_counts.KindCounts.{KindCounts}
use Rattle.gtfs_cli.proofs.Counted.{count-cons}
use Rattle.gtfs_cli.proofs.MadeLines.{any-more, first-at, found as made-at, within as made-within}

-- ---- problems of one kind

pub alike-turned : (p q : Problem) → is_alike p q ≡ is_alike q p
alike-turned p q = problem_equal.symm (kind_of p) (kind_of q)

pub alike-itself : (p : Problem) → is_alike p p ≡ true
alike-itself p = problem_equal.refl (kind_of p)

same-tests : (p q : Problem) → is_alike p q ≡ true → (x : Problem) → is_alike p x ≡ is_alike q x
same-tests p q e x = problem_equal.congr (kind_of p) (kind_of q) (kind_of x) e

pub same-count : (xs : List Problem) (p q : Problem) → is_alike p q ≡ true → count_alike xs p ≡ count_alike xs q
same-count xs p q e = λ i. count_by (λ x. same-tests p q e x i) xs

-- ---- how many there are

none-counted : if_any 0 ≡ None
none-counted = refl

some-counted : (n m : ℕ) → m ≡ n + 1 → if_any m ≡ Some m
some-counted n m is = rw (no-zero m n is) refl
  where
    no-zero : (m n : ℕ) → m ≡ n + 1 → (m == 0) ≡ false
    no-zero m n is = grind (arith, common_steps)

pub if-any-back : (n : ℕ) → unwrap_or (if_any n) 0 ≡ n
if-any-back n = by (n == 0) refl
  where
    zero-is : (n : ℕ) → (n == 0) ≡ true → n ≡ 0
    zero-is n e = grind (arith, common_steps)

    by : (b : Bool) → (n == 0) ≡ b → unwrap_or (if_any n) 0 ≡ n
    by true e = ap (λ (c : Bool). unwrap_or (cond c None (Some n)) 0) e ∙ sym (zero-is n e)
    by false e = ap (λ (c : Bool). unwrap_or (cond c None (Some n)) 0) e

-- one that passes a test is counted
pub one-counted : (f : Problem → Bool) (xs : List Problem) (i : ℕ) (d : Problem) → i < length xs → f (get_or xs i d) ≡ true → 0 < count_by f xs
one-counted f [] i d inside e = absurd (omega (arith, inside))
one-counted f (x ∷ xs) zero d inside e =
    let one : cond {A = ℕ} (f x) 1 0 ≡ 1 = ap (λ b. cond {A = ℕ} b 1 0) e in
    omega (arith, one, count-cons f x xs)
one-counted f (x ∷ xs) (suc i) d inside e =
    let more = one-counted f xs i d (omega (arith, inside)) e in
    omega (arith, more, count-cons f x xs)

module _ (ps : List Lent) (i : ℕ) (p : Lent) (inside : i < length ps) where
  abbrev all : List Problem
  all = map problem_of ps

  abbrev here : Problem
  here = problem_of (get_or ps i p)

  within : i < length all
  within = omega (arith, inside, length-map ps problem_of)

  found : (d : Problem) → get_or all i d ≡ here
  found d = get_or-map problem_of ps i p d inside

  -- one more is counted
  pub counted-more : (before : ℕ) → before ≡ count_alike (take i all) here → (q : Problem)
      → cond (is_alike here q) (Some (before + 1)) (if_any (count_alike (take i all) q)) ≡ if_any (count_alike (take (i + 1) all) q)
  counted-more before is q = by (is_alike here q) refl
    where
      by : (b : Bool) → is_alike here q ≡ b → cond b (Some (before + 1)) (if_any (count_alike (take i all) q)) ≡ if_any (count_alike (take (i + 1) all) q)
      by true e =
          let more = count_by_more_yes (is_alike q) all i here within (ap (is_alike q) (found here) ∙ alike-turned q here ∙ e) in
          let same = same-count (take i all) here q e in
          let number : count_alike (take (i + 1) all) q ≡ before + 1 = omega (arith, more, same, is) in
          ap (λ (n : ℕ). Some n) (sym number) ∙ sym (some-counted before (count_alike (take (i + 1) all) q) number)
      by false e =
          let none = count_by_more_no (is_alike q) all i here within (ap (is_alike q) (found here) ∙ alike-turned q here ∙ e) in
          ap if_any (sym none)

  -- the numbers of kinds once one more is counted, under this key
  pub kind-counted : (key : Lent) → key ≡ record (get_or ps i p) { row = 0 } → (old new : BTreeMap Lent ℕ) (before : ℕ)
      → before ≡ unwrap_or (get lent_cmp old key) 0
      → ((q : Lent) → get lent_cmp old (record q { row = 0 }) ≡ if_any (count_alike (take i all) (problem_of q)))
      → ((q : Lent) → get lent_cmp new q ≡ cond (is_eq (lent_cmp key q)) (Some (before + 1)) (get lent_cmp old q))
      → (q : Lent) → get lent_cmp new (record q { row = 0 }) ≡ if_any (count_alike (take (i + 1) all) (problem_of q))
  kind-counted key is old new before told held updates q =
      let r : Lent = record q { row = 0 } in
      let n : before ≡ count_alike (take i all) here =
      told ∙ ap (λ k. unwrap_or (get lent_cmp old k) 0) is ∙ ap (λ o. unwrap_or o 0) (held (get_or ps i p)) ∙ if-any-back (count_alike (take i all) here) in
      updates r ∙ ap (λ k. cond (is_eq (lent_cmp k r)) (Some (before + 1)) (get lent_cmp old r)) is
      ∙ ap (λ o. cond (is_alike here (problem_of q)) (Some (before + 1)) o) (held q) ∙ counted-more before n (problem_of q)

-- ---- what is printed at a problem

module _ (ps : List Lent) (i : ℕ) (p : Lent) (inside : i < length ps) where
  abbrev at : Problem
  at = problem_of (get_or ps i p)

  abbrev many : List Problem
  many = map problem_of ps

  -- of kinds that came before no number is held
  abbrev pub HeldAt : KindCounts → ℕ → Type 0
  HeldAt counts n = (q : Lent) → held_for counts q ≡ cond (list_any (is_alike (problem_of q)) (take n many)) None (if_any (count_alike many (problem_of q)))

  -- nor of that of this problem, once its number was taken
  pub kinds-left : (old new : KindCounts) → ((q : Lent) → held_for new q ≡ cond (is_alike at (problem_of q)) None (held_for old q)) → HeldAt old i → HeldAt new (i + 1)
  kinds-left old new left held q =
      left q ∙ ap (λ r. cond (is_alike at (problem_of q)) None r) (held q)
      ∙ again (is_alike at (problem_of q)) (list_any (is_alike (problem_of q)) (take i many)) (if_any (count_alike many (problem_of q)))
      ∙ ap (λ b. cond b None (if_any (count_alike many (problem_of q))))
      (sym (any-more problem_of ps i (get_or ps i p) p refl inside is_alike (problem_of q) (alike-turned (problem_of q) at)))
    where
      again : (here any : Bool) (r : Option ℕ) → cond here None (cond any None r) ≡ cond (cond here true any) None r
      again true any r = refl
      again false any r = refl

  -- its line is that at its place
  pub kind-line-at : (values : Bool) (d : Dataset) (count : Option ℕ) (old : KindCounts) → count ≡ held_for old (get_or ps i p) → HeldAt old i
      → if_counted (shown_line values d at) count ≡ get_or (firsts is_alike (shown_line values d) many) i []
  kind-line-at values d count old taken held =
      first-at problem_of ps i (get_or ps i p) p refl inside is_alike (shown_line values d) count
      (taken ∙ held (get_or ps i p) ∙ ap (cond (list_any (is_alike at) (take i many)) None) some)
    where
      some : if_any (count_alike many at) ≡ Some (count_alike many at)
      some =
          let positive = one-counted (is_alike at) many i at (made-within problem_of ps i inside)
          (ap (is_alike at) (made-at problem_of ps i (get_or ps i p) p refl inside at) ∙ alike-itself at) in
          some-counted (count_alike many at - 1) (count_alike many at) (omega (arith, positive))
