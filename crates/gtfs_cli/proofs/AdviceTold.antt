-- The codes of advice that were told, and the line of each advice.
use Rattle.std.proofs.Common.{◌≡◌, ◌∙◌, ap, sym, refl, inl, inr, ℕ, ◌+◌, ◌<◌, ◌==◌, Bool, true, false, cond, List, [], ◌∷◌, length, map, take, get_or, Option, Some, None, arith}
use Rattle.std.specs.Prelude.{count_by}
use Rattle.std.specs.List.{list_any, slice_set}
use Rattle.std.proofs.lemmas.Bool.Decides.{eqb_tells}
use Rattle.std.proofs.lemmas.Grind.{get_or-set_at}
use Rattle.std.proofs.lemmas.List.{get_or-set_other}
use Rattle.gtfs_rows.specs.declared.parts.Parts.{Parts}
use Rattle.gtfs_advice.specs.Advice.{advice_of, About}
use Rattle.gtfs_advice.specs.declared.advice.Advice.{Advice}
use Rattle.gtfs_advice.specs.Codes.{advice_rank}
use Rattle.gtfs_advice.specs.declared.code.Code.{Code}
use Rattle.gtfs_cli.specs.AdviceLines.{advice_line, has_one_code}
use Rattle.gtfs_cli.specs.FirstOfEachKind.{firsts, if_counted}
use Rattle.gtfs_cli.proofs.Counted.{count-cons}
use Rattle.gtfs_cli.proofs.MadeLines.{any-more, first-at}

-- as many of what is made of some things
pub count-map : {X Y : Type 0} (p : Y → Bool) (f : X → Y) (xs : List X) → count_by p (map f xs) ≡ count_by (λ x. p (f x)) xs
count-map p f [] = refl
count-map p f (x ∷ xs) =
    count-cons p (f x) (map f xs) ∙ ap (λ n. cond (p (f x)) 1 0 + n) (count-map p f xs) ∙ sym (count-cons (λ y. p (f y)) x xs)

-- ---- codes

pub code-itself : (a : Code × About) → has_one_code a a ≡ true
code-itself a = elim (eqb_tells (advice_rank a.0) (advice_rank a.0)) [ inl same ↦ same.0 | inr other ↦ absurd (other.1 refl) ]

pub code-turned : (a b : Code × About) → has_one_code a b ≡ has_one_code b a
code-turned a b = elim (eqb_tells (advice_rank a.0) (advice_rank b.0)) [
  | inl same ↦ λ i. same.1 i == sym same.1 i
  | inr other ↦ other.0 ∙ elim (eqb_tells (advice_rank b.0) (advice_rank a.0)) [ inl same ↦ absurd (other.1 (sym same.1)) | inr neither ↦ sym neither.0 ]
]

-- a code that is told now
pub marked : (told : List Bool) (r s : ℕ) → r < length told → get_or (slice_set told r true) s false ≡ cond (r == s) true (get_or told s false)
marked told r s inside = elim (eqb_tells r s) [
  | inl same ↦ get_or-set_at told r s true false (sym same.1) inside ∙ ap (λ b. cond b true (get_or told s false)) (sym same.0)
  | inr other ↦ get_or-set_other told r s true false (λ e. other.1 (sym e)) ∙ ap (λ b. cond b true (get_or told s false)) (sym other.0)
]

-- ---- one piece of advice after another

module _ (p : Parts) (said : List Advice) (i : ℕ) (a d : Advice) (at : a ≡ get_or said i d) (inside : i < length said) where
  abbrev here : Code × About
  here = advice_of p a

  abbrev all : List (Code × About)
  all = map (advice_of p) said

  -- the codes that came before were told
  abbrev pub ToldAt : List Bool → ℕ → Type 0
  ToldAt told n = (x : Code × About) → get_or told (advice_rank x.0) false ≡ list_any (has_one_code x) (take n all)

  -- so is the next one
  pub told-more : (old new : List Bool) (rank : ℕ) → rank ≡ advice_rank a.code → rank < 28 → length old ≡ 28 → new ≡ slice_set old rank true
      → ToldAt old i → ToldAt new (i + 1)
  told-more old new rank is below count mark so x =
      ap (λ (bs : List Bool). get_or bs (advice_rank x.0) false) mark ∙ marked old rank (advice_rank x.0) (omega (arith, below, count))
      ∙ ap (λ n. cond (n == advice_rank x.0) true (get_or old (advice_rank x.0) false)) is
      ∙ ap (cond (has_one_code here x) true) (so x)
      ∙ sym (any-more (advice_of p) said i a d at inside has_one_code x (code-turned x here))

  -- its line is that at its place
  pub first-line : (old : List Bool) (rank : ℕ) (count : Option ℕ) → rank ≡ advice_rank a.code → ToldAt old i
      → count ≡ cond (get_or old rank false) None (Some (count_by (λ b. rank == advice_rank b.code) said))
      → if_counted (advice_line here) count ≡ get_or (firsts has_one_code advice_line all) i []
  first-line old rank count is so told =
      first-at (advice_of p) said i a d at inside has_one_code advice_line count
      (told ∙ ap (λ n. cond (get_or old n false) None (Some (count_by (λ (b : Advice). n == advice_rank b.code) said))) is
      ∙ ap (λ b. cond b None (Some (count_by (λ (b : Advice). advice_rank here.0 == advice_rank b.code) said))) (so here)
      ∙ ap (λ n. cond (list_any (has_one_code here) (take i all)) None (Some n)) (sym (count-map (has_one_code here) (advice_of p) said)))
