-- What was told so far, from one row to the next.
use Rattle.std.proofs.Common.{◌≡◌, ◌∙◌, ◌+◌, ◌<◌, ◌≤◌, ◌++◌, ℕ, zero, suc, Bool, true, false, cond, List, [], ◌∷◌, Some, map, length, get_or, take, refl, sym, ap, subst, append_assoc, arith}
use Rattle.std.specs.Prelude.{filter}
use Rattle.std.specs.List.{All, slice_get}
use Rattle.std.proofs.lemmas.Grind.{flat_map-append}
use Rattle.std.proofs.lemmas.List.{append-nil, map-append, take_all, take_more}
use Rattle.std.proofs.lemmas.List.Elements.{All-append}
use Rattle.std.proofs.lemmas.Option.{get_or_from_slice_get, slice_get-get_or, slice_get_within}
use Rattle.gtfs_rows.specs.declared.parts.Parts.{Parts}
use Rattle.gtfs_advice.specs.declared.advice.Advice.{Advice}
use Rattle.gtfs_advice.specs.declared.advice.Subject.{Subject}
use Rattle.gtfs_advice.specs.declared.code.Code.{Code}
use Rattle.gtfs_advice.specs.Advice.{About, IsWithin, AdviceRule, Tells, about_of, advice_of, advice_on, answers_of, codes_of, row, said, told_about}

-- the item of a loop over a list that was lent
pub item_at : {X : Type 0} (xs items : List X) (n : ℕ) (x : X) → items ≡ xs → n < length items → x ≡ get_or items n x → slice_get xs n ≡ Some x
item_at xs items n x lent within is = ap (λ ys. slice_get ys n) (sym lent) ∙ slice_get-get_or items n x within ∙ ap Some (sym is)

module _ (p : Parts) where
  -- ---- one subject

  said-one : {X : Type 0} (s : Subject) (r : AdviceRule X) (holds : Bool) (answers : List (Code × Bool)) (rules : List (AdviceRule X)) → map (advice_of p) (said s answers) ≡ told_about (about_of p s) (map (λ q. q.0) rules)
      → map (advice_of p) (said s ((r.0, holds) ∷ answers)) ≡ told_about (about_of p s) (map (λ q. q.0) (cond holds (r ∷ rules) rules))
  said-one s r true answers rules e = ap (λ cs. (r.0, about_of p s) ∷ cs) e
  said-one s r false answers rules e = e

  -- the advice that was added about a subject is that of its rules
  said-is : {X : Type 0} (s : Subject) (rules : List (AdviceRule X)) (x : X) → map (advice_of p) (said s (answers_of rules x)) ≡ told_about (about_of p s) (codes_of rules x)
  said-is s [] x = refl
  said-is s (r ∷ rules) x = said-one s r (r.1 x) (answers_of rules x) (filter (λ q. q.1 x) rules) (said-is s rules x)

  all-within : (s : Subject) → IsWithin p s → (answers : List (Code × Bool)) → All (λ a. IsWithin p a.subject) (map (λ r. let a : Advice = record { code = r.0; subject = s } in a) answers)
  all-within s within [] k d h = absurd (omega arith)
  all-within s within (r ∷ answers) zero d h = within
  all-within s within (r ∷ answers) (suc k) d h = all-within s within answers k d (omega arith)

  -- ---- one list after the other

  pub told-none : (before after : List Advice) → after ≡ before → Tells p [] before after
  told-none before after same = record { added = []; behind = same ∙ sym (append-nil before); told = refl; within = λ k d h. absurd (omega arith) }

  pub told-both : (first second : List (Code × About)) (old before after : List Advice) → Tells p first old before → Tells p second before after → Tells p (first ++ second) old after
  told-both first second old before after a b = record {
    added = a.added ++ b.added;
    behind = b.behind ∙ ap (λ xs. xs ++ b.added) a.behind ∙ append_assoc old a.added b.added;
    told = map-append (advice_of p) a.added b.added ∙ (λ i. a.told i ++ b.told i);
    within = All-append (λ x. IsWithin p x.subject) a.added b.added a.within b.within;
  }

  -- ---- a loop over rows

  module _ {X : Type 0} (id : X → List ℕ) (rules : List (AdviceRule X)) (xs : List X) where
    pub told-begin : (old : List Advice) → Tells p (advice_on id rules (take 0 xs)) old old
    told-begin old = told-none old old refl

    -- the row of a number, and the advice on it
    pub told-more : (n : ℕ) (x : X) (s : Subject) (answers : List (Code × Bool)) (old before after : List Advice) → slice_get xs n ≡ Some x → about_of p s ≡ row (id x) → IsWithin p s
        → answers ≡ answers_of rules x → after ≡ before ++ said s answers → Tells p (advice_on id rules (take n xs)) old before → Tells p (advice_on id rules (take (n + 1) xs)) old after
    told-more n x s answers old before after there about within are behind so_far =
        let more : take (n + 1) xs ≡ take n xs ++ x ∷ [] = take_more xs n x (slice_get_within xs n x there) ∙ ap (λ y. take n xs ++ y ∷ []) (get_or_from_slice_get xs n x x there) in
        let here : Tells p (told_about (row (id x)) (codes_of rules x)) before after = record {
          added = said s (answers_of rules x);
          behind = behind ∙ ap (λ rs. before ++ said s rs) are;
          told = said-is s rules x ∙ ap (λ o. told_about o (codes_of rules x)) about;
          within = all-within s within (filter (λ r. r.1) (answers_of rules x));
        } in
        let list : advice_on id rules (take (n + 1) xs) ≡ advice_on id rules (take n xs) ++ told_about (row (id x)) (codes_of rules x) =
        ap (advice_on id rules) more ∙ flat_map-append (λ y. told_about (row (id y)) (codes_of rules y)) (take n xs) (x ∷ [])
        ∙ ap (λ ys. advice_on id rules (take n xs) ++ ys) (append-nil (told_about (row (id x)) (codes_of rules x))) in
        subst (λ (cs : List (Code × About)). Tells p cs old after) (sym list) (told-both (advice_on id rules (take n xs)) (told_about (row (id x)) (codes_of rules x)) old before after so_far here)

    pub told-all : (n : ℕ) (old new : List Advice) → length xs ≤ n → Tells p (advice_on id rules (take n xs)) old new → Tells p (advice_on id rules xs) old new
    told-all n old new all so_far = subst (λ ys. Tells p (advice_on id rules ys) old new) (take_all n xs all) so_far
