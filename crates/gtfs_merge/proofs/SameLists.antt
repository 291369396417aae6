-- Lists that are compared one by one.
use Rattle.std.proofs.Common.{◌≡◌, ◌<◌, ◌+◌, ℕ, Bool, true, false, List, sym, ap, ◌∙◌, length, map, get_or, drop, add-one}
use Rattle.std.specs.Prelude.{◌&&◌}
use Rattle.std.specs.Cmp.Lexicographic.{pointwise}
use Rattle.std.proofs.Math.Seq.{drop-cons}

module _ {X Y Z : Type 0} (E : Z → Z → Bool) (f : X → Z) (g : Y → Z) (xs : List X) (ys : List Y) where
  -- whether the rest of both lists is the same, from an index on
  abbrev pub same_from : ℕ → Bool
  same_from k = pointwise E (map f (drop k xs)) (map g (drop k ys))

  pub same-step : (k : ℕ) (d : X) (e : Y) → k < length xs → k < length ys → same_from k ≡ (E (f (get_or xs k d)) (g (get_or ys k e)) && same_from (k + 1))
  same-step k d e within_x within_y =
      (λ i. pointwise E (map f (drop-cons xs k d within_x i)) (map g (drop-cons ys k e within_y i)))
      ∙ ap (λ n. E (f (get_or xs k d)) (g (get_or ys k e)) && same_from n) (sym (add-one k))

  pub same-more : (k : ℕ) (d : X) (e : Y) → k < length xs → k < length ys → E (f (get_or xs k d)) (g (get_or ys k e)) ≡ true → same_from k ≡ same_from (k + 1)
  same-more k d e within_x within_y same = same-step k d e within_x within_y ∙ ap (λ t. t && same_from (k + 1)) same

  pub same-not : (k : ℕ) (d : X) (e : Y) → k < length xs → k < length ys → E (f (get_or xs k d)) (g (get_or ys k e)) ≡ false → same_from k ≡ false
  same-not k d e within_x within_y same = same-step k d e within_x within_y ∙ ap (λ t. t && same_from (k + 1)) same
