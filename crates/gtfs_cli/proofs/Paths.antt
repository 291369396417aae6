-- A path that is cut at its last slash.
use Rattle.std.proofs.Common.{◌≡◌, ℕ, ◌<◌, ◌++◌, List, [], ◌∷◌, length, take, drop, Some, None, refl, sym, ap, ap₂, subst, ◌∙◌, inl, inr, arith, take-append-drop}
use Rattle.std.specs.Prelude.{codes}
use Rattle.std.specs.Str.Pattern.{RFindsChar}
use Rattle.std.proofs.lemmas.Str.Pattern.{NoCharPasses-char, drop_at_char}
use Rattle.gtfs_cli.specs.FilesInFolders.{IsFileOf, LacksSlash}

pub cut-nowhere : (path : List ℕ) → RFindsChar 47 path None → IsFileOf path (codes ".") path
cut-nowhere path none = record { last = λ i l. NoCharPasses-char 47 path i none (omega arith) l; cut = inl (refl, refl) }

lacks : (path name : List ℕ) (i j : ℕ) → RFindsChar 47 path (Some (i, j)) → name ≡ drop j path → LacksSlash name
lacks path name i j found name_is = subst LacksSlash (sym name_is) (λ k l. NoCharPasses-char 47 (drop j path) k found.0 (omega arith) l)

around : (path front name : List ℕ) (i j : ℕ) → RFindsChar 47 path (Some (i, j)) → front ≡ take i path → name ≡ drop j path → path ≡ front ++ 47 ∷ name
around path front name i j found front_is name_is =
    sym (take-append-drop i path) ∙ ap₂ (λ (a b : List ℕ). a ++ b) (sym front_is) (drop_at_char 47 path i j found.1 (omega arith) ∙ ap (λ (b : List ℕ). 47 ∷ b) (sym name_is))

pub cut-inside : (path front name : List ℕ) (i j : ℕ) → RFindsChar 47 path (Some (i, j)) → front ≡ take i path → name ≡ drop j path → 0 < length front → IsFileOf path front name
cut-inside path front name i j found front_is name_is some = record {
  last = lacks path name i j found name_is;
  cut = inr (inr (around path front name i j found front_is name_is, some));
}

pub cut-at_root : (path front name : List ℕ) (i j : ℕ) → RFindsChar 47 path (Some (i, j)) → front ≡ take i path → name ≡ drop j path → length front ≡ 0 → IsFileOf path (codes "/") name
cut-at_root path [] name i j found front_is name_is none = record {
  last = lacks path name i j found name_is;
  cut = inr (inl (around path [] name i j found front_is name_is, refl));
}
cut-at_root path (b ∷ front) name i j found front_is name_is none = absurd (omega (arith, none))
