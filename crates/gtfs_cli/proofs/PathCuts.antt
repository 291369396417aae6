-- A path names one file.
use Rattle.std.proofs.Common.{◌≡◌, ◌∙◌, sym, subst, refl, ℕ, suc, ◌<◌, ◌⊎◌, inl, inr, List, [], ◌∷◌, ◌++◌, length, ap, arith}
use Rattle.std.specs.Prelude.{codes}
use Rattle.std.specs.Path.{slash}
use Rattle.gtfs_cli.specs.FilesInFolders.{LacksSlash, OfFile}

later_lacks : (b : ℕ) (text : List ℕ) → LacksSlash (b ∷ text) → LacksSlash text
later_lacks b text lacks i inside = lacks (suc i) (omega (arith, inside))

no_slash : (front rest : List ℕ) → LacksSlash (front ++ slash ∷ rest) → ⊥
no_slash [] rest lacks = lacks 0 (omega arith) refl
no_slash (b ∷ front) rest lacks = no_slash front rest (later_lacks b (front ++ slash ∷ rest) lacks)

-- what stands before the last slash is one text, and what stands after it
one_cut : (front name other last : List ℕ) → LacksSlash name → LacksSlash last → front ++ slash ∷ name ≡ other ++ slash ∷ last → (front ≡ other) × (name ≡ last)
one_cut [] name [] last lacks ends same = (refl, cc)
one_cut [] name (b ∷ other) last lacks ends same =
    let is : name ≡ other ++ slash ∷ last = cc in
    absurd (no_slash other last (subst LacksSlash is lacks))
one_cut (b ∷ front) name [] last lacks ends same =
    let is : last ≡ front ++ slash ∷ name = cc in
    absurd (no_slash front name (subst LacksSlash is ends))
one_cut (b ∷ front) name (d ∷ other) last lacks ends same =
    let rest : front ++ slash ∷ name ≡ other ++ slash ∷ last = cc in
    let first : b ≡ d = cc in
    let both = one_cut front name other last lacks ends rest in
    (cc (first, both.0), both.1)

-- how a file is cut from its path
abbrev Cut : List ℕ → List ℕ → List ℕ → Type 0
Cut path folder name = ((path ≡ name) × (folder ≡ codes ".")) ⊎ (((path ≡ slash ∷ name) × (folder ≡ codes "/")) ⊎ ((path ≡ folder ++ slash ∷ name) × (0 < length folder)))

one_by : (path folder name other last : List ℕ) → LacksSlash name → LacksSlash last → Cut path folder name → Cut path other last → (folder ≡ other) × (name ≡ last)
one_by path folder name other last lacks ends (inl a) (inl b) = (a.1 ∙ sym b.1, sym a.0 ∙ b.0)
one_by path folder name other last lacks ends (inl a) (inr (inl b)) = absurd (no_slash [] last (subst LacksSlash (sym a.0 ∙ b.0) lacks))
one_by path folder name other last lacks ends (inl a) (inr (inr b)) = absurd (no_slash other last (subst LacksSlash (sym a.0 ∙ b.0) lacks))
one_by path folder name other last lacks ends (inr (inl a)) (inl b) = absurd (no_slash [] name (subst LacksSlash (sym b.0 ∙ a.0) ends))
one_by path folder name other last lacks ends (inr (inl a)) (inr (inl b)) =
    let both = one_cut [] name [] last lacks ends (sym a.0 ∙ b.0) in
    (a.1 ∙ sym b.1, both.1)
one_by path folder name other last lacks ends (inr (inl a)) (inr (inr b)) =
    let both = one_cut [] name other last lacks ends (sym a.0 ∙ b.0) in
    absurd (omega (arith, b.1, ap (λ (t : List ℕ). length t) both.0))
one_by path folder name other last lacks ends (inr (inr a)) (inl b) = absurd (no_slash folder name (subst LacksSlash (sym b.0 ∙ a.0) ends))
one_by path folder name other last lacks ends (inr (inr a)) (inr (inl b)) =
    let both = one_cut folder name [] last lacks ends (sym a.0 ∙ b.0) in
    absurd (omega (arith, a.1, ap (λ (t : List ℕ). length t) both.0))
one_by path folder name other last lacks ends (inr (inr a)) (inr (inr b)) = one_cut folder name other last lacks ends (sym a.0 ∙ b.0)

-- what is so of the file of a path is so of one file
pub together : (path : List ℕ) (F G : List ℕ → List ℕ → Type 0) → OfFile path F → OfFile path G → OfFile path (λ folder name. F folder name × G folder name)
together path F G a b =
    let same = one_by path a.folder a.name b.folder b.name a.file.last b.file.last a.file.cut b.file.cut in
    record {
      folder = b.folder;
      name = b.name;
      file = b.file;
      fact = (subst (λ (n : List ℕ). F b.folder n) same.1 (subst (λ (f : List ℕ). F f a.name) same.0 a.fact), b.fact);
    }
