-- How it ends to send texts out, one after another.
use Rattle.std.proofs.Common.{◌≡◌, ◌∙◌, ap, sym, subst, refl, ℕ, ◌+◌, ◌<◌, ◌≤◌, add-one, List, [], ◌∷◌, ◌++◌, append-nil, append_assoc, length, take, drop, take-append-drop, get_or, Option, Result, Ok, Err, arith}
use Rattle.std.specs.Prelude.{flat_map, IsErrAnd, ⊤}
use Rattle.std.proofs.KnownBytes.{Appends-nil, Appends-trans}
use Rattle.std.proofs.Math.Seq.{take-suc}
use Rattle.std.proofs.lemmas.List.{take_all}
use Rattle.std.proofs.lemmas.List.Concat.{flat_map-append}
use Rattle.gtfs_cli.specs.SentText.{IsSendingCause, IsSent, Output}
use Rattle.gtfs_cli.specs.declared.commands.refusal.Refusal.{Refusal}
use Rattle.gtfs_cli.specs.declared.commands.refusal.Refusal.TheVariants.{OutOfMemory}

-- what is seen of an output
abbrev pub output : Option (List ℕ) → ℕ → Output
output told failures = record { told = told; failures = failures }

-- a text was sent whole
abbrev pub SentWhole : List ℕ → Output → Output → Type 0
SentWhole text before after = IsSent text {T = ⊤} before after (Ok tt)

module _ {T : Type 0} where
  -- ---- one text

  -- memory ran out before anything was sent, and a `?` passes that on
  pub sent-unmade : (text : List ℕ) (a : Output) (r : Result T Refusal) → IsErrAnd r (λ e. e ≡ OutOfMemory) → IsSent text a a r
  sent-unmade text a (Ok done) is = absurd is
  sent-unmade text a (Err e) is = record {
    sent = tt;
    cut_short = record { sent = []; left = text; whole = refl; out = Appends-nil a.told };
    refused = subst (IsSendingCause a.failures a.failures) (sym is) refl;
    grows = omega arith;
    no_failure = tt;
  }

  -- the text is another
  pub sent-same : (x y : List ℕ) (a b : Output) (r : Result T Refusal) → x ≡ y → IsSent x a b r → IsSent y a b r
  sent-same x y a b r same sent = subst (λ (t : List ℕ). IsSent t a b r) same sent

  -- the text was made in a line, in place of what that held
  pub sent-made : (text bytes line cleared : List ℕ) (a b : Output) (r : Result T Refusal) → bytes ≡ line → line ≡ cleared ++ text → cleared ≡ [] → IsSent bytes a b r → IsSent text a b r
  sent-made text bytes line cleared a b r are made empty sent = sent-same bytes text a b r (are ∙ made ∙ ap (λ (t : List ℕ). t ++ text) empty) sent

  -- what sent a text answers something else
  pub sent-whole : {S : Type 0} (x : List ℕ) (a b : Output) (did : S) (done : T) → IsSent x a b (Ok did) → IsSent x a b (Ok done)
  sent-whole x a b did done sent = record { sent = sent.sent; cut_short = tt; refused = tt; grows = sent.grows; no_failure = sent.no_failure }

  -- ---- two texts

  -- the first was sent, and then the second ended so
  pub sent-both : {S : Type 0} (x y : List ℕ) (a b c : Output) (done : S) (r : Result T Refusal) → IsSent x a b (Ok done) → IsSent y b c r → IsSent (x ++ y) a c r
  sent-both x y a b c done (Ok also) first then = record {
    sent = Appends-trans a.told b.told c.told x y first.sent then.sent;
    cut_short = tt;
    refused = tt;
    grows = omega (arith, first.grows, then.grows);
    no_failure = then.no_failure ∙ first.no_failure;
  }
  sent-both x y a b c done (Err e) first then = record {
    sent = tt;
    cut_short = record {
      sent = x ++ then.cut_short.sent;
      left = then.cut_short.left;
      whole = ap (λ (t : List ℕ). x ++ t) then.cut_short.whole ∙ sym (append_assoc x then.cut_short.sent then.cut_short.left);
      out = Appends-trans a.told b.told c.told x then.cut_short.sent first.sent then.cut_short.out;
    };
    refused = subst (λ (n : ℕ). IsSendingCause n c.failures e) first.no_failure then.refused;
    grows = omega (arith, first.grows, then.grows);
    no_failure = tt;
  }

  -- the first was not sent whole, and a `?` passes its error on
  pub sent-first : {S : Type 0} (x y : List ℕ) (a b : Output) (e : Refusal) (r : Result T Refusal) → IsErrAnd r (λ f. f ≡ e) → IsSent x {T = S} a b (Err e) → IsSent (x ++ y) a b r
  sent-first x y a b e (Ok done) is sent = absurd is
  sent-first x y a b e (Err f) is sent = record {
    sent = tt;
    cut_short = record {
      sent = sent.cut_short.sent;
      left = sent.cut_short.left ++ y;
      whole = ap (λ (t : List ℕ). t ++ y) sent.cut_short.whole ∙ append_assoc sent.cut_short.sent sent.cut_short.left y;
      out = sent.cut_short.out;
    };
    refused = subst (IsSendingCause a.failures b.failures) (sym is) sent.refused;
    grows = sent.grows;
    no_failure = tt;
  }

  -- there is no second
  pub sent-passed : {S : Type 0} (x : List ℕ) (a b : Output) (e : Refusal) (r : Result T Refusal) → IsErrAnd r (λ f. f ≡ e) → IsSent x {T = S} a b (Err e) → IsSent x a b r
  sent-passed x a b e r is sent = sent-same (x ++ []) x a b r (append-nil x) (sent-first x [] a b e r is sent)

-- ---- the texts of a list

module _ {X : Type 0} (f : X → List ℕ) (xs : List X) (i : ℕ) where
  -- all were sent
  pub items-sent : {T : Type 0} (a b : Output) (done : T) → length xs ≤ i → SentWhole (flat_map f (take i xs)) a b → IsSent (flat_map f xs) a b (Ok done)
  items-sent a b done end sent =
      sent-same (flat_map f (take i xs)) (flat_map f xs) a b (Ok done) (ap (flat_map f) (take_all i xs end)) (sent-whole (flat_map f (take i xs)) a b tt done sent)

  module _ (x : X) (item : List ℕ) (is : item ≡ f (get_or xs i x)) (inside : i < length xs) where
    one_more : flat_map f (take i xs) ++ item ≡ flat_map f (take (i + 1) xs)
    one_more =
        ap (λ t. flat_map f (take i xs) ++ t) (is ∙ sym (append-nil (f (get_or xs i x))))
        ∙ sym (flat_map-append f (take i xs) (get_or xs i x ∷ []))
        ∙ ap (flat_map f) (sym (ap (λ n. take n xs) (add-one i) ∙ take-suc xs i x inside))

    rest_too : (flat_map f (take i xs) ++ item) ++ flat_map f (drop (i + 1) xs) ≡ flat_map f xs
    rest_too =
        ap (λ t. t ++ flat_map f (drop (i + 1) xs)) one_more
        ∙ sym (flat_map-append f (take (i + 1) xs) (drop (i + 1) xs)) ∙ ap (flat_map f) (take-append-drop (i + 1) xs)

    -- one more was sent
    pub item-sent : {T : Type 0} (a b c : Output) (done : T) → SentWhole (flat_map f (take i xs)) a b → IsSent item b c (Ok done) → SentWhole (flat_map f (take (i + 1) xs)) a c
    item-sent a b c done before one =
        let text = flat_map f (take i xs) in
        sent-same (text ++ item) (flat_map f (take (i + 1) xs)) a c (Ok tt) one_more (sent-both text item a b c tt (Ok tt) before (sent-whole item b c done tt one))

    -- it was not sent whole, and a `?` passes its error on
    pub item-failed : {S T : Type 0} (a b c : Output) (e : Refusal) (r : Result T Refusal) → IsErrAnd r (λ y. y ≡ e) → SentWhole (flat_map f (take i xs)) a b
        → IsSent item {T = S} b c (Err e) → IsSent (flat_map f xs) a c r
    item-failed a b c e r passes before one =
        let text = flat_map f (take i xs) in
        let past = flat_map f (drop (i + 1) xs) in
        sent-same ((text ++ item) ++ past) (flat_map f xs) a c r rest_too (sent-first (text ++ item) past a c e r passes (sent-both text item a b c tt (Err e) before one))
