-- How it ends to send lines out, one after another.
use Rattle.std.proofs.Common.{◌≡◌, ◌∙◌, ap, sym, subst, refl, ℕ, ◌+◌, ◌<◌, ◌≤◌, List, [], ◌∷◌, ◌++◌, append-nil, append_assoc, length, take, drop, take-append-drop, get_or, add-one, Result, Ok, Err}
use Rattle.std.specs.Prelude.{IfErr, IsErrAnd}
use Rattle.std.proofs.KnownBytes.{Appends-nil, Appends-trans}
use Rattle.std.proofs.Math.Seq.{take-suc}
use Rattle.std.proofs.lemmas.Grind.{flat_map-append}
use Rattle.gtfs_cli.specs.DevicesSeen.{Output}
use Rattle.gtfs_cli.specs.SentText.{joined, AreSent, IsSent}
use Rattle.gtfs_cli.specs.declared.commands.refusal.Refusal.{Refusal}
use Rattle.gtfs_cli.specs.declared.commands.refusal.Refusal.TheVariants.{OutputFailed, OutOfMemory}
use Rattle.gtfs_cli.proofs.Sent.{item-failed, item-sent, items-sent, sent-both, sent-first, sent-passed, sent-same, sent-unmade, sent-whole, SentWhole}
use Rattle.gtfs_cli.proofs.Tabled.{err-is, output-alone}

abbrev id : List ℕ → List ℕ
id line = line

joined-append : (xs ys : List (List ℕ)) → joined (xs ++ ys) ≡ joined xs ++ joined ys
joined-append xs ys = flat_map-append id xs ys

memory-told : {T : Type 0} (e : Refusal) → e ≡ OutOfMemory → ◌≡◌ {A = Result T Refusal} (Err e) (Err OutOfMemory)
memory-told {T} e is = ap {B = Result T Refusal} (λ (x : Refusal). Err x) is

module _ {T : Type 0} where
  -- memory ran out before anything was sent, and a `?` passes that on
  pub lines-unmade : (lines : List (List ℕ)) (a : Output) (r : Result T Refusal) → IsErrAnd r (λ e. e ≡ OutOfMemory) → AreSent lines a a r
  lines-unmade lines a r is = record { sent = sent-unmade (joined lines) a r is; stopped = λ memory. ([], ([], lines, refl, refl), Appends-nil a.told) }

  -- one line was sent, unless the output failed
  pub line-sent : (line : List ℕ) (a b : Output) (r : Result T Refusal) → IsSent line a b r → IfErr r (λ e. e ≡ OutputFailed) → AreSent (line ∷ []) a b r
  line-sent line a b r sent only = record {
    sent = sent-same line (line ++ []) a b r (sym (append-nil line)) sent;
    stopped = λ memory. absurd (output-alone r only memory);
  }

  -- some lines were sent, and then others ended so
  pub lines-both : {S : Type 0} (xs ys : List (List ℕ)) (a b c : Output) (done : S) (r : Result T Refusal) → AreSent xs a b (Ok done) → AreSent ys b c r → AreSent (xs ++ ys) a c r
  lines-both xs ys a b c done r first then = record {
    sent = sent-same (joined xs ++ joined ys) (joined (xs ++ ys)) a c r (sym (joined-append xs ys)) (sent-both (joined xs) (joined ys) a b c done r first.sent then.sent);
    stopped = λ memory.
        let s = then.stopped memory in (
          joined xs ++ s.0,
          (xs ++ s.1.0, s.1.1, ap (λ zs. xs ++ zs) s.1.2 ∙ sym (append_assoc xs s.1.0 s.1.1), ap (λ t. joined xs ++ t) s.1.3 ∙ sym (joined-append xs s.1.0)),
          Appends-trans a.told b.told c.told (joined xs) s.0 first.sent.sent s.2,
        );
  }

  -- some lines were not all sent, and a `?` passes the error on
  pub lines-first : {S : Type 0} (xs ys : List (List ℕ)) (a b : Output) (e : Refusal) (r : Result T Refusal) → IsErrAnd r (λ f. f ≡ e) → AreSent xs {T = S} a b (Err e) → AreSent (xs ++ ys) a b r
  lines-first xs ys a b e r is first = record {
    sent = sent-same (joined xs ++ joined ys) (joined (xs ++ ys)) a b r (sym (joined-append xs ys)) (sent-first (joined xs) (joined ys) a b e r is first.sent);
    stopped = λ memory.
        let s = first.stopped (memory-told e (err-is r e is memory)) in
        (s.0, (s.1.0, s.1.1 ++ ys, ap (λ zs. zs ++ ys) s.1.2 ∙ append_assoc s.1.0 s.1.1 ys, s.1.3), s.2);
  }

  -- there are no others
  pub lines-passed : {S : Type 0} (xs : List (List ℕ)) (a b : Output) (e : Refusal) (r : Result T Refusal) → IsErrAnd r (λ f. f ≡ e) → AreSent xs {T = S} a b (Err e) → AreSent xs a b r
  lines-passed xs a b e r is h = record {
    sent = sent-passed (joined xs) a b e r is h.sent;
    stopped = λ memory. h.stopped (memory-told e (err-is r e is memory));
  }

  -- the lines are others
  pub lines-same : (xs ys : List (List ℕ)) (a b : Output) (r : Result T Refusal) → xs ≡ ys → AreSent xs a b r → AreSent ys a b r
  lines-same xs ys a b r same h = subst (λ (ls : List (List ℕ)). AreSent ls a b r) same h

  -- what sent lines answers something else
  pub lines-whole : {S : Type 0} (xs : List (List ℕ)) (a b : Output) (did : S) (done : T) → AreSent xs a b (Ok did) → AreSent xs a b (Ok done)
  lines-whole xs a b did done h = record { sent = sent-whole (joined xs) a b did done h.sent; stopped = λ memory. cc memory }

-- ---- the lines of a list

module _ (lines : List (List ℕ)) (i : ℕ) where
  -- all were sent
  pub lines-sent : {T : Type 0} (a b : Output) (done : T) → length lines ≤ i → SentWhole (joined (take i lines)) a b → AreSent lines a b (Ok done)
  lines-sent a b done end sent = record { sent = items-sent id lines i a b done end sent; stopped = λ memory. cc memory }

  module _ (d line : List ℕ) (is : line ≡ get_or lines i d) (inside : i < length lines) where
    alone : line ++ [] ≡ line
    alone = append-nil line

    -- one more was sent
    pub line-more : {T : Type 0} (a b c : Output) (done : T) → SentWhole (joined (take i lines)) a b → AreSent (line ∷ []) b c (Ok done) → SentWhole (joined (take (i + 1) lines)) a c
    line-more a b c done before one = item-sent id lines i d line is inside a b c done before (sent-same (line ++ []) line b c (Ok done) alone one.sent)

    -- it was not sent whole, and a `?` passes its error on
    pub line-failed : {S T : Type 0} (a b c : Output) (e : Refusal) (r : Result T Refusal) → IsErrAnd r (λ y. y ≡ e) → SentWhole (joined (take i lines)) a b
        → AreSent (line ∷ []) {T = S} b c (Err e) → AreSent lines a c r
    line-failed a b c e r passes before one = record {
      sent = item-failed id lines i d line is inside a b c e r passes before (sent-same (line ++ []) line b c (Err e) alone one.sent);
      stopped = λ memory.
          let s = one.stopped (memory-told e (err-is r e passes memory)) in (
            joined (take i lines) ++ s.0,
            (
              take i lines ++ s.1.0,
              s.1.1 ++ drop (i + 1) lines,
              sym (take-append-drop (i + 1) lines) ∙ ap (λ zs. zs ++ drop (i + 1) lines) parted
                  ∙ append_assoc (take i lines) (line ∷ []) (drop (i + 1) lines) ∙ ap (λ zs. take i lines ++ zs) (ap (λ zs. zs ++ drop (i + 1) lines) s.1.2 ∙ append_assoc s.1.0 s.1.1 (drop (i + 1) lines))
                  ∙ sym (append_assoc (take i lines) s.1.0 (s.1.1 ++ drop (i + 1) lines)),
              ap (λ t. joined (take i lines) ++ t) s.1.3 ∙ sym (joined-append (take i lines) s.1.0),
            ),
            Appends-trans a.told b.told c.told (joined (take i lines)) s.0 before.sent s.2,
          );
    }
      where
        parted : take (i + 1) lines ≡ take i lines ++ line ∷ []
        parted = ap (λ n. take n lines) (add-one i) ∙ take-suc lines i d inside ∙ ap (λ l. take i lines ++ l ∷ []) (sym is)
