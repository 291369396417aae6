-- Texts that go out part by part, and calls that send them.
use Rattle.std.proofs.Common.{◌≡◌, ◌∙◌, ap, sym, subst, refl, ℕ, List, [], ◌++◌, append-nil, append_assoc, take, drop, take-append-drop, Option, None, Some, Result, Ok, Err}
use Rattle.std.specs.Prelude.{IfErr, OnErr}
use Rattle.std.specs.Io.KnownBytes.{Appends, Keeps}
use Rattle.std.proofs.KnownBytes.{Appends-nil, Appends-trans}
use Rattle.gtfs_devices.specs.declared.output.OutFault.{OutFault}
use Rattle.gtfs_cli.specs.SentText.{SendsBeginning}

-- ---- beginnings

-- the first bytes of a text are a beginning of it
pub some-sent : (a b : Option (List ℕ)) (text : List ℕ) (n : ℕ) → Appends a b (take n text) → SendsBeginning a b text
some-sent a b text n out = record { sent = take n text; left = drop n text; whole = sym (take-append-drop n text); out = out }

-- where nothing changed, nothing went out
pub appends-nothing : (a b : Option (List ℕ)) → Keeps a b → Appends a b []
appends-nothing None b h = tt
appends-nothing (Some xs) None h = h
appends-nothing (Some xs) (Some ys) h = h ∙ sym (append-nil xs)

-- ---- parts

-- so much of a text went out that these bytes are left
pub record Leaves (before now : Option (List ℕ)) (text left : List ℕ) : Type 0 where
  pub sent : List ℕ
  pub whole : text ≡ sent ++ left
  pub out : Appends before now sent

pub all-left : (a : Option (List ℕ)) (text : List ℕ) → Leaves a a text text
all-left a text = record { sent = []; whole = refl; out = Appends-nil a }

pub one-sent : (a b c : Option (List ℕ)) (text left part rest : List ℕ) → Leaves a b text left → left ≡ part ++ rest → Appends b c part → Leaves a c text rest
one-sent a b c text left part rest h is out = record {
  sent = h.sent ++ part;
  whole = h.whole ∙ ap (λ (t : List ℕ). h.sent ++ t) is ∙ sym (append_assoc h.sent part rest);
  out = Appends-trans a b c h.sent part h.out out;
}

pub one-cut : (a b c : Option (List ℕ)) (text left part rest : List ℕ) → Leaves a b text left → left ≡ part ++ rest → SendsBeginning b c part → SendsBeginning a c text
one-cut a b c text left part rest h is begun = record {
  sent = h.sent ++ begun.sent;
  left = begun.left ++ rest;
  whole = h.whole ∙ ap (λ (t : List ℕ). h.sent ++ t) (is ∙ ap (λ (t : List ℕ). t ++ rest) begun.whole ∙ append_assoc begun.sent begun.left rest)
      ∙ sym (append_assoc h.sent begun.sent (begun.left ++ rest));
  out = Appends-trans a b c h.sent begun.sent h.out begun.out;
}

pub last-sent : (a b c : Option (List ℕ)) (text left : List ℕ) → Leaves a b text left → Appends b c left → Appends a c text
last-sent a b c text left h out = subst (λ (t : List ℕ). Appends a c t) (sym h.whole) (Appends-trans a b c h.sent left h.out out)

pub last-cut : (a b c : Option (List ℕ)) (text left : List ℕ) → Leaves a b text left → SendsBeginning b c left → SendsBeginning a c text
last-cut a b c text left h begun = one-cut a b c text left left [] h (sym (append-nil left)) begun

-- ---- calls that may fail

-- of a text that did not go out whole the first bytes did
pub first-sent : {A : Type 0} (r : Result A OutFault) (a b : Option (List ℕ)) (text : List ℕ) → IfErr r (λ fault. Appends a b (take fault.written text))
    → OnErr r (SendsBeginning a b text)
first-sent (Ok x) a b text h = tt
first-sent (Err fault) a b text h = some-sent a b text fault.written h

pub err-then : {A B : Type 0} (r : Result A B) (P Q : Type 0) → (P → Q) → OnErr r P → OnErr r Q
err-then (Ok x) P Q f h = tt
err-then (Err e) P Q f h = f h
