-- The boards of requests, one after another.
use Rattle.std.proofs.Common.{◌≡◌, ◌∙◌, ◌⊎◌, ℕ, ◌+◌, ◌<◌, ◌≤◌, List, [], ◌∷◌, ◌++◌, length, map, drop, take, Option, Some, None, Result, Ok, Err, inl, inr, refl, sym, ap, subst, append-nil, append_assoc, get_or, arith}
use Rattle.std.specs.Borrow.{Bor}
use Rattle.std.specs.Prelude.{IsOkAnd}
use Rattle.std.specs.Io.KnownBytes.{Appends}
use Rattle.std.proofs.KnownBytes.{Appends-nil, Appends-trans}
use Rattle.std.proofs.lemmas.List.{drop_all, drop_more}
use Rattle.gtfs_days.specs.declared.zone.Zone.{Zone}
use Rattle.gtfs_days.specs.Zone.{zone_origin}
use Rattle.gtfs_rows.specs.Content.{Content}
use Rattle.gtfs_board.specs.BoardLines.{Listed}
use Rattle.gtfs_board.specs.BoardPage.{IsCutShort, IsPage, IsStopped}
use Rattle.gtfs_times.specs.declared.times.Times.{Times}
use Rattle.gtfs_cli.specs.BoardCommand.{ListsBoard}
use Rattle.gtfs_cli.specs.BoardsCommand.{AreAllBoards, AreBoards, BeginsBoard, BeginsWhole, IsOneText, IsRequestText, StopsIn, StopsInAll}
use Rattle.gtfs_cli.specs.BoardsRequests.{fault_in, request_heading, stop_request, StopRequest}
use Rattle.gtfs_cli.specs.Refusals.{TellsOutput}
use Rattle.gtfs_cli.specs.DevicesSeen.{Output}
use Rattle.gtfs_cli.specs.SentText.{or_none, text_left, IsSendingCause, PrintsText}
use Rattle.gtfs_cli.specs.declared.commands.refusal.Refusal.{Refusal}
use Rattle.gtfs_cli.specs.declared.commands.refusal.Refusal.TheVariants.{OutputFailed, OutOfMemory}
use Rattle.gtfs_cli.proofs.Parts.{some-sent}
use Rattle.gtfs_cli.proofs.RequestLines.{accepted, asked_from, judged_none, judged_some}

-- ---- one request

module _ (f : Content) (z : Zone) (q : StopRequest) where
  abbrev heading : List ℕ
  heading = request_heading q.texts

  -- of the heading a beginning went out
  pub heading-cut : (a b : Option (List ℕ)) (n : ℕ) (text : List ℕ) → text ≡ heading → Appends a b (take n text) → (part : List ℕ) × BeginsBoard f z q part × Appends a b part
  heading-cut a b n text same out =
      let begun = some-sent a b heading n (subst (λ (t : List ℕ). Appends a b (take n t)) same out) in
      (begun.sent, inl (begun.left, begun.whole), begun.out)

  module _ (a b c : Output) (text : List ℕ) (same : text ≡ heading) (out : Appends a.told b.told text) (nowhere : b.failures ≡ a.failures) where
    below : (part : List ℕ) → Appends b.told c.told part → Appends a.told c.told (heading ++ part)
    below part next = Appends-trans a.told b.told c.told heading part (subst (λ (t : List ℕ). Appends a.told b.told t) same out) next

    below-left : (part : List ℕ) (e : Refusal) → ((λ (r : Refusal). ⊥) e ⊎ IsSendingCause b.failures c.failures e) → Appends b.told c.told part
        → text_left (IsRequestText IsCutShort f z q) (IsRequestText IsStopped f z q) part e
        → (t : List ℕ) × text_left (BeginsBoard f z q) (BeginsWhole f z q) t e × Appends a.told c.told t
    below-left part OutputFailed cause next h = (heading ++ part, inr (part, refl, h), below part next)
    below-left part OutOfMemory cause next h = (heading ++ part, inr (part, refl, h), below part next)
    below-left part _ (inl cause) next h = absurd cause
    below-left part _ (inr cause) next h = absurd cause

    -- below a heading that went out the page went out, or what is left of it
    pub below-heading : {A : Type 0} (r : Result A Refusal)
        → PrintsText (IsRequestText IsPage f z q) (IsRequestText IsCutShort f z q) (IsRequestText IsStopped f z q) (λ _. ⊥) b c r
        → PrintsText (IsOneText f z q) (BeginsBoard f z q) (BeginsWhole f z q) (λ _. ⊥) a c r
    below-heading (Ok x) p = record {
      printed = let page = p.printed in (heading ++ page.0, (page.0, page.1, refl), below page.0 page.2);
      left = tt;
      refused = tt;
      told = tt;
      grows = omega (arith, p.grows, nowhere);
      no_failure = p.no_failure ∙ nowhere;
    }
    below-heading (Err e) p = record {
      printed = tt;
      left = let page = p.left in below-left page.0 e p.refused page.2 page.1;
      refused = elim p.refused [ inl none ↦ absurd none | inr cause ↦ inr (subst (λ (n : ℕ). IsSendingCause n c.failures e) nowhere cause) ];
      told = subst (λ (n : ℕ). TellsOutput n c.failures e) nowhere p.told;
      grows = omega (arith, p.grows, nowhere);
      no_failure = tt;
    }

-- the same, of a board in a zone that is this one
pub one-in : {A : Type 0} (f : Content) (q : StopRequest) (y z : Zone) → y ≡ z → (ds : List Listed) (a b : Output) (r : Result A Refusal)
    → (ListsBoard f y q.texts.stop q.values ds → PrintsText (IsOneText f y q) (BeginsBoard f y q) (BeginsWhole f y q) (λ _. ⊥) a b r)
    → ListsBoard f z q.texts.stop q.values ds → PrintsText (IsOneText f z q) (BeginsBoard f z q) (BeginsWhole f z q) (λ _. ⊥) a b r
one-in f q y z same ds a b r prints lists =
    subst (λ (w : Zone). PrintsText (IsOneText f w q) (BeginsBoard f w q) (BeginsWhole f w q) (λ _. ⊥) a b r) same
    (prints (subst (λ (w : Zone). ListsBoard f w q.texts.stop q.values ds) (sym same) lists))

-- ---- one after another

module _ (f : Content) (z : Zone) where
  -- one more
  one_more : (qs : List StopRequest) (q : StopRequest) (text page : List ℕ) → AreBoards f z qs text → IsRequestText IsPage f z q page
      → AreBoards f z (qs ++ q ∷ []) (text ++ (request_heading q.texts ++ page))
  one_more [] q text page are is =
      let past = request_heading q.texts ++ page in
      (page, [], is, refl, ap (λ (t : List ℕ). t ++ past) are ∙ sym (append-nil past))
  one_more (p ∷ qs) q text page (first, more, is_first, are_more, whole) is =
      let past = request_heading q.texts ++ page in
      (first, more ++ past, is_first, one_more qs q more page are_more is, ap (λ (t : List ℕ). t ++ past) whole ∙ append_assoc (request_heading p.texts ++ first) more past)

  module _ (times : Times) (texts : List (List ℕ)) (old : Option (List ℕ)) where
    -- the boards of the lines before some went out, and what these ask for is left
    pub record Printed (n : ℕ) (left : List (List ℕ)) (now : Option (List ℕ)) : Type 0 where
      pub done : List StopRequest
      pub others : List StopRequest
      pub text : List ℕ
      pub whole : asked_from f (zone_origin z) times 1 texts ≡ Ok (done ++ others)
      pub rest : asked_from f (zone_origin z) times n left ≡ Ok others
      pub are_boards : AreBoards f z done text
      pub out : Appends old now text

    pub none_printed : fault_in (asked_from f (zone_origin z) times 1 texts) ≡ None → Printed 1 texts old
    none_printed none =
        let all = accepted (asked_from f (zone_origin z) times 1 texts) none in
        record { done = []; others = all.0; text = []; whole = all.1; rest = all.1; are_boards = refl; out = Appends-nil old }

    pub past_nothing : (n : ℕ) (l : List ℕ) (ls : List (List ℕ)) (now : Option (List ℕ)) → Printed n (l ∷ ls) now → None ≡ stop_request times l → Printed (n + 1) ls now
    past_nothing n l ls now p none = record {
      done = p.done;
      others = p.others;
      text = p.text;
      whole = p.whole;
      rest = judged_none f (zone_origin z) times n l ls p.others none p.rest;
      are_boards = p.are_boards;
      out = p.out;
    }

    pub past_board : (n : ℕ) (l : List ℕ) (ls : List (List ℕ)) (mid now : Option (List ℕ)) (q : StopRequest) → Printed n (l ∷ ls) mid → Some q ≡ stop_request times l
        → (text : List ℕ) → IsOneText f z q text → Appends mid now text → Printed (n + 1) ls now
    past_board n l ls mid now q p asks text is out =
        let j = judged_some f (zone_origin z) times n l ls q p.others asks p.rest in
        record {
          done = p.done ++ q ∷ [];
          others = j.others;
          text = p.text ++ (request_heading q.texts ++ is.0);
          whole = p.whole ∙ ap (λ (qs : List StopRequest). Ok (p.done ++ qs)) j.are ∙ ap (λ (qs : List StopRequest). Ok qs) (sym (append_assoc p.done (q ∷ []) j.others));
          rest = j.are_others;
          are_boards = one_more p.done q p.text is.0 p.are_boards is.1;
          out = Appends-trans old mid now p.text (request_heading q.texts ++ is.0) p.out (subst (λ (t : List ℕ). Appends mid now t) is.2 out);
        }

    pub all_printed : (n : ℕ) (now : Option (List ℕ)) → Printed n [] now
        → (text : List ℕ) × AreAllBoards f z (asked_from f (zone_origin z) times 1 texts) text × Appends old now text
    all_printed n now p =
        let none : [] ≡ p.others = cc (p.rest) in
        let whole : Ok p.done ≡ asked_from f (zone_origin z) times 1 texts =
        sym (p.whole ∙ ap (λ (qs : List StopRequest). Ok (p.done ++ qs)) (sym none) ∙ ap (λ (qs : List StopRequest). Ok qs) (append-nil p.done)) in
        (p.text, subst (λ r. AreAllBoards f z r p.text) whole p.are_boards, p.out)

    module _ (n : ℕ) (l : List ℕ) (ls : List (List ℕ)) (mid now : Option (List ℕ)) (q : StopRequest) (p : Printed n (l ∷ ls) mid) (asks : Some q ≡ stop_request times l) where
      stops_in : (Part : Content → Zone → StopRequest → List ℕ → Type 0) (part : List ℕ) → Part f z q part
          → StopsInAll Part f z (asked_from f (zone_origin z) times 1 texts) (p.text ++ part)
      stops_in Part part is =
          let j = judged_some f (zone_origin z) times n l ls q p.others asks p.rest in
          subst (λ r. IsOkAnd r (λ qs. StopsIn Part f z qs (p.text ++ part))) (sym p.whole) (record {
            done = p.done;
            next = q;
            others = j.others;
            text = p.text;
            part = part;
            split = ap (λ (qs : List StopRequest). p.done ++ qs) j.are;
            are_boards = p.are_boards;
            is_part = is;
            whole = refl;
          })

      -- what was left of one is so much of all
      pub one-left : (r : Refusal) (x y : ℕ) → ((λ (e : Refusal). ⊥) r ⊎ IsSendingCause x y r) → (part : List ℕ) → text_left (BeginsBoard f z q) (BeginsWhole f z q) part r
          → Appends mid now part → (t : List ℕ)
          × text_left (StopsInAll BeginsBoard f z (asked_from f (zone_origin z) times 1 texts)) (or_none (StopsInAll BeginsWhole f z (asked_from f (zone_origin z) times 1 texts))) t r
          × Appends old now t
      one-left OutputFailed x y cause part is out = (p.text ++ part, stops_in BeginsBoard part is, Appends-trans old mid now p.text part p.out out)
      one-left OutOfMemory x y cause part is out = (p.text ++ part, inr (stops_in BeginsWhole part is), Appends-trans old mid now p.text part p.out out)
      one-left _ x y (inl cause) part is out = absurd cause
      one-left _ x y (inr cause) part is out = absurd cause

    -- ---- over lines that are lent

    abbrev pub PrintedBefore : List (Bor (List ℕ)) → ℕ → Option (List ℕ) → Type 0
    PrintedBefore xs i now = Printed (i + 1) (map (λ x. x.now) (drop i xs)) now

    module _ (xs : List (Bor (List ℕ))) (i : ℕ) (d : Bor (List ℕ)) (inside : i < length xs) where
      pub at_line : (now : Option (List ℕ)) → PrintedBefore xs i now → Printed (i + 1) ((get_or xs i d).now ∷ map (λ y. y.now) (drop (i + 1) xs)) now
      at_line now p = subst (λ (ys : List (Bor (List ℕ))). Printed (i + 1) (map (λ y. y.now) ys) now) (drop_more xs i d inside) p

    pub printed_all : (xs : List (Bor (List ℕ))) (i : ℕ) (now : Option (List ℕ)) → length xs ≤ i → PrintedBefore xs i now
        → (text : List ℕ) × AreAllBoards f z (asked_from f (zone_origin z) times 1 texts) text × Appends old now text
    printed_all xs i now end p = all_printed (i + 1) now (subst (λ (ys : List (Bor (List ℕ))). Printed (i + 1) (map (λ y. y.now) ys) now) (drop_all i xs end) p)
