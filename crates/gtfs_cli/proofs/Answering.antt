-- From the parts of an answer to the answer.
use Rattle.std.proofs.Common.{true, false, ◌==◌, ◌≡◌, ◌∙◌, ◌⊎◌, ◌<◌, ℕ, List, [], ◌∷◌, ◌++◌, append_assoc, length, take, drop, take-append-drop, Option, None, Some, Result, Ok, Err, inl, inr, refl, sym, ap, subst, codes, arith}
use Rattle.std.specs.Prelude.{IfErr, IsErrAnd, OnOk, OnErr}
use Rattle.std.specs.Io.KnownBytes.{Appends}
use Rattle.std.proofs.KnownBytes.{Appends-trans}
use Rattle.std.proofs.lemmas.Option.{same_Some}
use Rattle.gtfs_days.specs.declared.zone.Zone.{Zone}
use Rattle.gtfs_devices.specs.Device.{counted}
use Rattle.gtfs_rows.specs.Content.{Content}
use Rattle.gtfs_times.specs.declared.times.Times.{Times}
use Rattle.gtfs_board.specs.BoardPage.{IsCutShort, IsPage, IsStopped}
use Rattle.gtfs_board.specs.Board.{is_stop}
use Rattle.gtfs_board.specs.BoardLines.{Listed}
use Rattle.gtfs_cli.specs.BoardCommand.{ListsBoard}
use Rattle.gtfs_cli.specs.ServeAnswers.{line_for, refused_line, AnswersLine, AreFirstLines, IsAnswerPart, IsBeginning, IsCut, IsLinePart, IsLineText, IsPrinted, IsQuestion, IsQuestionCause, IsSomeText, IsTextPart}
use Rattle.gtfs_cli.specs.BoardsCommand.{IsRequestText, IsBoardCause}
use Rattle.gtfs_cli.specs.ServeQuestions.{Board, Question, Timetable}
use Rattle.gtfs_cli.specs.Refusals.{TellsOutput}
use Rattle.gtfs_cli.specs.BoardsRequests.{StopRequest}
use Rattle.gtfs_cli.specs.DevicesSeen.{Output}
use Rattle.gtfs_cli.specs.SentText.{text_left, Begins, IsSendingCause, IsSent, PrintsText, SendsSome}
use Rattle.gtfs_cli.specs.TimetableCommand.{timetable_request_of, AreFirstSheets, AreSheets, IsSheetsCause}
use Rattle.gtfs_cli.specs.LentServeQuestions.{question_of}
use Rattle.gtfs_cli.specs.declared.commands.serve.questions.Question.{Question as LentQuestion}
use Rattle.gtfs_cli.specs.declared.commands.serve.questions.Question.TheVariants as lent
use Rattle.gtfs_cli.specs.declared.commands.serve.questions.RouteRequest.{RouteRequest as LentRouteRequest}
use Rattle.gtfs_rows.specs.RowsInMemory.{content_of_parts}
use Rattle.gtfs_rows.specs.declared.parts.Parts.{Parts as Feed}
use Rattle.gtfs_cli.specs.declared.commands.refusal.Refusal.{Refusal}
use Rattle.gtfs_cli.specs.declared.commands.refusal.Refusal.TheVariants.{UnknownStop, UnknownRoute, UntilBeforeFrom, OutputFailed, OutOfMemory}
use Rattle.gtfs_cli.proofs.Plans.{prints-as, prints-cut, prints-refused-so, prints-whole}

abbrev Nothing : List ℕ → Type 0
Nothing text = ⊥

abbrev Nobody : Refusal → Type 0
Nobody refusal = ⊥

-- what is so is so of what came of a call
pub on-ok : {T E : Type 0} (r : Result T E) (P : Type 0) → P → OnOk r P
on-ok (Ok x) P p = p
on-ok (Err e) P p = tt

pub on-err : {T E : Type 0} (r : Result T E) (P : Type 0) → P → OnErr r P
on-err (Ok x) P p = tt
on-err (Err e) P p = p

pub no-bytes : (line : List ℕ) → length line ≡ 0 → line ≡ []
no-bytes [] none = refl
no-bytes (b ∷ line) none = absurd (omega (arith, none))

pub some-bytes : (line : List ℕ) → (length line == 0) ≡ false → 0 < length line
some-bytes [] some = cc some
some-bytes (b ∷ line) some = omega arith

-- ---- a text that is sent

-- of a text that is sent the output alone keeps something back
pub sent-alone : {T : Type 0} (W C : List ℕ → Type 0) → ((part : List ℕ) → Begins W part → C part) → (text : List ℕ) → W text → (a b : Output) (r : Result T Refusal)
    → IsSent text a b r → IfErr r (λ e. e ≡ OutputFailed) → PrintsText W C Nothing Nobody a b r
sent-alone W C part text is a b (Ok x) sent only = prints-whole W C Nothing Nobody a b x (text, is, sent.sent) sent.no_failure
sent-alone {T} W C part text is a b (Err e) sent only = subst (λ (y : Refusal). PrintsText W C Nothing Nobody {T = T} a b (Err y)) (sym only)
    (prints-cut W C Nothing Nobody a b
    (sent.cut_short.sent, part sent.cut_short.sent (record { text = text; left = sent.cut_short.left; is_text = is; whole = sent.cut_short.whole }), sent.cut_short.out)
    (subst (IsSendingCause a.failures b.failures) only sent.refused) sent.grows)

-- ---- a board

-- memory ran out where the feed has the stop
pub memory-refused : {T : Type 0} (f : Content) (z : Zone) (q : StopRequest) → is_stop f q.texts.stop ≡ true → (r : Result T Refusal) → IsErrAnd r (λ e. e ≡ OutOfMemory)
    → IfErr r (IsBoardCause f z q)
memory-refused f z q known (Ok x) is = absurd is
memory-refused f z q known (Err e) is = subst (IsBoardCause f z q) (sym is) known

-- there is no board
pub board-refused : {T : Type 0} (f : Content) (z : Zone) (q : StopRequest) (a : Output) (r : Result T Refusal) (e : Refusal) → IsErrAnd r (λ y. y ≡ e) → IsBoardCause f z q e
    → PrintsText (IsRequestText IsPage f z q) (IsRequestText IsCutShort f z q) (AreFirstLines f z q) (IsBoardCause f z q) a a r
board-refused f z q a r e is cause = prints-refused-so (IsRequestText IsPage f z q) (IsRequestText IsCutShort f z q) (AreFirstLines f z q) (IsBoardCause f z q) a r e is
    (λ memory. (subst (IsBoardCause f z q) memory cause, inl refl)) (inl cause) (λ failed. subst (IsBoardCause f z q) failed cause)

-- a page was printed of a board that was opened in the zone
pub board-printed : {T : Type 0} (f : Content) (q : StopRequest) (y z : Zone) → y ≡ z → (ds : List Listed) (a b : Output) (r : Result T Refusal)
    → (ListsBoard f y q.texts.stop q.values ds
    → PrintsText (IsRequestText IsPage f y q) (IsRequestText IsCutShort f y q) (IsRequestText IsStopped f y q) (λ _. ⊥) a b r)
    → ListsBoard f z q.texts.stop q.values ds
    → PrintsText (IsRequestText IsPage f z q) (IsRequestText IsCutShort f z q) (AreFirstLines f z q) (IsBoardCause f z q) a b r
board-printed {T} f q y z same ds a b r prints lists =
    let p = prints (subst (λ (w : Zone). ListsBoard f w q.texts.stop q.values ds) (sym same) lists) in
    prints-as (IsRequestText IsPage f z q) (IsRequestText IsCutShort f z q) (IsRequestText IsStopped f z q)
    (IsRequestText IsPage f z q) (IsRequestText IsCutShort f z q) (AreFirstLines f z q) (λ _. ⊥) (IsBoardCause f z q) a b r
    (λ t is. is) (λ t is. is) (λ t is. (lists.known, inr is)) (λ e none. absurd none)
    (subst (λ (w : Zone). PrintsText (IsRequestText IsPage f w q) (IsRequestText IsCutShort f w q) (IsRequestText IsStopped f w q) (λ _. ⊥) {T = T} a b r) same p)

-- ---- a question

-- an answer has a line for what was refused, but where the output failed
output-failed : (e : Refusal) → line_for e ≡ None → e ≡ OutputFailed
output-failed OutputFailed none = refl
output-failed UnknownStop none = cc none
output-failed UnknownRoute none = cc none
output-failed UntilBeforeFrom none = cc none
output-failed _ none = cc none

some-line : (line : List ℕ) → Some line ≡ None → ⊥
some-line line is = cc is

module _ (f : Content) (z : Zone) where
  begun : (q : Question) (part : List ℕ) → Begins (IsSomeText f z q) part → IsTextPart f z q part
  begun (Board q) part b = inl b
  begun (Timetable r) part b = b

  abbrev PrintsSo : Question → {T : Type 0} → Output → Output → Result T Refusal → Type 0
  PrintsSo q a b r = PrintsText (IsPrinted f z q) (IsCut f z q) (IsBeginning f z q) (IsQuestionCause f z q) a b r

  is-whole : (q : Question) (text : List ℕ) → IsPrinted f z q text → IsSomeText f z q text
  is-whole (Board q) text is = inl (inr (inr is))
  is-whole (Timetable r) text is = inl (inr is)

  is-cut : (q : Question) (text : List ℕ) → IsCut f z q text → IsTextPart f z q text
  is-cut (Board q) text is = inr is
  is-cut (Timetable r) text b = record { text = b.text; left = b.left; is_text = inl (inr b.is_text); whole = b.whole }

  alone : (part line wanted : List ℕ) → part ≡ [] → line ≡ wanted → part ++ line ≡ wanted
  alone part line wanted none is = ap (λ (t : List ℕ). t ++ line) none ∙ is

  -- what was refused, and the line that says so
  is-refused : (q : Question) (x y : ℕ) (e : Refusal) (part line : List ℕ) → (e ≡ OutputFailed → ⊥) → text_left (IsCut f z q) (IsBeginning f z q) part e → IsQuestionCause f z q e ⊎ IsSendingCause x y e
      → line_for e ≡ Some line → IsSomeText f z q (part ++ line)
  is-refused (Board q) x y UnknownStop part line other left (inl c) is = inl (inl (c, alone part line (refused_line (codes "unknown stop")) left (sym (same_Some (refused_line (codes "unknown stop")) line is))))
  is-refused (Board q) x y UntilBeforeFrom part line other left (inl c) is = inl (inr (inl (c.0, c.1, alone part line (refused_line (codes "until lies before from")) left (sym (same_Some (refused_line (codes "until lies before from")) line is)))))
  is-refused (Board q) x y OutOfMemory part line other left c is = inr (part, left, ap (λ (t : List ℕ). part ++ t) (sym (same_Some (refused_line (codes "out of memory")) line is)))
  is-refused (Board q) x y OutputFailed part line other left c is = absurd (other refl)
  is-refused (Board q) x y _ part line other left (inl c) is = absurd c
  is-refused (Board q) x y _ part line other left (inr c) is = absurd c
  is-refused (Timetable r) x y UnknownRoute part line other left (inl c) is = inl (inl (c, alone part line (refused_line (codes "unknown route")) left (sym (same_Some (refused_line (codes "unknown route")) line is))))
  is-refused (Timetable r) x y OutOfMemory part line other left c is = inr (part, left, ap (λ (t : List ℕ). part ++ t) (sym (same_Some (refused_line (codes "out of memory")) line is)))
  is-refused (Timetable r) x y OutputFailed part line other left c is = absurd (other refl)
  is-refused (Timetable r) x y _ part line other left (inl c) is = absurd c
  is-refused (Timetable r) x y _ part line other left (inr c) is = absurd c

  -- what a timetable that was asked for printed
  pub sheets-asked : {T : Type 0} (p x : Feed) → p ≡ x → (asked : LentQuestion) (r : LentRouteRequest) → asked ≡ lent.Timetable r → (a b : Output) (res : Result T Refusal)
      → PrintsText (AreSheets (content_of_parts p) r.route.now (timetable_request_of r.values)) (Begins (AreSheets (content_of_parts p) r.route.now (timetable_request_of r.values)))
      (AreFirstSheets (content_of_parts p) r.route.now (timetable_request_of r.values)) (IsSheetsCause (content_of_parts p) r.route.now) a b res
      → content_of_parts x ≡ f → PrintsSo (question_of asked) a b res
  sheets-asked p x same asked r is a b res prints feed =
      subst (λ (q : LentQuestion). PrintsSo (question_of q) a b res) (sym is)
      (subst (λ (h : Content). PrintsText (AreSheets h r.route.now (timetable_request_of r.values)) (Begins (AreSheets h r.route.now (timetable_request_of r.values)))
      (AreFirstSheets h r.route.now (timetable_request_of r.values)) (IsSheetsCause h r.route.now) a b res) (ap content_of_parts same ∙ feed) prints)

  module _ (q : Question) (a b : Output) where
    -- all was printed
    pub answered-whole : {S T : Type 0} (x : S) (done : T) → PrintsSo q a b (Ok x) → PrintsText (IsSomeText f z q) (IsTextPart f z q) Nothing Nobody a b (Ok done)
    answered-whole x done p = prints-whole (IsSomeText f z q) (IsTextPart f z q) Nothing Nobody a b done (p.printed.0, is-whole q p.printed.0 p.printed.1, p.printed.2) p.no_failure

    -- the output failed
    pub answered-cut : {S T : Type 0} (e : Refusal) → line_for e ≡ None → PrintsSo q {T = S} a b (Err e)
        → PrintsText (IsSomeText f z q) (IsTextPart f z q) Nothing Nobody {T = T} a b (Err OutputFailed)
    answered-cut e none p =
        let is = output-failed e none in
        let left = subst (λ (y : Refusal). SendsSome (λ part. text_left (IsCut f z q) (IsBeginning f z q) part y) a b) is p.left in
        let cause = subst (λ (y : Refusal). IsQuestionCause f z q y ⊎ IsSendingCause a.failures b.failures y) is p.refused in
        prints-cut (IsSomeText f z q) (IsTextPart f z q) Nothing Nobody a b (left.0, is-cut q left.0 left.1, left.2) (once q cause) p.grows
      where
        once : (p : Question) → IsQuestionCause f z p OutputFailed ⊎ IsSendingCause a.failures b.failures OutputFailed → b.failures ≡ counted a.failures
        once (Board p) (inl none) = absurd none
        once (Timetable p) (inl none) = absurd none
        once p (inr cause) = cause

    tells : (e : Refusal) → (e ≡ OutputFailed → ⊥) → TellsOutput a.failures b.failures e → b.failures ≡ a.failures
    tells OutputFailed other told = absurd (other refl)
    tells _ other told = told

    -- it was refused, and a line says so
    pub answered-refused : {S T : Type 0} (e : Refusal) → PrintsSo q {T = S} a b (Err e) → (line : List ℕ) → line_for e ≡ Some line → (c : Output) (r : Result T Refusal)
        → IsSent line b c r → IfErr r (λ y. y ≡ OutputFailed) → PrintsText (IsSomeText f z q) (IsTextPart f z q) Nothing Nobody a c r
    answered-refused e p line is c r sent only =
        let other = λ (failed : e ≡ OutputFailed). some-line line (sym (subst (λ (x : Refusal). line_for x ≡ Some line) failed is)) in
        let part = p.left.0 in
        let same = tells e other p.told in
        sent-behind part p.left.2 same line (is-refused q a.failures b.failures e part line other p.left.1 p.refused is) c r sent only
      where
        sent-behind : {T : Type 0} (part : List ℕ) → Appends a.told b.told part → b.failures ≡ a.failures → (line : List ℕ) → IsSomeText f z q (part ++ line) → (c : Output) (r : Result T Refusal)
            → IsSent line b c r → IfErr r (λ y. y ≡ OutputFailed) → PrintsText (IsSomeText f z q) (IsTextPart f z q) Nothing Nobody a c r
        sent-behind part out same line is c (Ok x) sent only = prints-whole (IsSomeText f z q) (IsTextPart f z q) Nothing Nobody a c x
            (part ++ line, is, Appends-trans a.told b.told c.told part line out sent.sent) (sent.no_failure ∙ same)
        sent-behind {T} part out same line is c (Err y) sent only =
            let cut = sent.cut_short in
            subst (λ (w : Refusal). PrintsText (IsSomeText f z q) (IsTextPart f z q) Nothing Nobody {T = T} a c (Err w)) (sym only)
            (prints-cut (IsSomeText f z q) (IsTextPart f z q) Nothing Nobody a c (
              part ++ cut.sent,
              begun q (part ++ cut.sent) (record {
                text = part ++ line;
                left = cut.left;
                is_text = is;
                whole = ap (λ (t : List ℕ). part ++ t) cut.whole ∙ sym (append_assoc part cut.sent cut.left);
              }),
              Appends-trans a.told b.told c.told part cut.sent out cut.out,
            )
            (subst (λ (n : ℕ). c.failures ≡ counted n) same (subst (IsSendingCause b.failures c.failures) only sent.refused))
            (omega (arith, sent.grows, same)))

  -- ---- a line

  module _ (times : Times) (line : List ℕ) where
    line-begun : (part : List ℕ) → Begins (IsLineText IsSomeText f z times line) part → IsLinePart f z times line part
    line-begun part b = inl b

    -- a line that asks for nothing
    pub line-refused : {T : Type 0} (text : List ℕ) → IsLineText IsSomeText f z times line text → (a b : Output) (r : Result T Refusal) → IsSent text a b r → IfErr r (λ e. e ≡ OutputFailed)
        → PrintsText (IsLineText IsSomeText f z times line) (IsLinePart f z times line) Nothing Nobody a b r
    line-refused text is a b r sent only = sent-alone (IsLineText IsSomeText f z times line) (IsLinePart f z times line) line-begun text is a b r sent only

    part-asked : (q : Question) → IsQuestion times line q → (part : List ℕ) → IsTextPart f z q part → IsLinePart f z times line part
    part-asked (Board q) asks part (inl b) = inl (record { text = b.text; left = b.left; is_text = inr (inr (Board q, asks, b.is_text)); whole = b.whole })
    part-asked (Board q) asks part (inr cut) = inr (q, asks, cut)
    part-asked (Timetable r) asks part b = inl (record { text = b.text; left = b.left; is_text = inr (inr (Timetable r, asks, b.is_text)); whole = b.whole })

    -- a line that asks for something
    pub line-asked : {T : Type 0} (q : Question) → IsQuestion times line q → (a b : Output) (r : Result T Refusal) → PrintsText (IsSomeText f z q) (IsTextPart f z q) Nothing Nobody a b r
        → PrintsText (IsLineText IsSomeText f z times line) (IsLinePart f z times line) Nothing Nobody a b r
    line-asked q asks a b r p = prints-as (IsSomeText f z q) (IsTextPart f z q) Nothing (IsLineText IsSomeText f z times line) (IsLinePart f z times line) Nothing Nobody Nobody a b r
        (λ t is. inr (inr (q, asks, is))) (part-asked q asks) (λ t none. none) (λ e none. none) p

    -- ---- its answer

    -- a text and an empty line
    pub ended-whole : 0 < length line → {T : Type 0} (x : T) (a b : Output) (c : Option (List ℕ))
        → PrintsText (IsLineText IsSomeText f z times line) (IsLinePart f z times line) Nothing Nobody a b (Ok x) → Appends b.told c (codes "\n")
        → (text : List ℕ) × AnswersLine f z times line text × Appends a.told c text
    ended-whole some x a b c p out = (
      p.printed.0 ++ codes "\n",
      inr (p.printed.0, some, p.printed.1, refl),
      Appends-trans a.told b.told c p.printed.0 (codes "\n") p.printed.2 out,
    )

    module _ (some : 0 < length line) where
      -- the text was cut short
      answer-part : (part : List ℕ) → IsLinePart f z times line part → IsAnswerPart f z times line part
      answer-part part (inl b) = inl (record {
        text = b.text ++ codes "\n";
        left = b.left ++ codes "\n";
        is_text = inr (b.text, some, b.is_text, refl);
        whole = ap (λ (t : List ℕ). t ++ codes "\n") b.whole ∙ append_assoc part b.left (codes "\n");
      })
      answer-part part (inr cut) = inr cut

      pub ended-cut : {T : Type 0} (e : Refusal) (a b : Output) → PrintsText (IsLineText IsSomeText f z times line) (IsLinePart f z times line) Nothing Nobody {T = T} a b (Err e)
          → ((text : List ℕ) × IsAnswerPart f z times line text × Appends a.told b.told text) × (b.failures ≡ counted a.failures)
      ended-cut e a b p = by e p.left p.refused
        where
          by : (e : Refusal) → SendsSome (λ part. text_left (IsLinePart f z times line) Nothing part e) a b → Nobody e ⊎ IsSendingCause a.failures b.failures e
              → ((text : List ℕ) × IsAnswerPart f z times line text × Appends a.told b.told text) × (b.failures ≡ counted a.failures)
          by e left (inl none) = absurd none
          by OutputFailed left (inr once) = ((left.0, answer-part left.0 left.1, left.2), once)
          by OutOfMemory left (inr same) = absurd left.1
          by _ left (inr none) = absurd none

      -- the empty line was cut short
      pub ended-early : {T : Type 0} (x : T) (a b : Output) (c : Option (List ℕ)) (n : ℕ)
          → PrintsText (IsLineText IsSomeText f z times line) (IsLinePart f z times line) Nothing Nobody a b (Ok x) → Appends b.told c (take n (codes "\n"))
          → (text : List ℕ) × IsAnswerPart f z times line text × Appends a.told c text
      ended-early x a b c n p out = (
        p.printed.0 ++ take n (codes "\n"),
        inl (record {
          text = p.printed.0 ++ codes "\n";
          left = drop n (codes "\n");
          is_text = inr (p.printed.0, some, p.printed.1, refl);
          whole = ap (λ (t : List ℕ). p.printed.0 ++ t) (sym (take-append-drop n (codes "\n"))) ∙ sym (append_assoc p.printed.0 (take n (codes "\n")) (drop n (codes "\n")));
        }),
        Appends-trans a.told b.told c p.printed.0 (take n (codes "\n")) p.printed.2 out,
      )
