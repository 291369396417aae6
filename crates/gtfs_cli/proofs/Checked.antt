-- From the parts of a check to what is printed of the folder that the words name.
use Rattle.std.proofs.Common.{◌≡◌, ◌∙◌, ap, sym, refl, subst, ℕ, ◌+◌, ◌&&◌, Bool, true, false, not, List, [], ◌∷◌, ◌++◌, append-nil, length, Option, None, Some, Result, Ok, Err, ℤ, arith, inl, inr}
use Rattle.std.specs.Prelude.{count_by, if◌then◌else◌, option_map, IsErrAnd}
use Rattle.gtfs_schema.specs.Codes.{is_error}
use Rattle.gtfs_schema.specs.Problems.{passes, IsReport, Passes, Problem}
use Rattle.gtfs_devices.specs.Folder.{Store}
use Rattle.gtfs_table.specs.Tables.{Dataset}
use Rattle.gtfs_rows.specs.Content.{Content}
use Rattle.gtfs_rows.specs.ContentRead.{content_of}
use Rattle.gtfs_rules.specs.Report.{counts_line}
use Rattle.gtfs_rows.specs.RowsInMemory.{content_of_parts}
use Rattle.gtfs_rows.specs.declared.parts.Parts.{Parts}
use Rattle.gtfs_advice.specs.Advice.{advice, About}
use Rattle.gtfs_advice.specs.declared.code.Code.{Code}
use Rattle.gtfs_commands.specs.Words.{CheckTexts}
use Rattle.gtfs_cli.specs.AdviceLines.{advice_lines, advised_line, advised_text}
use Rattle.gtfs_cli.specs.CheckLines.{counts_text}
use Rattle.gtfs_cli.specs.CheckOptions.{judged_check, lacks_advise, IsUnread}
use Rattle.gtfs_cli.specs.CheckCommand.{check_judges, last_lines}
use Rattle.gtfs_cli.specs.Failures.{Failures}
use Rattle.gtfs_cli.specs.FilesInFolders.{HoldsTables}
use Rattle.gtfs_cli.specs.RestOfCheck.{advised_lines, lines_after, lines_left}
use Rattle.gtfs_cli.specs.SharedOptions.{day_if_given, first_of_bad}
use Rattle.gtfs_cli.specs.ReadingCauses.{IsTablesCause}
use Rattle.gtfs_cli.specs.DevicesSeen.{Output}
use Rattle.gtfs_cli.specs.SentText.{AreSent, IsSendingCause}
use Rattle.gtfs_cli.specs.declared.commands.check.Begun.{Begun}
use Rattle.gtfs_cli.specs.declared.commands.refusal.Refusal.{Refusal}
use Rattle.gtfs_cli.specs.declared.commands.refusal.Refusal.TheVariants.{OutputFailed, OutOfMemory}
use Rattle.gtfs_rules.proofs.ReportLaws.{passes_only_if}
use Rattle.gtfs_cli.proofs.Counted.{all-counted, counts-line}
use Rattle.gtfs_cli.proofs.SentLines.{lines-both, lines-first, lines-same, lines-unmade}

-- no value is bad
pub none-bad-check : (asked : CheckTexts) (day : Option ℤ) → day_if_given asked.day ≡ Some day → first_of_bad (judged_check asked) ≡ None
none-bad-check asked day is = rw is refl

-- ---- why it is refused

pub unread-quiet : (asked : CheckTexts) → IsUnread asked OutputFailed → ⊥
unread-quiet asked h = elim h [ inl lack ↦ lack | inr bad ↦ bad.1 ]

module _ (limit : ℕ) (held : Option Store) (asked : CheckTexts) (before after : Failures) (r : Refusal) where
  pub unread-refused : IsUnread asked r → (check_judges limit held asked).Refuses before after r
  unread-refused h = elim h [ inl lack ↦ inl lack | inr bad ↦ inr (bad.0, inl bad.1) ]

  module _ (day : Option ℤ) (wanted : lacks_advise asked ≡ false) (is : day_if_given asked.day ≡ Some day) where
    pub folder-refused : IsTablesCause limit held asked.dir before.folders after.folders r → (check_judges limit held asked).Refuses before after r
    folder-refused cause = inr (wanted, inr (none-bad-check asked day is, inl cause))

    pub output-refused : (d : Dataset) → HoldsTables limit held asked.dir d → IsSendingCause before.output after.output r → (check_judges limit held asked).Refuses before after r
    output-refused d holds cause = inr (wanted, inr (none-bad-check asked day is, inr ((d, holds), cause)))

-- ---- what is printed

-- memory ran out after all lines were sent
pub lines-stopped : {S T : Type 0} (lines : List (List ℕ)) (a b : Output) (done : S) (r : Result T Refusal) → IsErrAnd r (λ e. e ≡ OutOfMemory) → AreSent lines a b (Ok done) → AreSent lines a b r
lines-stopped lines a b done r is sent = subst (λ (ls : List (List ℕ)). AreSent ls a b r) (append-nil lines) (lines-both lines [] a b b done r sent (lines-unmade [] b r is))

-- the lines that are left are the last ones
module _ (asked : CheckTexts) (d : Dataset) (ps : List Problem) (day : Option ℤ) (errors warnings : ℕ)
    (is_errors : errors ≡ count_by (λ p. is_error p.code) ps) (is_warnings : warnings ≡ count_by (λ p. not (is_error p.code)) ps) where
  all : errors + warnings ≡ length ps
  all = omega (arith, is_errors, is_warnings, all-counted (λ (p : Problem). is_error p.code) ps)

  counted : counts_text errors warnings ≡ counts_line ps
  counted = counts-line ps errors warnings is_errors all

  pub last-lines : (left : Option Content) → left ≡ (if asked.advise && passes ps then Some (content_of d) else None)
      → lines_left asked.summary day errors warnings left ≡ last_lines asked ps (advice (content_of d) day)
  last-lines left is = ap (lines_left asked.summary day errors warnings) is ∙ by (asked.advise && passes ps)
    where
      by : (b : Bool) → lines_left asked.summary day errors warnings (if b then Some (content_of d) else None)
          ≡ (if b then advice_lines asked.summary (advice (content_of d) day) ++ advised_line ps (length (advice (content_of d) day)) ∷ [] else counts_line ps ∷ [])
      by true = λ i. advice_lines asked.summary (advice (content_of d) day) ++ advised_text (is_errors i) (is_warnings i) (length (advice (content_of d) day)) ∷ []
      by false = ap (λ (t : List ℕ). t ∷ []) counted

-- ---- the lines that are left

module _ (summary : Bool) (day : Option ℤ) (begun : Begun) where
  pub counts-left : begun.draft ≡ None → lines_after summary day begun ≡ counts_text begun.errors begun.warnings ∷ []
  counts-left none = ap (λ o. lines_left summary day begun.errors begun.warnings (option_map content_of_parts o)) none

  module _ (draft feed : Parts) (is : begun.draft ≡ Some draft) (same : feed ≡ draft) where
    abbrev told : List (Code × About)
    told = advice (content_of_parts feed) day

    advised-left : lines_after summary day begun ≡ advice_lines summary told ++ advised_text begun.errors begun.warnings (length told) ∷ []
    advised-left =
        ap (λ o. lines_left summary day begun.errors begun.warnings (option_map content_of_parts o)) is
        ∙ ap (λ p. advised_lines summary day (content_of_parts p) begun.errors begun.warnings) (sym same)

    -- the advice was not sent whole, and a `?` passes the error on
    pub advice-cut : {S T : Type 0} (a b : Output) (e : Refusal) (r : Result T Refusal) → IsErrAnd r (λ f. f ≡ e) → AreSent (advice_lines summary told) {T = S} a b (Err e)
        → AreSent (lines_after summary day begun) a b r
    advice-cut a b e r passes sent = lines-same _ (lines_after summary day begun) a b r (sym advised-left)
        (lines-first (advice_lines summary told) (advised_text begun.errors begun.warnings (length told) ∷ []) a b e r passes sent)

    -- it was, and the last line ended so
    pub advice-ended : {S T : Type 0} (a b c : Output) (count : ℕ) (done : S) (r : Result T Refusal) → count ≡ length told → AreSent (advice_lines summary told) a b (Ok done)
        → AreSent (advised_text begun.errors begun.warnings count ∷ []) b c r → AreSent (lines_after summary day begun) a c r
    advice-ended a b c count done r counted sent last = lines-same _ (lines_after summary day begun) a c r (sym advised-left)
        (lines-both (advice_lines summary told) (advised_text begun.errors begun.warnings (length told) ∷ []) a b c done r sent
        (lines-same _ _ b c r (ap (λ n. advised_text begun.errors begun.warnings n ∷ []) counted) last))

-- ---- the feed that gets advice

pub not-passing : (d : Dataset) (ps : List Problem) → IsReport d ps → (Passes d → ⊥) → passes ps ≡ false
not-passing d ps report fails = by (passes ps) refl
  where
    by : (b : Bool) → passes ps ≡ b → b ≡ false
    by true e = absurd (fails (passes_only_if d ps report e))
    by false e = refl

pub none-drafted : {X : Type 0} (advise passing : Bool) (x : X) → passing ≡ false → None ≡ (if advise && passing then Some x else None)
none-drafted true passing x e = ap (λ b. if b then Some x else None) (sym e)
none-drafted false passing x e = refl

pub one-drafted : {X : Type 0} (advise passing : Bool) (x y : X) → advise ≡ true → passing ≡ true → x ≡ y → Some x ≡ (if advise && passing then Some y else None)
one-drafted advise passing x y a p same = ap Some same ∙ (λ i. if sym a i && sym p i then Some y else None)

-- what is no feed is none
pub no-draft : (begun : Begun) → ((draft : Parts) → begun.draft ≡ Some draft → ⊥) → begun.draft ≡ None
no-draft begun other = by begun.draft refl
  where
    by : (o : Option Parts) → begun.draft ≡ o → begun.draft ≡ None
    by None e = e
    by (Some d) e = absurd (other d e)
