-- From the parts of a timetable to what is printed of the folder that the words name.
use Rattle.std.proofs.Common.{◌≡◌, ◌∙◌, ◌⊎◌, ap, ℕ, true, false, List, [], map, take, drop, take-append-drop, Option, None, Result, Ok, Err, inl, inr, refl, sym, subst}
use Rattle.std.specs.Prelude.{⊤, flat_map, IfErr, IsErrAnd}
use Rattle.std.specs.Io.KnownBytes.{Keeps}
use Rattle.std.proofs.KnownBytes.{Appends-kept}
use Rattle.std.proofs.lemmas.List.{map-append}
use Rattle.std.proofs.lemmas.List.Folds.{flat_map-map}
use Rattle.std.proofs.lemmas.Bool.{true_from_ne_false}
use Rattle.gtfs_devices.specs.Folder.{Store}
use Rattle.gtfs_rows.specs.Content.{Content}
use Rattle.gtfs_rows.specs.RowsInMemory.{content_of_parts}
use Rattle.gtfs_rows.specs.declared.parts.Parts.{Parts as Feed}
use Rattle.gtfs_board.specs.LentSheets.{plain_sheet}
use Rattle.gtfs_board.specs.Timetable.{is_route, sheet_text, sheets, Sheet as Sheets}
use Rattle.gtfs_times.specs.Filling.{timed}
use Rattle.gtfs_board.specs.declared.sheet.Sheet.{Sheet}
use Rattle.gtfs_commands.specs.Words.{TimetableTexts}
use Rattle.gtfs_cli.specs.FilesInFolders.{HoldsFeed}
use Rattle.gtfs_cli.specs.Failures.{FailedNowhere, Failures}
use Rattle.gtfs_cli.specs.CommandPlan.{IsRefusedIn}
use Rattle.gtfs_cli.specs.DevicesSeen.{Output}
use Rattle.gtfs_cli.specs.SentText.{text_left, AreFirst, Begins, IsSendingCause, IsSent, PrintsText, SendsSome}
use Rattle.gtfs_cli.specs.TimetableOptions.{first_bad_timetable, IsTimetableRequest, TimetableRequest}
use Rattle.gtfs_cli.specs.TimetableCommand.{timetable_judges, timetable_text, AreFirstSheets, AreSheets, IsRouteCause, IsSheetsCause, IsTimetablePart, IsTimetableText, TimetableSetting}
use Rattle.gtfs_cli.specs.declared.commands.refusal.Refusal.{Refusal}
use Rattle.gtfs_cli.specs.declared.commands.refusal.Refusal.TheVariants.{UnknownRoute, OutputFailed, OutOfMemory}
use Rattle.gtfs_cli.proofs.BoardParts.{has-passing}
use Rattle.gtfs_cli.proofs.FailuresTold.{sending-told}
use Rattle.gtfs_cli.proofs.Plans.{prints-refused-so}
use Rattle.gtfs_cli.proofs.Sent.{SentWhole}

-- no value is bad
pub none-bad-timetable : (asked : TimetableTexts) (r : TimetableRequest) → IsTimetableRequest asked r → first_bad_timetable asked ≡ None
none-bad-timetable asked r is = rw (is.day, is.direction) refl

-- the text of a sheet as the code has it
abbrev pub shown_sheet : Sheet → List ℕ
shown_sheet s = sheet_text (plain_sheet s)

pub sheets-shown : (ss : List Sheet) → flat_map shown_sheet ss ≡ flat_map sheet_text (map plain_sheet ss)
sheets-shown ss = sym (flat_map-map sheet_text plain_sheet ss)

-- memory did not run out where the output failed
pub output-alone : {T : Type 0} (r : Result T Refusal) → IfErr r (λ e. e ≡ OutputFailed) → r ≡ Err OutOfMemory → ⊥
output-alone (Ok x) only is = cc is
output-alone (Err e) only is = let memory : e ≡ OutOfMemory = cc is in cc (sym only ∙ memory)

-- the error that is passed on is the one that came
pub err-is : {T : Type 0} (r : Result T Refusal) (e : Refusal) → IsErrAnd r (λ y. y ≡ e) → r ≡ Err OutOfMemory → e ≡ OutOfMemory
err-is (Ok x) e is memory = cc memory
err-is (Err y) e is memory = let same : y ≡ OutOfMemory = cc memory in sym is ∙ same

-- the first sheets went out, and then nothing more
pub first-sent : (ss : List Sheet) (i : ℕ) (a b c : Output) → SentWhole (flat_map shown_sheet (take i ss)) a b → Keeps b.told c.told
    → SendsSome (AreFirst sheet_text (map plain_sheet ss)) a c
first-sent ss i a b c sent keeps = (
  flat_map shown_sheet (take i ss),
  (map plain_sheet (take i ss), map plain_sheet (drop i ss), ap (map plain_sheet) (sym (take-append-drop i ss)) ∙ map-append plain_sheet (take i ss) (drop i ss), sheets-shown (take i ss)),
  Appends-kept a.told b.told c.told (flat_map shown_sheet (take i ss)) sent.sent keeps,
)

module _ (f : Content) (route : List ℕ) (r : TimetableRequest) where
  -- there are no sheets
  pub sheets-refused : {T : Type 0} (a : Output) (res : Result T Refusal) (e : Refusal) → IsErrAnd res (λ y. y ≡ e) → IsSheetsCause f route e
      → PrintsText (AreSheets f route r) (Begins (AreSheets f route r)) (AreFirstSheets f route r) (IsSheetsCause f route) a a res
  sheets-refused a res e is cause = prints-refused-so (AreSheets f route r) (Begins (AreSheets f route r)) (AreFirstSheets f route r) (IsSheetsCause f route) a res e is
      (λ memory. (subst (IsSheetsCause f route) memory cause, ([], sheets (timed r.times f) route r.direction r.day, refl, refl))) (inl cause)
      (λ failed. subst (IsSheetsCause f route) failed cause)

  -- those that there are were sent out
  pub sheets-printed : {T : Type 0} (all : List Sheets) → all ≡ sheets (timed r.times f) route r.direction r.day → is_route f route ≡ true → (a b : Output) (res : Result T Refusal)
      → IsSent (flat_map sheet_text all) a b res → (res ≡ Err OutOfMemory → SendsSome (AreFirst sheet_text all) a b)
      → PrintsText (AreSheets f route r) (Begins (AreSheets f route r)) (AreFirstSheets f route r) (IsSheetsCause f route) a b res
  sheets-printed all are known a b (Ok x) sent stopped = record {
    printed = (flat_map sheet_text all, (known, ap (flat_map sheet_text) are), sent.sent);
    left = tt;
    refused = tt;
    told = tt;
    grows = sent.grows;
    no_failure = sent.no_failure;
  }
  sheets-printed all are known a b (Err e) sent stopped = record {
    printed = tt;
    left = left-of e refl sent.refused;
    refused = inr sent.refused;
    told = sending-told a.failures b.failures e sent.refused;
    grows = sent.grows;
    no_failure = tt;
  }
    where
      left-of : (x : Refusal) → x ≡ e → IsSendingCause a.failures b.failures x → SendsSome (λ part. text_left (Begins (AreSheets f route r)) (AreFirstSheets f route r) part x) a b
      left-of OutputFailed is cause = (
        sent.cut_short.sent,
        record { text = flat_map sheet_text all; left = sent.cut_short.left; is_text = (known, ap (flat_map sheet_text) are); whole = sent.cut_short.whole },
        sent.cut_short.out,
      )
      left-of OutOfMemory is cause =
          let some = stopped (ap (λ (y : Refusal). Err y) (sym is)) in
          (some.0, (known, subst (λ (ss : List Sheets). AreFirst sheet_text ss some.0) are some.1), some.2)
      left-of _ is cause = absurd cause

pub known-route : (f : Content) (route : List ℕ) → (is_route f route ≡ false → ⊥) → is_route f route ≡ true
known-route f route never = true_from_ne_false (is_route f route) never

module _ (limit : ℕ) (held : Option Store) (asked : TimetableTexts) (feed : Feed) (r : TimetableRequest) (h : HoldsFeed limit held asked.dir feed) (is : IsTimetableRequest asked r) where
  abbrev setting : TimetableSetting limit held asked
  setting = record { dataset = h.dataset; request = r; holds = h.holds; passes = h.is_feed.0; is_request = is }

  pub text-of : (text : List ℕ) → AreSheets (content_of_parts feed) asked.route r text → IsTimetableText limit held asked text
  text-of text (known, same) = record {
    setting = setting;
    known = subst (λ (f : Content). is_route f asked.route ≡ true) h.is_feed.1 known;
    is_text = subst (λ (f : Content). text ≡ timetable_text f asked.route r) h.is_feed.1 same;
  }

  pub part-of : (part : List ℕ) → Begins (AreSheets (content_of_parts feed) asked.route r) part → Begins (IsTimetableText limit held asked) part
  part-of part b = record { text = b.text; left = b.left; is_text = text-of b.text b.is_text; whole = b.whole }

  pub stopped-of : (part : List ℕ) → AreFirstSheets (content_of_parts feed) asked.route r part → IsTimetablePart limit held asked part
  stopped-of part are = record { setting = setting; are_first = subst (λ (f : Content). AreFirstSheets f asked.route r part) h.is_feed.1 are }

  module _ (x y : Failures) where
    -- all that is judged before the route was found good
    after : (e : Refusal) → IsRouteCause limit held asked e ⊎ (⊤ × IsSendingCause x.output y.output e) → IsRefusedIn (timetable_judges limit held asked) x y e
    after e cause = inl (inr (none-bad-timetable asked r is, inr (has-passing limit held asked.dir feed h, cause)))

    pub cause-of : (e : Refusal) → (e ≡ OutOfMemory → FailedNowhere x y)
        → IsSheetsCause (content_of_parts feed) asked.route e ⊎ IsSendingCause x.output y.output e → IsRefusedIn (timetable_judges limit held asked) x y e
    cause-of UnknownRoute nowhere (inl c) = after UnknownRoute (inl (setting, subst (λ (f : Content). is_route f asked.route ≡ false) h.is_feed.1 c))
    cause-of OutOfMemory nowhere (inl c) = inr (refl, nowhere refl)
    cause-of _ nowhere (inl c) = absurd c
    cause-of e nowhere (inr c) = after e (inr (tt, c))
