-- From the parts of a conversation to how the command ends.
use Rattle.std.proofs.Common.{◌≡◌, ◌⊎◌, ◌≢◌, ℕ, Bool, List, [], Option, Result, Ok, Err, inl, inr, refl, sym, subst, arith}
use Rattle.std.specs.Prelude.{IsErrAnd}
use Rattle.std.proofs.KnownBytes.{Appends-nil}
use Rattle.clap.specs.Words.{Text}
use Rattle.gtfs_conversation.specs.Conversation.{AnswersAll, AnswersSome, Hearing}
use Rattle.gtfs_conversation.specs.declared.conversation.ConversationFault.TheVariants as faults
use Rattle.gtfs_days.specs.declared.zone.Zone.{Zone}
use Rattle.gtfs_devices.specs.Folder.{Store}
use Rattle.gtfs_rows.specs.Content.{Content}
use Rattle.gtfs_rows.specs.RowsInMemory.{content_of_parts}
use Rattle.gtfs_rows.specs.declared.parts.Parts.{Parts as Feed}
use Rattle.gtfs_times.specs.declared.times.Times.{Times}
use Rattle.gtfs_commands.specs.Words.{ServeTexts}
use Rattle.gtfs_cli.specs.ServeAnswers.{AnswersLine, IsAnswerPart}
use Rattle.gtfs_cli.specs.AskedCommand.{plan_of, Asked, HearsNothing, Board, Boards, Check, Merge, Serve, Timetable, Untaken}
use Rattle.gtfs_cli.specs.FilesInFolders.{HoldsFeed, HoldsZone}
use Rattle.gtfs_cli.specs.Failures.{Failures}
use Rattle.gtfs_cli.specs.SharedOptions.{times_of}
use Rattle.gtfs_cli.specs.CommandPlan.{answer_of, Ends, IsRefusedIn}
use Rattle.gtfs_cli.specs.FolderCalls.{CallsFolders}
use Rattle.gtfs_cli.specs.Refusals.{status_in}
use Rattle.gtfs_cli.specs.DevicesSeen.{Device, Devices, Output as Told, Talk}
use Rattle.gtfs_cli.specs.SentText.{IsSendingCause, SendsSome}
use Rattle.gtfs_cli.specs.ServeCommand.{serve_judges, serve_plan, Converses, ConversesUntil, IsHearingCause, ServeSetting, ServesUntil}
use Rattle.gtfs_cli.specs.declared.commands.refusal.Refusal.{Refusal}
use Rattle.gtfs_cli.specs.declared.commands.refusal.Refusal.TheVariants.{InputFailed, OutputFailed, OutOfMemory}
use Rattle.gtfs_cli.proofs.BoardParts.{has-passing}
use Rattle.gtfs_cli.proofs.FailuresTold.{output-kept}
use Rattle.gtfs_cli.proofs.Plans.{asks-answered}

-- ---- refused before a line is asked for

pub serves-none : (limit : ℕ) (held : Option Store) (talk : Talk) (asked : ServeTexts) (r : Refusal) → talk.after ≡ talk.before → (r ≡ InputFailed → ⊥) → (r ≡ OutputFailed → ⊥)
    → ServesUntil limit held talk asked [] r
serves-none limit held talk asked InputFailed same input output = absurd (input refl)
serves-none limit held talk asked OutputFailed same input output = absurd (output refl)
serves-none limit held talk asked _ same input output = (refl, same)

-- memory ran out before a line was asked for
pub converses-none : {T : Type 0} (f : Content) (z : Zone) (times : Times) (talk : Talk) → talk.after ≡ talk.before → (a : Told) (r : Result T Refusal) → IsErrAnd r (λ e. e ≡ OutOfMemory)
    → Converses f z times talk a a r
converses-none f z times talk same a (Ok x) is = absurd is
converses-none {T} f z times talk same a (Err e) is = subst (λ (x : Refusal). Converses f z times talk {T = T} a a (Err x)) (sym is) (record {
  answered = tt;
  left = ([], (refl, same), Appends-nil a.told);
  refused = inr refl;
  told = output-kept a.failures OutOfMemory;
  grows = omega arith;
  no_failure = tt;
})

-- all lines were answered by an index of the feed
pub converses-all : {T : Type 0} (p feed : Feed) → p ≡ feed → (z : Zone) (given times : Times) → given ≡ times → (talk : Talk) (a b : Told) (x : T)
    → SendsSome (AnswersAll (AnswersLine (content_of_parts p) z given) talk.told talk.before talk.after) a b → b.failures ≡ a.failures
    → Converses (content_of_parts feed) z times talk a b (Ok x)
converses-all p feed same z given times is talk a b x sent kept = record {
  answered = subst (λ (t : Times). SendsSome (AnswersAll (AnswersLine (content_of_parts feed) z t) talk.told talk.before talk.after) a b) is
      (subst (λ (f : Feed). SendsSome (AnswersAll (AnswersLine (content_of_parts f) z given) talk.told talk.before talk.after) a b) same sent);
  left = tt;
  refused = tt;
  told = tt;
  grows = omega (arith, kept);
  no_failure = kept;
}

-- ---- of the folders

module _ (limit : ℕ) (held : Option Store) (asked : ServeTexts) (talk : Talk) (feed : Feed) (z : Zone) (h : HoldsFeed limit held asked.dir feed) (hz : HoldsZone limit held asked.zone z) where
  abbrev setting : ServeSetting limit held asked
  setting = record { dataset = h.dataset; zone = z; holds = h.holds; passes = h.is_feed.0; holds_zone = hz }

  abbrev times : Times
  times = times_of asked.interpolate

  left-of : (e : Refusal) (text : List ℕ) → ConversesUntil (content_of_parts feed) z times talk text e → ServesUntil limit held talk asked text e
  left-of InputFailed text is = (
    setting,
    subst (λ (f : Content). AnswersSome (AnswersLine f z times) (IsAnswerPart f z times) talk.told talk.before talk.after faults.Input text) h.is_feed.1 is,
  )
  left-of OutputFailed text is = (
    setting,
    subst (λ (f : Content). AnswersSome (AnswersLine f z times) (IsAnswerPart f z times) talk.told talk.before talk.after faults.Output text) h.is_feed.1 is,
  )
  left-of _ text is = is

  cause-of : (x y : Failures) (e : Refusal) → IsHearingCause talk e ⊎ IsSendingCause x.output y.output e → IsRefusedIn (serve_judges limit held talk asked) x y e
  cause-of x y e (inl c) = inl (inr (has-passing limit held asked.dir feed h, inr ((z, hz), inl c)))
  cause-of x y e (inr c) = inl (inr (has-passing limit held asked.dir feed h, inr ((z, hz), inr (tt, c))))

  pub ends-served : (a b : Device) (before after : Told) → b.held ≡ held → {T : Type 0} (r : Result T Refusal) → CallsFolders 11 a b r
      → Converses (content_of_parts feed) z times talk before after r
      → Ends (serve_plan limit held talk asked) (record { folders = a; output = before }) (record { folders = b; output = after }) (answer_of r)
  ends-served a b before after same (Ok x) asks p = record {
    done = let sent = p.answered in (
      sent.0,
      (same, refl, (setting, subst (λ (f : Content). AnswersAll (AnswersLine f z times) talk.told talk.before talk.after sent.0) h.is_feed.1 sent.1)),
      sent.2,
    );
    left = tt;
    refused = tt;
    told = tt;
    grows = p.grows;
    no_failure = p.no_failure;
    asks = asks-answered 11 a b (Ok x) asks;
  }
  ends-served a b before after same (Err e) asks p = record {
    done = tt;
    left = let sent = p.left in (sent.0, (same, left-of e sent.0 sent.1), sent.2);
    refused = cause-of (record { folders = a.failures; output = before.failures }) (record { folders = b.failures; output = after.failures }) e p.refused;
    told = p.told;
    grows = p.grows;
    no_failure = tt;
    asks = asks-answered 11 a b (Err e) asks;
  }

-- ---- the input of a run

same-failures : (talk : Talk) → talk.after ≡ talk.before → talk.after.failures ≡ talk.before.failures
same-failures talk same = sym (subst (λ (x : Hearing). x.failures ≡ talk.after.failures) same refl)

served-failures : (limit : ℕ) (held : Option Store) (talk : Talk) (asked : ServeTexts) (e : Refusal) (text : List ℕ) → ServesUntil limit held talk asked text e → status_in (Err e) ≢ 3
    → talk.after.failures ≡ talk.before.failures
served-failures limit held talk asked InputFailed text left other = absurd (other refl)
served-failures limit held talk asked OutputFailed text left other = absurd (other refl)
served-failures limit held talk asked _ text left other = same-failures talk left.1

-- it failed only where the status is 3
pub input-kept : (limit : ℕ) (held : Option Store) (talk : Talk) (words : List Text) (asked : Asked) (before after : Devices) (ended : Result Bool Refusal)
    → Ends (plan_of limit held talk words asked) before after ended → (HearsNothing asked → talk.after ≡ talk.before) → status_in ended ≢ 3 → talk.after.failures ≡ talk.before.failures
input-kept limit held talk words (Serve texts) before after (Ok failed) ends unheard other = ends.done.1.2.1.no_failure
input-kept limit held talk words (Serve texts) before after (Err e) ends unheard other = served-failures limit held talk texts e ends.left.0 ends.left.1.1 other
input-kept limit held talk words (Check texts) before after ended ends unheard other = same-failures talk (unheard tt)
input-kept limit held talk words (Board texts) before after ended ends unheard other = same-failures talk (unheard tt)
input-kept limit held talk words (Boards texts) before after ended ends unheard other = same-failures talk (unheard tt)
input-kept limit held talk words (Timetable texts) before after ended ends unheard other = same-failures talk (unheard tt)
input-kept limit held talk words (Merge texts) before after ended ends unheard other = same-failures talk (unheard tt)
input-kept limit held talk words Untaken before after ended ends unheard other = same-failures talk (unheard tt)
