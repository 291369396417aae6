-- How a run ends whose words `clap` does not take.
use Rattle.std.proofs.Common.{◌≡◌, ◌≤◌, ℕ, Bool, List, [], Option, Result, Ok, Err, Some, inl, inr, refl, sym, subst, take, true, false}
use Rattle.std.specs.Prelude.{IfOk, IsErrAnd}
use Rattle.std.specs.Io.KnownBytes.{Appends, Keeps}
use Rattle.clap.specs.Words.{Text, takes}
use Rattle.gtfs_devices.specs.Device.{counted}
use Rattle.gtfs_devices.specs.Folder.{Store}
use Rattle.gtfs_table.proofs.FolderFacts.{calls-none}
use Rattle.gtfs_commands.specs.Words.{gtfs_app, AreForHelpOrVersion, IsFaultOf}
use Rattle.gtfs_commands.specs.declared.fault.WordsFault.{WordsFault}
use Rattle.gtfs_cli.specs.AskedCommand.{plan_of, Asked, Asks, Board, Boards, Check, Merge, Serve, Timetable, Untaken}
use Rattle.gtfs_cli.specs.UntakenWords.{words_plan, IsAnswer, IsWordsCause, text_for_output}
use Rattle.gtfs_cli.specs.CommandPlan.{Ends}
use Rattle.gtfs_cli.specs.Refusals.{TellsOutput}
use Rattle.gtfs_cli.specs.DevicesSeen.{Device, Output, Talk}
use Rattle.gtfs_cli.specs.SentText.{or_none, Begins, PrintsText}
use Rattle.gtfs_cli.specs.declared.commands.refusal.Refusal.{Refusal}
use Rattle.gtfs_cli.specs.declared.commands.refusal.Refusal.TheVariants.{OutOfMemory, OutputFailed}
use Rattle.gtfs_cli.proofs.Parts.{appends-nothing, some-sent}
use Rattle.gtfs_cli.proofs.Plans.{prints-cut, prints-up, prints-whole}
use Rattle.gtfs_cli.proofs.ReadsThen.{asks-made, asks-none}

pub answer-of : (words : List Text) (fault : WordsFault) (text : List ℕ) → AreForHelpOrVersion words → IsFaultOf words fault → text_for_output fault ≡ Some text → IsAnswer words text
answer-of words fault text asked is same = record { fault = fault; asked = asked; is_fault = is; is_text = same }

-- it went out
pub answer-sent : {A : Type 0} (words : List Text) (a b : Output) (text bytes : List ℕ) {x : A} → IsAnswer words text → bytes ≡ text → Appends a.told b.told bytes → b.failures ≡ a.failures
    → PrintsText (IsAnswer words) (Begins (IsAnswer words)) (or_none (Begins (IsAnswer words))) (IsWordsCause words) a b (Ok x)
answer-sent words a b text bytes is same out quiet =
    prints-whole (IsAnswer words) (Begins (IsAnswer words)) (or_none (Begins (IsAnswer words))) (IsWordsCause words) a b _ (text, is, subst (λ (t : List ℕ). Appends a.told b.told t) same out) quiet

-- the output failed before the whole of it went out
pub answer-cut : {A : Type 0} (words : List Text) (a b : Output) (text bytes : List ℕ) → IsAnswer words text → bytes ≡ text → (n : ℕ) → Appends a.told b.told (take n bytes)
    → b.failures ≡ counted a.failures → a.failures ≤ b.failures → (r : Result A Refusal) → IsErrAnd r (λ y. y ≡ OutputFailed)
    → PrintsText (IsAnswer words) (Begins (IsAnswer words)) (or_none (Begins (IsAnswer words))) (IsWordsCause words) a b r
answer-cut {A} words a b text bytes is same n out once grows r failed =
    let begun = some-sent a.told b.told text n (subst (λ (t : List ℕ). Appends a.told b.told (take n t)) same out) in
    prints-up {A = A} (IsAnswer words) (Begins (IsAnswer words)) (or_none (Begins (IsAnswer words))) (IsWordsCause words) a b r OutputFailed failed
    (prints-cut (IsAnswer words) (Begins (IsAnswer words)) (or_none (Begins (IsAnswer words))) (IsWordsCause words) a b
    (begun.sent, record { text = text; left = begun.left; is_text = is; whole = begun.whole }, begun.out) once grows)

-- ---- what a command ends with whose words were not read

left-memory : (limit : ℕ) (held : Option Store) (talk : Talk) → talk.after ≡ talk.before → (words : List Text) (asked : Asked) → (plan_of limit held talk words asked).Left held [] OutOfMemory
left-memory limit held talk same words (Check texts) = (refl, inl refl)
left-memory limit held talk same words (Board texts) = (refl, inl refl)
left-memory limit held talk same words (Boards texts) = (refl, inl refl)
left-memory limit held talk same words (Serve texts) = (refl, (refl, same))
left-memory limit held talk same words (Timetable texts) = (refl, inl refl)
left-memory limit held talk same words (Merge texts) = inl (refl, refl)
left-memory limit held talk same words Untaken = (refl, inl refl)

module _ (talk : Talk) (same : talk.after ≡ talk.before) (words : List Text) (a : Device) (x y : Output) (r : Result Bool Refusal)
    (printed : PrintsText (IsAnswer words) (Begins (IsAnswer words)) (or_none (Begins (IsAnswer words))) (IsWordsCause words) x y r) where
  -- memory ran out before the words were read
  pub ends-unread : (asked : Asked) → IsErrAnd r (λ e. e ≡ OutOfMemory) → Keeps x.told y.told
      → Ends (plan_of a.limit a.held talk words asked) (record { folders = a; output = x }) (record { folders = a; output = y }) r
  ends-unread asked is keeps = unread r is printed
    where
      unread : (s : Result Bool Refusal) → IsErrAnd s (λ e. e ≡ OutOfMemory)
          → PrintsText (IsAnswer words) (Begins (IsAnswer words)) (or_none (Begins (IsAnswer words))) (IsWordsCause words) x y s
          → Ends (plan_of a.limit a.held talk words asked) (record { folders = a; output = x }) (record { folders = a; output = y }) s
      unread (Ok failed) none p = absurd none
      unread (Err e) is p =
          let quiet = subst (λ (n : Refusal). TellsOutput x.failures y.failures n) is p.told in
          record {
            done = tt;
            left = (
              [],
              subst (λ (n : Refusal). (plan_of a.limit a.held talk words asked).Left a.held [] n) (sym is) (left-memory a.limit a.held talk same words asked),
              appends-nothing x.told y.told keeps,
            );
            refused = inr (is, (refl, quiet));
            told = p.told;
            grows = p.grows;
            no_failure = tt;
            asks = asks-none (plan_of a.limit a.held talk words asked).calls a (Err e) e refl;
          }

  -- `clap` does not take the words
  pub ends-words : IfOk r (λ failed. failed ≡ false) → Ends (words_plan a.held words) (record { folders = a; output = x }) (record { folders = a; output = y }) r
  ends-words clean = answered r clean printed
    where
      answered : (s : Result Bool Refusal) → IfOk s (λ failed. failed ≡ false)
          → PrintsText (IsAnswer words) (Begins (IsAnswer words)) (or_none (Begins (IsAnswer words))) (IsWordsCause words) x y s
          → Ends (words_plan a.held words) (record { folders = a; output = x }) (record { folders = a; output = y }) s
      answered (Ok failed) clean p = record {
        done = (p.printed.0, (refl, (clean, p.printed.1)), p.printed.2);
        left = tt;
        refused = tt;
        told = tt;
        grows = p.grows;
        no_failure = p.no_failure;
        asks = asks-made 0 a a (Ok failed) refl (calls-none a.calls);
      }
      answered (Err e) clean p = record {
        done = tt;
        left = (p.left.0, (refl, p.left.1), p.left.2);
        refused = inl (elim p.refused [ inl cause ↦ inl cause | inr cause ↦ inr (tt, cause) ]);
        told = p.told;
        grows = p.grows;
        no_failure = tt;
        asks = asks-none 0 a (Err e) e refl;
      }

  -- whatever they ask for
  pub ends-fault : (taken : takes gtfs_app words ≡ true → IsErrAnd r (λ e. e ≡ OutOfMemory) × Keeps x.told y.told) → IfOk r (λ failed. failed ≡ false) → (asked : Asked) → Asks words asked
      → Ends (plan_of a.limit a.held talk words asked) (record { folders = a; output = x }) (record { folders = a; output = y }) r
  ends-fault taken clean Untaken asks = ends-words clean
  ends-fault taken clean (Check texts) asks = let t = taken asks.taken in ends-unread (Check texts) t.0 t.1
  ends-fault taken clean (Board texts) asks = let t = taken asks.taken in ends-unread (Board texts) t.0 t.1
  ends-fault taken clean (Boards texts) asks = let t = taken asks.taken in ends-unread (Boards texts) t.0 t.1
  ends-fault taken clean (Serve texts) asks = let t = taken asks.taken in ends-unread (Serve texts) t.0 t.1
  ends-fault taken clean (Timetable texts) asks = let t = taken asks.taken in ends-unread (Timetable texts) t.0 t.1
  ends-fault taken clean (Merge texts) asks = let t = taken asks.taken in ends-unread (Merge texts) t.0 t.1
