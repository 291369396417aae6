-- A conversation over an input and an output: lines are asked for one by one, and each is answered before the next is asked for.
-- Where the lines of an input or what went out are not known, as of a terminal, nothing is said of them.
use Rattle.std.specs.Prelude.{ℕ, ◌+◌, ◌≡◌, ◌⊎◌, ⊤, Bool, true, false, List, [], ◌∷◌, ◌++◌, length, map, take, Option, Some, IfSome}
use Rattle.gtfs_devices.specs.Device.{counted}
use Rattle.gtfs_conversation.specs.declared.conversation.ConversationFault.{ConversationFault}
use Rattle.gtfs_conversation.specs.declared.conversation.ConversationFault.TheVariants.{Input, Output}

-- ---- the input

-- an input: the lines that will be heard from here on; how many bytes had gone out each time that a line was asked for; how often it failed
pub record Hearing : Type 0 where
  pub waiting : Option (List (List ℕ))
  pub asked : Option (List ℕ)
  pub failures : ℕ

-- a line was heard, which is the first of those that waited, or none waited
abbrev pub Hears : Bool → List (List ℕ) → List ℕ → Option (List (List ℕ)) → Type 0
Hears true lines line waiting = (rest : List (List ℕ)) × (lines ≡ line ∷ rest) × (waiting ≡ Some rest)
Hears false lines line waiting = (lines ≡ []) × (waiting ≡ Some [])

-- ---- lines and their answers

-- a line that was heard, and its answer, which went out before the next line was asked for
pub record Exchange : Type 0 where
  pub line : List ℕ
  pub answer : List ℕ

abbrev pub lines_of : List Exchange → List (List ℕ)
lines_of es = map (λ e. e.line) es

-- each has an answer of its line
abbrev pub AreAnswered : (List ℕ → List ℕ → Type 0) → List Exchange → Type 0
AreAnswered IsAnswer [] = ⊤
AreAnswered IsAnswer (e ∷ es) = IsAnswer e.line e.answer × AreAnswered IsAnswer es

-- all answers, one after another
abbrev pub said : List Exchange → List ℕ
said [] = []
said (e ∷ es) = e.answer ++ said es

-- ---- the order

-- how many bytes had gone out when each of these lines was asked for, where so many bytes had gone out before the first
abbrev pub askings : List Exchange → ℕ → List ℕ
askings [] before = []
askings (e ∷ es) before = before ∷ askings es (before + length e.answer)

-- the same, and how many had gone out when one more line was asked for
abbrev pub askings_and_one : List Exchange → ℕ → List ℕ
askings_and_one es before = askings es before ++ (before + length (said es)) ∷ []

-- a line was asked for when this had gone out
abbrev pub Asks : Option (List ℕ) → Option (List ℕ) → Option (List ℕ) → Type 0
Asks told before after = IfSome told (λ text. IfSome before (λ asked. after ≡ Some (asked ++ length text ∷ [])))

-- lines were asked for when so many bytes had gone out, where this had gone out before
abbrev pub AsksAt : Option (List ℕ) → Hearing → Hearing → (ℕ → List ℕ) → Type 0
AsksAt told before after counts = IfSome told (λ text. IfSome before.asked (λ asked. after.asked ≡ Some (asked ++ counts (length text))))

-- these lines were the first that waited
abbrev pub HeardFirst : Hearing → List (List ℕ) → Type 0
HeardFirst before heard = IfSome before.waiting (λ lines. (left : List (List ℕ)) × (lines ≡ heard ++ left))

-- ---- how a conversation ends

-- how many lines are heard at most
abbrev pub most_lines : ℕ
most_lines = 18_446_744_073_709_551_615

-- all lines that waited were heard, of more than can be heard the first
abbrev pub HeardAll : Hearing → List (List ℕ) → Type 0
HeardAll before heard = IfSome before.waiting (λ lines. heard ≡ take most_lines lines)

-- one more line was asked for after the last answer, or as many were heard as can be
abbrev pub AsksToEnd : Option (List ℕ) → Hearing → Hearing → List Exchange → Type 0
AsksToEnd told before after es = AsksAt told before after (askings_and_one es) ⊎ ((length es ≡ most_lines) × AsksAt told before after (askings es))

-- all lines were heard and answered, one after another, and this text went out; the first argument says which text answers a line, and the
-- second what had gone out before
pub record AnswersAll (IsAnswer : List ℕ → List ℕ → Type 0) (told : Option (List ℕ)) (before after : Hearing) (text : List ℕ) : Type 0 where
  pub es : List Exchange
  pub answered : AreAnswered IsAnswer es
  pub heard : HeardAll before (lines_of es)
  pub asked : AsksToEnd told before after es
  pub out : text ≡ said es
  pub no_failure : after.failures ≡ before.failures

-- the input failed where one more line was to be heard after these, or before it asked for that line
abbrev pub FailsToHear : Option (List ℕ) → Hearing → Hearing → List Exchange → List ℕ → Type 0
FailsToHear told before after es part = (part ≡ []) × HeardFirst before (lines_of es)
    × (AsksAt told before after (askings_and_one es) ⊎ AsksAt told before after (askings es)) × (after.failures ≡ counted before.failures)

-- the output failed after these answers, where nothing was asked for since, or in the answer of the next line, of which a part went out
abbrev pub FailsToSay : (List ℕ → List ℕ → Type 0) → Option (List ℕ) → Hearing → Hearing → List Exchange → List ℕ → Type 0
FailsToSay IsPart told before after es part =
    ((part ≡ []) × HeardFirst before (lines_of es) × AsksAt told before after (askings es) × (after.failures ≡ before.failures))
    ⊎ ((line : List ℕ) × IsPart line part × HeardFirst before (lines_of es ++ line ∷ [])
    × AsksAt told before after (askings_and_one es) × (after.failures ≡ before.failures))

-- how it failed
abbrev pub FailsSo : (List ℕ → List ℕ → Type 0) → Option (List ℕ) → Hearing → Hearing → List Exchange → List ℕ → ConversationFault → Type 0
FailsSo IsPart told before after es part Input = FailsToHear told before after es part
FailsSo IsPart told before after es part Output = FailsToSay IsPart told before after es part

-- the first lines were heard and answered, one after another, and then a device failed; this text went out
pub record AnswersSome (IsAnswer IsPart : List ℕ → List ℕ → Type 0) (told : Option (List ℕ))
    (before after : Hearing) (fault : ConversationFault) (text : List ℕ) : Type 0 where
  pub es : List Exchange
  pub part : List ℕ
  pub answered : AreAnswered IsAnswer es
  pub fails : FailsSo IsPart told before after es part fault
  pub out : text ≡ said es ++ part

-- how often the output failed: once where it is to blame
abbrev pub CountsSo : ℕ → ℕ → ConversationFault → Type 0
CountsSo before after Input = after ≡ before
CountsSo before after Output = after ≡ counted before
