-- Exchanges one after another, and the end of a conversation.
use Rattle.std.proofs.Common.{ℕ, ◌+◌, ◌≡◌, ◌≤◌, ◌⊎◌, inl, inr, Bool, true, false, List, [], ◌∷◌, ◌++◌, length, take, Option, Some, None, IfSome, refl, ap, sym, subst, ◌∙◌, append_assoc, length-append, arith}
use Rattle.std.specs.Io.KnownBytes.{Appends, Keeps}
use Rattle.std.proofs.KnownBytes.{Appends-kept, Appends-nil, Appends-trans}
use Rattle.std.proofs.lemmas.List.{append-nil, length-map, take_all}
use Rattle.gtfs_devices.specs.Device.{counted}
use Rattle.gtfs_conversation.specs.Conversation.{AnswersAll, AnswersSome, AreAnswered, Asks, AsksAt, Exchange, Hearing, Hears, askings, askings_and_one, lines_of, most_lines, said}
use Rattle.gtfs_conversation.specs.declared.conversation.ConversationFault.{ConversationFault}
use Rattle.gtfs_conversation.specs.declared.conversation.ConversationFault.TheVariants.{Input, Output}

-- ---- one more exchange

lines_more : (es : List Exchange) (e : Exchange) → lines_of (es ++ e ∷ []) ≡ lines_of es ++ e.line ∷ []
lines_more [] e = refl
lines_more (x ∷ es) e = ap (λ ls. x.line ∷ ls) (lines_more es e)

said_more : (es : List Exchange) (e : Exchange) → said (es ++ e ∷ []) ≡ said es ++ e.answer
said_more [] e = append-nil e.answer
said_more (x ∷ es) e = ap (λ t. x.answer ++ t) (said_more es e) ∙ sym (append_assoc x.answer (said es) e.answer)

askings_more : (es : List Exchange) (e : Exchange) (before : ℕ) → askings (es ++ e ∷ []) before ≡ askings_and_one es before
askings_more [] e before = ap (λ n. n ∷ []) (omega arith)
askings_more (x ∷ es) e before =
    let after : ℕ = before + length x.answer in
    let same : after + length (said es) ≡ before + length (x.answer ++ said es) = omega (arith, length-append x.answer (said es)) in
    ap (λ ns. before ∷ ns) (askings_more es e after ∙ ap (λ n. askings es after ++ n ∷ []) same)

answered_more : (P : List ℕ → List ℕ → Type 0) (es : List Exchange) (e : Exchange) → AreAnswered P es → P e.line e.answer
    → AreAnswered P (es ++ e ∷ [])
answered_more P [] e are is = (is, tt)
answered_more P (x ∷ es) e are is = (are.0, answered_more P es e are.1 is)

-- ---- what waits, and what was asked, after some lines

-- of the lines that waited these were heard, and the others wait
abbrev pub Leaves : Option (List (List ℕ)) → Option (List (List ℕ)) → List (List ℕ) → Type 0
Leaves waiting waiting_now heard = IfSome waiting (λ lines. (left : List (List ℕ)) × (lines ≡ heard ++ left) × (waiting_now ≡ Some left))

leaves_all : (waiting : Option (List (List ℕ))) → Leaves waiting waiting []
leaves_all None = tt
leaves_all (Some lines) = (lines, refl, refl)

hears_at : (waiting waiting_now : Option (List (List ℕ))) (left : List (List ℕ)) (more : Bool) (line : List ℕ) → waiting ≡ Some left
    → IfSome waiting (λ lines. Hears more lines line waiting_now) → Hears more left line waiting_now
hears_at None waiting_now left more line is h = absurd cc
hears_at (Some lines) waiting_now left more line is h = let same : lines ≡ left = cc is in subst (λ ls. Hears more ls line waiting_now) same h

leaves_more : (first waiting waiting_now : Option (List (List ℕ))) (heard : List (List ℕ)) (line : List ℕ) → Leaves first waiting heard
    → IfSome waiting (λ lines. Hears true lines line waiting_now) → Leaves first waiting_now (heard ++ line ∷ [])
leaves_more None waiting waiting_now heard line l h = tt
leaves_more (Some lines) waiting waiting_now heard line l h =
    let one : Hears true l.0 line waiting_now = hears_at waiting waiting_now l.0 true line l.2 h in
    (one.0, l.1 ∙ (ap (λ ls. heard ++ ls) one.1 ∙ sym (append_assoc heard (line ∷ []) one.0)), one.2)

heard_first : (first waiting : Option (List (List ℕ))) (heard : List (List ℕ)) → Leaves first waiting heard
    → IfSome first (λ lines. (left : List (List ℕ)) × (lines ≡ heard ++ left))
heard_first None waiting heard l = tt
heard_first (Some lines) waiting heard l = (l.0, l.1)

-- nothing is left, of no more than can be heard
heard_end : (most : ℕ) (first waiting waiting_now : Option (List (List ℕ))) (heard : List (List ℕ)) (line : List ℕ) → length heard ≤ most
    → Leaves first waiting heard
    → IfSome waiting (λ lines. Hears false lines line waiting_now) → IfSome first (λ lines. heard ≡ take most lines)
heard_end most None waiting waiting_now heard line few l h = tt
heard_end most (Some lines) waiting waiting_now heard line few l h =
    let none : Hears false l.0 line waiting_now = hears_at waiting waiting_now l.0 false line l.2 h in
    let whole : lines ≡ heard = l.1 ∙ (ap (λ ls. heard ++ ls) none.0 ∙ append-nil heard) in
    sym (ap (take most) whole ∙ take_all most heard few)

take_front : (heard left : List (List ℕ)) → take (length heard) (heard ++ left) ≡ heard
take_front [] [] = refl
take_front [] (l ∷ left) = refl
take_front (x ∷ heard) left = ap (λ ls. x ∷ ls) (take_front heard left)

-- as many were heard as can be
heard_most : (most : ℕ) (first waiting : Option (List (List ℕ))) (heard : List (List ℕ)) → length heard ≡ most → Leaves first waiting heard
    → IfSome first (λ lines. heard ≡ take most lines)
heard_most most None waiting heard is l = tt
heard_most most (Some lines) waiting heard is l =
    sym (ap (take most) l.1 ∙ ap (λ n. take n (heard ++ l.0)) (sym is) ∙ take_front heard l.0)

-- lines were asked for when so many bytes had gone out, where this had gone out before
abbrev pub AskedAt : Option (List ℕ) → Option (List ℕ) → Option (List ℕ) → (ℕ → List ℕ) → Type 0
AskedAt told asked asked_now counts = IfSome told (λ text. IfSome asked (λ before. asked_now ≡ Some (before ++ counts (length text))))

asked_none : (told asked : Option (List ℕ)) → AskedAt told asked asked (λ n. [])
asked_none None asked = tt
asked_none (Some text) None = tt
asked_none (Some text) (Some before) = ap (λ l. Some l) (sym (append-nil before))

asked_one : (text now before before_now counts : List ℕ) (asked_now : Option (List ℕ)) (out : List ℕ) → now ≡ text ++ out
    → before_now ≡ before ++ counts
    → asked_now ≡ Some (before_now ++ length now ∷ []) → asked_now ≡ Some (before ++ (counts ++ (length text + length out) ∷ []))
asked_one text now before before_now counts asked_now out is so asks =
    let long : length now ≡ length text + length out = ap (λ l. length l) is ∙ length-append text out in
    asks ∙ ap (λ l. Some l) (ap (λ l. l ++ length now ∷ []) so ∙ ap (λ n. (before ++ counts) ++ n ∷ []) long ∙ append_assoc before counts ((length text + length out) ∷ []))

-- one more was asked for, where this had gone out
asked_more : (told told_now asked asked_now asked_next : Option (List ℕ)) (es : List Exchange) → Appends told told_now (said es)
    → AskedAt told asked asked_now (askings es)
    → Asks told_now asked_now asked_next → AskedAt told asked asked_next (askings_and_one es)
asked_more None told_now asked asked_now asked_next es out at asks = tt
asked_more (Some text) None asked asked_now asked_next es out at asks = absurd out
asked_more (Some text) (Some now) None asked_now asked_next es out at asks = tt
asked_more (Some text) (Some now) (Some before) None asked_next es out at asks = absurd cc
asked_more (Some text) (Some now) (Some before) (Some before_now) asked_next es out at asks =
    let so : before_now ≡ before ++ askings es (length text) = cc at in
    asked_one text now before before_now (askings es (length text)) asked_next (said es) out so asks

-- ---- the steps of a conversation

-- so many lines were heard and answered, one after another, and this went out
pub record Answered (P : List ℕ → List ℕ → Type 0) (told : Option (List ℕ)) (before now : Hearing) (told_now : Option (List ℕ)) (count : ℕ) : Type 0 where
  pub es : List Exchange
  pub answered : AreAnswered P es
  pub many : length es ≡ count
  pub left : Leaves before.waiting now.waiting (lines_of es)
  pub asked : AsksAt told before now (askings es)
  pub out : Appends told told_now (said es)
  pub no_failure : now.failures ≡ before.failures

-- the same, and then one more line was heard
pub record HeardMore (P : List ℕ → List ℕ → Type 0) (told : Option (List ℕ)) (before now : Hearing) (told_now : Option (List ℕ)) (count : ℕ) (line : List ℕ) : Type 0 where
  pub es : List Exchange
  pub answered : AreAnswered P es
  pub many : length es ≡ count
  pub left : Leaves before.waiting now.waiting (lines_of es ++ line ∷ [])
  pub asked : AsksAt told before now (askings_and_one es)
  pub out : Appends told told_now (said es)
  pub no_failure : now.failures ≡ before.failures

pub begins : (P : List ℕ → List ℕ → Type 0) (told : Option (List ℕ)) (before : Hearing) → Answered P told before before told 0
begins P told before = record {
  es = [];
  answered = tt;
  many = refl;
  left = leaves_all before.waiting;
  asked = asked_none told before.asked;
  out = Appends-nil told;
  no_failure = refl;
}

-- what waited in a buffer was sent on
pub sends : (P : List ℕ → List ℕ → Type 0) (told : Option (List ℕ)) (before now next : Hearing) (told_now told_next : Option (List ℕ)) (count : ℕ)
    → Answered P told before now told_now count
    → Keeps told_now told_next → next.waiting ≡ now.waiting → next.asked ≡ now.asked → next.failures ≡ now.failures
    → Answered P told before next told_next count
sends P told before now next told_now told_next count a keeps waits asks fails = record {
  es = a.es;
  answered = a.answered;
  many = a.many;
  left = subst (λ w. Leaves before.waiting w (lines_of a.es)) (sym waits) a.left;
  asked = subst (λ q. AskedAt told before.asked q (askings a.es)) (sym asks) a.asked;
  out = Appends-kept told told_now told_next (said a.es) a.out keeps;
  no_failure = fails ∙ a.no_failure;
}

-- one more line was heard
pub hears : (P : List ℕ → List ℕ → Type 0) (told : Option (List ℕ)) (before now next : Hearing) (told_now : Option (List ℕ)) (count : ℕ) (more : Bool) (line : List ℕ)
    → Answered P told before now told_now count
    → more ≡ true → IfSome now.waiting (λ lines. Hears more lines line next.waiting) → Asks told_now now.asked next.asked
    → next.failures ≡ now.failures
    → HeardMore P told before next told_now count line
hears P told before now next told_now count more line a is one asks fails = record {
  es = a.es;
  answered = a.answered;
  many = a.many;
  left = leaves_more before.waiting now.waiting next.waiting (lines_of a.es) line a.left
      (subst (λ b. IfSome now.waiting (λ lines. Hears b lines line next.waiting)) is one);
  asked = asked_more told told_now before.asked now.asked next.asked a.es a.out a.asked asks;
  out = a.out;
  no_failure = fails ∙ a.no_failure;
}

asked_exchange : (told asked asked_now : Option (List ℕ)) (es : List Exchange) (e : Exchange) → AskedAt told asked asked_now (askings_and_one es)
    → AskedAt told asked asked_now (askings (es ++ e ∷ []))
asked_exchange None asked asked_now es e at = tt
asked_exchange (Some text) None asked_now es e at = tt
asked_exchange (Some text) (Some before) asked_now es e at = at ∙ ap (λ l. Some (before ++ l)) (sym (askings_more es e (length text)))

-- and answered
pub answers : (P : List ℕ → List ℕ → Type 0) (told : Option (List ℕ)) (before now : Hearing) (told_now told_next : Option (List ℕ)) (count : ℕ) (line shown text : List ℕ)
    → HeardMore P told before now told_now count line → shown ≡ line → P shown text → Appends told_now told_next text
    → Answered P told before now told_next (count + 1)
answers P told before now told_now told_next count line shown text h shows is appends =
    let e : Exchange = record { line = line; answer = text } in
    let so : P line text = subst (λ l. P l text) shows is in
    record {
      es = h.es ++ e ∷ [];
      answered = answered_more P h.es e h.answered so;
      many = length-append h.es (e ∷ []) ∙ ap (λ n. n + 1) h.many;
      left = subst (λ ls. Leaves before.waiting now.waiting ls) (sym (lines_more h.es e)) h.left;
      asked = asked_exchange told before.asked now.asked h.es e h.asked;
      out = subst (Appends told told_next) (sym (said_more h.es e)) (Appends-trans told told_now told_next (said h.es) text h.out appends);
      no_failure = h.no_failure;
    }

-- ---- how it ends

-- what was promised of a whole conversation, with the text that went out
abbrev pub WholeOf : (List ℕ → List ℕ → Type 0) → Option (List ℕ) → Option (List ℕ) → Hearing → Hearing → Type 0
WholeOf P told told_now before after = (text : List ℕ) × AnswersAll P told before after text × Appends told told_now text

-- and of one that a device ended
abbrev pub PartOf : (List ℕ → List ℕ → Type 0) → (List ℕ → List ℕ → Type 0) → Option (List ℕ) → Option (List ℕ) → Hearing → Hearing
    → ConversationFault → Type 0
PartOf P IsPart told told_now before after fault = (text : List ℕ) × AnswersSome P IsPart told before after fault text × Appends told told_now text

few_lines : (es : List Exchange) (count most : ℕ) → length es ≡ count → count ≤ most → length (lines_of es) ≤ most
few_lines es count most is le = let same : length (lines_of es) ≡ length es = length-map es (λ e. e.line) in omega (arith, is, le, same)

many_lines : (es : List Exchange) (most : ℕ) → length es ≡ most → length (lines_of es) ≡ most
many_lines es most is = length-map es (λ e. e.line) ∙ is

-- no line was left
pub ends : (P : List ℕ → List ℕ → Type 0) (told : Option (List ℕ)) (before now next : Hearing) (told_now : Option (List ℕ)) (count : ℕ) (more : Bool) (line : List ℕ)
    → Answered P told before now told_now count
    → count ≤ most_lines → more ≡ false → IfSome now.waiting (λ lines. Hears more lines line next.waiting) → Asks told_now now.asked next.asked
    → next.failures ≡ now.failures
    → WholeOf P told told_now before next
ends P told before now next told_now count more line a few is none asks fails = (
  said a.es,
  record {
    es = a.es;
    answered = a.answered;
    heard = heard_end most_lines before.waiting now.waiting next.waiting (lines_of a.es) line (few_lines a.es count most_lines a.many few) a.left
        (subst (λ b. IfSome now.waiting (λ lines. Hears b lines line next.waiting)) is none);
    asked = inl (asked_more told told_now before.asked now.asked next.asked a.es a.out a.asked asks);
    out = refl;
    no_failure = fails ∙ a.no_failure;
  },
  a.out,
)

-- as many lines were heard as can be
pub ends_at_most : (P : List ℕ → List ℕ → Type 0) (told : Option (List ℕ)) (before now : Hearing) (told_now : Option (List ℕ)) (count : ℕ)
    → Answered P told before now told_now count
    → count ≡ most_lines → WholeOf P told told_now before now
ends_at_most P told before now told_now count a is = (
  said a.es,
  record {
    es = a.es;
    answered = a.answered;
    heard = heard_most most_lines before.waiting now.waiting (lines_of a.es) (many_lines a.es most_lines (a.many ∙ is)) a.left;
    asked = inr (a.many ∙ is, a.asked);
    out = refl;
    no_failure = a.no_failure;
  },
  a.out,
)

-- what was said could not be sent on
pub stops_sending : (P IsPart : List ℕ → List ℕ → Type 0) (told : Option (List ℕ)) (before now : Hearing) (told_now : Option (List ℕ)) (count : ℕ)
    → Answered P told before now told_now count
    → PartOf P IsPart told told_now before now Output
stops_sending P IsPart told before now told_now count a = (
  said a.es,
  record {
    es = a.es;
    part = [];
    answered = a.answered;
    fails = inl (refl, heard_first before.waiting now.waiting (lines_of a.es) a.left, a.asked, a.no_failure);
    out = sym (append-nil (said a.es));
  },
  a.out,
)

asked_or_not : (told told_now asked asked_now asked_next : Option (List ℕ)) (es : List Exchange) → Appends told told_now (said es)
    → AskedAt told asked asked_now (askings es)
    → Asks told_now asked_now asked_next ⊎ (asked_next ≡ asked_now)
    → AskedAt told asked asked_next (askings_and_one es) ⊎ AskedAt told asked asked_next (askings es)
asked_or_not told told_now asked asked_now asked_next es out at (inl asks) = inl (asked_more told told_now asked asked_now asked_next es out at asks)
asked_or_not told told_now asked asked_now asked_next es out at (inr same) = inr (subst (λ q. AskedAt told asked q (askings es)) (sym same) at)

-- the next line could not be heard
pub stops_hearing : (P IsPart : List ℕ → List ℕ → Type 0) (told : Option (List ℕ)) (before now next : Hearing) (told_now : Option (List ℕ)) (count : ℕ)
    → Answered P told before now told_now count
    → Asks told_now now.asked next.asked ⊎ (next.asked ≡ now.asked) → next.failures ≡ counted now.failures
    → PartOf P IsPart told told_now before next Input
stops_hearing P IsPart told before now next told_now count a asks fails = (
  said a.es,
  record {
    es = a.es;
    part = [];
    answered = a.answered;
    fails = (refl, heard_first before.waiting now.waiting (lines_of a.es) a.left, asked_or_not told told_now before.asked now.asked next.asked a.es a.out a.asked asks, fails ∙ ap counted a.no_failure);
    out = sym (append-nil (said a.es));
  },
  a.out,
)

-- a part of the next answer went out
pub stops_saying : (P IsPart : List ℕ → List ℕ → Type 0) (told : Option (List ℕ)) (before now : Hearing) (told_now told_next : Option (List ℕ)) (count : ℕ) (line shown part : List ℕ)
    → HeardMore P told before now told_now count line → shown ≡ line → IsPart shown part → Appends told_now told_next part
    → PartOf P IsPart told told_next before now Output
stops_saying P IsPart told before now told_now told_next count line shown part h shows is appends = (
  said h.es ++ part,
  record {
    es = h.es;
    part = part;
    answered = h.answered;
    fails = inr (line, subst (λ l. IsPart l part) shows is, heard_first before.waiting now.waiting (lines_of h.es ++ line ∷ []) h.left, h.asked, h.no_failure);
    out = refl;
  },
  Appends-trans told told_now told_next (said h.es) part h.out appends,
)
