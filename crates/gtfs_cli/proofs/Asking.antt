-- What a line asks for.
use Rattle.std.proofs.Common.{◌≡◌, ◌∙◌, ◌≢◌, ap, sym, refl, true, false, ℕ, ◌+◌, List, [], ◌∷◌, ◌++◌, drop, length, get_or, Option, None, Some, codes, arith}
use Rattle.std.specs.Borrow.{Bor}
use Rattle.std.specs.Prelude.{is_some, MatchOption}
use Rattle.std.specs.List.{slice_get}
use Rattle.std.specs.Option.{option_and_then}
use Rattle.std.specs.Str.Pattern.{FindsTextPrefix}
use Rattle.std.proofs.lemmas.Option.{same_Some}
use Rattle.gtfs_times.specs.declared.times.Times.{Times}
use Rattle.gtfs_cli.specs.ServeQuestions.{route_request, route_texts_in, AsksFor, Board, Question, RouteRequest, Timetable}
use Rattle.gtfs_cli.specs.BoardsRequests.{stop_request, text_if_any, StopRequest}

-- what stands behind a text at the beginning of another
pub strip-text : (n s : List ℕ) (r : Option (Bor (List ℕ)))
    → MatchOption r (FindsTextPrefix n s None) (λ x. (k : ℕ) × FindsTextPrefix n s (Some k) × (x.now ≡ drop k s) × (length x.now + k ≡ length s))
    → MatchOption r ((rest : List ℕ) → s ≢ n ++ rest) (λ x. s ≡ n ++ x.now)
strip-text n s None h = h
strip-text n s (Some x) h = h.1.1 ∙ ap (λ (t : List ℕ). n ++ t) (sym h.2)

-- ---- nothing is asked for

-- the line has neither word
pub no-word : (times : Times) (line : List ℕ) → ((fields : List ℕ) → line ≢ codes "board" ++ 9 ∷ fields) → ((fields : List ℕ) → line ≢ codes "timetable" ++ 9 ∷ fields)
    → (q : Question) → AsksFor times line q → ⊥
no-word times line board timetable (Board q) asks = board asks.0 asks.1
no-word times line board timetable (Timetable r) asks = timetable asks.0 asks.1

-- the words begin with other letters
other-word : (x y : List ℕ) → codes "board" ++ 9 ∷ x ≡ codes "timetable" ++ 9 ∷ y → ⊥
other-word x y is = let first : 98 ≡ 116 = ap (λ (l : List ℕ). get_or l 0 0) is in omega (arith, first)

-- its fields ask for nothing
pub no-board : (times : Times) (line fields : List ℕ) → line ≡ codes "board" ++ 9 ∷ fields → stop_request times fields ≡ None → (q : Question) → AsksFor times line q → ⊥
no-board times line fields is none (Board q) asks =
    let same : fields ≡ asks.0 = ap (λ (l : List ℕ). drop 6 l) (sym is ∙ asks.1) in
    let both : None ≡ Some q = sym none ∙ ap (stop_request times) same ∙ asks.2 in
    cc both
no-board times line fields is none (Timetable r) asks = other-word fields asks.0 (sym is ∙ asks.1)

pub no-timetable : (times : Times) (line fields : List ℕ) → line ≡ codes "timetable" ++ 9 ∷ fields → route_request times fields ≡ None → (q : Question) → AsksFor times line q → ⊥
no-timetable times line fields is none (Board q) asks = other-word asks.0 fields (sym asks.1 ∙ is)
no-timetable times line fields is none (Timetable r) asks =
    let same : fields ≡ asks.0 = ap (λ (l : List ℕ). drop 10 l) (sym is ∙ asks.1) in
    let both : None ≡ Some r = sym none ∙ ap (route_request times) same ∙ asks.2 in
    cc both

-- a line asks for one thing
pub one-question : (times : Times) (line : List ℕ) (p q : Question) → AsksFor times line p → AsksFor times line q → p ≡ q
one-question times line (Board p) (Board q) a b =
    let same : a.0 ≡ b.0 = ap (λ (l : List ℕ). drop 6 l) (sym a.1 ∙ b.1) in
    ap (λ (r : StopRequest). Board r) (same_Some p q (sym a.2 ∙ ap (stop_request times) same ∙ b.2))
one-question times line (Board p) (Timetable q) a b = absurd (other-word a.0 b.0 (sym a.1 ∙ b.1))
one-question times line (Timetable p) (Board q) a b = absurd (other-word b.0 a.0 (sym b.1 ∙ a.1))
one-question times line (Timetable p) (Timetable q) a b =
    let same : a.0 ≡ b.0 = ap (λ (l : List ℕ). drop 10 l) (sym a.1 ∙ b.1) in
    ap (λ (r : RouteRequest). Timetable r) (same_Some p q (sym a.2 ∙ ap (route_request times) same ∙ b.2))

-- ---- the texts of a timetable by the fields of its line

pub too_many_of_route : (fs : List (List ℕ)) → is_some (slice_get fs 3) ≡ true → None ≡ route_texts_in fs
too_many_of_route [] more = refl
too_many_of_route (a ∷ []) more = refl
too_many_of_route (a ∷ b ∷ []) more = cc
too_many_of_route (a ∷ b ∷ c ∷ []) more = cc
too_many_of_route (a ∷ b ∷ c ∷ d ∷ rest) more = refl

pub are_route_texts : (fs : List (List ℕ)) (route date : List ℕ) (direction : Option (List ℕ)) → is_some (slice_get fs 3) ≡ false
    → slice_get fs 0 ≡ Some route → slice_get fs 1 ≡ Some date → direction ≡ option_and_then text_if_any (slice_get fs 2)
    → Some (record { route = route; date = date; direction = direction }) ≡ route_texts_in fs
are_route_texts [] route date direction few one two three = cc
are_route_texts (a ∷ []) route date direction few one two three = cc
are_route_texts (a ∷ b ∷ []) route date direction few one two three =
    λ i. Some (record { route = same_Some route a (sym one) i; date = same_Some date b (sym two) i; direction = three i })
are_route_texts (a ∷ b ∷ c ∷ []) route date direction few one two three =
    λ i. Some (record { route = same_Some route a (sym one) i; date = same_Some date b (sym two) i; direction = three i })
are_route_texts (a ∷ b ∷ c ∷ d ∷ rest) route date direction few one two three = cc
