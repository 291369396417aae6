-- What the lines of a file of requests ask for, line after line.
use Rattle.std.proofs.Common.{◌≡◌, ◌∙◌, ℕ, ◌+◌, ◌<◌, ◌≤◌, ◌==◌, Bool, true, false, not, List, ◌∷◌, length, map, drop, Option, Some, None, Result, Ok, Err, refl, sym, ap, get_or}
use Rattle.std.specs.Borrow.{Bor}
use Rattle.std.specs.Prelude.{int_lt, is_some, if◌then◌else◌}
use Rattle.std.proofs.lemmas.Bool.{eqb-true}
use Rattle.std.proofs.lemmas.List.{drop_all, drop_more, nil_from_length}
use Rattle.gtfs_rows.specs.Content.{Content}
use Rattle.gtfs_rows.specs.Departures.{Origins}
use Rattle.gtfs_board.specs.Board.{is_stop}
use Rattle.gtfs_times.specs.declared.times.Times.{Times}
use Rattle.gtfs_cli.specs.BoardsRequests.{all_or_first, fault_in, judged, numbered_from, onto_all, requests_in, stop_request, StopRequest}
use Rattle.gtfs_cli.specs.BoardOptions.{instant_at}
use Rattle.gtfs_cli.specs.declared.commands.boards.request_fault.RequestFault.{RequestFault}
use Rattle.gtfs_cli.specs.declared.commands.boards.request_fault.RequestFault.TheVariants.{UnknownStop, UntilBeforeFrom}

-- what a line asks for, and then the others
abbrev pub then_others : Result StopRequest RequestFault → Result (List StopRequest) RequestFault → Result (List StopRequest) RequestFault
then_others (Ok q) others = onto_all q others
then_others (Err fault) others = Err fault

first_of : (j : Result StopRequest RequestFault) (rest : List (Result StopRequest RequestFault)) → all_or_first (j ∷ rest) ≡ then_others j (all_or_first rest)
first_of (Ok q) rest = refl
first_of (Err fault) rest = refl

fault_onto : (q : StopRequest) (others : Result (List StopRequest) RequestFault) → fault_in (onto_all q others) ≡ fault_in others
fault_onto q (Ok qs) = refl
fault_onto q (Err fault) = refl

fault_here : (j : Result StopRequest RequestFault) (others : Result (List StopRequest) RequestFault) → is_some (fault_in j) ≡ true
    → fault_in (then_others j others) ≡ fault_in j
fault_here (Ok q) others some = cc
fault_here (Err fault) others some = refl

fault_later : (j : Result StopRequest RequestFault) (others : Result (List StopRequest) RequestFault) → is_some (fault_in j) ≡ false
    → fault_in (then_others j others) ≡ fault_in others
fault_later (Ok q) others none = fault_onto q others
fault_later (Err fault) others none = cc

-- where nothing is the matter all are there
pub accepted : {A : Type 0} (r : Result A RequestFault) → fault_in r ≡ None → (x : A) × (r ≡ Ok x)
accepted (Ok x) none = (x, refl)
accepted (Err fault) none = cc

pub refused_by : {A : Type 0} (r : Result A RequestFault) (fault : RequestFault) → Some fault ≡ fault_in r → r ≡ Err fault
refused_by (Ok x) fault is = cc
refused_by (Err other) fault is =
    let same : fault ≡ other = cc in
    ap (λ (e : RequestFault). Err e) (sym same)

-- the first of several that are there
record First (j : Result StopRequest RequestFault) (rest : Result (List StopRequest) RequestFault) (qs : List StopRequest) : Type 0 where
  pub first : StopRequest
  pub others : List StopRequest
  pub is_first : j ≡ Ok first
  pub are_others : rest ≡ Ok others
  pub are : qs ≡ first ∷ others

first_there : (j : Result StopRequest RequestFault) (rest : Result (List StopRequest) RequestFault) (qs : List StopRequest) → then_others j rest ≡ Ok qs → First j rest qs
first_there (Ok q) (Ok more) qs is =
    let same : q ∷ more ≡ qs = cc in
    record { first = q; others = more; is_first = refl; are_others = refl; are = sym same }
first_there (Ok q) (Err fault) qs is = cc
first_there (Err fault) rest qs is = cc

module _ (f : Content) (origin : Origins) (times : Times) where
  -- what lines ask for, of which the first has this number
  abbrev pub asked_from : ℕ → List (List ℕ) → Result (List StopRequest) RequestFault
  asked_from n ls = requests_in f origin times (numbered_from n ls)

  pub past_empty : (n : ℕ) (l : List ℕ) (ls : List (List ℕ)) → (length l == 0) ≡ true → asked_from n (l ∷ ls) ≡ asked_from (n + 1) ls
  past_empty n l ls empty = rw empty refl

  pub past_line : (n : ℕ) (l : List ℕ) (ls : List (List ℕ)) → (length l == 0) ≡ false
      → asked_from n (l ∷ ls) ≡ then_others (judged f origin n (stop_request times l)) (asked_from (n + 1) ls)
  past_line n l ls some =
      rw some (first_of (judged f origin n (stop_request times l)) (map (λ x. judged f origin x.0 (stop_request times x.1)) (numbered_from (n + 1) ls)))

  -- ---- the first fault, over lines that are lent

  abbrev pub fault_from : ℕ → List (Bor (List ℕ)) → Option RequestFault
  fault_from n xs = fault_in (asked_from n (map (λ x. x.now) xs))

  module _ (xs : List (Bor (List ℕ))) (i : ℕ) (d : Bor (List ℕ)) (inside : i < length xs) where
    abbrev line : List ℕ
    line = (get_or xs i d).now

    abbrev below : List (List ℕ)
    below = map (λ y. y.now) (drop (i + 1) xs)

    at_line : (n : ℕ) → fault_from n (drop i xs) ≡ fault_in (asked_from n (line ∷ below))
    at_line n = ap (fault_from n) (drop_more xs i d inside)

    pub fault_past_empty : (n : ℕ) → (length line == 0) ≡ true → fault_from n (drop i xs) ≡ fault_from (n + 1) (drop (i + 1) xs)
    fault_past_empty n empty = at_line n ∙ ap fault_in (past_empty n line below empty)

    module _ (n : ℕ) (some : (length line == 0) ≡ false) (fault : Option RequestFault) (told : fault ≡ fault_in (judged f origin n (stop_request times line))) where
      pub fault_past : is_some fault ≡ false → fault_from n (drop i xs) ≡ fault_from (n + 1) (drop (i + 1) xs)
      fault_past none =
          at_line n ∙ ap fault_in (past_line n line below some)
          ∙ fault_later (judged f origin n (stop_request times line)) (asked_from (n + 1) below) (ap is_some (sym told) ∙ none)

      pub fault_at : is_some fault ≡ true → fault ≡ fault_from n (drop i xs)
      fault_at there =
          told ∙ sym (at_line n ∙ ap fault_in (past_line n line below some)
          ∙ fault_here (judged f origin n (stop_request times line)) (asked_from (n + 1) below) (ap is_some (sym told) ∙ there))

  -- no line is left
  pub no_fault_left : (xs : List (Bor (List ℕ))) (i n : ℕ) → length xs ≤ i → fault_from n (drop i xs) ≡ None
  no_fault_left xs i n end = ap (fault_from n) (drop_all i xs end)

  -- ---- lines that were judged

  judged_same : (n : ℕ) (q r : StopRequest) → judged f origin n (Some q) ≡ Ok r → q ≡ r
  judged_same n q r = go (is_stop f q.texts.stop) (int_lt (instant_at origin q.values.until) (instant_at origin q.values.from))
    where
      go : (known before : Bool) → (if not known then Err (UnknownStop n) else if before then Err (UntilBeforeFrom n) else Ok q) ≡ Ok r → q ≡ r
      go false before is = cc
      go true true is = cc
      go true false is = cc

  nothing_asked : (l : List ℕ) → (length l == 0) ≡ true → stop_request times l ≡ None
  nothing_asked l empty = ap (stop_request times) (nil_from_length l (eqb-true (length l) 0 empty))

  -- a line that asks for nothing is empty
  pub judged_none : (n : ℕ) (l : List ℕ) (ls : List (List ℕ)) (qs : List StopRequest) → None ≡ stop_request times l → asked_from n (l ∷ ls) ≡ Ok qs
      → asked_from (n + 1) ls ≡ Ok qs
  judged_none n l ls qs none is = go (length l == 0) refl
    where
      go : (b : Bool) → (length l == 0) ≡ b → asked_from (n + 1) ls ≡ Ok qs
      go true empty = sym (past_empty n l ls empty) ∙ is
      go false some =
          let first = first_there (judged f origin n (stop_request times l)) (asked_from (n + 1) ls) qs (sym (past_line n l ls some) ∙ is) in
          let bad : judged f origin n None ≡ Ok first.first = ap (judged f origin n) none ∙ first.is_first in
          cc bad

  -- a line that asks for something, and those below it
  pub record Judged (n : ℕ) (ls : List (List ℕ)) (q : StopRequest) (qs : List StopRequest) : Type 0 where
    pub others : List StopRequest
    pub are_others : asked_from (n + 1) ls ≡ Ok others
    pub are : qs ≡ q ∷ others

  pub judged_some : (n : ℕ) (l : List ℕ) (ls : List (List ℕ)) (q : StopRequest) (qs : List StopRequest) → Some q ≡ stop_request times l → asked_from n (l ∷ ls) ≡ Ok qs
      → Judged n ls q qs
  judged_some n l ls q qs asks is = go (length l == 0) refl
    where
      go : (b : Bool) → (length l == 0) ≡ b → Judged n ls q qs
      go true empty = cc (asks ∙ nothing_asked l empty)
      go false some =
          let first = first_there (judged f origin n (stop_request times l)) (asked_from (n + 1) ls) qs (sym (past_line n l ls some) ∙ is) in
          let same = judged_same n q first.first (ap (judged f origin n) asks ∙ first.is_first) in
          record { others = first.others; are_others = first.are_others; are = first.are ∙ ap (λ (r : StopRequest). r ∷ first.others) (sym same) }
