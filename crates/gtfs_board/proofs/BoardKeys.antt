-- The keys of the candidates that are left are the board.
use Rattle.std.proofs.Common.{◌≡◌, ◌<◌, ℕ, ℤ, ◌&&◌, Bool, true, List, [], ◌∷◌, map, length, Option, refl, sym, ap, ◌∙◌, inl, inr, arith}
use Rattle.std.proofs.lemmas.Bool.{and_from, and_parts, or_cases, or_left, or_right}
use Rattle.std.proofs.lemmas.List.Elements.{All-from_recursion}
use Rattle.std.proofs.lemmas.List.Kept.{AllPairs-cons}
use Rattle.std.specs.Cmp.{tied_itself}
use Rattle.std.specs.List.{AllByRecursion, AllPairs, filter}
use Rattle.std.specs.Ordering.{is_eq}
use Rattle.std.specs.declared.cmp.Ordering.TheVariants.{Less}
use Rattle.gtfs_field.proofs.OrderingFacts.{equal}
use Rattle.gtfs_rows.proofs.SameElements.{pairs-map}
use Rattle.gtfs_rows.specs.Content.{Content}
use Rattle.gtfs_rows.specs.TransferOrder.{Ascends}
use Rattle.gtfs_field.specs.TextOrder.{text_cmp}
use Rattle.gtfs_schema.proofs.BoolFacts.{same_test as same_tests}
use Rattle.gtfs_board.specs.CandidateKeys.{key_among}
use Rattle.gtfs_rows.specs.Departures.{IsBoard, Origins, is_listed, is_member}
use Rattle.gtfs_rows.specs.Key.{Key, key_cmp}
use Rattle.gtfs_board.specs.declared.upcoming.candidate.Candidate.{Candidate}
use Rattle.gtfs_board.specs.upcoming.Candidates.{candidate_lt}
use Rattle.gtfs_board.specs.upcoming.OpenedLanes.{rest_of}
use Rattle.gtfs_board.specs.upcoming.QueueOrder.{Each, In, AscendsBy}
use Rattle.gtfs_board.proofs.CandidateKeys.{key_rises}
use Rattle.gtfs_board.proofs.Candidates.{candidates_strict}
use Rattle.gtfs_board.proofs.KeyOrder.{key_cmp_total, key_cmp-IsAntisymmetric}
use Rattle.gtfs_board.proofs.Orders.{Each-in}
use Rattle.gtfs_board.proofs.Rests.{ascending-in_order, filter-in, in-filter, in-in_order, in_order-in}
use Rattle.gtfs_board.proofs.Window.{each_in}

-- candidates, each with a key of its own, that stand for the keys that pass a test
pub record StandFor (ids : List (List ℕ)) (belongs : Key → Bool) (all : List Candidate) : Type 0 where
  pub numbered : (c : Candidate) → In c all → c.trip < length ids
  pub distinct : (c d : Candidate) → In c all → In d all → key_among ids c ≡ key_among ids d → c ≡ d
  pub sound : (c : Candidate) → In c all → belongs (key_among ids c) ≡ true
  pub whole : (k : Key) → belongs k ≡ true → (c : Candidate) × (In c all × (key_among ids c ≡ k))

-- ---- ascending

recursion-from_each : {C : Type 0} (P : C → Type 0) (xs : List C) → Each P xs → AllByRecursion P xs
recursion-from_each P [] h = tt
recursion-from_each P (x ∷ xs) h = (h.0, recursion-from_each P xs h.1)

abbrev RisesAmong : List (List ℕ) → Candidate → Candidate → Type 0
RisesAmong ids c d = key_cmp (key_among ids c) (key_among ids d) ≡ Less

rising : (ids : List (List ℕ)) (xs : List Candidate) → AscendsBy candidate_lt xs
    → ((c d : Candidate) → In c xs → In d xs → candidate_lt c d ≡ true → RisesAmong ids c d) → AllPairs (RisesAmong ids) xs
rising ids [] a up = λ i j d less inside. absurd (omega arith)
rising ids (x ∷ xs) a up =
    AllPairs-cons (RisesAmong ids) x xs
    (All-from_recursion (RisesAmong ids x) xs (recursion-from_each (RisesAmong ids x) xs (each_in (RisesAmong ids x) xs (λ y there.
    up x y (inl refl) (inr there) (Each-in (λ z. candidate_lt x z ≡ true) xs y a.0 there)))))
    (rising ids xs a.1 (λ c d i j. up c d (inr i) (inr j)))

not_below_itself : (c : Candidate) → candidate_lt c c ≡ true → ⊥
not_below_itself c h = cc (sym (candidates_strict.irrefl c) ∙ h)

-- ---- members

member-in : (ids : List (List ℕ)) (k : Key) (cs : List Candidate) → is_member k (map (key_among ids) cs) ≡ true → (c : Candidate) × (In c cs × (key_among ids c ≡ k))
member-in ids k [] h = cc h
member-in ids k (c ∷ cs) h = elim (or_cases (is_eq (key_cmp k (key_among ids c))) (is_member k (map (key_among ids) cs)) h) [
  | inl here ↦ (c, (inl refl, sym (key_cmp-IsAntisymmetric k (key_among ids c) (equal _ here))))
  | inr later ↦ let r = member-in ids k cs later in (r.0, (inr r.1.0, r.1.1))
]

pub in-member : (ids : List (List ℕ)) (k : Key) (cs : List Candidate) (c : Candidate) → In c cs → key_among ids c ≡ k → is_member k (map (key_among ids) cs) ≡ true
in-member ids k [] c there is = absurd there
in-member ids k (d ∷ cs) c there is = elim there [
  | inl e ↦
      let same : key_among ids d ≡ k = sym (ap (key_among ids) e) ∙ is in
      let ties : is_eq (key_cmp k (key_among ids d)) ≡ true = ap (λ (x : Key). is_eq (key_cmp k x)) same ∙ ap is_eq (tied_itself key_cmp_total k) in
      or_left (is_eq (key_cmp k (key_among ids d))) (is_member k (map (key_among ids) cs)) ties
  | inr later ↦ or_right (is_eq (key_cmp k (key_among ids d))) (is_member k (map (key_among ids) cs)) (in-member ids k cs c later is)
]

-- ---- the board

-- where candidates stand for the keys that belong on a board but for a test above, and the floor is that test, what is left
-- above the floor is the board
pub board-of : (f : Content) (origin : Origins) (s : List ℕ) (from until : ℤ) (after : Option Key) (ids : List (List ℕ)) (belongs above : Key → Bool) (all : List Candidate) (p : Candidate → Bool)
    → ((k : Key) → is_listed f origin s from until after k ≡ (belongs k && above k)) → Ascends text_cmp ids → StandFor ids belongs all
    → ((c : Candidate) → In c all → p c ≡ above (key_among ids c))
    → IsBoard f origin s from until after (map (key_among ids) (rest_of candidate_lt all p))
board-of f origin s from until after ids belongs above all p listed up stand floor =
    let rest = rest_of candidate_lt all p in
    let inside : (c : Candidate) → In c rest → In c all × (p c ≡ true) = λ c there. filter-in p all c (in_order-in candidates_strict (filter p all) c there) in
    record {
      ascending = pairs-map (key_among ids) (λ x y. key_cmp x y ≡ Less) rest
          (rising ids rest (ascending-in_order candidates_strict (filter p all)) (λ c d in_c in_d less.
          let c_all = (inside c in_c).0 in
          let d_all = (inside d in_d).0 in
          key_rises ids c d up (stand.numbered c c_all) (stand.numbered d d_all)
          (λ same. let one = stand.distinct c d c_all d_all same in not_below_itself d (ap (λ (x : Candidate). candidate_lt x d) (sym one) ∙ less)) less));
      members = λ k. same_tests (is_member k (map (key_among ids) rest)) (is_listed f origin s from until after k)
          (λ there.
          let m = member-in ids k rest there in
          let within = inside m.0 m.1.0 in
          let belong : belongs k ≡ true = ap belongs (sym m.1.1) ∙ stand.sound m.0 within.0 in
          let passes : above k ≡ true = ap above (sym m.1.1) ∙ sym (floor m.0 within.0) ∙ within.1 in
          listed k ∙ and_from (belongs k) (above k) belong passes)
          (λ on.
          let both = and_parts (belongs k) (above k) (sym (listed k) ∙ on) in
          let m = stand.whole k both.0 in
          let passes : p m.0 ≡ true = floor m.0 m.1.0 ∙ ap above m.1.1 ∙ both.1 in
          in-member ids k rest m.0 (in-in_order candidates_strict (filter p all) m.0 (in-filter p all m.0 m.1.0 passes)) m.1.1);
    }
