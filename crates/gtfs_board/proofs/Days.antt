use Rattle.std.proofs.Common.{◌≡◌, ℕ, suc, ◌+◌, List, [], ◌∷◌, ◌++◌, map, Option, Some, None, refl, sym, ◌∙◌, ap, arith, find, append_assoc}
use Rattle.std.specs.Prelude.{ℤ}
use Rattle.std.specs.List.{filter_map, cons_option, range_with_len, fold}
use Rattle.std.specs.Int.{int_min}
use Rattle.std.specs.Option.{option_to_list}
use Rattle.std.proofs.lemmas.List.Elements.{filter_map-append}
use Rattle.std.proofs.lemmas.List.Sums.{fold-append}
use Rattle.std.proofs.lemmas.List.{map-append}
use Rattle.gtfs_field.proofs.ListFacts.{range-push}
use Rattle.gtfs_board.specs.declared.upcoming.candidate.Candidate.{Candidate}
use Rattle.gtfs_board.specs.upcoming.OpenedLanes.{Events}
use Rattle.gtfs_board.specs.upcoming.Candidates.{candidate_lt, heads_on, least_from}

pub heads_on-none : (events : Events Candidate) (floor : Candidate) (day : ℤ) → heads_on events floor day 0 ≡ []
unfolding heads_on
heads_on-none events floor day = refl

pub heads_on-more : (events : Events Candidate) (floor : Candidate) (day : ℤ) (n : ℕ)
    → heads_on events floor day (n + 1) ≡ heads_on events floor day n ++ option_to_list (find (candidate_lt floor) (events n day))
unfolding heads_on
heads_on-more events floor day n =
    let h : ℕ → Option Candidate = λ i. find (candidate_lt floor) (events i day) in
    let one : (o : Option Candidate) → cons_option o [] ≡ option_to_list o = elim [ None ↦ refl | Some x ↦ refl ] in
    let next : n + 1 ≡ suc n = omega arith in
    ap (λ k. filter_map h (range_with_len 0 k)) next ∙ ap (filter_map h) (range-push 0 n)
    ∙ filter_map-append h (range_with_len 0 n) ((0 + n) ∷ [])
    ∙ ap (λ k. filter_map h (range_with_len 0 n) ++ cons_option (h k) []) (omega arith)
    ∙ ap (λ k. filter_map h (range_with_len 0 n) ++ k) (one (h n))

pub least_from-none : (mark : ℤ) → least_from mark [] ≡ mark
unfolding least_from
least_from-none mark = refl

pub least_from-append : (mark : ℤ) (xs ys : List Candidate) → least_from mark (xs ++ ys) ≡ least_from (least_from mark xs) ys
unfolding least_from
least_from-append mark xs ys = ap (fold int_min mark) (map-append (λ c. c.instant) xs ys) ∙ fold-append int_min mark (map (λ c. c.instant) xs) (map (λ c. c.instant) ys)

pub least_from-one : (mark : ℤ) (c : Candidate) → least_from mark (c ∷ []) ≡ int_min mark c.instant
unfolding least_from
least_from-one mark c = refl

pub opened_more : (events : Events Candidate) (floor : Candidate) (day : ℤ) (n : ℕ) (before mid after : List Candidate) (head : Option Candidate)
    → after ≡ mid ++ option_to_list head → mid ≡ before ++ heads_on events floor day n → head ≡ find (candidate_lt floor) (events n day)
    → after ≡ before ++ heads_on events floor day (n + 1)
opened_more events floor day n before mid after head step so_far is =
    rw (heads_on-more events floor day n, step, so_far, is) (append_assoc before (heads_on events floor day n) (option_to_list (find (candidate_lt floor) (events n day))))

pub least_more : (events : Events Candidate) (floor : Candidate) (day : ℤ) (n : ℕ) (before mid after : ℤ) (head : Option Candidate)
    → after ≡ least_from mid (option_to_list head) → mid ≡ least_from before (heads_on events floor day n) → head ≡ find (candidate_lt floor) (events n day)
    → after ≡ least_from before (heads_on events floor day (n + 1))
least_more events floor day n before mid after head step so_far is =
    step ∙ ap (λ m. least_from m (option_to_list head)) so_far ∙ ap (λ h. least_from (least_from before (heads_on events floor day n)) (option_to_list h)) is
    ∙ sym (least_from-append before (heads_on events floor day n) (option_to_list (find (candidate_lt floor) (events n day)))) ∙ ap (least_from before) (sym (heads_on-more events floor day n))
