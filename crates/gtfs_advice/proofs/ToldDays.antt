-- What is told of days without service, where all days are known.
use Rattle.std.proofs.Common.{◌≡◌, ◌∙◌, ◌<◌, ◌++◌, ℕ, zero, suc, Bool, true, false, not, cond, List, [], ◌∷◌, Option, Some, None, length, get_or, filter, map, ℤ, pos, ◌+ℤ◌, ◌-ℤ◌, ◌<ℤ◌, ◌≤ℤ◌, int_le, int_lt, refl, sym, ap, subst, inl, inr, arith}
use Rattle.std.specs.Prelude.{◌&&◌, ◌||◌, IfOk, IfSome, OnOk, Ok, Err, Result, if◌then◌else◌}
use Rattle.std.specs.List.{last_or, list_any, slice_get}
use Rattle.std.specs.Option.{option_map_or}
use Rattle.std.specs.declared.alloc.AllocError.{AllocError}
use Rattle.std.proofs.lemmas.Bool.{and_from, and_left, and_parts, and_right, cases_Bool, false≢true}
use Rattle.std.proofs.lemmas.Int.{ints}
use Rattle.std.proofs.lemmas.List.Folds.{list_any_at, list_any_none}
use Rattle.std.proofs.lemmas.Option.{get_or_from_slice_get, slice_get_within}
use Rattle.std.proofs.lemmas.Simd.{map-map}
use Rattle.jiff_core.proofs.SignedLemmas.{signed_arith}
use Rattle.gtfs_field.proofs.ListFacts.{any_mapped, mapped_at}
use Rattle.gtfs_field.proofs.NumberFacts.{int_le-true, int_lt-false, int_lt-true, le-int_le}
use Rattle.gtfs_days.specs.Service.{first_service_day, is_active, service_days}
use Rattle.gtfs_rows.specs.Rows.{ServiceRow}
use Rattle.gtfs_rows.specs.RowsInMemory.{IsSoundParts, content_of_parts, service_of}
use Rattle.gtfs_rows.specs.declared.parts.Parts.{Parts}
use Rattle.gtfs_rows.specs.declared.service.ServiceRow.{ServiceRow as ServiceByNumber}
use Rattle.gtfs_advice.specs.declared.advice.Advice.{Advice}
use Rattle.gtfs_advice.specs.declared.advice.Subject.TheVariants as subject
use Rattle.gtfs_advice.specs.declared.advice.Subject.{Subject}
use Rattle.gtfs_advice.specs.declared.code.Code.{Code}
use Rattle.gtfs_advice.specs.declared.code.Code.TheVariants as code
use Rattle.gtfs_advice.specs.declared.served_days.ServedDays.{ServedDays}
use Rattle.gtfs_advice.specs.Advice.{About, IsWithin, Tells, about_day, about_of, advice_of, day, end_advice, gap_advice}
use Rattle.gtfs_advice.specs.ServedDays.{AreAllKnown, days_before, end_of, end_said, gap_said, gaps_said, last_of}
use Rattle.gtfs_advice.specs.Services.{begins_gap_of, ends_soon, gaps, is_day_served, is_used, last_served}
use Rattle.gtfs_advice.specs.UsedServices.{AreServiceMarks}
use Rattle.gtfs_advice.specs.WaitingServices.{IsServedBy, runs_on}
use Rattle.gtfs_advice.proofs.Gaps.{all_before, any_day, ended, one_more}
use Rattle.gtfs_advice.proofs.Telling.{told-both}
use Rattle.gtfs_advice.proofs.UsedFacts.{marked}

-- ---- the days on which a service that is used runs

abbrev Found : {X : Type 0} → (X → Bool) → List X → Type 0
Found {X} q xs = (n : ℕ) × (x : X) × (slice_get xs n ≡ Some x) × (q x ≡ true)

any_index : {X : Type 0} (q : X → Bool) (xs : List X) → list_any q xs ≡ true → Found q xs
any_index q [] any = absurd (false≢true any)
any_index q (x ∷ xs) any = by (q x) refl any (any_index q xs)
  where
    by : (b : Bool) → q x ≡ b → (b || list_any q xs) ≡ true → (list_any q xs ≡ true → Found q xs) → Found q (x ∷ xs)
    by true is any later = (0, x, refl, is)
    by false is any later = let r = later any in (suc r.0, r.1, r.2, r.3)

at_row : (services : List ServiceByNumber) (n : ℕ) (d : ℤ) → runs_on services n d ≡ true → (s : ServiceByNumber) × (slice_get services n ≡ Some s) × (is_active s.service d ≡ true)
at_row services n d runs = by (slice_get services n) refl runs
  where
    by : (o : Option ServiceByNumber) → slice_get services n ≡ o → option_map_or (λ r. is_active r.service d) o false ≡ true → (s : ServiceByNumber) × (slice_get services n ≡ Some s) × (is_active s.service d ≡ true)
    by None at none = absurd (false≢true none)
    by (Some s) at active = (s, at, active)

module _ (p : Parts) (sound : IsSoundParts p) (used : List Bool) (are : AreServiceMarks p true used) where
  pub served_by : IsServedBy p.services used (is_day_served (content_of_parts p))
  served_by =
      let c = content_of_parts p in
      record {
        each = λ n is_marked d runs.
            let r = at_row p.services n d runs in
            let at = mapped_at service_of p.services n r.0 r.1 in
            let uses : is_used c (service_of r.0) ≡ true = sym (marked p sound n r.0 r.1 true used are) ∙ is_marked in
            list_any_at (λ s. is_used c s && is_active s.service d) c.services n (service_of r.0) (slice_get_within c.services n (service_of r.0) at)
            (ap (λ (s : ServiceRow). is_used c s && is_active s.service d) (get_or_from_slice_get c.services n (service_of r.0) (service_of r.0) at)
            ∙ and_from (is_used c (service_of r.0)) (is_active r.0.service d) uses r.2);
        some = λ d runs.
            let r = any_index (λ s. is_used c (service_of s) && is_active s.service d) p.services (sym (any_mapped (λ s. is_used c s && is_active s.service d) service_of p.services) ∙ runs) in
            let both = and_parts (is_used c (service_of r.1)) (is_active r.1.service d) r.3 in
            (r.0, marked p sound r.0 r.1 r.2 true used are ∙ both.0, ap (λ (o : Option ServiceByNumber). option_map_or (λ s. is_active s.service d) o false) r.2 ∙ both.1);
      }

-- ---- the last day with service

last_or-end : {X : Type 0} (o : Option X) (xs : List X) (x : X) → last_or o (xs ++ x ∷ []) ≡ Some x
last_or-end o [] x = refl
last_or-end o (y ∷ ys) x = last_or-end (Some y) ys x

not_before : (a b : ℤ) → a ≤ℤ b → int_lt b a ≡ false
not_before a b h = grind (arith, ints)

module _ (served : ℤ → Bool) (days : ServedDays) (all : AreAllKnown served days) where
  none_first : int_lt first_service_day days.until ≡ false → filter served (days_before days.until) ≡ []
  none_first is =
      let low = int_lt-false first_service_day days.until is in
      let same : days.until ≡ first_service_day = omega (arith, signed_arith, low, all.known.from) in
      ap (λ d. filter served (days_before d)) same

  last_is : last_or None (filter served service_days) ≡ (if int_lt first_service_day days.until then Some (days.until -ℤ pos 1) else None)
  last_is = ap (last_or None) (all_before served days.until all.known.from all.to all.over) ∙ by (int_lt first_service_day days.until) refl
    where
      by : (b : Bool) → int_lt first_service_day days.until ≡ b → last_or None (filter served (days_before days.until)) ≡ cond b (Some (days.until -ℤ pos 1)) None
      by false is = ap (last_or None) (none_first is)
      by true is =
          let later = int_lt-true first_service_day days.until is in
          let d = days.until -ℤ pos 1 in
          let next : d +ℤ pos 1 ≡ days.until = omega (arith, signed_arith) in
          ap (λ e. last_or None (filter served (days_before e))) (sym next)
          ∙ ap (last_or None) (one_more served d (omega (arith, signed_arith, later)) (all.known.ran later))
          ∙ last_or-end None (filter served (days_before d)) d

  -- nothing runs from a day on just where all known days are before it
  over_from : (d : ℤ) → first_service_day ≤ℤ d → list_any (λ e. int_le d e && served e) service_days ≡ not (int_le days.until d)
  over_from d low = elim (cases_Bool (int_le days.until d)) [
    | inl known ↦ list_any_none (λ e. int_le d e && served e) service_days (λ k z inside. rests (int_le-true days.until d known) (get_or service_days k z)) ∙ ap not (sym known)
    | inr unknown ↦
        let before = not_le days.until d unknown in
        let last = days.until -ℤ pos 1 in
        any_day (λ e. int_le d e && served e) last (omega (arith, signed_arith, low, before)) (omega (arith, signed_arith, all.to))
        (and_from (int_le d last) (served last) (le-int_le d last (omega (arith, signed_arith, before))) (all.known.ran (omega (arith, signed_arith, low, before))))
        ∙ ap not (sym unknown)
  ]
    where
      not_le : (a b : ℤ) → int_le a b ≡ false → b <ℤ a
      not_le a b h = grind (arith, ints)

      rests : days.until ≤ℤ d → (e : ℤ) → (int_le d e && served e) ≡ false
      rests known e = elim (cases_Bool (int_le d e)) [
        | inr earlier ↦ and_left (int_le d e) (served e) earlier
        | inl on ↦ and_right (int_le d e) (served e) (let from = int_le-true d e on in all.over e (omega (arith, signed_arith, known, from)))
      ]

-- ---- what is told

not-not : (b : Bool) → not (not b) ≡ b
not-not true = refl
not-not false = refl

module _ (p : Parts) (days : ServedDays) (all : AreAllKnown (is_day_served (content_of_parts p)) days) where
  gaps_are : days.gaps.items ≡ gaps (content_of_parts p)
  gaps_are =
      let served = is_day_served (content_of_parts p) in
      all.known.gaps ∙ sym (all_before (begins_gap_of served) days.until all.known.from all.to (λ d on. ended served d (λ e later. all.over e (omega (arith, signed_arith)))))

  pub told_gaps : (old new : List Advice) → new ≡ old ++ gaps_said days → Tells p (gap_advice (content_of_parts p)) old new
  told_gaps old new behind = record {
    added = gaps_said days;
    behind = behind;
    told = map-map (advice_of p) gap_said days.gaps.items ∙ ap (map (λ d. (code.GapInService, day d))) gaps_are;
    within = each days.gaps.items;
  }
    where
      each : (ds : List ℤ) → (k : ℕ) (a : Advice) → k < length (map gap_said ds)
          → IsWithin p (get_or (map gap_said ds) k a).subject
      each [] k a h = absurd (omega arith)
      each (d ∷ ds) zero a h = tt
      each (d ∷ ds) (suc k) a h = each ds k a (omega arith)

  about_last : about_of p (last_of days) ≡ about_day (last_served (content_of_parts p))
  about_last = by (int_lt first_service_day days.until) ∙ ap about_day (sym (last_is (is_day_served (content_of_parts p)) days all))
    where
      by : (b : Bool) → about_of p (if b then subject.Day (days.until -ℤ pos 1) else subject.Nothing) ≡ about_day (if b then Some (days.until -ℤ pos 1) else None)
      by true = refl
      by false = refl

  ends : (d : ℤ) → first_service_day ≤ℤ d → ends_soon (content_of_parts p) d ≡ int_le days.until (d +ℤ pos 6)
  ends d low = ap not (over_from (is_day_served (content_of_parts p)) days all (d +ℤ pos 6) (omega (arith, signed_arith))) ∙ not-not (int_le days.until (d +ℤ pos 6))

  within_last : (s : Subject) (b : Bool) → IsWithin p (if b then subject.Day (days.until -ℤ pos 1) else subject.Nothing)
  within_last s true = tt
  within_last s false = tt

  pub told_end : (o : Option ℤ) (old new : List Advice) → IfSome o (λ d. first_service_day ≤ℤ d) → new ≡ old ++ end_said days o → Tells p (end_advice (content_of_parts p) o) old new
  told_end None old new low behind = record { added = []; behind = behind; told = refl; within = λ k d h. absurd (omega arith) }
  told_end (Some d) old new low behind = record {
    added = end_said days (Some d);
    behind = behind;
    told = by (int_le days.until (d +ℤ pos 6)) ∙ ap (λ (b : Bool). let l : List (Code × About) = if b then (code.EndOfService, about_day (last_served (content_of_parts p))) ∷ [] else [] in l) (sym (ends d low));
    within = is_within (int_le days.until (d +ℤ pos 6));
  }
    where
      by : (b : Bool) → map (advice_of p) (if b then end_of days ∷ [] else [])
          ≡ (if b then (code.EndOfService, about_day (last_served (content_of_parts p))) ∷ [] else [])
      by true = ap (λ a. (code.EndOfService, a) ∷ []) about_last
      by false = refl

      is_within : (b : Bool) (k : ℕ) (a : Advice) → k < length (if b then end_of days ∷ [] else [])
          → IsWithin p (get_or (if b then end_of days ∷ [] else []) k a).subject
      is_within false k a h = absurd (omega arith)
      is_within true zero a h = within_last subject.Nothing (int_lt first_service_day days.until)
      is_within true (suc k) a h = absurd (omega arith)

  pub told_days : (o : Option ℤ) (old mid new : List Advice) (r : Result (Unit {0}) AllocError) → IfSome o (λ d. first_service_day ≤ℤ d) → mid ≡ old ++ gaps_said days → OnOk r (new ≡ mid ++ end_said days o)
      → OnOk r (Tells p (gap_advice (content_of_parts p) ++ end_advice (content_of_parts p) o) old new)
  told_days o old mid new (Ok u) low gaps_told end_told =
      told-both p (gap_advice (content_of_parts p)) (end_advice (content_of_parts p) o) old mid new (told_gaps old mid gaps_told) (told_end o mid new low end_told)
  told_days o old mid new (Err e) low gaps_told end_told = tt

pub known_days : (p : Parts) (sound : IsSoundParts p) (used : List Bool) → AreServiceMarks p true used → (services : List ServiceByNumber) (marks : List Bool) → services ≡ p.services → marks ≡ used
    → (r : Result ServedDays AllocError) → IfOk r (λ days. (served : ℤ → Bool) → IsServedBy services marks served → AreAllKnown served days) → IfOk r (AreAllKnown (is_day_served (content_of_parts p)))
known_days p sound used are services marks lent read (Ok days) known =
    known (is_day_served (content_of_parts p))
    (subst (λ (x : List ServiceByNumber × List Bool). IsServedBy x.0 x.1 (is_day_served (content_of_parts p))) (λ i. (sym lent i, sym read i)) (served_by p sound used are))
known_days p sound used are services marks lent read (Err e) known = tt
