-- The services of a dataset that passes: E14.
use Rattle.std.proofs.Common.{◌≡◌, ◌∙◌, ℕ, List, length, map, true, false, Option, Some, None, refl, sym, ap, subst, inl, inr, arith}
use Rattle.std.specs.Prelude.{◌==◌, ◌||◌, not, is_some, option_map, codes, ℤ, int_le, int_lt}
use Rattle.std.specs.Cmp.{int_cmp_total}
use Rattle.std.specs.List.{Contains, list_all}
use Rattle.std.specs.Ordering.{int_cmp}
use Rattle.std.proofs.lemmas.Bool.{and_from, or_left, or_right}
use Rattle.std.proofs.lemmas.Bool.Decides.{nat_tests}
use Rattle.std.proofs.lemmas.List.Elements.{Contains-append_cases}
use Rattle.gtfs_table.specs.Rows.{is_row, records_in, rows}
use Rattle.gtfs_table.specs.Tables.{Dataset}
use Rattle.gtfs_table.specs.declared.file.File.{File}
use Rattle.gtfs_table.specs.declared.file.File.TheVariants as file
use Rattle.gtfs_schema.specs.declared.code.Code.TheVariants as code
use Rattle.gtfs_schema.specs.Calendars.{service_rows, first_service_row, week_in, exception_in, field_number}
use Rattle.gtfs_schema.specs.Columns.{id, date, column_named, required}
use Rattle.gtfs_schema.specs.Problems.{Passes}
use Rattle.gtfs_schema.specs.RowConditions.{word_in}
use Rattle.gtfs_schema.specs.ServiceRules.{ends_before_start}
use Rattle.gtfs_schema.specs.FieldValues.{is_word, if_both}
use Rattle.gtfs_schema.proofs.SiteFacts.{text_itself}
use Rattle.gtfs_rows.specs.TransferOrder.{by_key}
use Rattle.gtfs_rows.specs.ContentRead.{text_at, services_named, service_row_in, content_of}
use Rattle.gtfs_rows.specs.Rows.{ServiceRow}
use Rattle.gtfs_rows.specs.SoundContent.{if_given, is_sound_week, is_sound_service}
use Rattle.gtfs_rows.proofs.ContentRows.{row_of, service_made}
use Rattle.gtfs_rows.proofs.KeyedRows.{all_from, found_is, stays}
use Rattle.gtfs_rows.proofs.PassedAgencies.{nonempty, not_missed}
use Rattle.gtfs_rows.proofs.PassedReferences.{after, no_error}
use Rattle.gtfs_rows.proofs.PassedValues.{word_is, signed_is}
use Rattle.gtfs_rows.proofs.SameElements.{contains-map, contains-filter, contains-from_map}

not_less : (x y : ℤ) → int_lt y x ≡ false → int_le x y ≡ true
not_less x y h = grind (arith, nat_tests, h)

some_unless : {X : Type 0} (o : Option X) → (o ≡ None → ⊥) → is_some o ≡ true
some_unless None never = absurd (never refl)
some_unless (Some x) never = refl

mapped_some : {X Y : Type 0} (f : X → Y) (o : Option X) → is_some o ≡ true → is_some (option_map f o) ≡ true
mapped_some f None e = cc
mapped_some f (Some x) e = refl

module _ (d : Dataset) (passes : Passes d) where
  -- E14
  week_sound : (m : ℕ) → is_row (records_in d file.Calendar) m ≡ true → is_sound_week (week_in d m) ≡ true
  week_sound m row =
      let told : ends_before_start d m ≡ false = after (is_row (records_in d file.Calendar) m) (ends_before_start d m) row (no_error d passes code.E14 file.Calendar m (codes "end_date") refl) in
      let start = field_number d file.Calendar m "start_date" in
      let end = field_number d file.Calendar m "end_date" in
      let same : int_lt end start ≡ false = sym (λ i. if_both (signed_is d passes file.Calendar m row "end_date" date refl refl i) (signed_is d passes file.Calendar m row "start_date" date refl refl i) int_lt) ∙ told in
      not_less start end same

  -- a row has the id that it is found by
  in_file : (x : File) → column_named x (codes "service_id") ≡ Some (required "service_id" id) → (q : List ℕ) → Contains (map (λ n. text_at d x n "service_id") (rows d x)) q
      → (m : ℕ) × (Contains (rows d x) m × (is_word (word_in d x m "service_id") q ≡ true))
  in_file x there q at =
      let from = contains-from_map (λ n. text_at d x n "service_id") (rows d x) q at in
      let m = from.0 in
      (m, (from.1.0, ap (λ o. is_word o q) (word_is d passes x m (row_of d x m from.1.0) "service_id" id there refl ∙ ap (λ t. Some t) from.1.1) ∙ text_itself q))

  -- a service has a week or an exception
  has_dates : (q : List ℕ) → Contains (services_named d) q
      → (is_some (option_map (week_in d) (first_service_row d file.Calendar q)) || not (length (by_key int_cmp (λ e. e.0) (map (exception_in d) (service_rows d file.CalendarDates q))) == 0)) ≡ true
  has_dates q at = elim (Contains-append_cases (map (λ n. text_at d file.Calendar n "service_id") (rows d file.Calendar)) (map (λ n. text_at d file.CalendarDates n "service_id") (rows d file.CalendarDates)) q at) [
    | inl week ↦
        let m = in_file file.Calendar refl q week in
        or_left _ _ (mapped_some (week_in d) (first_service_row d file.Calendar q) (some_unless (first_service_row d file.Calendar q) (not_missed (λ n. is_word (word_in d file.Calendar n "service_id") q) (rows d file.Calendar) m.0 m.1.0 m.1.1)))
    | inr day ↦
        let m = in_file file.CalendarDates refl q day in
        let among = contains-filter (λ n. is_word (word_in d file.CalendarDates n "service_id") q) (rows d file.CalendarDates) m.0 m.1.1 m.1.0 in
        let s = stays int_cmp int_cmp_total (λ e. e.0) (map (exception_in d) (service_rows d file.CalendarDates q)) (exception_in d m.0) (contains-map (exception_in d) (service_rows d file.CalendarDates q) m.0 among) in
        or_right _ _ (ap not (nonempty (by_key int_cmp (λ e. e.0) (map (exception_in d) (service_rows d file.CalendarDates q))) s.row s.among))
  ]

  week_given : (q : List ℕ) (o : Option ℕ) → first_service_row d file.Calendar q ≡ o → if_given (option_map (week_in d) o) is_sound_week ≡ true
  week_given q None e = refl
  week_given q (Some m) e = week_sound m (row_of d file.Calendar m (found_is (λ n. is_word (word_in d file.Calendar n "service_id") q) (rows d file.Calendar) m e).among)

  service_sound : (q : List ℕ) → Contains (services_named d) q → is_sound_service (service_row_in d q) ≡ true
  service_sound q at = and_from _ _ (has_dates q at) (week_given q (first_service_row d file.Calendar q) refl)

  pub services_sound : list_all is_sound_service (content_of d).services ≡ true
  services_sound = all_from is_sound_service (content_of d).services (λ s at.
      let m = service_made d s at in
      subst (λ (r : ServiceRow). is_sound_service r ≡ true) m.same (service_sound m.id m.among))
