-- The written form of a sound content passes, and is read back to it.
use Rattle.std.proofs.Common.{◌≡◌, ℕ, List, true, false, refl}
use Rattle.std.proofs.lemmas.Bool.{and_left}
use Rattle.gtfs_table.specs.declared.file.File.{File}
use Rattle.gtfs_table.specs.declared.file.File.TheVariants as file
use Rattle.gtfs_table.specs.Tables.{table_of, table_records}
use Rattle.gtfs_table.specs.TableTexts.{is_marked}
use Rattle.gtfs_schema.specs.declared.code.Code.{Code}
use Rattle.gtfs_schema.specs.declared.code.Code.TheVariants as code
use Rattle.gtfs_schema.specs.Codes.{is_error}
use Rattle.gtfs_schema.specs.FileRules.{file_not_kept}
use Rattle.gtfs_schema.specs.KeyRules.{key_twice}
use Rattle.gtfs_schema.specs.Problems.{FileName, kept, other, holds_in, holds, is_code, Passes}
use Rattle.gtfs_rows.specs.Content.{Content}
use Rattle.gtfs_rows.specs.RowCells.{cells_in}
use Rattle.gtfs_rows.specs.SoundContent.{IsSound}
use Rattle.gtfs_rows.specs.WrittenContent.{written, written_beside}
use Rattle.gtfs_rows.specs.WrittenForm.{IsWrittenForm}
use Rattle.gtfs_rows.proofs.ContentAgain.{content_again}
use Rattle.gtfs_rows.proofs.FileCodes.{no_file_missing, no_not_utf8, no_column_missing, no_column_twice, no_file_empty, no_end_before_start}
use Rattle.gtfs_rows.proofs.FileRows.{no_value_empty, no_value_unreadable, no_value_out_of_range, no_control_in_id}
use Rattle.gtfs_rows.proofs.KeyCodes.{no_agency_twice, no_stop_twice, no_route_twice, no_trip_twice, no_stop_time_twice, no_week_twice, no_exception_twice, no_frequency_twice}
use Rattle.gtfs_rows.proofs.KnownCodes.{no_reference_unknown}
use Rattle.gtfs_rows.proofs.PeriodCodes.{no_period_empty, no_periods_overlap}
use Rattle.gtfs_rows.proofs.PresenceCodes.{no_value_missing}
use Rattle.gtfs_rows.proofs.ReferenceCodes.{no_wrong_kind}
use Rattle.gtfs_rows.proofs.ZoneCodes.{no_zones_differ}
use Rattle.gtfs_rows.proofs.TimeCodes.{no_time_goes_back}
use Rattle.gtfs_rows.proofs.TransferKeys.{no_transfer_twice}
use Rattle.gtfs_rows.proofs.TripCodes.{no_untimed_end, no_departure_before_arrival}

module _ (others : List (List ℕ)) (c : Content) (sound : IsSound c) where
  no_key_twice : (x : File) (n : ℕ) (name : List ℕ) → key_twice (written_beside others c) x n name ≡ false
  no_key_twice file.Agency = no_agency_twice others c sound
  no_key_twice file.Stops = no_stop_twice others c sound
  no_key_twice file.Routes = no_route_twice others c sound
  no_key_twice file.Trips = no_trip_twice others c sound
  no_key_twice file.StopTimes = no_stop_time_twice others c sound
  no_key_twice file.Calendar = no_week_twice others c sound
  no_key_twice file.CalendarDates = no_exception_twice others c sound
  no_key_twice file.Frequencies = no_frequency_twice others c sound
  no_key_twice file.Transfers = no_transfer_twice others c sound

  no_error : (e : Code) (x : File) (n : ℕ) (name : List ℕ) → is_error e ≡ true → holds_in e (written_beside others c) x n name ≡ false
  no_error code.E01 x n name h = no_file_missing others c x n name
  no_error code.E02 x n name h = no_not_utf8 others c x n name
  no_error code.E03 x n name h = no_column_missing others c x n name
  no_error code.E04 x n name h = no_column_twice others c x n name
  no_error code.E05 x n name h = no_file_empty others c sound x n name
  no_error code.E06 x n name h = no_value_empty others (cells_in c) x (sound.cells x) n name
  no_error code.E07 x n name h = no_value_unreadable others (cells_in c) x (sound.cells x) n name
  no_error code.E08 x n name h = no_value_out_of_range others (cells_in c) x (sound.cells x) n name
  no_error code.E09 x n name h = no_key_twice x n name
  no_error code.E10 x n name h = no_reference_unknown others c sound x n name
  no_error code.E11 x n name h = no_wrong_kind others c sound x n name
  no_error code.E12 x n name h = no_value_missing others c sound x n name
  no_error code.E13 x n name h = no_zones_differ others c sound x n name
  no_error code.E14 x n name h = no_end_before_start others c sound x n name
  no_error code.E15 x n name h = no_untimed_end others c sound x n name
  no_error code.E16 x n name h = no_departure_before_arrival others c sound x n name
  no_error code.E17 x n name h = no_time_goes_back others c sound x n name
  no_error code.E18 x n name h = no_period_empty others c sound x n name
  no_error code.E19 x n name h = no_periods_overlap others c sound x n name
  no_error code.E20 x n name h = no_control_in_id others (cells_in c) x (sound.cells x) n name
  no_error code.W01 x n name h = cc
  no_error code.W02 x n name h = cc
  no_error code.W03 x n name h = cc
  no_error code.W04 x n name h = cc
  no_error code.W05 x n name h = cc
  no_error code.W06 x n name h = cc
  no_error code.W07 x n name h = cc
  no_error code.W08 x n name h = cc

  none_in : (e : Code) (f : FileName) (n : ℕ) (name : List ℕ) → is_error e ≡ true → holds e (written_beside others c) f n name ≡ false
  none_in e (kept x) n name h = no_error e x n name h
  none_in e (other t) n name h = and_left (is_code e code.W03) (file_not_kept (written_beside others c) t n name) (no_warning e h)
    where
      no_warning : (e : Code) → is_error e ≡ true → is_code e code.W03 ≡ false
      no_warning code.E01 h = refl
      no_warning code.E02 h = refl
      no_warning code.E03 h = refl
      no_warning code.E04 h = refl
      no_warning code.E05 h = refl
      no_warning code.E06 h = refl
      no_warning code.E07 h = refl
      no_warning code.E08 h = refl
      no_warning code.E09 h = refl
      no_warning code.E10 h = refl
      no_warning code.E11 h = refl
      no_warning code.E12 h = refl
      no_warning code.E13 h = refl
      no_warning code.E14 h = refl
      no_warning code.E15 h = refl
      no_warning code.E16 h = refl
      no_warning code.E17 h = refl
      no_warning code.E18 h = refl
      no_warning code.E19 h = refl
      no_warning code.E20 h = refl
      no_warning code.W01 h = cc
      no_warning code.W02 h = cc
      no_warning code.W03 h = cc
      no_warning code.W04 h = cc
      no_warning code.W05 h = cc
      no_warning code.W06 h = cc
      no_warning code.W07 h = cc
      no_warning code.W08 h = cc

  pub written_passes : Passes (written_beside others c)
  written_passes p h = none_in p.code p.file p.row p.column h

no_mark : (c : Content) (x : File) → is_marked (table_records (table_of (written c) x)) ≡ false
no_mark c file.Agency = refl
no_mark c file.Stops = refl
no_mark c file.Routes = refl
no_mark c file.Trips = refl
no_mark c file.StopTimes = refl
no_mark c file.Calendar = refl
no_mark c file.CalendarDates = refl
no_mark c file.Frequencies = refl
no_mark c file.Transfers = refl

pub written_form : (c : Content) → IsSound c → IsWrittenForm c
written_form c sound = record {
  passes = λ others. written_passes others c sound;
  reads_back = λ others. content_again others c sound;
  unmarked = no_mark c;
}
