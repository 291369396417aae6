-- Texts that are cut at slashes, and the parts of a text that is read as a key.
use Rattle.std.specs.Prelude.{◌≡◌, ◌≢◌, ℕ, true, false, List, ◌∷◌, ◌++◌}
use Rattle.std.specs.List.{list_any}
use Rattle.gtfs_board.specs.KeyTexts.{is_slash, has_key_shape, instant_part, trip_part, run_part, sequence_part, day_part}
use Rattle.gtfs_board.specs.declared.key.reading.KeyParts.{KeyParts}

abbrev pub LacksSlash : List ℕ → Type 0
LacksSlash t = list_any is_slash t ≡ false

-- the text does not begin with an `@`
abbrev pub LacksAt : List ℕ → Type 0
LacksAt t = (rest : List ℕ) → t ≢ 64 ∷ rest

-- what stands before the first slash of a text and after it
pub record IsCutAtFirst (t before after : List ℕ) : Type 0 where
  pub text : t ≡ before ++ 47 ∷ after
  pub lacks : LacksSlash before

-- what stands before the last slash of a text and after it
pub record IsCutAtLast (t before after : List ℕ) : Type 0 where
  pub text : t ≡ before ++ 47 ∷ after
  pub lacks : LacksSlash after

pub record AreTexts (t instant trip run sequence day : List ℕ) : Type 0 where
  pub shape : has_key_shape t ≡ true
  pub instant_is : instant_part t ≡ instant
  pub trip_is : trip_part t ≡ trip
  pub run_is : run_part t ≡ run
  pub sequence_is : sequence_part t ≡ sequence
  pub day_is : day_part t ≡ day

abbrev pub ArePartsOf : List ℕ → KeyParts → Type 0
ArePartsOf t p = AreTexts t p.instant.now p.trip.now p.run.now p.sequence.now p.day.now
