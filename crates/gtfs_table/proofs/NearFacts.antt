-- What one block tells of the offsets in it, and of the texts that begin there.
use Rattle.std.proofs.Common.{◌≡◌, ◌<◌, ◌≤◌, ◌+◌, ◌-◌, ◌*◌, ◌/◌, ◌%◌, ◌∙◌, [], ℕ, List, length, take, drop, get_or, sym, ap, arith, length-drop}
use Rattle.std.specs.Str.{IsUtf8}
use Rattle.std.proofs.lemmas.List.{get_or-take, get_or-drop, get_or_read, drop-drop, length-take-le}
use Rattle.std.proofs.lemmas.Grind.{get_or_default_zero}
use Rattle.csv.specs.Records.{AllText, Rising}
use Rattle.csv.proofs.RecordFacts.{text-at}
use Rattle.gtfs_table.specs.OffsetBlocks.{offsets_from}
use Rattle.gtfs_table.specs.FieldOffsets.{parts, TellsOffsets, TellsFields}
use Rattle.gtfs_table.proofs.BlockFacts.{offset-at, count-offsets}
use Rattle.gtfs_table.proofs.PartFacts.{bounds-of, count-parts, part-of}

-- items of a middle part
get_or-part : {X : Type 0} (xs : List X) (start few n : ℕ) (d : X) → n < few → get_or (take few (drop start xs)) n d ≡ get_or xs (start + n) d
get_or-part xs start few n d lt = get_or-take few (drop start xs) n d lt ∙ get_or-drop start xs n d

length-part : {X : Type 0} (xs : List X) (start few : ℕ) → start + few ≤ length xs → length (take few (drop start xs)) ≡ few
length-part xs start few h = length-take-le few (drop start xs) (omega (arith, length-drop start xs))

pub block-tells : (bases ds xs : List ℕ) (start few base : ℕ) → offsets_from 0 bases ds ≡ xs → length ds ≤ 256 * length bases → start + few ≤ length ds → start % 256 + few ≤ 256
    → base ≡ get_or bases (start / 256) base → 0 < few → TellsOffsets base (take few (drop start ds)) xs start
block-tells bases ds xs start few base e enough within one b some =
    let size = length-part ds start few within in
    let is = get_or_read bases (start / 256) base (omega arith) b 0 in
    record {
      within = λ n lt. omega (arith, size, count-offsets bases ds xs e);
      told = λ n lt.
          let low : n < few = omega (arith, size) in
          let block : (0 + (start + n)) / 256 ≡ start / 256 = omega arith in
          let at : get_or (offsets_from 0 bases ds) (start + n) 0 ≡ get_or bases (start / 256) 0 + get_or ds (start + n) 0 = rw block at (offset-at 0 bases ds (start + n) (omega arith)) in
          let same : get_or (offsets_from 0 bases ds) (start + n) 0 ≡ get_or xs (start + n) 0 = ap (λ (t : List ℕ). get_or t (start + n) 0) e in
          omega (arith, at, same, is, get_or-part ds start few n 0 low);
    }

-- one text, whose start and end are told
pub record IsTold (bytes : List ℕ) (low high : ℕ) (text : List ℕ) : Type 0 where
  pub rising : low ≤ high
  pub within : high ≤ length bytes
  pub told : take (high - low) (drop low bytes) ≡ text

text-told : (starts bytes : List ℕ) (texts : List (List ℕ)) (base low high i : ℕ) → parts starts bytes ≡ texts → Rising 0 starts (length bytes) → i + 1 < length starts
    → base + low ≡ get_or starts i 0 → base + high ≡ get_or starts (i + 1) 0 → IsTold (drop base bytes) low high (get_or texts i [])
text-told starts bytes texts base low high i e r lt from to =
    let there : i < length texts = omega (arith, count-parts starts bytes texts e) in
    let b = bounds-of starts bytes texts i e r there in
    let next : get_or starts (i + 1) (length bytes) ≡ base + high = get_or_default_zero starts (i + 1) (length bytes) lt ∙ sym to in
    let up : base + low ≤ base + high = rw (← next, from) b.1 in
    let in_bytes : base + high ≤ length bytes = rw (← next) b.2 in
    let size : base + high - (base + low) ≡ high - low = omega arith in
    let part = rw (next, ← from, size) at (part-of starts bytes texts i e there) in
    record {
      rising = omega arith;
      within = omega (arith, length-drop base bytes);
      told = rw (drop-drop low base bytes) part;
    }

pub texts-told : (starts bytes : List ℕ) (texts : List (List ℕ)) (base : ℕ) (distances : List ℕ) (start end : ℕ) → parts starts bytes ≡ texts → Rising 0 starts (length bytes)
    → start ≤ end → end ≤ length texts → length distances ≤ end - start + 1 → TellsOffsets base distances starts start → TellsFields (drop base bytes) distances (take (end - start) (drop start texts))
texts-told starts bytes texts base distances start end e r up within few h =
    let size = length-part texts start (end - start) (omega arith) in
    let one : (n : ℕ) → n + 1 < length distances → IsTold (drop base bytes) (get_or distances n 0) (get_or distances (n + 1) 0) (get_or texts (start + n) []) =
    λ n lt.
    let number : start + (n + 1) ≡ start + n + 1 = omega arith in
    text-told starts bytes texts base (get_or distances n 0) (get_or distances (n + 1) 0) (start + n) e r (omega (arith, h.within (n + 1) lt)) (h.told n (omega arith)) (rw number at (h.told (n + 1) lt)) in
    record {
      few = omega (arith, size);
      rising = λ n lt. (one n lt).rising;
      within = λ n lt. (one n lt).within;
      told = λ n lt. (one n lt).told ∙ sym (get_or-part texts start (end - start) n [] (omega arith));
    }

-- such a text is UTF-8
pub told-utf8 : (texts : List (List ℕ)) (start few n : ℕ) (text : List ℕ) → AllText texts → start + few ≤ length texts → n < length (take few (drop start texts))
    → text ≡ get_or (take few (drop start texts)) n [] → IsUtf8 text
told-utf8 texts start few n text all within lt e =
    let low : n < few = omega (arith, length-part texts start few within) in
    rw (e, get_or-part texts start few n [] low) (text-at texts (start + n) (omega arith) all)
