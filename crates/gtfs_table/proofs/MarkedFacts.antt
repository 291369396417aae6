-- Records as runs: marks, and then the bytes of the fields between them.
use Rattle.std.proofs.Common.{◌≡◌, ◌<◌, ◌≤◌, ◌+◌, ◌-◌, ◌∷◌, ◌++◌, ◌∙◌, [], ℕ, zero, suc, List, Some, None, length, take, drop, get_or, refl, sym, ap, arith, append_assoc, length-append}
use Rattle.std.specs.List.{concat}
use Rattle.std.specs.Str.{IsUtf8}
use Rattle.std.proofs.Math.Seq.{drop-append_seam, take-append_seam}
use Rattle.std.proofs.lemmas.Grind.{get_or_default_zero}
use Rattle.std.proofs.lemmas.List.{get_or_append_left, get_or-append_right, get_or-take, get_or-drop, length-drop, length-take-le, take-append-drop, take_all}
use Rattle.csv.specs.Records.{AllText, IsRecord, Rising, Row, cut_from, field_at, fields_of}
use Rattle.csv.proofs.RecordFacts.{text-at}
use Rattle.gtfs_table.specs.FieldOffsets.{between, marks_of}
use Rattle.gtfs_table.specs.StoredRecords.{IsRun, fields_in, marks_in, run_of}
use Rattle.gtfs_table.proofs.FieldFacts.{at-end, concat-fields, concat-more, concat-take, one-more}
use Rattle.gtfs_table.proofs.PartFacts.{part-bounds}

-- ---- the fields between marks

pub count-between : {X : Type 0} (marks : List ℕ) (xs : List X) → length (between marks xs) ≡ length marks - 1
unfolding between
count-between [] xs = refl
count-between (a ∷ []) xs = refl
count-between (a ∷ b ∷ marks) xs = let rest = count-between (b ∷ marks) xs in omega (arith, rest)

between-at : {X : Type 0} (marks : List ℕ) (xs : List X) (i : ℕ) → i + 1 < length marks
    → get_or (between marks xs) i [] ≡ take (get_or marks (i + 1) 0 - get_or marks i 0) (drop (get_or marks i 0) xs)
unfolding between
between-at [] xs i lt = absurd (omega (arith, lt))
between-at (a ∷ []) xs i lt = absurd (omega (arith, lt))
between-at (a ∷ b ∷ marks) xs zero lt = refl
between-at (a ∷ b ∷ marks) xs (suc i) lt =
    let step : suc i + 1 ≡ suc (i + 1) = omega arith in
    rw step (between-at (b ∷ marks) xs i (omega (arith, lt)))

-- a mark and the next one lie in order within the bytes
pub mark-bounds : (marks : List ℕ) (size i : ℕ) → Rising 0 marks size → i + 1 < length marks → (get_or marks i 0 ≤ get_or marks (i + 1) 0) × (get_or marks (i + 1) 0 ≤ size)
mark-bounds marks size i r lt =
    let b = part-bounds 0 marks size i r (omega (arith, lt)) in
    let next = get_or_default_zero marks (i + 1) size lt in
    (omega (arith, b.0, next), omega (arith, b.1, next))

-- ---- a record: the fields between marks, and then those of a store

pub near-field : (marks bytes : List ℕ) (far xs : List (List ℕ)) (n : ℕ) → between marks bytes ++ far ≡ xs → n + 1 < length marks
    → take (get_or marks (n + 1) 0 - get_or marks n 0) (drop (get_or marks n 0) bytes) ≡ get_or xs n []
near-field marks bytes far xs n e lt =
    let low : n < length (between marks bytes) = omega (arith, lt, count-between marks bytes) in
    sym (between-at marks bytes n lt) ∙ sym (get_or_append_left (between marks bytes) far [] n low) ∙ ap (λ (t : List (List ℕ)). get_or t n []) e

pub near-text : (marks bytes : List ℕ) (n : ℕ) → AllText (between marks bytes) → n + 1 < length marks
    → IsUtf8 (take (get_or marks (n + 1) 0 - get_or marks n 0) (drop (get_or marks n 0) bytes))
near-text marks bytes n all lt =
    let low : n < length (between marks bytes) = omega (arith, lt, count-between marks bytes) in
    rw (between-at marks bytes n lt) at (text-at (between marks bytes) n low all)

-- a field after these
pub next-field : (marks bytes : List ℕ) (far xs : List (List ℕ)) (n : ℕ) → between marks bytes ++ far ≡ xs → length marks - 1 ≤ n → get_or far (n - (length marks - 1)) [] ≡ get_or xs n []
next-field marks bytes far xs n e low =
    sym (get_or-append_right (between marks bytes) far (length marks - 1) n [] (count-between marks bytes) low) ∙ ap (λ (t : List (List ℕ)). get_or t n []) e

-- a field of the store
pub far-field : (marks bytes : List ℕ) (fields xs : List (List ℕ)) (start few n : ℕ) → between marks bytes ++ take few (drop start fields) ≡ xs → length marks - 1 ≤ n
    → n - (length marks - 1) < few → get_or fields (start + (n - (length marks - 1))) [] ≡ get_or xs n []
far-field marks bytes fields xs start few n e low lt =
    let here = get_or-take few (drop start fields) (n - (length marks - 1)) [] lt ∙ get_or-drop start fields (n - (length marks - 1)) [] in
    sym here ∙ next-field marks bytes (take few (drop start fields)) xs n e low

pub count-record : (marks bytes : List ℕ) (fields xs : List (List ℕ)) (start few : ℕ) → between marks bytes ++ take few (drop start fields) ≡ xs → start + few ≤ length fields
    → length xs ≡ length marks - 1 + few
count-record marks bytes fields xs start few e within =
    let size : length (take few (drop start fields)) ≡ few = length-take-le few (drop start fields) (omega (arith, within, length-drop start fields)) in
    sym (ap (λ (t : List (List ℕ)). length t) e) ∙ omega (arith, size, count-between marks bytes, length-append (between marks bytes) (take few (drop start fields)))

-- ---- the marks of fields

pub count-marks : (s : ℕ) (fs : List (List ℕ)) → length (marks_of s fs) ≡ length fs + 1
unfolding marks_of
count-marks s [] = refl
count-marks s (f ∷ fs) = let rest = count-marks (s + length f) fs in omega (arith, rest)

first-mark : (s : ℕ) (fs : List (List ℕ)) (bytes : List ℕ) → get_or (marks_of s fs ++ bytes) 0 0 ≡ s
unfolding marks_of
first-mark s [] bytes = refl
first-mark s (f ∷ fs) bytes = refl

marks-more : (s : ℕ) (fs : List (List ℕ)) (f : List ℕ) → marks_of s (fs ++ f ∷ []) ≡ marks_of s fs ++ (s + length (concat fs) + length f) ∷ []
unfolding marks_of
marks-more s [] f = let e : s + 0 ≡ s = omega arith in rw e refl
marks-more s (x ∷ fs) f =
    let e : s + length x + length (concat fs) ≡ s + length (x ++ concat fs) = omega (arith, length-append x (concat fs)) in
    rw (marks-more (s + length x) fs f, e) refl

rising-marks : (low s : ℕ) (fs : List (List ℕ)) (size : ℕ) → low ≤ s → s + length (concat fs) ≤ size → Rising low (marks_of s fs) size
unfolding marks_of Rising
rising-marks low s [] size h g = (h, omega (arith, g))
rising-marks low s (f ∷ fs) size h g = (h, rising-marks s (s + length f) fs size (omega arith) (omega (arith, g, length-append f (concat fs))))

-- the part up to the next mark comes first
between-first : (a s : ℕ) (fs : List (List ℕ)) (xs : List ℕ) → between (a ∷ marks_of s fs) xs ≡ take (s - a) (drop a xs) ∷ between (marks_of s fs) xs
unfolding marks_of between
between-first a s [] xs = refl
between-first a s (f ∷ fs) xs = refl

-- between the marks of fields stand these fields
between-marks : (before : List ℕ) (fs : List (List ℕ)) (after : List ℕ) (s : ℕ) → length before ≡ s → between (marks_of s fs) (before ++ (concat fs ++ after)) ≡ fs
unfolding marks_of between
between-marks before [] after s e = refl
between-marks before (f ∷ fs) after s e =
    let xs = before ++ ((f ++ concat fs) ++ after) in
    let same : (f ++ concat fs) ++ after ≡ f ++ (concat fs ++ after) = append_assoc f (concat fs) after in
    let text : xs ≡ (before ++ f) ++ (concat fs ++ after) = ap (λ (t : List ℕ). before ++ t) same ∙ sym (append_assoc before f (concat fs ++ after)) in
    let here : drop s xs ≡ f ++ (concat fs ++ after) = ap (λ (n : ℕ). drop n xs) (sym e) ∙ drop-append_seam before ((f ++ concat fs) ++ after) ∙ same in
    let size : s + length f - s ≡ length f = omega arith in
    let one : take (s + length f - s) (drop s xs) ≡ f = rw (here, size) (take-append_seam f (concat fs ++ after)) in
    let rest = between-marks (before ++ f) fs after (s + length f) (omega (arith, e, length-append before f)) in
    let all : between (marks_of (s + length f) fs) xs ≡ fs = ap (λ (t : List ℕ). between (marks_of (s + length f) fs) t) text ∙ rest in
    between-first s (s + length f) fs xs ∙ rw (one, all) refl

-- ---- the run of a record

run-marks : (s : ℕ) (fs : List (List ℕ)) (bytes : List ℕ) → s ≡ length fs + 1 → marks_in (marks_of s fs ++ bytes) ≡ marks_of s fs
run-marks s fs bytes e =
    let count : get_or (marks_of s fs ++ bytes) 0 0 ≡ length (marks_of s fs) = first-mark s fs bytes ∙ e ∙ sym (count-marks s fs) in
    ap (λ (n : ℕ). take n (marks_of s fs ++ bytes)) count ∙ take-append_seam (marks_of s fs) bytes

pub run-fields : (row : Row) → IsRecord row → fields_in (run_of row) ≡ fields_of row
run-fields row r =
    let fs = fields_of row in
    let marks = marks_of (length fs + 1) fs in
    let tail = drop (length (concat fs)) row.bytes in
    let all : row.bytes ≡ concat fs ++ tail =
    sym (take-append-drop (length (concat fs)) row.bytes) ∙ ap (λ (t : List ℕ). t ++ tail) (sym (concat-fields row.ends row.bytes r).0) in
    let bytes : run_of row ≡ marks ++ (concat fs ++ tail) = ap (λ (t : List ℕ). marks ++ t) all in
    ap (λ (t : List ℕ). between t (run_of row)) (run-marks (length fs + 1) fs row.bytes refl) ∙ ap (λ (t : List ℕ). between marks t) bytes
    ∙ between-marks marks fs tail (length fs + 1) (count-marks (length fs + 1) fs)

pub run-whole : (row : Row) → IsRecord row → 0 < length (fields_of row) → AllText (fields_of row) → IsRun (run_of row)
run-whole row r some all =
    let fs = fields_of row in
    let count = count-marks (length fs + 1) fs in
    let size = length-append (marks_of (length fs + 1) fs) row.bytes in
    let within = (concat-fields row.ends row.bytes r).1 in
    let is = run-fields row r in
    record {
      some = omega (arith, size, count);
      within = omega (arith, size, count, first-mark (length fs + 1) fs row.bytes);
      rising = rw (run-marks (length fs + 1) fs row.bytes refl) (rising-marks 0 (length fs + 1) fs (length (run_of row)) (omega arith) (omega (arith, size, count, within)));
      filled = rw is some;
      text = rw is all;
    }

-- ---- marks that are added one after the other

-- the marks of the first fields, after other bytes, and the last of these marks
pub record MarksAdded (old : List ℕ) (start : ℕ) (fields : List (List ℕ)) (bytes : List ℕ) (end : ℕ) : Type 0 where
  pub added : bytes ≡ old ++ marks_of start fields
  pub last : end ≡ start + length (concat fields)

pub marks-none : (old new : List ℕ) (start : ℕ) (fields : List (List ℕ)) → new ≡ old ++ start ∷ [] → MarksAdded old start (take 0 fields) new start
unfolding marks_of
marks-none old new start fields e = record { added = e; last = omega arith }

pub mark-more : (old : List ℕ) (start : ℕ) (fields : List (List ℕ)) (at : ℕ) (f bytes new : List ℕ) (end : ℕ) → MarksAdded old start (take at fields) bytes end
    → Some f ≡ field_at fields at → new ≡ bytes ++ (end + length f) ∷ [] → MarksAdded old start (take (at + 1) fields) new (end + length f)
mark-more old start fields at f bytes new end h e s =
    let more = one-more fields at f e in
    rw more (record {
      added = rw (s, marks-more start (take at fields) f, h.added, h.last) (append_assoc old (marks_of start (take at fields)) _);
      last = rw (concat-more (take at fields) f) (omega (arith, h.last, length-append (concat (take at fields)) f));
    })

pub marks-all : (old : List ℕ) (start : ℕ) (fields : List (List ℕ)) (at : ℕ) (bytes : List ℕ) (end : ℕ) → MarksAdded old start (take at fields) bytes end
    → None ≡ field_at fields at → bytes ≡ old ++ marks_of start fields
marks-all old start fields at bytes end h e =
    let all = take_all at fields (at-end fields at e) in
    rw all at h.added

-- where the next field ends
pub mark-next : (start : ℕ) (ends bytes : List ℕ) (at : ℕ) (f : List ℕ) (old now : List ℕ) (end : ℕ) → MarksAdded old start (take at (cut_from 0 ends bytes)) now end
    → Rising 0 ends (length bytes) → Some f ≡ field_at (cut_from 0 ends bytes) at → end + length f ≤ start + length bytes
mark-next start ends bytes at f old now end h r e =
    let more = one-more (cut_from 0 ends bytes) at f e in
    let small = concat-take (at + 1) (cut_from 0 ends bytes) in
    let size : length (concat (take (at + 1) (cut_from 0 ends bytes))) ≡ length (concat (take at (cut_from 0 ends bytes))) + length f =
    rw (more, concat-more (take at (cut_from 0 ends bytes)) f) (length-append (concat (take at (cut_from 0 ends bytes))) f) in
    omega (arith, h.last, size, small, (concat-fields ends bytes r).1)
