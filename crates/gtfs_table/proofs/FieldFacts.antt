-- Fields that are added one after the other.
use Rattle.std.proofs.Common.{◌≡◌, ◌<◌, ◌≤◌, ◌+◌, ◌-◌, ◌∷◌, ◌++◌, ◌∙◌, [], ℕ, zero, suc, List, Some, None, length, take, drop, get_or, refl, sym, ap, arith, append_assoc, length-append}
use Rattle.std.specs.List.{concat}
use Rattle.std.proofs.lemmas.List.{append-nil, take_more, take_all, drop-drop, length-take-le}
use Rattle.csv.specs.Records.{AllText, Rising, cut_from, field_at, last_end}
use Rattle.csv.proofs.RecordFacts.{field-get, rising-last, text-more}
use Rattle.gtfs_table.specs.FieldOffsets.{parts, starts_of}
use Rattle.gtfs_table.proofs.PartFacts.{parts-push}
use Rattle.gtfs_table.proofs.StoreFacts.{rising-push}

starts-more : (s : ℕ) (fs : List (List ℕ)) (f : List ℕ) → starts_of s (fs ++ f ∷ []) ≡ starts_of s fs ++ (s + length (concat fs)) ∷ []
unfolding starts_of
starts-more s [] f = let e : s + 0 ≡ s = omega arith in rw e refl
starts-more s (x ∷ fs) f =
    let e : s + length x + length (concat fs) ≡ s + length (x ++ concat fs) = omega (arith, length-append x (concat fs)) in
    rw (starts-more (s + length x) fs f, e) refl

pub concat-more : (fs : List (List ℕ)) (f : List ℕ) → concat (fs ++ f ∷ []) ≡ concat fs ++ f
concat-more [] f = append-nil f
concat-more (x ∷ fs) f = rw (concat-more fs f) (sym (append_assoc x (concat fs) f))

-- the offsets of the first fields, and their size
abbrev pub OffsetsAdded : ℕ → List ℕ → List (List ℕ) → List ℕ → ℕ → Type 0
OffsetsAdded first old fields starts size = (starts ≡ old ++ starts_of first fields) × (size ≡ length (concat fields))

pub first-there : (fields : List (List ℕ)) (i : ℕ) (f : List ℕ) → Some f ≡ field_at fields i → i < length fields
unfolding field_at
first-there [] i f e = absurd (cc e)
first-there (x ∷ fs) zero f e = omega arith
first-there (x ∷ fs) (suc i) f e = let h = first-there fs i f e in omega arith

pub one-more : (fields : List (List ℕ)) (i : ℕ) (f : List ℕ) → Some f ≡ field_at fields i → take (i + 1) fields ≡ take i fields ++ f ∷ []
one-more fields i f at =
    let lt = first-there fields i f at in
    let here : get_or fields i [] ≡ f = field-get fields i f (sym at) in
    rw (take_more fields i [] lt, here) refl

pub offsets-more : (first : ℕ) (old : List ℕ) (fields : List (List ℕ)) (i : ℕ) (f starts new_starts : List ℕ) (size : ℕ) → OffsetsAdded first old (take i fields) starts size
    → Some f ≡ field_at fields i → new_starts ≡ starts ++ (first + size) ∷ [] → OffsetsAdded first old (take (i + 1) fields) new_starts (size + length f)
offsets-more first old fields i f starts new_starts size h at s =
    let more = one-more fields i f at in (
      rw (more, starts-more first (take i fields) f, s, h.0, h.1) (append_assoc old (starts_of first (take i fields)) _),
      rw (more, concat-more (take i fields) f, h.1) (sym (length-append (concat (take i fields)) f)),
    )

pub offsets-none : (first : ℕ) (old : List ℕ) (fields : List (List ℕ)) → OffsetsAdded first old (take 0 fields) old 0
unfolding starts_of
offsets-none first old fields = (sym (append-nil old), refl)

pub at-end : (fields : List (List ℕ)) (i : ℕ) → None ≡ field_at fields i → length fields ≤ i
unfolding field_at
at-end [] i e = omega arith
at-end (x ∷ fs) zero e = absurd (cc e)
at-end (x ∷ fs) (suc i) e = let h = at-end fs i e in omega arith

pub offsets-all : (first : ℕ) (old : List ℕ) (fields : List (List ℕ)) (i : ℕ) (starts : List ℕ) (size : ℕ) → OffsetsAdded first old (take i fields) starts size
    → None ≡ field_at fields i → OffsetsAdded first old fields starts size
offsets-all first old fields i starts size h e =
    let all = take_all i fields (at-end fields i e) in
    rw all at h

-- the fields of a record, one after the other, are its first bytes
take-both : (a b : ℕ) (xs : List ℕ) → take a xs ++ take b (drop a xs) ≡ take (a + b) xs
take-both zero b xs = let e : 0 + b ≡ b = omega arith in rw e refl
take-both (suc a) b [] = nothing b ∙ sym (nothing (suc a + b))
  where
    nothing : (n : ℕ) → take {A = ℕ} n [] ≡ []
    nothing zero = refl
    nothing (suc n) = refl
take-both (suc a) b (x ∷ xs) = let e : suc a + b ≡ suc (a + b) = omega arith in rw e (ap (λ (t : List ℕ). x ∷ t) (take-both a b xs))

last-low : (s : ℕ) (ends : List ℕ) (size : ℕ) → Rising s ends size → s ≤ last_end s ends
unfolding last_end Rising
last-low s [] size r = omega arith
last-low s (e ∷ ends) size r = let h = last-low e ends size r.1 in omega (arith, r.0)

concat-cut : (s : ℕ) (ends bytes : List ℕ) → Rising s ends (length bytes) → concat (cut_from s ends bytes) ≡ take (last_end s ends - s) (drop s bytes)
unfolding cut_from last_end Rising
concat-cut s [] bytes r = let e : s - s ≡ 0 = omega arith in rw e refl
concat-cut s (e ∷ ends) bytes r =
    let up = last-low e ends (length bytes) r.1 in
    let end : s + (e - s) ≡ e = omega (arith, r.0) in
    let there : drop (e - s) (drop s bytes) ≡ drop e bytes = drop-drop (e - s) s bytes ∙ rw end refl in
    let n : (e - s) + (last_end e ends - e) ≡ last_end e ends - s = omega (arith, r.0, up) in
    let rest = concat-cut e ends bytes r.1 in
    rw (rest, ← there) (take-both (e - s) (last_end e ends - e) (drop s bytes) ∙ rw n refl)

pub concat-fields : (ends bytes : List ℕ) → Rising 0 ends (length bytes)
    → (concat (cut_from 0 ends bytes) ≡ take (length (concat (cut_from 0 ends bytes))) bytes) × (length (concat (cut_from 0 ends bytes)) ≤ length bytes)
concat-fields ends bytes r =
    let whole : concat (cut_from 0 ends bytes) ≡ take (last_end 0 ends) bytes = concat-cut 0 ends bytes r ∙ (let e : last_end 0 ends - 0 ≡ last_end 0 ends = omega arith in rw e refl) in
    let within = rising-last 0 ends (length bytes) r in
    let size : length (concat (cut_from 0 ends bytes)) ≡ last_end 0 ends = ap (λ (t : List ℕ). length t) whole ∙ length-take-le (last_end 0 ends) bytes within in
    (rw size whole, rw size within)

pub concat-take : (n : ℕ) (fs : List (List ℕ)) → length (concat (take n fs)) ≤ length (concat fs)
concat-take zero fs = omega arith
concat-take (suc n) [] = omega arith
concat-take (suc n) (f ∷ fs) =
    let h = concat-take n fs in
    omega (arith, length-append f (concat (take n fs)), length-append f (concat fs))

-- the texts after fields were added
pub record AreAdded (starts bytes : List ℕ) (texts : List (List ℕ)) : Type 0 where
  pub rising : Rising 0 starts (length bytes)
  pub utf8 : AllText (parts starts bytes)
  pub value : parts starts bytes ≡ texts

pub texts-added : (fields : List (List ℕ)) (starts bytes : List ℕ) (texts : List (List ℕ)) → AreAdded starts bytes texts → AllText fields
    → AreAdded (starts ++ starts_of (length bytes) fields) (bytes ++ concat fields) (texts ++ fields)
unfolding starts_of AllText
texts-added [] starts bytes texts h all = rw (append-nil starts, append-nil bytes, append-nil texts) h
texts-added (f ∷ fields) starts bytes texts h all =
    let value = parts-push 0 starts bytes f h.rising in
    let one : AreAdded (starts ++ length bytes ∷ []) (bytes ++ f) (texts ++ f ∷ []) = record {
      rising = rising-push starts (length bytes) (length (bytes ++ f)) h.rising (omega (arith, length-append bytes f));
      utf8 = rw value (text-more (parts starts bytes) f h.utf8 all.0);
      value = value ∙ rw (h.value) refl;
    } in
    let rest = texts-added fields (starts ++ length bytes ∷ []) (bytes ++ f) (texts ++ f ∷ []) one all.1 in
    let size : length (bytes ++ f) ≡ length bytes + length f = length-append bytes f in
    let s = append_assoc starts (length bytes ∷ []) (starts_of (length bytes + length f) fields) in
    let b = append_assoc bytes f (concat fields) in
    let t = append_assoc texts (f ∷ []) fields in
    rw (size, s, b, t) at rest
