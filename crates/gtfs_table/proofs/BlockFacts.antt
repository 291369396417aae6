-- Offsets in blocks, by their number.
use Rattle.std.proofs.Common.{◌≡◌, ◌≢◌, ◌<◌, ◌≤◌, ◌+◌, ◌-◌, ◌*◌, ◌/◌, ◌%◌, ◌∷◌, ◌++◌, ◌∙◌, [], ℕ, zero, suc, List, length, take, get_or, refl, sym, ap, arith, length-append}
use Rattle.std.proofs.lemmas.List.{get_or_append_left, get_or-take, get_or_push, get_or_read, length_push}
use Rattle.gtfs_table.specs.OffsetBlocks.{offsets_from}
use Rattle.gtfs_table.specs.FieldOffsets.{starts_of}

length-offsets_from : (n : ℕ) (bases ds : List ℕ) → length (offsets_from n bases ds) ≡ length ds
unfolding offsets_from
length-offsets_from n bases [] = refl
length-offsets_from n bases (d ∷ ds) = rw (length-offsets_from (n + 1) bases ds) refl

pub offset-at : (n : ℕ) (bases ds : List ℕ) (i : ℕ) → i < length ds → get_or (offsets_from n bases ds) i 0 ≡ get_or bases ((n + i) / 256) 0 + get_or ds i 0
unfolding offsets_from
offset-at n bases [] i h = absurd (omega arith)
offset-at n bases (d ∷ ds) zero h = let e : n + 0 ≡ n = omega arith in rw e refl
offset-at n bases (d ∷ ds) (suc i) h = let e : n + suc i ≡ n + 1 + i = omega arith in rw e (offset-at (n + 1) bases ds i (omega arith))

offsets-push : (n : ℕ) (bases ds : List ℕ) (d : ℕ) → offsets_from n bases (ds ++ d ∷ []) ≡ offsets_from n bases ds ++ (get_or bases ((n + length ds) / 256) 0 + d) ∷ []
unfolding offsets_from
offsets-push n bases [] d = let e : n + 0 ≡ n = omega arith in rw e refl
offsets-push n bases (x ∷ ds) d =
    let e : n + suc (length ds) ≡ n + 1 + length ds = omega arith in
    rw (e, offsets-push (n + 1) bases ds d) refl

-- only the bases of blocks that are begun count
offsets-same : (n : ℕ) (a b ds : List ℕ) → ((k : ℕ) → 256 * k < n + length ds → get_or a k 0 ≡ get_or b k 0) → offsets_from n a ds ≡ offsets_from n b ds
unfolding offsets_from
offsets-same n a b [] h = refl
offsets-same n a b (d ∷ ds) h =
    let here : get_or a (n / 256) 0 ≡ get_or b (n / 256) 0 = h (n / 256) (omega arith) in
    let rest = offsets-same (n + 1) a b ds (λ k lt. h k (omega arith)) in
    rw (here, rest) refl

take-offsets : (n k : ℕ) (bases ds : List ℕ) → take k (offsets_from n bases ds) ≡ offsets_from n bases (take k ds)
unfolding offsets_from
take-offsets n zero bases ds = refl
take-offsets n (suc k) bases [] = refl
take-offsets n (suc k) bases (d ∷ ds) = rw (take-offsets (n + 1) k bases ds) refl

-- how many offsets there are that are seen as this list
pub count-offsets : (bases ds xs : List ℕ) → offsets_from 0 bases ds ≡ xs → length xs ≡ length ds
count-offsets bases ds xs e = rw (← e) (length-offsets_from 0 bases ds)

-- one of them, by its base and its distance
pub offset-read : (bases ds xs : List ℕ) (i base d : ℕ) → offsets_from 0 bases ds ≡ xs → length ds ≤ 256 * length bases → i < length xs
    → base ≡ get_or bases (i / 256) base → d ≡ get_or ds i d → base + d ≡ get_or xs i 0
offset-read bases ds xs i base d e enough lt b r =
    let within : i < length ds = omega (arith, count-offsets bases ds xs e) in
    let at = offset-at 0 bases ds i within in
    let same : get_or (offsets_from 0 bases ds) i 0 ≡ get_or xs i 0 = ap (λ (t : List ℕ). get_or t i 0) e in
    let n : 0 + i ≡ i = omega arith in
    let here : get_or (offsets_from 0 bases ds) i 0 ≡ get_or bases (i / 256) 0 + get_or ds i 0 = rw n at at in
    omega (arith, same, here, get_or_read bases (i / 256) base (omega arith) b 0, get_or_read ds i d within r 0)

-- one more, in a block that is begun
pub offset-pushed : (bases ds xs new : List ℕ) (count base d offset : ℕ) → offsets_from 0 bases ds ≡ xs → length ds ≤ 256 * length bases → count ≡ length ds
    → count % 256 ≢ 0 → base ≡ get_or bases (count / 256) base → base + d ≡ offset → new ≡ ds ++ d ∷ [] → offsets_from 0 bases new ≡ xs ++ offset ∷ []
offset-pushed bases ds xs new count base d offset e enough c inner b o s =
    let number : 0 + length ds ≡ count = omega arith in
    let is = get_or_read bases (count / 256) base (omega arith) b 0 in
    let value : get_or bases (count / 256) 0 + d ≡ offset = omega arith in
    let more = offsets-push 0 bases ds d in
    rw s (more ∙ rw (number, value, e) refl)

-- offsets that are seen as this list, with as many bases as blocks begun
pub record AreInBlocks (bases ds xs : List ℕ) : Type 0 where
  pub enough : length ds ≤ 256 * length bases
  pub begun : 256 * length bases < length ds + 256
  pub value : offsets_from 0 bases ds ≡ xs

-- the first of a block
pub block-begun : (bases ds xs new_bases new_ds : List ℕ) (base : ℕ) → offsets_from 0 bases ds ≡ xs → length ds ≤ 256 * length bases → 256 * length bases < length ds + 256
    → length xs % 256 ≡ 0 → new_bases ≡ bases ++ base ∷ [] → new_ds ≡ ds ++ 0 ∷ [] → AreInBlocks new_bases new_ds (xs ++ base ∷ [])
block-begun bases ds xs new_bases new_ds base e enough begun full b s =
    let all : length ds ≡ 256 * length bases = omega (arith, count-offsets bases ds xs e) in
    let number : (0 + length ds) / 256 ≡ length bases = omega arith in
    let old : offsets_from 0 (bases ++ base ∷ []) ds ≡ offsets_from 0 bases ds =
    offsets-same 0 (bases ++ base ∷ []) bases ds (λ k lt. get_or_append_left bases (base ∷ []) 0 k (omega arith)) in
    let value : get_or (bases ++ base ∷ []) (length bases) 0 + 0 ≡ base = omega (arith, get_or_push bases base 0 (length bases) refl) in
    rw (b, s) (record {
      enough = omega (arith, length_push bases base, length_push ds 0);
      begun = omega (arith, length_push bases base, length_push ds 0);
      value = offsets-push 0 (bases ++ base ∷ []) ds 0 ∙ rw (number, value, old, e) refl;
    })

-- the first offsets, with as many bases as they need
pub offsets-first : (bases ds xs new_bases new_ds : List ℕ) (k count : ℕ) → offsets_from 0 bases ds ≡ xs → length new_ds ≤ 256 * k → new_bases ≡ take k bases → new_ds ≡ take count ds
    → offsets_from 0 new_bases new_ds ≡ take count xs
offsets-first bases ds xs new_bases new_ds k count e enough b s =
    let few = rw s at enough in
    rw (b, s, ← e) (offsets-same 0 (take k bases) bases (take count ds) (λ i lt. get_or-take k bases i 0 (omega arith)) ∙ sym (take-offsets 0 count bases ds))

-- more at once
offsets-append : (n : ℕ) (bases ds es : List ℕ) → offsets_from n bases (ds ++ es) ≡ offsets_from n bases ds ++ offsets_from (n + length ds) bases es
unfolding offsets_from
offsets-append n bases [] es = let e : n + 0 ≡ n = omega arith in rw e refl
offsets-append n bases (d ∷ ds) es =
    let e : n + suc (length ds) ≡ n + 1 + length ds = omega arith in
    rw (e, offsets-append (n + 1) bases ds es) refl

-- the starts of lists within one block
offsets-within : (n q : ℕ) (bases : List ℕ) (base start first : ℕ) (fields : List (List ℕ)) → get_or bases q 0 ≡ base → 256 * q ≤ n → n + length fields ≤ 256 * q + 256
    → base + start ≡ first → offsets_from n bases (starts_of start fields) ≡ starts_of first fields
unfolding offsets_from starts_of
offsets-within n q bases base start first [] b low high f = refl
offsets-within n q bases base start first (x ∷ fields) b low high f =
    let here : n / 256 ≡ q = omega arith in
    let next : base + (start + length x) ≡ first + length x = omega arith in
    rw (here, b, f, offsets-within (n + 1) q bases base (start + length x) (first + length x) fields b (omega arith) (omega arith) next) refl

length-starts : (start : ℕ) (fields : List (List ℕ)) → length (starts_of start fields) ≡ length fields
unfolding starts_of
length-starts start [] = refl
length-starts start (x ∷ fields) = rw (length-starts (start + length x) fields) refl

pub starts-pushed : (bases ds xs new : List ℕ) (count base start first : ℕ) (fields : List (List ℕ)) → AreInBlocks bases ds xs → count ≡ length ds → count % 256 ≢ 0
    → length fields ≤ 256 - count % 256 → base ≡ get_or bases (count / 256) base → base + start ≡ first → new ≡ ds ++ starts_of start fields
    → AreInBlocks bases new (xs ++ starts_of first fields)
starts-pushed bases ds xs new count base start first fields h c inner room b f s =
    let size : length (ds ++ starts_of start fields) ≡ count + length fields = omega (arith, length-append ds (starts_of start fields), length-starts start fields) in
    let is : get_or bases (count / 256) 0 ≡ base = sym (get_or_read bases (count / 256) base (omega (arith, h.enough)) b 0) in
    let number : 0 + length ds ≡ count = omega arith in
    let added = offsets-within count (count / 256) bases base start first fields is (omega arith) (omega arith) f in
    rw s (record {
      enough = omega (arith, size, h.enough, h.begun);
      begun = omega (arith, size, h.enough, h.begun);
      value = offsets-append 0 bases ds (starts_of start fields) ∙ rw (number, added, h.value) refl;
    })
