-- What stands in a store, over one write and over many: what was written is read back, a piece elsewhere leaves it, pieces
-- one behind the other are one piece, and writes within a range leave the bytes outside it.
use Rattle.std.proofs.Common.{◌≡◌, ℕ, ◌+◌, ◌-◌, ◌<◌, ◌≤◌, ◌⊎◌, inl, inr, min, List, ◌++◌, length, get_or, take, drop, replicate, Option, Some, None, IfSome, refl, ap, sym, ◌∙◌, arith}
use Rattle.std.proofs.lemmas.Bool.{cases_lt}
use Rattle.std.proofs.lemmas.Grind.{common_steps, same_number_lists}
use Rattle.std.proofs.lemmas.List.{get_or-take, get_or-drop, get_or-replicate, length-take, length-drop, length-append, length-replicate}
use Rattle.std.proofs.lemmas.Slice.{drop-append-drop}
use Rattle.std.proofs.Math.ListN.{get_or-eq_default}
use Rattle.std.proofs.Math.Seq.{take-add}
use Rattle.oe_outside.specs.Stored.{with_piece, IsReadAt, IsSameOutside, StaysOutside, Puts, HoldsAt, StoreHolds}

-- a byte past the end reads as 0
past : (xs : List ℕ) (k : ℕ) → length xs ≤ k → get_or xs k 0 ≡ 0
past xs k h = get_or-eq_default xs 0 h

-- The bytes outside a range, byte by byte: this says the same, and adds up over writes.
record IsSameBytes (at n : ℕ) (old new : List ℕ) : Type 0 where
  before : (k : ℕ) → k < at → get_or new k 0 ≡ get_or old k 0
  after : (k : ℕ) → at + n ≤ k → get_or new k 0 ≡ get_or old k 0
  no_shorter : length old ≤ length new
  no_longer : (length new ≤ length old) ⊎ (length new ≤ at + n)

bytes_of : (at n : ℕ) (old new : List ℕ) → IsSameOutside at n old new → IsSameBytes at n old new
bytes_of at n old new s = record {
  before = λ k h. elim (cases_lt k (length old)) [
    | inl lt ↦ sym (get_or-take (min at (length old)) new k 0 (omega arith)) ∙ ap (λ xs. get_or xs k 0) s.before ∙ get_or-take at old k 0 h
    | inr ge ↦ elim (cases_lt k (length new)) [
      | inl lt ↦ sym (get_or-take at new k 0 h)
          ∙ (let e : k ≡ length old + (k - length old) = omega arith in ap (λ i. get_or (take at new) i 0) e)
          ∙ sym (get_or-drop (length old) (take at new) (k - length old) 0)
          ∙ ap (λ xs. get_or xs (k - length old) 0) s.gap
          ∙ get_or-replicate (min at (length new) - length old) (k - length old) 0 0 (omega arith)
          ∙ sym (past old k ge)
      | inr end ↦ past new k end ∙ sym (past old k ge)
    ]
  ];
  after = λ k h.
      (let e : k ≡ at + n + (k - (at + n)) = omega arith in
      ap (λ i. get_or new i 0) e ∙ sym (get_or-drop (at + n) new (k - (at + n)) 0) ∙ ap (λ xs. get_or xs (k - (at + n)) 0) s.after ∙ get_or-drop (at + n) old (k - (at + n)) 0 ∙ ap (λ i. get_or old i 0) (sym e));
  no_shorter = s.no_shorter;
  no_longer = let l = s.no_longer in elim (cases_lt (at + n) (length new)) [
    | inl lt ↦ inl (omega arith)
    | inr ge ↦ inr ge
  ];
}

outside_of : (at n : ℕ) (old new : List ℕ) → IsSameBytes at n old new → IsSameOutside at n old new
outside_of at n old new s =
    let more = s.no_shorter in
    let most = s.no_longer in
    record {
      before = same_number_lists _ _ (simp length-take (omega arith))
          (λ k h. (let lt = simp length-take at h in
          let short : k < min at (length old) = omega arith in
          get_or-take (min at (length old)) new k 0 short ∙ s.before k (omega arith) ∙ sym (get_or-take at old k 0 (omega arith))));
      after = same_number_lists _ _ (simp length-drop (omega arith))
          (λ k h. get_or-drop (at + n) new k 0 ∙ s.after (at + n + k) (omega arith) ∙ sym (get_or-drop (at + n) old k 0));
      gap = same_number_lists _ _ (simp (length-drop, length-take, length-replicate) (omega arith))
          (λ k h. (let lt = simp (length-drop, length-take) at h in
          let e : k < min at (length new) - length old = omega arith in
          get_or-drop (length old) (take at new) k 0 ∙ get_or-take at new (length old + k) 0 (omega arith)
          ∙ s.before (length old + k) (omega arith) ∙ past old (length old + k) (omega arith)
          ∙ sym (get_or-replicate (min at (length new) - length old) k 0 0 e)));
      no_shorter = more;
      no_longer = omega arith;
    }

-- over no write
pub IsSameOutside-refl : (bytes : List ℕ) (at n : ℕ) → IsSameOutside at n bytes bytes
IsSameOutside-refl bytes at n =
    outside_of at n bytes bytes (record { before = λ k h. refl; after = λ k h. refl; no_shorter = omega arith; no_longer = inl (omega arith) })

-- over some writes and then some more
pub IsSameOutside-trans : {at n : ℕ} {a b c : List ℕ} → IsSameOutside at n a b → IsSameOutside at n b c → IsSameOutside at n a c
IsSameOutside-trans {at} {n} {a} {b} {c} first second =
    let f = bytes_of at n a b first in
    let s = bytes_of at n b c second in
    outside_of at n a c (record {
      before = λ k h. s.before k h ∙ f.before k h;
      after = λ k h. s.after k h ∙ f.after k h;
      no_shorter = let x = f.no_shorter in let y = s.no_shorter in omega arith;
      no_longer = let x = f.no_longer in let y = s.no_longer in elim (cases_lt (at + n) (length c)) [
        | inl lt ↦ inl (omega arith)
        | inr ge ↦ inr ge
      ];
    })

-- a range within a wider one
pub IsSameOutside-within : {at n from m : ℕ} {a b : List ℕ} → from ≤ at → at + n ≤ from + m → IsSameOutside at n a b → IsSameOutside from m a b
IsSameOutside-within {at} {n} {from} {m} {a} {b} low high same =
    let s = bytes_of at n a b same in
    outside_of from m a b (record {
      before = λ k h. s.before k (omega arith);
      after = λ k h. s.after k (omega arith);
      no_shorter = s.no_shorter;
      no_longer = let x = s.no_longer in elim (cases_lt (from + m) (length b)) [
        | inl lt ↦ inl (omega arith)
        | inr ge ↦ inr ge
      ];
    })

length-front : (bytes : List ℕ) (at : ℕ) (piece : List ℕ) → length (take at bytes ++ replicate (at - length bytes) 0 ++ piece) ≡ at + length piece
length-front bytes at piece = grind (arith, common_steps)

-- one write of a piece that fits the range
pub IsSameOutside-with_piece : (bytes : List ℕ) (at n : ℕ) (piece : List ℕ) → length piece ≤ n → IsSameOutside at n bytes (with_piece bytes at piece)
IsSameOutside-with_piece bytes at n piece fits = record {
  before = grind (arith, common_steps);
  after = drop-append-drop (at + length piece) bytes (take at bytes ++ replicate (at - length bytes) 0 ++ piece) (at + n) (omega arith) (length-front bytes at piece);
  gap = grind (arith, common_steps);
  no_shorter = grind (arith, common_steps);
  no_longer = grind (arith, common_steps);
}

-- one write that took a front of the piece
pub IsSameOutside-put : (bytes new : List ℕ) (at n count : ℕ) (piece : List ℕ) → count ≤ n → new ≡ with_piece bytes at (take count piece) → IsSameOutside at n bytes new
IsSameOutside-put bytes new at n count piece fits is =
    rw is (IsSameOutside-with_piece bytes at n (take count piece) (grind (arith, common_steps)))

-- The same of a store whose bytes may be hidden: over no write, over some and then some more, within a wider range, and over
-- a write.
pub StaysOutside-refl : (store : Option (List ℕ)) (at n : ℕ) → StaysOutside store at n store
StaysOutside-refl None at n = refl
StaysOutside-refl (Some bytes) at n = IsSameOutside-refl bytes at n

pub StaysOutside-trans : (a b c : Option (List ℕ)) (at n : ℕ) → StaysOutside a at n b → StaysOutside b at n c → StaysOutside a at n c
StaysOutside-trans None None c at n first second = second
StaysOutside-trans None (Some b) c at n first second = cc
StaysOutside-trans (Some a) None c at n first second = absurd first
StaysOutside-trans (Some a) (Some b) None at n first second = absurd second
StaysOutside-trans (Some a) (Some b) (Some c) at n first second = IsSameOutside-trans first second

pub StaysOutside-within : (a b : Option (List ℕ)) (at n from m : ℕ) → from ≤ at → at + n ≤ from + m → StaysOutside a at n b → StaysOutside a from m b
StaysOutside-within None b at n from m low high same = same
StaysOutside-within (Some a) None at n from m low high same = absurd same
StaysOutside-within (Some a) (Some b) at n from m low high same = IsSameOutside-within low high same

pub StaysOutside-put : (a b : Option (List ℕ)) (at n : ℕ) (piece : List ℕ) → length piece ≤ n → Puts a at piece b → StaysOutside a at n b
StaysOutside-put None b at n piece fits puts = puts
StaysOutside-put (Some a) b at n piece fits puts = rw puts (IsSameOutside-with_piece a at n piece fits)

-- what was written stands there
pub HoldsAt-put : (all : List ℕ) (at : ℕ) (piece : List ℕ) → HoldsAt (with_piece all at piece) at piece
HoldsAt-put all at piece = grind (arith, common_steps)

-- bytes that stand there, and are some, lie within
pub HoldsAt-inside : (all : List ℕ) (at : ℕ) (bytes : List ℕ) → HoldsAt all at bytes → 0 < length bytes → at + length bytes ≤ length all
HoldsAt-inside all at bytes holds some =
    let long : length (take (length bytes) (drop at all)) ≡ length bytes = ap length holds in
    let short : min (length bytes) (length all - at) ≡ length bytes = simp (length-take, length-drop) at long in
    omega arith

-- what stands there, byte by byte
HoldsAt-bytes : (all : List ℕ) (at : ℕ) (bytes : List ℕ) → HoldsAt all at bytes → (k : ℕ) → k < length bytes → get_or all (at + k) 0 ≡ get_or bytes k 0
HoldsAt-bytes all at bytes holds k h =
    sym (get_or-drop at all k 0) ∙ sym (get_or-take (length bytes) (drop at all) k 0 h) ∙ ap (λ xs. get_or xs k 0) holds

HoldsAt-from : (all : List ℕ) (at : ℕ) (bytes : List ℕ) → (0 < length bytes → at + length bytes ≤ length all) → ((k : ℕ) → k < length bytes → get_or all (at + k) 0 ≡ get_or bytes k 0) → HoldsAt all at bytes
HoldsAt-from all at bytes inside same =
    let long : min (length bytes) (length all - at) ≡ length bytes = elim (cases_lt 0 (length bytes)) [
      | inl some ↦ (let within = inside some in omega arith)
      | inr none ↦ omega arith
    ] in
    same_number_lists _ _ (simp (length-take, length-drop) long)
    (λ k h. (let lt = simp (length-take, length-drop) at h in
    let below : k < length bytes = omega arith in
    get_or-take (length bytes) (drop at all) k 0 below ∙ get_or-drop at all k 0 ∙ same k below))

-- writes elsewhere leave what stands there
pub HoldsAt-elsewhere : (old new : List ℕ) (at from n : ℕ) (bytes : List ℕ) → HoldsAt old at bytes → IsSameOutside from n old new → (at + length bytes ≤ from) ⊎ (from + n ≤ at) → HoldsAt new at bytes
HoldsAt-elsewhere old new at from n bytes holds same apart =
    let s = bytes_of from n old new same in
    let longer = s.no_shorter in
    HoldsAt-from new at bytes (λ some. (let inside = HoldsAt-inside old at bytes holds some in omega arith))
    (λ k h. elim apart [
      | inl below ↦ s.before (at + k) (omega arith) ∙ HoldsAt-bytes old at bytes holds k h
      | inr above ↦ s.after (at + k) (omega arith) ∙ HoldsAt-bytes old at bytes holds k h
    ])

-- pieces one behind the other are one piece, and the other way round
pub HoldsAt-both : (all : List ℕ) (at : ℕ) (first second : List ℕ) → HoldsAt all at first → HoldsAt all (at + length first) second → HoldsAt all at (first ++ second)
HoldsAt-both all at first second one two =
    let long : length (first ++ second) ≡ length first + length second = length-append first second in
    let next : drop (length first) (drop at all) ≡ drop (at + length first) all = grind (arith, common_steps) in
    rw long (take-add (length first) (length second) (drop at all) ∙ ap (λ xs. xs ++ take (length second) (drop (length first) (drop at all))) one
    ∙ ap (λ xs. first ++ take (length second) xs) next ∙ ap (λ xs. first ++ xs) two)

pub HoldsAt-first : (all : List ℕ) (at : ℕ) (first second : List ℕ) → HoldsAt all at (first ++ second) → HoldsAt all at first
HoldsAt-first all at first second both =
    let long : length (first ++ second) ≡ length first + length second = length-append first second in
    HoldsAt-from all at first (λ some. (let inside = HoldsAt-inside all at (first ++ second) both (omega arith) in omega arith))
    (λ k h. HoldsAt-bytes all at (first ++ second) both k (omega arith) ∙ grind (arith, common_steps))

pub HoldsAt-second : (all : List ℕ) (at : ℕ) (first second : List ℕ) → HoldsAt all at (first ++ second) → HoldsAt all (at + length first) second
HoldsAt-second all at first second both =
    let long : length (first ++ second) ≡ length first + length second = length-append first second in
    HoldsAt-from all (at + length first) second (λ some. (let inside = HoldsAt-inside all at (first ++ second) both (omega arith) in omega arith))
    (λ k h. (let e : at + length first + k ≡ at + (length first + k) = omega arith in
    ap (λ i. get_or all i 0) e ∙ HoldsAt-bytes all at (first ++ second) both (length first + k) (omega arith) ∙ grind (arith, common_steps)))

-- one more piece is put behind what stands there
pub HoldsAt-behind : (all : List ℕ) (at : ℕ) (held piece : List ℕ) → HoldsAt all at held → HoldsAt (with_piece all (at + length held) piece) at (held ++ piece)
HoldsAt-behind all at held piece holds =
    let new = with_piece all (at + length held) piece in
    HoldsAt-both new at held piece
    (HoldsAt-elsewhere all new at (at + length held) (length piece) held holds (IsSameOutside-with_piece all (at + length held) (length piece) piece (omega arith)) (inl (omega arith)))
    (HoldsAt-put all (at + length held) piece)

-- a read of what stands there gives it
pub IsReadAt-held : (all : List ℕ) (at n : ℕ) (bytes buffer : List ℕ) → HoldsAt all at bytes → 0 < length bytes → IsReadAt all at (length bytes) n buffer → (n ≡ length bytes) × (take n buffer ≡ bytes)
IsReadAt-held all at n bytes buffer holds some read =
    let inside = HoldsAt-inside all at bytes holds some in
    let count = read.count in
    let whole : n ≡ length bytes = omega arith in
    (whole, read.given ∙ ap (λ k. take k (drop at all)) whole ∙ holds)

-- a read that filled its buffer gave what stands there
pub HoldsAt-read : (all : List ℕ) (at n : ℕ) (buffer : List ℕ) → IsReadAt all at (length buffer) n buffer → n ≡ length buffer → HoldsAt all at buffer
HoldsAt-read all at n buffer read whole =
    ap (λ k. take k (drop at all)) (sym whole) ∙ sym read.given ∙ grind (arith, common_steps)

-- The same of a store whose bytes may be hidden.
pub StoreHolds-put : (before after : Option (List ℕ)) (at : ℕ) (piece : List ℕ) → Puts before at piece after → StoreHolds after at piece
StoreHolds-put None after at piece puts = rw puts tt
StoreHolds-put (Some all) after at piece puts = rw puts (HoldsAt-put all at piece)

pub StoreHolds-behind : (before after : Option (List ℕ)) (at : ℕ) (held piece : List ℕ) → StoreHolds before at held → Puts before (at + length held) piece after → StoreHolds after at (held ++ piece)
StoreHolds-behind None after at held piece holds puts = rw puts tt
StoreHolds-behind (Some all) after at held piece holds puts = rw puts (HoldsAt-behind all at held piece holds)

pub StoreHolds-elsewhere : (before after : Option (List ℕ)) (at from n : ℕ) (bytes : List ℕ) → StoreHolds before at bytes → StaysOutside before from n after → (at + length bytes ≤ from) ⊎ (from + n ≤ at) → StoreHolds after at bytes
StoreHolds-elsewhere None None at from n bytes holds same apart = tt
StoreHolds-elsewhere None (Some new) at from n bytes holds same apart = cc
StoreHolds-elsewhere (Some old) None at from n bytes holds same apart = tt
StoreHolds-elsewhere (Some old) (Some new) at from n bytes holds same apart = HoldsAt-elsewhere old new at from n bytes holds same apart

pub StoreHolds-read : (store : Option (List ℕ)) (at room n : ℕ) (buffer : List ℕ) → length buffer ≡ room → IfSome store (λ all. IsReadAt all at room n buffer) → n ≡ room → StoreHolds store at buffer
StoreHolds-read None at room n buffer long read whole = tt
StoreHolds-read (Some all) at room n buffer long read whole =
    HoldsAt-read all at n buffer (rw (sym long) at read) (whole ∙ sym long)

-- a read within what a store has fills its buffer
pub IsReadAt-whole : (store : Option (List ℕ)) (at room n : ℕ) (buffer : List ℕ) → IfSome store (λ all. IsReadAt all at room n buffer) → IfSome store (λ all. at + room ≤ length all → n ≡ room)
IsReadAt-whole None at room n buffer read = tt
IsReadAt-whole (Some all) at room n buffer read = λ inside. (let count = read.count in omega arith)
