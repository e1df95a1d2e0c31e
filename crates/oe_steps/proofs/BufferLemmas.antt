-- Buffers of which one is taken out.
use Rattle.std.proofs.Common.{◌≡◌, ◌≢◌, ℕ, zero, suc, ◌+◌, ◌*◌, ◌-◌, ◌<◌, ◌≤◌, List, [], ◌∷◌, ◌++◌, length, take, get_or, set, refl, sym, ap, ◌∙◌, arith, length-append, inl, inr, Vec}
use Rattle.std.specs.declared.alloc.Global.{Global}
use Rattle.std.specs.Vec.{with_items}
use Rattle.std.proofs.lemmas.Bool.{cases_eq, cases_lt, lt-ltb, le-ltb}
use Rattle.std.specs.List.{sum_by}
use Rattle.std.proofs.Math.Nat.{suc-mul}
use Rattle.std.proofs.lemmas.List.Sums.{sum_by-cons}
use Rattle.oe_cell.specs.declared.cell.Cell.{Cell}
use Rattle.oe_steps.specs.Buffers.{AreOfSize, lists_of, buffer_at, buffer_beside}

left : (xs ys : List (Vec Cell Global)) (k : ℕ) → k < length xs → buffer_at (lists_of (xs ++ ys)) k ≡ buffer_at (lists_of xs) k
left [] ys k h = absurd (omega arith)
left (x ∷ xs) ys zero h = refl
left (x ∷ xs) ys (suc k) h = left xs ys k (omega arith)

right : (xs ys : List (Vec Cell Global)) (k : ℕ) → buffer_at (lists_of (xs ++ ys)) (length xs + k) ≡ buffer_at (lists_of ys) k
right [] ys k = let e : 0 + k ≡ k = omega arith in rw e refl
right (x ∷ xs) ys k = let e : suc (length xs) + k ≡ suc (length xs + k) = omega arith in rw e (right xs ys k)

set_one : (own : List (Vec Cell Global)) (v : Vec Cell Global) → length own ≡ 1 → set own 0 v ≡ v ∷ []
set_one [] v h = absurd (omega arith)
set_one (x ∷ []) v h = refl
set_one (x ∷ y ∷ xs) v h = absurd (omega arith)

pub length-lists : (buffers : List (Vec Cell Global)) → length (lists_of buffers) ≡ length buffers
length-lists [] = refl
length-lists (b ∷ buffers) = ap suc (length-lists buffers)

-- the buffers in three parts: those before a slot, the slot's, and those after it
pub record AreParts (buffers before own after : List (Vec Cell Global)) (slot : ℕ) : Type 0 where
  pub whole : buffers ≡ before ++ (own ++ after)
  pub front : length before ≡ slot
  pub one : length own ≡ 1

module _ (buffers before own after : List (Vec Cell Global)) (slot : ℕ) (p : AreParts buffers before own after slot) where
  part_before : (k : ℕ) → k < slot → buffer_at (lists_of buffers) k ≡ buffer_at (lists_of before) k
  part_before k h =
      let e = p.whole in
      let long = p.front in
      rw e (left before (own ++ after) k (omega arith))

  part_after : (k : ℕ) → slot < k → buffer_at (lists_of buffers) k ≡ buffer_at (lists_of after) (k - length before - 1)
  part_after k h =
      let e = p.whole in
      let long = p.front in
      let one = p.one in
      let split : k ≡ length before + (length own + (k - length before - 1)) = omega arith in
      rw e (ap (buffer_at (lists_of (before ++ (own ++ after)))) split ∙ right before (own ++ after) (length own + (k - length before - 1)) ∙ right own after (k - length before - 1))

  pub part_own : buffer_at (lists_of buffers) slot ≡ buffer_at (lists_of own) 0
  part_own =
      let e = p.whole in
      let long = p.front in
      let one = p.one in
      let split : slot ≡ length before + 0 = omega arith in
      rw e (ap (buffer_at (lists_of (before ++ (own ++ after)))) split ∙ right before (own ++ after) 0 ∙ left own after 0 (omega arith))

  -- beside the one that is taken out, each is where it was
  pub part_beside : (k : ℕ) → k ≢ slot → buffer_beside (lists_of before) (lists_of after) k ≡ buffer_at (lists_of buffers) k
  part_beside k other =
      let long = p.front in
      let longer = length-lists before in
      elim (cases_lt k slot) [
        | inl lt ↦
            let is = lt-ltb k (length (lists_of before)) (omega arith) in
            rw is (sym (part_before k lt))
        | inr ge ↦
            let is = le-ltb k (length (lists_of before)) (omega arith) in
            rw (is, longer) (sym (part_after k (omega arith)))
      ]

  -- the slot's buffer is written
  written : (v : Vec Cell Global) → AreParts (before ++ (set own 0 v ++ after)) before (v ∷ []) after slot
  written v = record { whole = ap (λ o. before ++ (o ++ after)) (set_one own v p.one); front = p.front; one = omega arith }

pub others_stay : (buffers before own after : List (Vec Cell Global)) (slot : ℕ) → AreParts buffers before own after slot → (v : Vec Cell Global) (k : ℕ) → k ≢ slot → buffer_at (lists_of (before ++ (set own 0 v ++ after))) k ≡ buffer_at (lists_of buffers) k
others_stay buffers before own after slot p v k other =
    let q = written buffers before own after slot p v in
    sym (part_beside _ before (v ∷ []) after slot q k other) ∙ part_beside buffers before own after slot p k other

pub own_written : (buffers before own after : List (Vec Cell Global)) (slot : ℕ) → AreParts buffers before own after slot → (v : Vec Cell Global) → buffer_at (lists_of (before ++ (set own 0 v ++ after))) slot ≡ v.items
own_written buffers before own after slot p v = part_own _ before (v ∷ []) after slot (written buffers before own after slot p v)

pub as_many : (buffers before own after : List (Vec Cell Global)) (slot : ℕ) → AreParts buffers before own after slot → (v : Vec Cell Global) → length (before ++ (set own 0 v ++ after)) ≡ length buffers
as_many buffers before own after slot p v =
    let e = p.whole in
    let one = p.one in
    let new = set_one own v p.one in
    let a = length-append before (own ++ after) in
    let b = length-append own after in
    let d = length-append before (v ∷ after) in
    rw (e, new) (omega arith)

pub take_front : {X : Type 0} (new rest : List X) (count : ℕ) → length new ≡ count → take count (new ++ rest) ≡ new
take_front [] rest zero h = refl
take_front [] rest (suc count) h = absurd (omega arith)
take_front (x ∷ new) rest zero h = absurd (omega arith)
take_front (x ∷ new) rest (suc count) h = ap (λ l. x ∷ l) (take_front new rest count (omega arith))

pub own_items : (own : List (Vec Cell Global)) (x : Vec Cell Global) → length own ≡ 1 → buffer_at (lists_of own) 0 ≡ (get_or own 0 x).items
own_items [] x h = absurd (omega arith)
own_items (v ∷ own) x h = refl

-- a vector's elements after as many are written
pub with_items_is : {X : Type 0} (w : Vec X Global) (xs : List X) → length xs ≡ length w.items → (with_items w xs).items ≡ xs
with_items_is w xs h = take_front xs _ w.len (omega (arith, w.ok.0))

pub none_of_size : (cells : ℕ) → AreOfSize (lists_of []) 0 cells
none_of_size cells = record { as_many = refl; each = λ slot h. absurd (omega arith) }

pub one_more : (buffers : List (Vec Cell Global)) (v : Vec Cell Global) (count cells : ℕ) → AreOfSize (lists_of buffers) count cells
    → length v.items ≡ cells → AreOfSize (lists_of (buffers ++ v ∷ [])) (count + 1) cells
one_more buffers v count cells are long =
    let many = are.as_many in
    let now = length-lists buffers in
    let then = length-lists (buffers ++ v ∷ []) in
    let longer = length-append buffers (v ∷ []) in
    record {
      as_many = omega arith;
      each = λ slot h. elim (cases_lt slot count) [
        | inl lt ↦ ap length (left buffers (v ∷ []) slot (omega arith)) ∙ are.each slot lt
        | inr ge ↦
            let split : slot ≡ length buffers + 0 = omega arith in
            ap (λ k. length (buffer_at (lists_of (buffers ++ v ∷ [])) k)) split ∙ ap length (right buffers (v ∷ []) 0) ∙ long
      ];
    }

-- one buffer is written, and keeps its length
pub of_size_after : (old new : List (List Cell)) (slot count cells : ℕ) → AreOfSize old count cells → length new ≡ length old
    → ((k : ℕ) → k ≢ slot → buffer_at new k ≡ buffer_at old k) → length (buffer_at new slot) ≡ length (buffer_at old slot)
    → AreOfSize new count cells
of_size_after old new slot count cells are many others own = record {
  as_many = many ∙ are.as_many;
  each = λ k h. elim (cases_eq k slot) [
    | inl here ↦ ap (λ i. length (buffer_at new i)) here ∙ own ∙ ap (λ i. length (buffer_at old i)) (sym here) ∙ are.each k h
    | inr other ↦ ap length (others k other) ∙ are.each k h
  ];
}

pub at_items : (buffers : List (Vec Cell Global)) (slot : ℕ) (x : Vec Cell Global) → slot < length buffers
    → buffer_at (lists_of buffers) slot ≡ (get_or buffers slot x).items
at_items [] slot x h = absurd (omega arith)
at_items (b ∷ buffers) zero x h = refl
at_items (b ∷ buffers) (suc slot) x h = at_items buffers slot x (omega arith)

-- what stands in the slot once its vector is written
pub own_after : (buffers before own after : List (Vec Cell Global)) (slot : ℕ) → AreParts buffers before own after slot
    → (w : Vec Cell Global) (out : List Cell) → length out ≡ length w.items
    → buffer_at (lists_of (before ++ (set own 0 (with_items w out) ++ after))) slot ≡ out
own_after buffers before own after slot p w out long =
    own_written buffers before own after slot p (with_items w out) ∙ with_items_is w out long

pub size_after : (buffers before own after : List (Vec Cell Global)) (slot count cells : ℕ) → AreParts buffers before own after slot
    → AreOfSize (lists_of buffers) count cells → (w : Vec Cell Global) (out : List Cell) → length out ≡ length w.items
    → length out ≡ length (buffer_at (lists_of buffers) slot)
    → AreOfSize (lists_of (before ++ (set own 0 (with_items w out) ++ after))) count cells
size_after buffers before own after slot count cells p are w out long same =
    of_size_after (lists_of buffers) (lists_of (before ++ (set own 0 (with_items w out) ++ after))) slot count cells are
    (length-lists (before ++ (set own 0 (with_items w out) ++ after))
    ∙ as_many buffers before own after slot p (with_items w out) ∙ sym (length-lists buffers))
    (others_stay buffers before own after slot p (with_items w out))
    (ap length (own_after buffers before own after slot p w out long) ∙ same)

pub beside_long : (buffers before own after : List (Vec Cell Global)) (slot count cells : ℕ) → AreParts buffers before own after slot
    → AreOfSize (lists_of buffers) count cells → (k : ℕ) → k < count → k ≢ slot
    → cells ≤ length (buffer_beside (lists_of before) (lists_of after) k)
beside_long buffers before own after slot count cells p are k below other =
    let long = ap length (part_beside buffers before own after slot p k other) ∙ are.each k below in
    omega arith

-- how many cells they have together
sum_of_sizes : (buffers : List (List Cell)) (cells : ℕ) → ((slot : ℕ) → slot < length buffers → length (buffer_at buffers slot) ≡ cells)
    → sum_by (λ (b : List Cell). length b) buffers ≡ length buffers * cells
sum_of_sizes [] cells each = omega arith
sum_of_sizes (b ∷ buffers) cells each =
    let first = each 0 (omega arith) in
    let rest = sum_of_sizes buffers cells (λ slot h. each (suc slot) (omega arith)) in
    let sum = sum_by-cons (λ (c : List Cell). length c) b buffers in
    let product = suc-mul (length buffers) cells in
    omega (arith, first, rest, sum, product)

pub sum_of_size : (buffers : List (List Cell)) (count cells : ℕ) → AreOfSize buffers count cells
    → sum_by (λ (b : List Cell). length b) buffers ≡ count * cells
sum_of_size buffers count cells are =
    let many = are.as_many in
    sum_of_sizes buffers cells (λ slot h. are.each slot (omega arith)) ∙ ap (λ n. n * cells) many
