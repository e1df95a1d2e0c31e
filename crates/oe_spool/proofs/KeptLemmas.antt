-- Bytes that are kept, over writes within a range, and the records that stand on them.
use Rattle.std.proofs.Common.{◌≡◌, ℕ, zero, suc, ◌+◌, ◌<◌, ◌≤◌, ◌⊎◌, inl, inr, List, [], ◌∷◌, ◌++◌, length, Option, Some, None, refl, ap, subst, arith}
use Rattle.std.specs.List.{slice_get}
use Rattle.std.proofs.lemmas.Bool.{cases_lt}
use Rattle.std.proofs.lemmas.Option.{same_Some}
use Rattle.oe_cell.specs.Record.{record_of}
use Rattle.oe_cell.specs.declared.cell.Cell.{Cell}
use Rattle.oe_cell.specs.declared.cell.Cell.TheVariants.{Empty}
use Rattle.oe_cell.proofs.RecordLemmas.{length-record_of}
use Rattle.oe_dims.specs.Cube.{Cube}
use Rattle.oe_dims.specs.Dimensions.{Dimensions}
use Rattle.oe_dims.specs.Positions.{Position, IsPosition, number_of}
use Rattle.oe_dims.proofs.CubeLemmas.{position_alone}
use Rattle.oe_outside.specs.Stored.{IsSameOutside, StaysOutside, HoldsAt, StoreHolds}
use Rattle.oe_outside.proofs.Stores.{HoldsAt-elsewhere, HoldsAt-both, HoldsAt-first, HoldsAt-second}
use Rattle.oe_spool.specs.Spooled.{IsInSome, AreDisjoint, record_offset, HoldsRecords, HoldsWindow, IsRecordByte, KeepsBut, KeepsBytesBut, ChangesOnly}
use Rattle.oe_window.specs.Cells.{cell_at}
use Rattle.oe_window.specs.Windows.{IsIn}
use Rattle.oe_window.specs.declared.window.Window.{Window}

-- ---- one byte

-- a byte that stands at an index is the piece of one byte at that offset
pub byte_held : (all : List ℕ) (k byte : ℕ) → slice_get all k ≡ Some byte → HoldsAt all k (byte ∷ [])
byte_held [] k byte e = cc
byte_held (x ∷ xs) zero byte e = ap (λ b. b ∷ []) (same_Some x byte e)
byte_held (x ∷ xs) (suc k) byte e = byte_held xs k byte e

head_of : (x y : ℕ) (xs : List ℕ) → x ∷ [] ≡ y ∷ xs → x ≡ y
head_of x y xs e = cc

pub held_byte : (all : List ℕ) (k byte : ℕ) → HoldsAt all k (byte ∷ []) → slice_get all k ≡ Some byte
held_byte [] zero byte e = cc
held_byte [] (suc k) byte e = cc
held_byte (x ∷ xs) zero byte e = ap Some (head_of x byte [] e)
held_byte (x ∷ xs) (suc k) byte e = held_byte xs k byte e

-- ---- bytes that are kept

pub bytes_kept : (touched : ℕ → Type 0) (store : Option (List ℕ)) → KeepsBytesBut touched store store
bytes_kept touched None = refl
bytes_kept touched (Some all) = record { no_shorter = omega arith; kept = λ offset byte free there. there }

pub kept_by_both : (t u : ℕ → Type 0) (a b c : Option (List ℕ)) → KeepsBytesBut t a b → KeepsBytesBut u b c → KeepsBytesBut (λ offset. t offset ⊎ u offset) a c
kept_by_both t u None None c first second = second
kept_by_both t u None (Some b) c first second = cc
kept_by_both t u (Some a) None c first second = absurd first
kept_by_both t u (Some a) (Some b) None first second = absurd second
kept_by_both t u (Some a) (Some b) (Some c) first second = record {
  no_shorter = let x = first.no_shorter in let y = second.no_shorter in omega arith;
  kept = λ offset byte free there. second.kept offset byte (λ h. free (inr h)) (first.kept offset byte (λ h. free (inl h)) there);
}

pub kept_by_more : (t u : ℕ → Type 0) (a b : Option (List ℕ)) → ((offset : ℕ) → t offset → u offset) → KeepsBytesBut t a b → KeepsBytesBut u a b
kept_by_more t u None b more kept = kept
kept_by_more t u (Some a) None more kept = absurd kept
kept_by_more t u (Some a) (Some b) more kept = record {
  no_shorter = kept.no_shorter;
  kept = λ offset byte free there. kept.kept offset byte (λ h. free (more offset h)) there;
}

either_way : (t : ℕ → Type 0) (offset : ℕ) → t offset ⊎ t offset → t offset
either_way t offset (inl h) = h
either_way t offset (inr h) = h

-- some changes and then some more, all of them of the same bytes
pub kept_then : (t : ℕ → Type 0) (a b c : Option (List ℕ)) → KeepsBytesBut t a b → KeepsBytesBut t b c → KeepsBytesBut t a c
kept_then t a b c first second = kept_by_more (λ offset. t offset ⊎ t offset) t a c (either_way t) (kept_by_both t t a b c first second)

-- writes within a range keep each byte outside it
kept_outside_of : (touched : ℕ → Type 0) (at n : ℕ) (old new : List ℕ) → ((k : ℕ) → at ≤ k → k < at + n → touched k) → IsSameOutside at n old new → KeepsBut touched old new
kept_outside_of touched at n old new all same = record {
  no_shorter = same.no_shorter;
  kept = λ k byte free there. held_byte new k byte (HoldsAt-elsewhere old new k at n (byte ∷ []) (byte_held old k byte there) same (elim (cases_lt k at) [
    | inl lt ↦ inl (omega arith)
    | inr ge ↦ elim (cases_lt k (at + n)) [
      | inl short ↦ absurd (free (all k ge short))
      | inr past ↦ inr past
    ]
  ]));
}

pub kept_outside : (touched : ℕ → Type 0) (at n : ℕ) (old new : Option (List ℕ)) → ((k : ℕ) → at ≤ k → k < at + n → touched k) → StaysOutside old at n new → KeepsBytesBut touched old new
kept_outside touched at n None new all same = same
kept_outside touched at n (Some old) None all same = absurd same
kept_outside touched at n (Some old) (Some new) all same = kept_outside_of touched at n old new all same

-- ---- records that stand on kept bytes

kept_piece : (touched : ℕ → Type 0) (old new : List ℕ) (at : ℕ) (bytes : List ℕ) → KeepsBut touched old new → ((k : ℕ) → at ≤ k → k < at + length bytes → ¬ touched k) → HoldsAt old at bytes → HoldsAt new at bytes
kept_piece touched old new at [] kept free held = refl
kept_piece touched old new at (b ∷ bs) kept free held =
    HoldsAt-both new at (b ∷ []) bs
    (byte_held new at b (kept.kept at b (free at (omega arith) (omega arith)) (held_byte old at b (HoldsAt-first old at (b ∷ []) bs held))))
    (kept_piece touched old new (at + 1) bs kept (λ k low high. free k (omega arith) (omega arith)) (HoldsAt-second old at (b ∷ []) bs held))

pub store_piece_kept : (touched : ℕ → Type 0) (old new : Option (List ℕ)) (at : ℕ) (bytes : List ℕ) → KeepsBytesBut touched old new → ((k : ℕ) → at ≤ k → k < at + length bytes → ¬ touched k) → StoreHolds old at bytes → StoreHolds new at bytes
store_piece_kept touched None None at bytes kept free held = tt
store_piece_kept touched None (Some new) at bytes kept free held = cc
store_piece_kept touched (Some old) None at bytes kept free held = tt
store_piece_kept touched (Some old) (Some new) at bytes kept free held = kept_piece touched old new at bytes kept free held

-- records stay where none of their bytes is touched
pub records_kept : (touched : ℕ → Type 0) (old new : Option (List ℕ)) (base : ℕ) (cube : Cube Cell) (positions : Position → Type 0) → ((offset : ℕ) → IsRecordByte base cube.shape positions offset → ¬ touched offset) → KeepsBytesBut touched old new → HoldsRecords old base cube positions → HoldsRecords new base cube positions
records_kept touched old new base cube positions free kept held p h =
    let cell = cell_at Empty cube p in
    store_piece_kept touched old new (record_offset base (number_of cube.shape p)) (record_of cell) kept
    (λ k low high. free k (record { p = p; inside = h; begun = low; before = omega (arith, length-record_of cell) })) (held p h)

-- disjoint sets of positions of a shape share no byte of a record
pub no_common_byte : (base : ℕ) (d : Dimensions) (a b : Position → Type 0) → ((p : Position) → a p → IsPosition d p) → ((p : Position) → b p → IsPosition d p) → AreDisjoint a b → (offset : ℕ) → IsRecordByte base d a offset → ¬ IsRecordByte base d b offset
no_common_byte base d a b of_a of_b apart offset x y =
    let xl = x.begun in
    let xh = x.before in
    let yl = y.begun in
    let yh = y.before in
    let same : number_of d y.p ≡ number_of d x.p = omega arith in
    let one : y.p ≡ x.p = position_alone d y.p x.p (of_b y.p y.inside) (of_a x.p x.inside) same in
    apart x.p x.inside (subst b one y.inside)

pub others_kept : (old new : Option (List ℕ)) (base : ℕ) (cube : Cube Cell) (a b : Position → Type 0) → ((p : Position) → a p → IsPosition cube.shape p) → ((p : Position) → b p → IsPosition cube.shape p) → AreDisjoint a b → ChangesOnly base cube.shape b old new → HoldsRecords old base cube a → HoldsRecords new base cube a
others_kept old new base cube a b of_a of_b apart kept held =
    records_kept (IsRecordByte base cube.shape b) old new base cube a (no_common_byte base cube.shape a b of_a of_b apart) kept held

pub window_stays : (old new : Option (List ℕ)) (base : ℕ) (cube : Cube Cell) (a b : Window) → ((p : Position) → IsIn a p → IsPosition cube.shape p) → ((p : Position) → IsIn b p → IsPosition cube.shape p) → AreDisjoint (IsIn a) (IsIn b) → ChangesOnly base cube.shape (IsIn b) old new → HoldsWindow old base cube a → HoldsWindow new base cube a
window_stays old new base cube a b of_a of_b apart kept held = others_kept old new base cube (IsIn a) (IsIn b) of_a of_b apart kept held

pub windows_stay : (old new : Option (List ℕ)) (base : ℕ) (cube : Cube Cell) (xs ys : List Window) → ((p : Position) → IsInSome xs p → IsPosition cube.shape p) → ((p : Position) → IsInSome ys p → IsPosition cube.shape p) → AreDisjoint (IsInSome xs) (IsInSome ys) → ChangesOnly base cube.shape (IsInSome ys) old new → HoldsRecords old base cube (IsInSome xs) → HoldsRecords new base cube (IsInSome xs)
windows_stay old new base cube xs ys of_a of_b apart kept held = others_kept old new base cube (IsInSome xs) (IsInSome ys) of_a of_b apart kept held

-- ---- changes of records add up

pub more_positions : (base : ℕ) (d : Dimensions) (a b : Position → Type 0) (offset : ℕ) → ((p : Position) → a p → b p) → IsRecordByte base d a offset → IsRecordByte base d b offset
more_positions base d a b offset more x = record { p = x.p; inside = more x.p x.inside; begun = x.begun; before = x.before }

pub change_of_more : (base : ℕ) (d : Dimensions) (x y : Position → Type 0) (a b : Option (List ℕ)) → ((p : Position) → x p → y p) → ChangesOnly base d x a b → ChangesOnly base d y a b
change_of_more base d x y a b more kept =
    kept_by_more (IsRecordByte base d x) (IsRecordByte base d y) a b (λ offset. more_positions base d x y offset more) kept

pub in_first : (xs ys : List Window) (p : Position) → IsInSome xs p → IsInSome (xs ++ ys) p
in_first [] ys p h = absurd h
in_first (w ∷ ws) ys p (inl h) = inl h
in_first (w ∷ ws) ys p (inr h) = inr (in_first ws ys p h)

pub in_second : (xs ys : List Window) (p : Position) → IsInSome ys p → IsInSome (xs ++ ys) p
in_second [] ys p h = h
in_second (w ∷ ws) ys p h = inr (in_second ws ys p h)

pub in_either : (xs ys : List Window) (p : Position) → IsInSome (xs ++ ys) p → IsInSome xs p ⊎ IsInSome ys p
in_either [] ys p h = inr h
in_either (w ∷ ws) ys p (inl h) = inl (inl h)
in_either (w ∷ ws) ys p (inr h) = elim (in_either ws ys p h) [
  | inl x ↦ inl (inr x)
  | inr y ↦ inr y
]

pub no_change : (base : ℕ) (d : Dimensions) (windows : List Window) (store : Option (List ℕ)) → ChangesOnly base d (IsInSome windows) store store
no_change base d windows store = bytes_kept (IsRecordByte base d (IsInSome windows)) store

pub change_of_one : (base : ℕ) (d : Dimensions) (window : Window) (a b : Option (List ℕ)) → ChangesOnly base d (IsIn window) a b → ChangesOnly base d (IsInSome (window ∷ [])) a b
change_of_one base d window a b kept = change_of_more base d (IsIn window) (IsInSome (window ∷ [])) a b (λ p h. inl h) kept

pub change_of_both : (base : ℕ) (d : Dimensions) (xs ys : List Window) (a b c : Option (List ℕ)) → ChangesOnly base d (IsInSome xs) a b → ChangesOnly base d (IsInSome ys) b c → ChangesOnly base d (IsInSome (xs ++ ys)) a c
change_of_both base d xs ys a b c first second =
    kept_then (IsRecordByte base d (IsInSome (xs ++ ys))) a b c
    (change_of_more base d (IsInSome xs) (IsInSome (xs ++ ys)) a b (in_first xs ys) first)
    (change_of_more base d (IsInSome ys) (IsInSome (xs ++ ys)) b c (in_second xs ys) second)
