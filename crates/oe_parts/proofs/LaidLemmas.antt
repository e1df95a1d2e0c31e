-- Records that are laid out set by set.
use Rattle.std.proofs.Common.{◌≡◌, ◌≢◌, ◌⊎◌, ℕ, ◌+◌, ◌<◌, ◌≤◌, inl, inr, List, Option, Some, None, refl, subst, arith}
use Rattle.std.proofs.lemmas.Bool.{cases_lt}
use Rattle.oe_cell.specs.Cells.{IsCell}
use Rattle.oe_cell.specs.Record.{record_of}
use Rattle.oe_cell.specs.declared.cell.Cell.{Cell}
use Rattle.oe_cell.specs.declared.cell.Cell.TheVariants.{Empty, Over}
use Rattle.oe_cell.proofs.RecordLemmas.{length-record_of}
use Rattle.oe_dims.specs.Cube.{Cube}
use Rattle.oe_dims.specs.Dimensions.{Dimensions}
use Rattle.oe_dims.specs.Positions.{IsPosition, Position, number_of}
use Rattle.oe_spool.specs.Least.{lesser_of}
use Rattle.oe_spool.specs.Spooled.{AreDisjoint, ChangesOnly, HoldsRecord, HoldsRecords, IsRecordByte, record_offset}
use Rattle.oe_spool.proofs.KeptLemmas.{bytes_kept, change_of_more, kept_then, no_common_byte, others_kept, store_piece_kept}
use Rattle.oe_spool.proofs.LeastLemmas.{least_of_both, least_of_same}
use Rattle.oe_window.specs.Cells.{cell_at}
use Rattle.oe_parts.specs.Laid.{AreLaid, HaveRecords, IsInFirst}

-- ---- one set more

one_more : (sets : ℕ → Position → Type 0) (n : ℕ) (p : Position) → IsInFirst sets n p ⊎ sets n p → IsInFirst sets (n + 1) p
one_more sets n p (inl h) = (h.0, omega (arith, h.1), h.2)
one_more sets n p (inr h) = (n, omega arith, h)

one_less : (sets : ℕ → Position → Type 0) (n : ℕ) (p : Position) → IsInFirst sets (n + 1) p → IsInFirst sets n p ⊎ sets n p
one_less sets n p h = elim (cases_lt h.0 n) [
  | inl lt ↦ inl (h.0, lt, h.2)
  | inr ge ↦ (let last : h.0 ≡ n = omega (arith, h.1) in inr (subst (λ (k : ℕ). sets k p) last h.2))
]

-- sets of positions of a shape, no two of which have one in common
pub record AreApart (d : Dimensions) (sets : ℕ → Position → Type 0) (n : ℕ) : Type 0 where
  pub inside : (k : ℕ) (p : Position) → k < n → sets k p → IsPosition d p
  pub once : (a b : ℕ) (p : Position) → a < n → b < n → sets a p → sets b p → a ≡ b

first_inside : (d : Dimensions) (sets : ℕ → Position → Type 0) (n m : ℕ) → AreApart d sets n → m ≤ n → (p : Position) → IsInFirst sets m p → IsPosition d p
first_inside d sets n m apart le p h = apart.inside h.0 p (omega (arith, h.1, le)) h.2

disjoint : (d : Dimensions) (sets : ℕ → Position → Type 0) (n m : ℕ) → AreApart d sets n → m < n → AreDisjoint (IsInFirst sets m) (sets m)
disjoint d sets n m apart lt p h here =
    let same : h.0 ≡ m = apart.once h.0 m p (omega (arith, h.1, lt)) lt h.2 here in
    omega (arith, same, h.1)

-- ---- of a cube

pub laid_none : (store : Option (List ℕ)) (base : ℕ) (cube : Cube Cell) (sets : ℕ → Position → Type 0) → AreLaid store base cube (IsInFirst sets 0) None
laid_none store base cube sets = record {
  valid = λ p h. absurd (omega (arith, h.1));
  held = λ p h. absurd (omega (arith, h.1));
  least_is = λ p h. absurd (omega (arith, h.1));
}

valid_more : (cube : Cube Cell) (sets : ℕ → Position → Type 0) (m : ℕ) → ((p : Position) → IsInFirst sets m p → IsCell (cell_at Empty cube p)) → ((p : Position) → sets m p → IsCell (cell_at Empty cube p)) → (p : Position) → IsInFirst sets m p ⊎ sets m p → IsCell (cell_at Empty cube p)
valid_more cube sets m old new p (inl h) = old p h
valid_more cube sets m old new p (inr h) = new p h

held_more : (before after : Option (List ℕ)) (base : ℕ) (cube : Cube Cell) (sets : ℕ → Position → Type 0) (n m : ℕ) → AreApart cube.shape sets n → m < n → ChangesOnly base cube.shape (sets m) before after
    → HoldsRecords before base cube (IsInFirst sets m) → HoldsRecords after base cube (sets m) → (p : Position) → IsInFirst sets m p ⊎ sets m p → HoldsRecord after base (number_of cube.shape p) (cell_at Empty cube p)
held_more before after base cube sets n m apart lt changes old new p (inl h) =
    others_kept before after base cube (IsInFirst sets m) (sets m) (first_inside cube.shape sets n m apart (omega (arith, lt))) (λ q i. apart.inside m q lt i) (disjoint cube.shape sets n m apart lt) changes old p h
held_more before after base cube sets n m apart lt changes old new p (inr h) = new p h

pub laid_more : (before after : Option (List ℕ)) (base : ℕ) (cube : Cube Cell) (sets : ℕ → Position → Type 0) (n m : ℕ) (least found : Option ℕ) → AreApart cube.shape sets n → m < n → ChangesOnly base cube.shape (sets m) before after
    → AreLaid before base cube (IsInFirst sets m) least → AreLaid after base cube (sets m) found → AreLaid after base cube (IsInFirst sets (m + 1)) (lesser_of least found)
laid_more before after base cube sets n m least found apart lt changes old new = record {
  valid = λ p h. valid_more cube sets m old.valid new.valid p (one_less sets m p h);
  held = λ p h. held_more before after base cube sets n m apart lt changes old.held new.held p (one_less sets m p h);
  least_is = least_of_same cube (λ p. IsInFirst sets m p ⊎ sets m p) (IsInFirst sets (m + 1)) (lesser_of least found) (one_more sets m) (one_less sets m)
      (least_of_both cube (IsInFirst sets m) (sets m) least found old.least_is new.least_is);
}

pub laid_same : (store : Option (List ℕ)) (base : ℕ) (cube : Cube Cell) (a b : Position → Type 0) (least : Option ℕ) → ((p : Position) → a p → b p) → ((p : Position) → b p → a p) → AreLaid store base cube a least → AreLaid store base cube b least
laid_same store base cube a b least there back h = record { valid = λ p i. h.valid p (back p i); held = λ p i. h.held p (back p i); least_is = least_of_same cube a b least there back h.least_is }

-- ---- of some cells

pub have_none : (store : Option (List ℕ)) (base : ℕ) (d : Dimensions) (sets : ℕ → Position → Type 0) → HaveRecords store base d (IsInFirst sets 0) None
have_none store base d sets = λ p h. absurd (omega (arith, h.1))

both_none : (a b : Option ℕ) → lesser_of a b ≡ None → (a ≡ None) × (b ≡ None)
both_none None None e = (refl, refl)
both_none None (Some n) e = absurd cc
both_none (Some m) None e = absurd cc
both_none (Some m) (Some n) e = absurd cc

have_either : (before after : Option (List ℕ)) (base : ℕ) (d : Dimensions) (sets : ℕ → Position → Type 0) (n m : ℕ) (least found : Option ℕ) → AreApart d sets n → m < n → ChangesOnly base d (sets m) before after
    → HaveRecords before base d (IsInFirst sets m) least → HaveRecords after base d (sets m) found → (p : Position) → IsInFirst sets m p ⊎ sets m p → (cell : Cell) × IsCell cell × HoldsRecord after base (number_of d p) cell × (lesser_of least found ≡ None → cell ≢ Over)
have_either before after base d sets n m least found apart lt changes old new p (inl h) =
    let here = old p h in
    let free = no_common_byte base d (IsInFirst sets m) (sets m) (first_inside d sets n m apart (omega (arith, lt))) (λ q i. apart.inside m q lt i) (disjoint d sets n m apart lt) in (
      here.0,
      here.1,
      store_piece_kept (IsRecordByte base d (sets m)) before after (record_offset base (number_of d p)) (record_of here.0) changes
          (λ k low high. free k (record { p = p; inside = h; begun = low; before = omega (arith, high, length-record_of here.0) })) here.2,
      λ none. here.3 (both_none least found none).0,
    )
have_either before after base d sets n m least found apart lt changes old new p (inr h) =
    let here = new p h in (here.0, here.1, here.2, λ none. here.3 (both_none least found none).1)

pub have_more : (before after : Option (List ℕ)) (base : ℕ) (d : Dimensions) (sets : ℕ → Position → Type 0) (n m : ℕ) (least found : Option ℕ) → AreApart d sets n → m < n → ChangesOnly base d (sets m) before after
    → HaveRecords before base d (IsInFirst sets m) least → HaveRecords after base d (sets m) found → HaveRecords after base d (IsInFirst sets (m + 1)) (lesser_of least found)
have_more before after base d sets n m least found apart lt changes old new = λ p h.
    have_either before after base d sets n m least found apart lt changes old new p (one_less sets m p h)

pub have_same : (store : Option (List ℕ)) (base : ℕ) (d : Dimensions) (a b : Position → Type 0) (least : Option ℕ) → ((p : Position) → b p → a p) → HaveRecords store base d a least → HaveRecords store base d b least
have_same store base d a b least back h = λ p i. h p (back p i)

-- ---- changes

pub changes_none : (store : Option (List ℕ)) (base : ℕ) (d : Dimensions) (positions : Position → Type 0) → ChangesOnly base d positions store store
changes_none store base d positions = bytes_kept (IsRecordByte base d positions) store

-- changes of one set are changes of all positions that hold it
pub changes_then : (a b c : Option (List ℕ)) (base : ℕ) (d : Dimensions) (all some : Position → Type 0) → ((p : Position) → some p → all p) → ChangesOnly base d all a b → ChangesOnly base d some b c → ChangesOnly base d all a c
changes_then a b c base d all some within first second =
    kept_then (IsRecordByte base d all) a b c first (change_of_more base d some all b c within second)
