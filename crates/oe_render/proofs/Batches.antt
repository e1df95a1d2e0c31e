-- What a read of records gives: the cells that stand there, all of them where the bytes of the store are visible.
use Rattle.std.proofs.Common.{◌≡◌, ◌≢◌, ◌*◌, ◌<◌, ◌≤◌, ℕ, List, length, take, drop, slice_get, Option, Some, None, IfSome, refl, sym, ap, ◌∙◌, subst, arith}
use Rattle.std.specs.List.{All}
use Rattle.std.proofs.lemmas.List.{length-take, length-take-le, take-take, take_all}
use Rattle.std.proofs.lemmas.Option.{get_or_from_slice_get}
use Rattle.oe_cell.specs.Cells.{IsCell}
use Rattle.oe_cell.specs.Record.{records_of}
use Rattle.oe_cell.specs.declared.cell.Cell.{Cell}
use Rattle.oe_cell.specs.declared.cell.Cell.TheVariants.{Over}
use Rattle.oe_cell.proofs.ListLemmas.{length-records_of}
use Rattle.oe_outside.specs.Stored.{IsReadAt, StoreHolds}
use Rattle.oe_outside.proofs.Stores.{IsReadAt-held}
use Rattle.oe_render.specs.Stored.{AreReadFrom, AreStored, HasCells}

-- the records that a read gave stand there
records_held : (store : Option (List ℕ)) (at room n r : ℕ) (buffer : List ℕ) (cells : List Cell) → IfSome store (λ all. IsReadAt all at room n buffer) → 17 * r ≤ n → r ≤ length cells → records_of (take r cells) ≡ take (17 * r) (take n buffer) → StoreHolds store at (records_of (take r cells))
records_held None at room n r buffer cells read small within same = tt
records_held (Some all) at room n r buffer cells read small within same =
    let long : length (records_of (take r cells)) ≡ 17 * r = length-records_of (take r cells) ∙ omega (arith, length-take-le r cells within) in
    ap (λ k. take k (drop at all)) long ∙ sym (take-take (17 * r) n (drop at all) small) ∙ ap (take (17 * r)) (sym read.given) ∙ sym same

pub AreReadFrom-records : (store : Option (List ℕ)) (at room n r : ℕ) (buffer : List ℕ) (cells : List Cell) → IfSome store (λ all. IsReadAt all at room n buffer) → 17 * r ≤ length (take n buffer) → r ≤ length cells → records_of (take r cells) ≡ take (17 * r) (take n buffer) → All IsCell (take r cells) → AreReadFrom store at (take r cells)
AreReadFrom-records store at room n r buffer cells read small within same fit = record {
  fit = fit;
  held = records_held store at room n r buffer cells read (omega (arith, length-take n buffer)) within same;
}

-- of a store whose bytes are visible all records are read
pub reads_whole : (store : Option (List ℕ)) (at m n r : ℕ) (buffer : List ℕ) (into : List Cell) → IfSome store (λ all. IsReadAt all at (17 * m) n buffer) → HasCells store at m → 0 < m → length into ≡ m → r ≤ m → ((cells : List Cell) → All IsCell cells → length cells ≤ m → records_of cells ≡ take (17 * length cells) (take n buffer) → (length cells ≤ r) × (take (length cells) into ≡ cells)) → IfSome store (λ _. AreStored store at m (take r into))
reads_whole None at m n r buffer into read has some size within again = tt
reads_whole (Some all) at m n r buffer into read has some size within again =
    let xs = has.0 in
    let stored : AreStored (Some all) at m xs = has.1 in
    let counted = stored.counted in
    let long : length (records_of xs) ≡ 17 * m = length-records_of xs ∙ omega arith in
    let got = IsReadAt-held all at n (records_of xs) buffer stored.read.held (omega arith) (subst (λ k. IsReadAt all at k n buffer) (sym long) read) in
    let given : records_of xs ≡ take (17 * length xs) (take n buffer) = sym (ap (take (17 * length xs)) got.1 ∙ take_all (17 * length xs) (records_of xs) (omega arith)) in
    let both = again xs stored.read.fit (omega arith) given in
    let reached = both.0 in
    let count : r ≡ length xs = omega arith in
    subst (AreStored (Some all) at m) (sym (ap (λ k. take k into) count ∙ both.1)) stored

-- all were read, and none is Over
pub AreStored-read : (store : Option (List ℕ)) (at m count valid : ℕ) (cells : List Cell) → length cells ≡ m → count ≤ m → valid ≤ length (take count cells) → m ≤ valid → AreReadFrom store at (take count cells) → All (λ c. c ≢ Over) (take valid (take count cells)) → AreStored store at m cells
AreStored-read store at m count valid cells size within bounded reached read numbered =
    let short : length (take count cells) ≤ count = omega (arith, length-take count cells) in
    let all : take count cells ≡ cells = take_all count cells (omega arith) in
    let last : take valid (take count cells) ≡ cells = ap (take valid) all ∙ take_all valid cells (omega arith) in
    record {
      counted = size;
      read = subst (AreReadFrom store at) all read;
      numbered = subst (All (λ c. c ≢ Over)) last numbered;
    }

-- a record less, or an Over, only where the bytes are hidden
pub damaged_hidden : (store : Option (List ℕ)) (at m count valid : ℕ) (cells : List Cell) → IfSome store (λ _. AreStored store at m (take count cells)) → valid < m → (valid < length (take count cells) → slice_get (take count cells) valid ≡ Some Over) → store ≡ None
damaged_hidden None at m count valid cells stored below first = refl
damaged_hidden (Some all) at m count valid cells stored below first =
    let counted = stored.counted in
    let within : valid < length (take count cells) = omega arith in
    absurd (stored.numbered valid Over within (get_or_from_slice_get (take count cells) valid Over Over (first within)))
