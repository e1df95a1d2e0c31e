-- Cells that stand in a store: some behind others, some of them, and as many as there are.
use Rattle.std.proofs.Common.{◌≡◌, ◌≢◌, ◌+◌, ◌*◌, ◌≤◌, ℕ, List, [], ◌++◌, length, take, drop, replicate, Option, Some, None, IfSome, refl, sym, ap, ◌∙◌, subst, arith}
use Rattle.std.proofs.lemmas.List.{length-append, length-replicate, length-take-le, length-drop, take-append-drop}
use Rattle.std.proofs.lemmas.List.Elements.{All-append, All-replicate, All-take, All-drop}
use Rattle.std.proofs.lemmas.Grind.{flat_map-append}
use Rattle.oe_cell.specs.Cells.{IsCell}
use Rattle.oe_cell.specs.Record.{record_of, records_of}
use Rattle.oe_cell.specs.declared.cell.Cell.{Cell}
use Rattle.oe_cell.specs.declared.cell.Cell.TheVariants.{Empty, Over}
use Rattle.oe_cell.proofs.ListLemmas.{length-records_of, records_of-injective}
use Rattle.oe_outside.specs.Stored.{HoldsAt, StoreHolds}
use Rattle.oe_outside.proofs.Stores.{HoldsAt-both, HoldsAt-first, HoldsAt-second}
use Rattle.oe_render.specs.Stored.{AreStored, HasCells}

-- a store of which nothing visible can be told is hidden
pub is_hidden : (store : Option (List ℕ)) → IfSome store (λ _. ⊥) → store ≡ None
is_hidden None h = refl
is_hidden (Some all) h = absurd h

records-both : (xs ys : List Cell) → records_of (xs ++ ys) ≡ records_of xs ++ records_of ys
records-both xs ys = flat_map-append record_of xs ys

StoreHolds-both : (store : Option (List ℕ)) (at a : ℕ) (xs ys : List Cell) → length xs ≡ a → StoreHolds store at (records_of xs) → StoreHolds store (at + 17 * a) (records_of ys) → StoreHolds store at (records_of (xs ++ ys))
StoreHolds-both None at a xs ys counted one two = tt
StoreHolds-both (Some all) at a xs ys counted one two =
    let long : at + 17 * a ≡ at + length (records_of xs) = omega (arith, length-records_of xs) in
    subst (HoldsAt all at) (sym (records-both xs ys))
    (HoldsAt-both all at (records_of xs) (records_of ys) one (subst (λ n. HoldsAt all n (records_of ys)) long two))

-- no cells
pub AreStored-none : (store : Option (List ℕ)) (at : ℕ) → AreStored store at 0 []
AreStored-none None at = record { counted = refl; read = record { fit = λ k d h. absurd (omega arith); held = tt }; numbered = λ k d h. absurd (omega arith) }
AreStored-none (Some all) at = record { counted = refl; read = record { fit = λ k d h. absurd (omega arith); held = refl }; numbered = λ k d h. absurd (omega arith) }

-- cells behind others
pub AreStored-both : {store : Option (List ℕ)} {at a b : ℕ} {xs ys : List Cell} → AreStored store at a xs → AreStored store (at + 17 * a) b ys → AreStored store at (a + b) (xs ++ ys)
AreStored-both {store} {at} {a} {b} {xs} {ys} one two =
    let first = one.counted in
    let second = two.counted in
    record {
      counted = length-append xs ys ∙ omega arith;
      read = record {
        fit = All-append IsCell xs ys one.read.fit two.read.fit;
        held = StoreHolds-both store at a xs ys first one.read.held two.read.held;
      };
      numbered = All-append (λ c. c ≢ Over) xs ys one.numbered two.numbered;
    }

-- some of the cells of a store whose bytes are visible
part_held : (all : List ℕ) (at k m : ℕ) (cells : List Cell) → k + m ≤ length cells → HoldsAt all at (records_of cells) → HoldsAt all (at + 17 * k) (records_of (take m (drop k cells)))
part_held all at k m cells h held =
    let front : records_of cells ≡ records_of (take k cells) ++ records_of (drop k cells) = ap records_of (sym (take-append-drop k cells)) ∙ records-both (take k cells) (drop k cells) in
    let back : records_of (drop k cells) ≡ records_of (take m (drop k cells)) ++ records_of (drop m (drop k cells)) = ap records_of (sym (take-append-drop m (drop k cells))) ∙ records-both (take m (drop k cells)) (drop m (drop k cells)) in
    let long : at + length (records_of (take k cells)) ≡ at + 17 * k = omega (arith, length-records_of (take k cells), length-take-le k cells (omega arith)) in
    let later = HoldsAt-second all at (records_of (take k cells)) (records_of (drop k cells)) (subst (HoldsAt all at) front held) in
    HoldsAt-first all (at + 17 * k) (records_of (take m (drop k cells))) (records_of (drop m (drop k cells)))
    (subst (HoldsAt all (at + 17 * k)) back (subst (λ n. HoldsAt all n (records_of (drop k cells))) long later))

part_stored : (all : List ℕ) (at n k m : ℕ) (cells : List Cell) → k + m ≤ n → AreStored (Some all) at n cells → AreStored (Some all) (at + 17 * k) m (take m (drop k cells))
part_stored all at n k m cells h stored =
    let counted = stored.counted in
    record {
      counted = length-take-le m (drop k cells) (omega (arith, length-drop k cells));
      read = record {
        fit = All-take IsCell m (drop k cells) (All-drop IsCell k cells stored.read.fit);
        held = part_held all at k m cells (omega arith) stored.read.held;
      };
      numbered = All-take (λ c. c ≢ Over) m (drop k cells) (All-drop (λ c. c ≢ Over) k cells stored.numbered);
    }

pub HasCells-part : (store : Option (List ℕ)) (at n k m : ℕ) → k + m ≤ n → HasCells store at n → HasCells store (at + 17 * k) m
HasCells-part None at n k m h has = tt
HasCells-part (Some all) at n k m h has = (take m (drop k has.0), part_stored all at n k m has.0 h has.1)

-- the cells that a store has; where its bytes are hidden, some
pub some_cells : (store : Option (List ℕ)) (at n : ℕ) → HasCells store at n → (cells : List Cell) × AreStored store at n cells
some_cells None at n has = (
  replicate n Empty,
  record {
    counted = length-replicate n Empty;
    read = record { fit = All-replicate IsCell n Empty tt; held = tt };
    numbered = All-replicate (λ c. c ≢ Over) n Empty (λ e. cc);
  },
)
some_cells (Some all) at n has = has

-- where the bytes of a store are visible, it has only these cells at an offset
pub only_stored : (all : List ℕ) (at n : ℕ) (xs ys : List Cell) → AreStored (Some all) at n xs → AreStored (Some all) at n ys → xs ≡ ys
only_stored all at n xs ys one two =
    let first = one.counted in
    let second = two.counted in
    let long : length (records_of xs) ≡ length (records_of ys) = omega (arith, length-records_of xs, length-records_of ys) in
    records_of-injective xs ys one.read.fit two.read.fit (omega arith)
    (sym one.read.held ∙ ap (λ k. take k (drop at all)) long ∙ two.read.held)
