-- Reads of sources: counters, kinds of cells, and what is not damaged.
use Rattle.std.proofs.Common.{◌≡◌, ℕ, zero, suc, ◌≤◌, Bool, true, is_some, List, [], ◌∷◌, Result, Ok, Err, IsErrOf, inl, inr, refl, ◌∙◌, arith}
use Rattle.std.specs.Prelude.{slice_index_or}
use Rattle.std.specs.List.{Contains, list_all}
use Rattle.std.proofs.lemmas.List.Folds.{list_all-map}
use Rattle.std.proofs.lemmas.Bool.{and_parts, cases_lt}
use Rattle.oe_cell.specs.declared.cell.Cell.{Cell}
use Rattle.oe_cell.specs.declared.cell.Cell.TheVariants.{Empty}
use Rattle.oe_cube.specs.Kinds.{is_null_or_of}
use Rattle.oe_dims.specs.Cube.{Cube}
use Rattle.oe_dims.specs.Positions.{number_of}
use Rattle.oe_dims.specs.declared.kind.CellKind.{CellKind}
use Rattle.oe_dims.specs.declared.kind.CellKind.TheVariants.{Numbers, Flags}
use Rattle.oe_outside.specs.Faults.{NeverFalls, Rose, counted, last_count}
use Rattle.oe_sources.specs.Source.{CountsRead, Looks, Reads, Source, answer_of, fault_of, is_failed}
use Rattle.oe_sources.specs.declared.source.LookFail.{LookFail}
use Rattle.oe_sources.specs.declared.source.LookFail.TheVariants as look
use Rattle.oe_sources.specs.declared.source.SourceFail.{SourceFail}
use Rattle.oe_sources.specs.declared.source.SourceFail.TheVariants.{Failed, Damaged}
use Rattle.oe_window.specs.Cells.{cell_at, cells_on}
use Rattle.oe_window.specs.Windows.{position_count, positions}
use Rattle.oe_window.specs.declared.window.Window.{Window}

-- a counter that goes up by one
pub NeverFalls-counted : (n : ℕ) → n ≤ last_count → NeverFalls n (counted n)
NeverFalls-counted n fits = record { later = omega (arith, fits); bounded = λ _. omega arith }

pub Rose-counted : (n : ℕ) → Rose n (counted n)
Rose-counted n =
    elim (cases_lt n last_count) [
      | inl below ↦ inl (omega (arith, below))
      | inr above ↦ inr (omega (arith, above))
    ]

pub null_fits : (kind : CellKind) → is_null_or_of kind Empty ≡ true
null_fits Numbers = refl
null_fits Flags = refl

-- a cell of a list, or null, is null or of the kind where all of them are
pub one_of_kind : (kind : CellKind) (cells : List Cell) (k : ℕ) → list_all (is_null_or_of kind) cells ≡ true → is_null_or_of kind (slice_index_or cells k Empty) ≡ true
one_of_kind kind [] k all = null_fits kind
one_of_kind kind (c ∷ cells) zero all = (and_parts (is_null_or_of kind c) (list_all (is_null_or_of kind) cells) all).0
one_of_kind kind (c ∷ cells) (suc k) all = one_of_kind kind cells k (and_parts (is_null_or_of kind c) (list_all (is_null_or_of kind) cells) all).1

pub all_true : {A : Type 0} (p : A → Bool) (xs : List A) → ((a : A) → p a ≡ true) → list_all p xs ≡ true
all_true p [] h = refl
all_true p (x ∷ xs) h = rw (h x) (all_true p xs h)

-- the cells of a window are null or of the kind where all cells of the cube are
pub window_of_kind : (kind : CellKind) (cube : Cube Cell) (window : Window) → list_all (is_null_or_of kind) cube.cells ≡ true → list_all (is_null_or_of kind) (cells_on Empty cube window) ≡ true
window_of_kind kind cube window all =
    list_all-map (is_null_or_of kind) (cell_at Empty cube) (positions window)
    ∙ all_true (λ p. is_null_or_of kind (cell_at Empty cube p)) (positions window) (λ p. one_of_kind kind cube.cells (number_of cube.shape p) all)

-- an empty list contains nothing
pub none_contained : (n : ℕ) → ¬ Contains [] n
none_contained n (k, below, is) = omega (arith, below)

-- ---- a look that is counted is a read

-- a look met a fault exactly where it failed
pub fault_counted : (looked : Result (Unit {0}) LookFail) → is_some (fault_of looked) ≡ is_failed (answer_of looked)
fault_counted (Ok u) = refl
fault_counted (Err (look.Failed fault)) = refl
fault_counted (Err (look.Damaged number)) = refl

pub failed_is : (result : Result (Unit {0}) SourceFail) → IsErrOf result Failed → is_failed result ≡ true
failed_is (Ok done) err = cc
failed_is (Err Failed) err = refl
failed_is (Err (Damaged number)) err = cc

pub counted_read : {before after : Source} {window : Window} {cells : List Cell} (result : Result (Unit {0}) SourceFail) → Looks before window cells result
    → CountsRead before (position_count window) (is_failed result) after → Reads before window cells after result
counted_read result looks counts = record {
  given = looks.given;
  of_kind = looks.of_kind;
  damage = looks.damage;
  cause = record { count = counts.falls; failed = λ err. counts.rose (failed_is result err) };
  asked = counts.asked;
  shape = counts.shape;
  kind = counts.kind;
  contents = counts.contents;
}
