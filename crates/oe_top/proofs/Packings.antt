-- Cube texts that are packed.
use Rattle.std.proofs.Common.{◌≡◌, true, false, ℕ, ◌≤◌, ◌⊎◌, inl, inr, List, [], ◌∷◌, length, Option, Some, None, IfSome, IfErr, OnOk, Result, Ok, Err, refl, sym, ◌∙◌, subst, arith}
use Rattle.std.specs.List.{list_all, list_any}
use Rattle.std.proofs.lemmas.Bool.{cases_Bool}
use Rattle.oe_cell.specs.Kinds.{is_number}
use Rattle.oe_cell.specs.declared.cell.Cell.{Cell}
use Rattle.oe_cell.specs.declared.cell.Cell.TheVariants.{Empty, Flag, Number, Over}
use Rattle.oe_cube.specs.Kinds.{is_null_or_of}
use Rattle.oe_dims.proofs.CubeLemmas.{length-tuples}
use Rattle.oe_dims.specs.Dimensions.{Dimensions, cell_count}
use Rattle.oe_dims.specs.declared.kind.CellKind.{CellKind}
use Rattle.oe_dims.specs.declared.kind.CellKind.TheVariants.{Numbers, Flags}
use Rattle.oe_graph.specs.Form.{most_input}
use Rattle.oe_outside.specs.Faults.{HasCauseOf}
use Rattle.oe_outside.specs.Input.{ReadsUpTo}
use Rattle.oe_render.specs.CubeText.{Each, IsCubeText, SpellsCell, is_flag, kind_of, most_text}
use Rattle.oe_sources.specs.Packed.{AppendsPacked, AppendsPartOfPacked}
use Rattle.oe_top.proofs.Inputs.{read_whole, whole_same, within}
use Rattle.oe_top.specs.Objects.{Objects}
use Rattle.oe_top.specs.PackAnswer.{IsNoCubeText, PackEnds}
use Rattle.oe_top.specs.declared.pack.PackRefusal.{PackRefusal}
use Rattle.oe_top.specs.declared.pack.PackRefusal.TheVariants.{NoCubeText, ReadFault, WriteFault, OutOfMemory}
use Rattle.serde_json.specs.Data.{Data, null, boolean, number, string, array, object, Items, no_items, item}

-- ---- the cells of a text

-- no value spells an Over
never_over : (value : Data) → SpellsCell value Over → ⊥
never_over null is = cc
never_over (boolean flag) is = cc
never_over (number n) is = cc is.3
never_over (string text) is = cc is.2
never_over (array _) is = is
never_over (object _) is = is

-- without numbers they are flags and nulls, and without flags numbers and nulls
flags_fit : (values : Items) (cells : List Cell) → Each SpellsCell values cells → list_any is_number cells ≡ false
    → list_all (is_null_or_of Flags) cells ≡ true
flags_fit no_items [] each none = refl
flags_fit no_items (cell ∷ cells) each none = absurd each
flags_fit (item value values) [] each none = absurd each
flags_fit (item value values) (Empty ∷ cells) each none = flags_fit values cells each.1 none
flags_fit (item value values) (Flag flag ∷ cells) each none = flags_fit values cells each.1 none
flags_fit (item value values) (Number q ∷ cells) each none = cc
flags_fit (item value values) (Over ∷ cells) each none = absurd (never_over value each.0)

numbers_fit : (values : Items) (cells : List Cell) → Each SpellsCell values cells → list_any is_flag cells ≡ false
    → list_all (is_null_or_of Numbers) cells ≡ true
numbers_fit no_items [] each none = refl
numbers_fit no_items (cell ∷ cells) each none = absurd each
numbers_fit (item value values) [] each none = absurd each
numbers_fit (item value values) (Empty ∷ cells) each none = numbers_fit values cells each.1 none
numbers_fit (item value values) (Flag flag ∷ cells) each none = cc
numbers_fit (item value values) (Number q ∷ cells) each none = numbers_fit values cells each.1 none
numbers_fit (item value values) (Over ∷ cells) each none = absurd (never_over value each.0)

kinds_fit : (values : Items) (cells : List Cell) (kind : CellKind) → Each SpellsCell values cells → kind_of cells ≡ Some kind
    → list_all (is_null_or_of kind) cells ≡ true
kinds_fit values cells kind each is = elim (cases_Bool (list_any is_flag cells)) [
  | inl flags ↦ elim (cases_Bool (list_any is_number cells)) [
    | inl numbers ↦ (let both : None ≡ Some kind = rw (flags, numbers) at is in cc)
    | inr none ↦
        let known : Some Flags ≡ Some kind = rw (flags, none) at is in
        let same : Flags ≡ kind = cc in
        subst (λ k. list_all (is_null_or_of k) cells ≡ true) same (flags_fit values cells each none)
  ]
  | inr none ↦
      let known : Some Numbers ≡ Some kind = rw none at is in
      let same : Numbers ≡ kind = cc in
      subst (λ k. list_all (is_null_or_of k) cells ≡ true) same (numbers_fit values cells each none)
]

module _ (bytes : List ℕ) (shape : Dimensions) (kind : CellKind) (cells : List Cell) (text : IsCubeText bytes shape kind cells) where
  pub cells_counted : length cells ≡ cell_count shape
  cells_counted = text.cube.whole_cube ∙ length-tuples shape

  pub cells_of_kind : list_all (is_null_or_of kind) cells ≡ true
  cells_of_kind = kinds_fit text.cube.values cells kind text.cube.cells_are text.cube.kind_is

-- ---- the input

-- what was read is no text, so all of it is none
pub no_text_of_all : (before : Option (List ℕ)) (bytes : List ℕ) (after : Option (List ℕ)) → ReadsUpTo most_input before bytes after
    → IsNoCubeText bytes → IfSome before IsNoCubeText
no_text_of_all None bytes after read none = tt
no_text_of_all (Some visible) bytes after read none = λ shape kind cells text.
    let fits : length visible ≤ most_text = text.text.within in
    let less : length bytes ≤ length visible = within visible bytes after read in
    let short : length bytes ≤ most_input = omega arith in
    none shape kind cells (subst (λ all. IsCubeText all shape kind cells) (sym (whole_same visible bytes after read short)) text)

-- ---- the ending

pub packs : (id : List ℕ) (before after : Objects) (bytes : List ℕ) (shape : Dimensions) (kind : CellKind) (cells : List Cell)
    → IsCubeText bytes shape kind cells → ReadsUpTo most_input before.input bytes after.input
    → (result : Result (Unit {0}) PackRefusal) → OnOk result (AppendsPacked id shape kind cells before.out after.out)
    → IfErr result (λ e. e ≡ WriteFault → AppendsPartOfPacked id shape kind cells before.out after.out)
    → HasCauseOf WriteFault before.out_faults after.out_faults result
    → IfErr result (λ e. e ≡ OutOfMemory → (after.out ≡ before.out) × (after.out_faults ≡ before.out_faults))
    → IfErr result (λ e. (e ≡ WriteFault) ⊎ (e ≡ OutOfMemory)) → PackEnds id before after result
packs id before after bytes shape kind cells text read (Ok x) packed prefix cause nothing only = record {
  shape = shape;
  kind = kind;
  cells = cells;
  input = record { bytes = bytes; read_whole = read_whole before.input bytes after.input read text.text.within; text = text };
  file = packed;
}
packs id before after bytes shape kind cells text read (Err NoCubeText) packed prefix cause nothing only =
    elim only [ inl a ↦ cc | inr b ↦ cc ]
packs id before after bytes shape kind cells text read (Err ReadFault) packed prefix cause nothing only =
    elim only [ inl a ↦ cc | inr b ↦ cc ]
packs id before after bytes shape kind cells text read (Err WriteFault) packed prefix cause nothing only = record {
  shape = shape;
  kind = kind;
  cells = cells;
  input = record { bytes = bytes; read_whole = read_whole before.input bytes after.input read text.text.within; text = text };
  rose = cause.failed refl;
  prefix = prefix refl;
}
packs id before after bytes shape kind cells text read (Err OutOfMemory) packed prefix cause nothing only =
    record { out = (nothing refl).0; faults = (nothing refl).1 }
