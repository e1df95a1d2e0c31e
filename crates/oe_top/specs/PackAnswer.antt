-- How the command `pack` ends.
use Rattle.std.specs.Prelude.{ℕ, ◌+◌, List, Result, Ok, Err, IfSome}
use Rattle.oe_cell.specs.declared.cell.Cell.{Cell}
use Rattle.oe_dims.specs.Dimensions.{Dimensions}
use Rattle.oe_dims.specs.declared.kind.CellKind.{CellKind}
use Rattle.oe_graph.specs.Form.{most_input}
use Rattle.oe_outside.specs.Faults.{NeverFalls, Rose}
use Rattle.oe_outside.specs.Input.{ReadsUpTo, TakesAtMost}
use Rattle.oe_render.specs.CubeText.{IsCubeText}
use Rattle.oe_sources.specs.Packed.{AppendsPacked, AppendsPartOfPacked}
use Rattle.oe_top.specs.Objects.{IsReadWhole, Objects, UsesStreamsAlone}
use Rattle.oe_top.specs.Written.{IsUnwritten}
use Rattle.oe_top.specs.declared.pack.PackRefusal.{PackRefusal}
use Rattle.oe_top.specs.declared.pack.PackRefusal.TheVariants.{NoCubeText, ReadFault, WriteFault, OutOfMemory}

-- the whole input was read, and it is the text of this cube
pub record IsTextInput (before after : Objects) (shape : Dimensions) (kind : CellKind)
    (cells : List Cell) : Type 0 where
  pub bytes : List ℕ
  pub read_whole : IsReadWhole before.input after.input bytes
  pub text : IsCubeText bytes shape kind cells

-- the bytes are the text of no cube
abbrev pub IsNoCubeText : List ℕ → Type 0
IsNoCubeText bytes = (shape : Dimensions) (kind : CellKind) (cells : List Cell) → ¬ IsCubeText bytes shape kind cells

-- what was read of the input is the text of no cube, nor is all of it, where it is visible
pub record IsNoText (before after : Objects) : Type 0 where
  pub bytes : List ℕ
  pub was_read : ReadsUpTo most_input before.input bytes after.input
  pub no_text : IsNoCubeText bytes
  pub of_all : IfSome before.input IsNoCubeText

module _ (id : List ℕ) where
  -- 0: the cube file of the input under the id follows what the output held
  pub record WritesFile (before after : Objects) : Type 0 where
    pub shape : Dimensions
    pub kind : CellKind
    pub cells : List Cell
    pub input : IsTextInput before after shape kind cells
    pub file : AppendsPacked id shape kind cells before.out after.out

  -- 8: the fault counter of the output rose, and a prefix of such a file stands there
  pub record StopsFile (before after : Objects) : Type 0 where
    pub shape : Dimensions
    pub kind : CellKind
    pub cells : List Cell
    pub input : IsTextInput before after shape kind cells
    pub rose : Rose before.out_faults after.out_faults
    pub prefix : AppendsPartOfPacked id shape kind cells before.out after.out

  -- what each ending says; out of memory has no cause
  abbrev pub PackEnds : Objects → Objects → Result (Unit {0}) PackRefusal → Type 0
  PackEnds before after (Ok x) = WritesFile before after
  PackEnds before after (Err NoCubeText) = IsNoText before after × IsUnwritten before after
  PackEnds before after (Err ReadFault) = Rose before.input_faults after.input_faults × IsUnwritten before after
  PackEnds before after (Err WriteFault) = StopsFile before after
  PackEnds before after (Err OutOfMemory) = IsUnwritten before after

  -- Neither the spool nor a collection is touched.
  pub record PackAnswers (before after : Objects) (ending : Result (Unit {0}) PackRefusal) : Type 0 where
    pub ends : PackEnds before after ending
    pub others_kept : UsesStreamsAlone before after
    -- the input is read only up to one byte past the limit
    pub input_taken : TakesAtMost before.input (most_input + 1) after.input
    -- no fault counter falls
    pub input_count : NeverFalls before.input_faults after.input_faults
    pub out_count : NeverFalls before.out_faults after.out_faults
