-- What is kept of a callback that was checked: its kind, the reducer where it is one that reduces cell by cell, and a
-- program that computes its value.
use Rattle.std.specs.Prelude.{◌≡◌, ℕ, Bool, List, Option}
use Rattle.oe_cell.specs.declared.cell.Cell.{Cell}
use Rattle.oe_dims.specs.declared.kind.CellKind.{CellKind}
use Rattle.oe_fold.specs.declared.reducer.Reducer.{Reducer}
use Rattle.oe_expr.specs.Callback.{Callback, KeepsKind, IsEnvironment, environment, callback_kind, callback_value}
use Rattle.oe_expr.specs.Folds.{callback_reducer}
use Rattle.oe_expr.specs.Programs.{IsProgram, program_value}
use Rattle.oe_expr.specs.declared.program.Program.{Program}

-- the program has the value of the callback in each environment
abbrev pub Computes : Callback → Program → Type 0
Computes c p =
    (x y : Cell) (cells : List Cell) (list : ℕ) → IsEnvironment c x y cells list
    → program_value p (environment c x y cells list) list ≡ callback_value c (environment c x y cells list)

pub record IsProgramOf (c : Callback) (p : Program) : Type 0 where
  pub is_program : IsProgram c.scope p
  pub computes : Computes c p

pub record IsCompiled (c : Callback) (kind : CellKind) (reducer : Option (Reducer × Bool)) (program : Program)
    : Type 0 where
  pub kind_is : kind ≡ callback_kind c
  pub reducer_is : reducer ≡ callback_reducer c
  pub keeps_kind : KeepsKind c
  pub is_program_of : IsProgramOf c program
