-- What a refusal of a run says.
use Rattle.std.specs.Prelude.{◌≡◌, ⊤, ℕ, List, Contains, slice_index, IfSome, Option, Some, None, Result, Ok, Err}
use Rattle.oe_dims.specs.Positions.{IsPosition, Position, number_of}
use Rattle.oe_ops.specs.Needs.{HasLabelsOf}
use Rattle.oe_plan.specs.Figures.{shape_of_node, steps_of}
use Rattle.oe_check.specs.Checked.{CheckedGraph}
use Rattle.oe_sources.specs.Catalogue.{Row, source_at}
use Rattle.oe_steps.specs.Collections.{IsLoadedBy, IsMountedAt}
use Rattle.oe_steps.specs.declared.fail.RunFail.{RunFail}
use Rattle.oe_steps.specs.declared.fail.RunFail.TheVariants.{SourceFailed, SourceDamaged, SpoolFailed, Overflow}

-- a node, which is that of a step of the run and so one that the result needs, loads a collection of which the position
-- of a number is damaged, where that is visible, and keeps the labels of this position
pub record KeepsDamage (c : CheckedGraph) (rows : List Row) (node number : ℕ) : Type 0 where
  pub step : ℕ
  pub id : List ℕ
  pub index : ℕ
  pub loaded : IsLoadedBy c step id
  pub node_is : slice_index (steps_of c) step ≡ node
  pub mounted : IsMountedAt c rows id index
  pub position : Position
  pub inside : IsPosition (source_at rows index).shape position
  pub number_is : number_of (source_at rows index).shape position ≡ number
  pub damaged : IfSome (source_at rows index).contents (λ contents. Contains contents.damaged number)
  pub kept : (p : Position) × IsPosition (shape_of_node c node) p
      × HasLabelsOf (shape_of_node c node) (source_at rows index).shape p position

-- what a refusal says: of a damaged position which it is, and it is never an overflow
abbrev pub RefusalSays : CheckedGraph → List Row → RunFail → Type 0
RefusalSays c rows SourceFailed = ⊤
RefusalSays c rows (SourceDamaged load number) = KeepsDamage c rows load number
RefusalSays c rows SpoolFailed = ⊤
RefusalSays c rows (Overflow number) = ⊥

-- a refusal that comes before anything is evaluated
abbrev pub IsOfSource : RunFail → Type 0
IsOfSource SourceFailed = ⊤
IsOfSource (SourceDamaged load number) = ⊤
IsOfSource SpoolFailed = ⊥
IsOfSource (Overflow number) = ⊥

-- the refusal of a result that is Over at a number, none where it is nowhere
abbrev pub overflow_of : Option ℕ → Result (Unit {0}) RunFail
overflow_of None = Ok tt
overflow_of (Some number) = Err (Overflow number)
