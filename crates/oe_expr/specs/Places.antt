-- How a program grows, node by node: where each scalar of a request is taken from, and the step that the request needs.
use Rattle.std.specs.Prelude.{◌≡◌, ℕ, ◌+◌, ◌^◌, nat_lt, Bool, true, if◌then◌else◌, List, [], ◌∷◌, ◌++◌, map, length, slice_set, Option, Some, None}
use Rattle.std.specs.List.{fold, slice_index_or, flat_map}
use Rattle.std.specs.Option.{option_map_or}
use Rattle.oe_cell.specs.declared.cell.Cell.{Cell}
use Rattle.oe_cell.specs.declared.cell.Cell.TheVariants.{Empty}
use Rattle.oe_fold.specs.declared.reducer.Reducer.{Reducer}
use Rattle.oe_graph.specs.declared.tree.Node.{Node}
use Rattle.oe_expr.specs.Callback.{Callback, IsEnvironment, environment}
use Rattle.oe_expr.specs.Programs.{inputs_of, operand_value, register_of, start_of, IsOperand, AreSteps}
use Rattle.oe_expr.specs.Requests.{Scalar, literal, of_node, of_x, of_y, of_context, Items, the_data, written, CellRequest, unary, binary, choice, reduction, element}
use Rattle.oe_expr.specs.Scope.{PlainScope, apply, reduce, merge, Environment, Label, label_index}
use Rattle.oe_expr.specs.States.{index_named}
use Rattle.oe_expr.specs.declared.program.Operand.{Operand}
use Rattle.oe_expr.specs.declared.program.Operand.TheVariants.{Constant, X, Y, At, Labelled, Register}
use Rattle.oe_expr.specs.declared.program.Program.{Program}
use Rattle.oe_expr.specs.declared.program.Step.{Step}
use Rattle.oe_expr.specs.declared.program.Step.TheVariants as step
use Rattle.oe_expr.specs.declared.scope.ListPart.{ListPart}

-- ---- the nodes that a request names

abbrev pub scalar_names : Scalar → List (List ℕ)
scalar_names (literal c) = []
scalar_names (of_node id) = id ∷ []
scalar_names of_x = []
scalar_names of_y = []
scalar_names of_context = []

abbrev pub items_names : Items → List (List ℕ)
items_names the_data = []
items_names (written scalars) = flat_map scalar_names scalars

abbrev pub request_names : CellRequest → List (List ℕ)
request_names (unary f x) = scalar_names x
request_names (binary f x y) = scalar_names x ++ scalar_names y
request_names (choice value accept reject) = scalar_names value ++ scalar_names accept ++ scalar_names reject
request_names (reduction reducer ignore items) = items_names items
request_names (element items index label return_nodata) = items_names items

-- the node of a name is marked
abbrev pub mark_name : List Node → List Bool → List ℕ → List Bool
mark_name nodes needed name = option_map_or (λ k. slice_set needed k true) (index_named nodes name) needed

abbrev pub mark_names : List Node → List Bool → List (List ℕ) → List Bool
mark_names nodes needed names = fold (mark_name nodes) needed names

-- ---- what a request adds

abbrev pub null : Operand
null = Constant Empty

-- where a scalar is taken from, where `places` has the places of nodes
abbrev pub operand_of : Cell → List Node → List Operand → Scalar → Operand
operand_of context nodes places (literal c) = Constant c
operand_of context nodes places (of_node id) =
    option_map_or (λ k. slice_index_or places k null) (index_named nodes id) null
operand_of context nodes places of_x = X
operand_of context nodes places of_y = Y
operand_of context nodes places of_context = Constant context

-- where an element of the scope's list is
abbrev pub labelled_place : PlainScope → Label → Operand
labelled_place (reduce kind labels lists) label = option_map_or Labelled (label_index labels label) null
labelled_place (apply kind) label = null
labelled_place (merge kind) label = null

abbrev pub indexed_place : ℕ → Operand
indexed_place index = if nat_lt index (2 ^ 32) then At index else null

abbrev pub element_place : PlainScope → Option ℕ → Option Label → Operand
element_place scope (Some index) label = indexed_place index
element_place scope None (Some label) = labelled_place scope label
element_place scope None None = null

-- and one of a list that is written
abbrev pub written_place : List Operand → Option ℕ → Operand
written_place operands (Some index) = slice_index_or operands index null
written_place operands None = null

-- where the value of a node is, the step that it needs, if it needs one, and the elements that are written
pub record Addition : Type 0 where
  pub place : Operand
  pub steps : List Step
  pub elements : List Operand

-- of a step of a number
abbrev pub one_step : ℕ → List Operand → Step → Addition
one_step number elements s = record { place = Register number; steps = s ∷ []; elements = elements }

abbrev pub no_step : Operand → Addition
no_step place = record { place = place; steps = []; elements = [] }

-- of a request, after so many steps and elements
abbrev pub reduction_addition : Cell → List Node → List Operand → ℕ → ℕ → Reducer → Bool → Items → Addition
reduction_addition context nodes places number from reducer ignore the_data =
    one_step number [] (step.Reduction reducer ignore)
reduction_addition context nodes places number from reducer ignore (written scalars) =
    one_step number (map (operand_of context nodes places) scalars)
    (step.Written reducer ignore from (from + length scalars))

abbrev pub items_place : PlainScope → Cell → List Node → List Operand → Items → Option ℕ → Option Label → Operand
items_place scope context nodes places the_data index label = element_place scope index label
items_place scope context nodes places (written scalars) index label =
    written_place (map (operand_of context nodes places) scalars) index

abbrev pub addition_of : PlainScope → Cell → List Node → List Operand → ℕ → ℕ → CellRequest → Addition
addition_of scope context nodes places number from (unary f x) =
    one_step number [] (step.Unary f (operand_of context nodes places x))
addition_of scope context nodes places number from (binary f x y) =
    one_step number [] (step.Binary f (operand_of context nodes places x) (operand_of context nodes places y))
addition_of scope context nodes places number from (choice value accept reject) =
    one_step number []
    (step.Choice (operand_of context nodes places value) (operand_of context nodes places accept)
    (operand_of context nodes places reject))
addition_of scope context nodes places number from (reduction reducer ignore items) =
    reduction_addition context nodes places number from reducer ignore items
addition_of scope context nodes places number from (element items index label return_nodata) =
    no_step (items_place scope context nodes places items index label)

-- ---- what a program is worth

-- where each list of the scope begins
abbrev pub starts_in : PlainScope → List ℕ
starts_in (apply kind) = []
starts_in (reduce kind labels lists) = map (λ (part : ListPart). part.from) lists
starts_in (merge kind) = []

-- the program takes what the scope has, and knows where its lists begin
pub record IsStarted (scope : PlainScope) (p : Program) : Type 0 where
  pub steps : AreSteps scope p.elements.items p.steps.items
  pub starts : p.starts.items ≡ starts_in scope

-- what the request of a node adds to a program, behind its steps and its elements
abbrev pub addition_to : PlainScope → Cell → List Node → List Operand → Program → CellRequest → Addition
addition_to scope context nodes places p request =
    addition_of scope context nodes places (length p.steps.items) (length p.elements.items) request

-- the program after this one, by so many steps and elements
pub record Follows (old new : Program) (a : Addition) : Type 0 where
  pub steps : new.steps.items ≡ old.steps.items ++ a.steps
  pub elements : new.elements.items ≡ old.elements.items ++ a.elements
  pub starts : new.starts.items ≡ old.starts.items

-- of an operand, in an environment on the list of a number
abbrev pub place_value : Program → Environment → ℕ → Operand → Cell
place_value p e list o =
    operand_value (inputs_of e (start_of p list))
    (register_of p.elements.items (inputs_of e (start_of p list)) p.steps.items) o

-- the operand has this value in each environment
pub record IsPlace (c : Callback) (p : Program) (value : Environment → Cell) (o : Operand) : Type 0 where
  pub is_operand : IsOperand c.scope (length p.steps.items) o
  pub has_value :
      (x y : Cell) (cells : List Cell) (list : ℕ) → IsEnvironment c x y cells list
      → place_value p (environment c x y cells list) list o ≡ value (environment c x y cells list)
