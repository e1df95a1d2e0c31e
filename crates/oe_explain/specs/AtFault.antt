-- Which argument of a graph a fault is of.
use Rattle.std.specs.Prelude.{ℕ, ◌==◌, ◌&&◌, Bool, false, not, List, [], ◌∷◌, Option, Some, None, is_none, codes, option_map, option_and_then, find, if◌then◌else◌}
use Rattle.std.specs.Option.{option_map_or}
use denote.Bor.{Bor}
use Rattle.oe_dims.specs.Names.{same_name}
use Rattle.oe_graph.specs.Catalogue.{Parameter, Process, process_named}
use Rattle.oe_graph.specs.Printed.{names_of}
use Rattle.oe_graph.specs.References.{argument_named}
use Rattle.oe_graph.specs.Tree.{Argument, Named, Nodes, PlainGraph, PlainNode}
use Rattle.oe_graph.specs.declared.code.Code.{Code}
use Rattle.oe_graph.specs.declared.code.Code.TheVariants.{ArgumentUnknown, ProcessParameterMissing, ProcessParameterInvalid}
use Rattle.oe_graph.specs.declared.fault.Fault.{Fault}
use Rattle.oe_graph.specs.declared.table.ArgumentKind.{ArgumentKind}
use Rattle.oe_expr.specs.Nodes.{node_named}
use Rattle.oe_check.specs.Held.{may_hold}
use Rattle.oe_requests.specs.Parameters.{callback_in}

-- ---- the node of a fault

-- what stands before the first slash of a name, and what stands behind it where it has one
abbrev pub at_slash : List ℕ → List ℕ × Option (List ℕ)
at_slash [] = ([], None)
at_slash (byte ∷ name) = if byte == 47 then ([], Some name) else (byte ∷ (at_slash name).0, (at_slash name).1)

-- the node of an id in the callback that is the argument of a name, both with a slash between them
abbrev pub node_in_callback : PlainNode → List ℕ × Option (List ℕ) → Option PlainNode
node_in_callback n (argument, None) = None
node_in_callback n (argument, Some id) =
    option_and_then (λ (g : PlainGraph). node_named id g.nodes)
    (option_and_then callback_in (argument_named argument n.arguments))

-- the node of a fault: `n` in the main graph, and `p/a/n` in the callback in the argument a of the node p
abbrev pub node_by : PlainGraph → List ℕ × Option (List ℕ) → Option PlainNode
node_by g (id, None) = node_named id g.nodes
node_by g (id, Some rest) = option_and_then (λ n. node_in_callback n (at_slash rest)) (node_named id g.nodes)

abbrev pub node_of : PlainGraph → List ℕ → Option PlainNode
node_of g name = node_by g (at_slash name)

-- ---- the argument of a fault

-- an argument by its name, and what it must hold where that is known
pub record AtFault : Type 0 where
  pub name : List ℕ
  pub must_hold : Option ArgumentKind

abbrev pub of_no_parameter : List ℕ → AtFault
of_no_parameter name = record { name = name; must_hold = None }

abbrev pub of_parameter : Parameter → AtFault
of_parameter p = record { name = p.name; must_hold = Some p.holds }

-- the parameter of a name
abbrev pub parameter_named : List ℕ → List Parameter → Option Parameter
parameter_named name parameters = find (λ (p : Parameter). same_name p.name name) parameters

-- the parameter has no default, and no argument is given for it
abbrev pub is_missing : Named → Parameter → Bool
is_missing arguments p = is_none p.default && is_none (argument_named p.name arguments)

-- the argument that is given for the parameter is not what its row says
abbrev pub is_refused : Named → Parameter → Bool
is_refused arguments p = option_map_or (λ a. not (may_hold p.holds a)) (argument_named p.name arguments) false

-- where each argument is what its row says, the labels of intervals do not agree with these
abbrev pub or_labels : List Parameter → Option Parameter → Option Parameter
or_labels parameters None = parameter_named (codes "labels") parameters
or_labels parameters (Some p) = Some p

-- of a node with these arguments, whose process has these parameters in their order: the first argument that is none of
-- them, the first that is missing, or the first that is not what its row says; other faults are not of one argument
abbrev pub argument_at : Code → List Parameter → Named → Option AtFault
argument_at ArgumentUnknown parameters arguments =
    option_map of_no_parameter (find (λ name. is_none (parameter_named name parameters)) (names_of arguments))
argument_at ProcessParameterMissing parameters arguments =
    option_map of_parameter (find (is_missing arguments) parameters)
argument_at ProcessParameterInvalid parameters arguments =
    option_map of_parameter (or_labels parameters (find (is_refused arguments) parameters))
argument_at _ parameters arguments = None

-- that of a fault of a graph, by the row of the node's process
abbrev pub at_fault : PlainGraph → Fault → Option AtFault
at_fault g fault =
    option_and_then (λ (n : PlainNode). option_and_then (λ (row : Process).
    argument_at fault.code row.parameters n.arguments) (process_named n.process_id)) (node_of g fault.node)

-- ---- as the code has it

-- a name behind a reference, with what the argument must hold
abbrev pub plain_at_fault : Bor (List ℕ) × Option ArgumentKind → AtFault
plain_at_fault a = record { name = a.0.now; must_hold = a.1 }
