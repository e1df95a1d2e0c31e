-- A code of the nodes of a graph, by which proofs tell them apart: the marks of a tree in prefix order, read from the
-- end.
use Rattle.std.specs.Prelude.{◌≡◌, ℕ, ℤ, Bool, List, [], ◌∷◌, Option, refl}
use Rattle.std.specs.Coded.{Coded, code_by}
use Rattle.std.proofs.Common.{ap, ◌∙◌}
use Rattle.oe_graph.specs.Tree.{Argument, null, flag, whole, inexact, text, list, object, from_node, from_parameter, callback, ListValues, no_arguments, argument, Named, no_named, named, Nodes, no_nodes, node}

pub data Mark : Type 0 where
  null_mark : Mark
  flag_mark : Bool → Mark
  whole_mark : ℤ → Mark
  inexact_mark : Mark
  text_mark : List ℕ → Mark
  list_mark : Mark
  object_mark : Mark
  node_name_mark : List ℕ → Mark
  parameter_mark : List ℕ → Mark
  callback_mark : ℕ → Mark
  no_arguments_mark : Mark
  argument_mark : Mark
  no_named_mark : Mark
  named_mark : List ℕ → Mark
  no_nodes_mark : Mark
  node_mark : List ℕ → List ℕ → Option (List ℕ) → Mark

-- a part of a tree
pub data Piece : Type 0 where
  an_argument : Argument → Piece
  some_arguments : ListValues → Piece
  some_named : Named → Piece
  some_nodes : Nodes → Piece

-- what a mark makes of the parts behind it
abbrev pub piece_with : Mark → List Piece → List Piece
piece_with null_mark pieces = an_argument null ∷ pieces
piece_with (flag_mark b) pieces = an_argument (flag b) ∷ pieces
piece_with (whole_mark z) pieces = an_argument (whole z) ∷ pieces
piece_with inexact_mark pieces = an_argument inexact ∷ pieces
piece_with (text_mark s) pieces = an_argument (text s) ∷ pieces
piece_with list_mark (some_arguments items ∷ pieces) = an_argument (list items) ∷ pieces
piece_with object_mark (some_named members ∷ pieces) = an_argument (object members) ∷ pieces
piece_with (node_name_mark id) pieces = an_argument (from_node id) ∷ pieces
piece_with (parameter_mark name) pieces = an_argument (from_parameter name) ∷ pieces
piece_with (callback_mark result) (some_nodes nodes ∷ pieces) = an_argument (callback nodes result) ∷ pieces
piece_with no_arguments_mark pieces = some_arguments no_arguments ∷ pieces
piece_with argument_mark (an_argument first ∷ some_arguments rest ∷ pieces) =
    some_arguments (argument first rest) ∷ pieces
piece_with no_named_mark pieces = some_named no_named ∷ pieces
piece_with (named_mark name) (an_argument first ∷ some_named rest ∷ pieces) =
    some_named (named name first rest) ∷ pieces
piece_with no_nodes_mark pieces = some_nodes no_nodes ∷ pieces
piece_with (node_mark id process_id namespace) (some_named arguments ∷ some_nodes rest ∷ pieces) =
    some_nodes (node id process_id namespace arguments rest) ∷ pieces
piece_with _ pieces = []

abbrev pub pieces_of : List Mark → List Piece
pieces_of [] = []
pieces_of (mark ∷ marks) = piece_with mark (pieces_of marks)

-- the marks of a tree, before others
abbrev mutual
  pub argument_marks : Argument → List Mark → List Mark
  argument_marks null marks = null_mark ∷ marks
  argument_marks (flag b) marks = flag_mark b ∷ marks
  argument_marks (whole z) marks = whole_mark z ∷ marks
  argument_marks inexact marks = inexact_mark ∷ marks
  argument_marks (text s) marks = text_mark s ∷ marks
  argument_marks (list items) marks = list_mark ∷ arguments_marks items marks
  argument_marks (object members) marks = object_mark ∷ named_marks members marks
  argument_marks (from_node id) marks = node_name_mark id ∷ marks
  argument_marks (from_parameter name) marks = parameter_mark name ∷ marks
  argument_marks (callback nodes result) marks = callback_mark result ∷ nodes_marks nodes marks

  pub arguments_marks : ListValues → List Mark → List Mark
  arguments_marks no_arguments marks = no_arguments_mark ∷ marks
  arguments_marks (argument first rest) marks = argument_mark ∷ argument_marks first (arguments_marks rest marks)

  pub named_marks : Named → List Mark → List Mark
  named_marks no_named marks = no_named_mark ∷ marks
  named_marks (named name first rest) marks = named_mark name ∷ argument_marks first (named_marks rest marks)

  pub nodes_marks : Nodes → List Mark → List Mark
  nodes_marks no_nodes marks = no_nodes_mark ∷ marks
  nodes_marks (node id process_id namespace arguments rest) marks =
      node_mark id process_id namespace ∷ named_marks arguments (nodes_marks rest marks)

-- the parts that marks give are the trees
mutual
  argument_back : (a : Argument) (marks : List Mark) → pieces_of (argument_marks a marks)
      ≡ an_argument a ∷ pieces_of marks
  argument_back null marks = refl
  argument_back (flag b) marks = refl
  argument_back (whole z) marks = refl
  argument_back inexact marks = refl
  argument_back (text s) marks = refl
  argument_back (list items) marks = ap (piece_with list_mark) (arguments_back items marks)
  argument_back (object members) marks = ap (piece_with object_mark) (named_back members marks)
  argument_back (from_node id) marks = refl
  argument_back (from_parameter name) marks = refl
  argument_back (callback nodes result) marks = ap (piece_with (callback_mark result)) (nodes_back nodes marks)

  arguments_back : (items : ListValues) (marks : List Mark) → pieces_of (arguments_marks items marks)
      ≡ some_arguments items ∷ pieces_of marks
  arguments_back no_arguments marks = refl
  arguments_back (argument first rest) marks =
      ap (piece_with argument_mark) (argument_back first (arguments_marks rest marks) ∙ ap
      (λ (pieces : List Piece). an_argument first ∷ pieces) (arguments_back rest marks))

  named_back : (ms : Named) (marks : List Mark) → pieces_of (named_marks ms marks) ≡ some_named ms ∷ pieces_of marks
  named_back no_named marks = refl
  named_back (named name first rest) marks =
      ap (piece_with (named_mark name)) (argument_back first (named_marks rest marks) ∙ ap
      (λ (pieces : List Piece). an_argument first ∷ pieces) (named_back rest marks))

  pub nodes_back : (ns : Nodes) (marks : List Mark) → pieces_of (nodes_marks ns marks) ≡ some_nodes ns ∷ pieces_of marks
  nodes_back no_nodes marks = refl
  nodes_back (node id process_id namespace arguments rest) marks =
      ap (piece_with (node_mark id process_id namespace)) (named_back arguments (nodes_marks rest marks) ∙ ap
      (λ (pieces : List Piece). some_named arguments ∷ pieces) (nodes_back rest marks))

abbrev pub first_nodes : List Piece → Nodes
first_nodes (some_nodes nodes ∷ pieces) = nodes
first_nodes _ = no_nodes

abbrev pub marks_of : Nodes → List Mark
marks_of nodes = nodes_marks nodes []

abbrev pub nodes_of_marks : List Mark → Nodes
nodes_of_marks marks = first_nodes (pieces_of marks)

pub nodes_again : (nodes : Nodes) → nodes_of_marks (marks_of nodes) ≡ nodes
nodes_again nodes = ap first_nodes (nodes_back nodes [])

abbrev pub nodes_code : Coded (List Mark) → Coded Nodes
nodes_code code = code_by (List Mark) code marks_of nodes_of_marks nodes_again
