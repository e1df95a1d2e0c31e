-- The nodes that calendar periods and running sums are written as: their processes and arguments.
use Rattle.std.specs.Prelude.{◌≡◌, ℕ, ℤ, pos, Bool, true, List, [], ◌∷◌, map, Option, Some, None, codes, slice_get, unwrap_or, IfSome}
use Rattle.oe_dims.specs.Instant.{instant_text, IsInstant}
use Rattle.oe_graph.specs.Form.{callback_name}
use Rattle.oe_graph.specs.References.{argument_named}
use Rattle.oe_graph.specs.Tree as tree
use Rattle.oe_graph.specs.Tree.{Argument, ListValues, Named, PlainNode, nodes_from_list, values_from_list}
use Rattle.oe_requests.specs.Parameters.{extent_from, is_limited, labelled_interval}
use Rattle.oe_requests.specs.declared.extent.Interval.{Interval}

-- the argument of a name, null where there is none
abbrev pub given : List ℕ → Named → Argument
given name arguments = unwrap_or (argument_named name arguments) tree.null

-- ---- intervals as arguments

-- an instant in its long spelling
abbrev pub instant_argument : ℤ → Argument
instant_argument seconds = tree.text (instant_text seconds)

-- an end of an extent, null where it is missing
abbrev pub end_argument : Option ℤ → Argument
end_argument None = tree.null
end_argument (Some seconds) = instant_argument seconds

-- the pair of the ends of an interval
abbrev pub extent_argument : Interval → Argument
extent_argument i =
    tree.list (tree.argument (end_argument i.extent.start)
    (tree.argument (end_argument i.extent.end) tree.no_arguments))

-- its label
abbrev pub label_argument : Interval → Argument
label_argument i = instant_argument i.label

-- what is written of each interval, as a list
abbrev pub list_of : (Interval → Argument) → List Interval → Argument
list_of written intervals = tree.list (values_from_list (map written intervals))

-- its instants are of the years 1 to 9999, and one of its ends is there: so it can be written and is read again
pub record IsWritable (i : Interval) : Type 0 where
  pub limited : is_limited i.extent ≡ true
  pub start : IfSome i.extent.start IsInstant
  pub end : IfSome i.extent.end IsInstant
  pub label : IsInstant i.label

-- ---- `aggregate_temporal`

-- its arguments in byte order of their names: context, data, dimension and reducer as they are given, with the intervals
-- and their labels
abbrev pub aggregate_arguments : Argument → Argument → Argument → List Interval → Argument → Named
aggregate_arguments context cube dimension intervals reducer =
    tree.named (codes "context") context
    (tree.named (codes "data") cube
    (tree.named (codes "dimension") dimension
    (tree.named (codes "intervals") (list_of extent_argument intervals)
    (tree.named (codes "labels") (list_of label_argument intervals)
    (tree.named (codes "reducer") reducer tree.no_named)))))

-- those of a node of calendar periods, over these intervals
abbrev pub period_arguments : List Interval → Named → Named
period_arguments intervals arguments =
    aggregate_arguments (given (codes "context") arguments) (given (codes "data") arguments)
    (given (codes "dimension") arguments) intervals (given (codes "reducer") arguments)

-- a node of calendar periods as the aggregation over these intervals
abbrev pub aggregated_node : List Interval → PlainNode → PlainNode
aggregated_node intervals n = record {
  id = n.id;
  process_id = codes "aggregate_temporal";
  namespace = n.namespace;
  arguments = period_arguments intervals n.arguments;
}

-- ---- running sums: an aggregation over intervals that all begin with the first label, and a merge

-- the interval of a label: from the first one to the next one, without an end where there is no next one
abbrev pub interval_up_to : ℤ → ℤ → List ℤ → Interval
interval_up_to first label later = labelled_interval (extent_from (Some first) (slice_get later 0)) label

abbrev pub intervals_from : ℤ → List ℤ → List Interval
intervals_from first [] = []
intervals_from first (label ∷ later) = interval_up_to first label later ∷ intervals_from first later

-- those of all labels, which rise
abbrev pub growing_intervals : List ℤ → List Interval
growing_intervals [] = []
growing_intervals (label ∷ later) = intervals_from label (label ∷ later)

-- the name of the aggregation of the node n: `n/sum`
abbrev pub sum_name : List ℕ → List ℕ
sum_name id = callback_name id (codes "sum")

-- the callback of one node, `sum` of the list
abbrev pub sum_callback : Bool → Argument
sum_callback ignore =
    tree.callback (tree.node (codes "sum") (codes "sum") None
    (tree.named (codes "data") (tree.from_parameter (codes "data"))
    (tree.named (codes "ignore_nodata") (tree.flag ignore) tree.no_named)) tree.no_nodes) 0

-- in the callback `add(x, multiply(y, 0))` the node of the sum, and that of the product
abbrev pub add_node : PlainNode
add_node = record {
  id = codes "add";
  process_id = codes "add";
  namespace = None;
  arguments = tree.named (codes "x") (tree.from_parameter (codes "x"))
      (tree.named (codes "y") (tree.from_node (codes "multiply")) tree.no_named);
}

abbrev pub multiply_node : PlainNode
multiply_node = record {
  id = codes "multiply";
  process_id = codes "multiply";
  namespace = None;
  arguments = tree.named (codes "x") (tree.from_parameter (codes "y"))
      (tree.named (codes "y") (tree.whole (pos 0)) tree.no_named);
}

-- that callback: x where y is a number, null where y is null, Over where one of both is
abbrev pub sum_where_number : Argument
sum_where_number = tree.callback (nodes_from_list (add_node ∷ multiply_node ∷ [])) 0

-- the aggregation of a node of running sums over these labels: at each label the sum of the cells up to it
abbrev pub sums_node : Bool → List ℤ → PlainNode → PlainNode
sums_node ignore labels n = record {
  id = sum_name n.id;
  process_id = codes "aggregate_temporal";
  namespace = n.namespace;
  arguments = aggregate_arguments tree.null (given (codes "data") n.arguments) tree.null (growing_intervals labels)
      (sum_callback ignore);
}

-- the node itself: the merge of the sums with the data
abbrev pub merged_node : PlainNode → PlainNode
merged_node n = record {
  id = n.id;
  process_id = codes "merge_cubes";
  namespace = n.namespace;
  arguments =
      tree.named (codes "context") tree.null
      (tree.named (codes "cube1") (tree.from_node (sum_name n.id))
      (tree.named (codes "cube2") (given (codes "data") n.arguments)
      (tree.named (codes "overlap_resolver") sum_where_number tree.no_named)));
}
