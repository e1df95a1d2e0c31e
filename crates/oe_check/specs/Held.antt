-- What the table of processes says of arguments: a test for each kind of parameter, the rule that no column can say
-- since it compares two arguments, and where a node's arguments hold what the row of its process says.
use Rattle.std.specs.Prelude.{◌≡◌, ◌&&◌, Bool, true, false, Some, is_some, codes, if◌then◌else◌}
use Rattle.std.specs.List.{list_all}
use Rattle.std.specs.Option.{option_map_or}
use Rattle.oe_dims.specs.Names.{same_name}
use Rattle.oe_graph.specs.Catalogue.{Parameter, Process, process_named}
use Rattle.oe_graph.specs.References.{argument_named}
use Rattle.oe_graph.specs.Tree.{Argument, Named, PlainNode}
use Rattle.oe_graph.specs.declared.table.ArgumentKind.{ArgumentKind}
use Rattle.oe_graph.specs.declared.table.ArgumentKind.TheVariants as kind
use Rattle.oe_expr.specs.Operations.{operation_named}
use Rattle.oe_expr.specs.Requests.{scalar_in, items_in, flag_in, is_null, is_scalar_literal, counter_in, list_index_in, label_in, read, cell_request_at}
use Rattle.oe_expr.specs.declared.operation.Operation.{Operation}
use Rattle.oe_requests.specs.Parameters.{cube_in, callback_in, text_in, box_in, extent_in, list_in, instant_in, bands_in, some_bands_in, kernel_in, whole_in, border_in, null_or, period_in, is_time_name, is_empty_list, is_empty_object, is_null_or_empty_object, intervals_of}
use Rattle.oe_requests.specs.Requests.{cube_process_named, cube_request_at}
use Rattle.oe_requests.specs.RunningSums.{is_data, running_sum_at}
use Rattle.oe_requests.specs.declared.process.CubeProcess.{CubeProcess}

-- ---- one argument

-- the argument is what a parameter of this kind may hold, whether of a node of the main graph or of a callback
abbrev pub may_hold : ArgumentKind → Argument → Bool
may_hold kind.Cube a = is_some (cube_in a)
may_hold kind.Callback a = is_some (callback_in a)
may_hold kind.CallbackOrNull a = is_some (null_or callback_in a)
may_hold kind.Text a = is_some (text_in a)
may_hold kind.TextOrNull a = is_some (null_or text_in a)
may_hold kind.SpatialExtent a = is_some (box_in a)
may_hold kind.SpatialExtentOrNull a = is_some (null_or box_in a)
may_hold kind.TemporalExtent a = is_some (extent_in a)
may_hold kind.TemporalExtentOrNull a = is_some (null_or extent_in a)
may_hold kind.Intervals a = is_some (list_in extent_in a)
may_hold kind.IntervalLabels a = is_some (list_in instant_in a)
may_hold kind.Bands a = is_some (bands_in a)
may_hold kind.BandsOrNull a = is_some (null_or some_bands_in a)
may_hold kind.KernelRows a = is_some (kernel_in a)
may_hold kind.Whole a = is_some (whole_in a)
may_hold kind.Border a = is_some (border_in a)
may_hold kind.ScalarLiteral a = is_scalar_literal a
may_hold kind.EmptyList a = is_empty_list a
may_hold kind.EmptyObject a = is_empty_object a
may_hold kind.EmptyObjectOrNull a = is_null_or_empty_object a
may_hold kind.Number a = is_some (scalar_in a)
may_hold kind.Flag a = is_some (scalar_in a)
may_hold kind.Cell a = is_some (scalar_in a)
may_hold kind.Numbers a = is_some (items_in a)
may_hold kind.Flags a = is_some (items_in a)
may_hold kind.Cells a = is_some (items_in a)
may_hold kind.FlagLiteral a = is_some (flag_in a)
may_hold kind.Null a = is_null a
may_hold kind.TrueOrNull a = is_some (counter_in a)
may_hold kind.IndexOrNull a = is_some (list_index_in a)
may_hold kind.LabelOrNull a = is_some (label_in a)
may_hold kind.Period a = is_some (period_in a)
may_hold kind.TimeName a = is_time_name a
may_hold kind.Data a = is_data a

-- ---- the arguments of a node

-- the parameter has an argument, which is what it may hold
abbrev pub is_held : Named → Parameter → Bool
is_held arguments p = option_map_or (may_hold p.holds) (argument_named p.name arguments) false

-- the labels of intervals are as many as these; or there are none, and each interval has a start
abbrev pub have_labels : Named → Bool
have_labels arguments =
    option_map_or (λ extents. option_map_or (λ labels. is_some (intervals_of extents labels))
    (read (list_in instant_in) (codes "labels") arguments) true)
    (read (list_in extent_in) (codes "intervals") arguments) true

-- the one rule of a node that compares two of its arguments
abbrev pub arguments_agree : PlainNode → Bool
arguments_agree n = if same_name n.process_id (codes "aggregate_temporal") then have_labels n.arguments else true

-- An argument is refused exactly where it is not what its row says: a node of the main graph asks for something where
-- each of its arguments is held and they agree, and a node of a callback, also of one of running sums, where each is
-- held.
pub record AskWhereHeld : Type 0 where
  pub in_graphs : (n : PlainNode) (process : CubeProcess) → cube_process_named n.process_id ≡ Some process
      → (row : Process) → process_named n.process_id ≡ Some row
      → is_some (cube_request_at n) ≡ (list_all (is_held n.arguments) row.parameters && arguments_agree n)
  pub in_sums : (n : PlainNode) → (row : Process) → process_named n.process_id ≡ Some row
      → same_name n.process_id (codes "cumsum") ≡ true
      → is_some (running_sum_at n) ≡ list_all (is_held n.arguments) row.parameters
  pub in_callbacks : (n : PlainNode) (operation : Operation) → operation_named n.process_id ≡ Some operation
      → (row : Process) → process_named n.process_id ≡ Some row
      → is_some (cell_request_at n) ≡ list_all (is_held n.arguments) row.parameters
