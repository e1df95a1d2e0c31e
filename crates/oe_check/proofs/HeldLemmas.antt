-- A node asks for something exactly where its arguments hold what the row of its process says.
use Rattle.std.proofs.Common.{◌≡◌, ℕ, ℤ, Bool, true, false, ◌&&◌, List, [], ◌∷◌, refl, sym, ap, ◌∙◌, Option, Some, None, if◌then◌else◌}
use Rattle.std.specs.Prelude.{⊤, codes, is_some}
use Rattle.std.specs.List.{list_all}
use Rattle.std.specs.Option.{option_map, option_and_then, option_map_or}
use Rattle.oe_dims.specs.Names.{same_name}
use Rattle.oe_graph.specs.Built.{is_literal}
use Rattle.oe_graph.specs.Catalogue.{Process, process_named}
use Rattle.oe_graph.specs.References.{argument_named}
use Rattle.oe_graph.specs.Tree as tree
use Rattle.oe_graph.specs.Tree.{Argument, Named, PlainNode}
use Rattle.oe_dims.proofs.OrderLemmas.{same_name_is}
use Rattle.oe_fold.specs.declared.reducer.Reducer.{Reducer}
use Rattle.oe_fold.specs.declared.reducer.Reducer.TheVariants.{Sum, Product, Mean, Min, Max, Median, First, Last, Any, All as EveryOne}
use Rattle.oe_expr.specs.Operations.{NamedOperation, operations, operation_among, operation_named}
use Rattle.oe_expr.specs.Requests.{with_both, read, where_passed, whole_cell, is_scalar_literal, is_null, scalar_in, items_in, flag_in, counter_in, list_index_in, label_in, unary, binary, choice, reduction, element, two_cells, has_plain_equality, cell_request_of, cell_request_at, passes}
use Rattle.oe_expr.specs.declared.operation.Unary.{Unary}
use Rattle.oe_expr.specs.declared.operation.Unary.TheVariants.{Absolute, Sgn, Floor, Ceil, Int, Not}
use Rattle.oe_expr.specs.declared.operation.Binary.{Binary}
use Rattle.oe_expr.specs.declared.operation.Binary.TheVariants.{Add, Subtract, Multiply, Divide, Modulo, Equal, NotEqual, Greater, GreaterOrEqual, Less, LessOrEqual, And, Or, Xor}
use Rattle.oe_expr.specs.declared.operation.Operation.{Operation}
use Rattle.oe_expr.specs.declared.operation.Operation.TheVariants.{OfOne, Choice, Reduction, Counting, Element}
use Rattle.oe_meanings.proofs.AmongLemmas.{mapped_some}
use Rattle.oe_check.proofs.ReferenceLemmas.{id_of, id_is, all_named}
use Rattle.oe_check.specs.Held.{is_held, have_labels, arguments_agree, AskWhereHeld}
use Rattle.oe_requests.specs.Parameters.{cube_in, callback_in, text_in, is_time_name, period_in, whole_in, number_in, literal_in, box_in, extent_in, instant_in, bands_in, some_bands_in, kernel_in, border_in, list_in, null_or, is_empty_list, is_empty_object, is_null_or_empty_object, intervals_of}
use Rattle.oe_requests.specs.Requests.{cube_processes, cube_process_named, load_collection, filter_bbox, filter_temporal, filter_bands, apply, apply_kernel, reduce_dimension, aggregate_temporal, aggregate_temporal_period, apply_dimension, merge_cubes, mask, save_result, called, cube_request_of, cube_request_at}
use Rattle.oe_requests.specs.declared.extent.TemporalExtent.{TemporalExtent}
use Rattle.oe_requests.specs.declared.process.CubeProcess.{CubeProcess}
use Rattle.oe_requests.specs.declared.process.CubeProcess.TheVariants.{AggregateTemporal, AggregateTemporalPeriod, Apply, ApplyDimension, ApplyKernel, FilterBands, FilterBbox, FilterTemporal, LoadCollection, Mask, MergeCubes, ReduceDimension, SaveResult}
use Rattle.oe_requests.specs.RunningSums.{is_data, running_sum_at}

-- ---- an argument that is read, or tested

held : {A : Type 0} (reader : Argument → Option A) (o : Option Argument) → option_map_or (λ a. is_some (reader a)) o false ≡ is_some (option_and_then reader o)
held reader None = refl
held reader (Some a) = refl

tested : (test : Argument → Bool) (o : Option Argument) → option_map_or test o false ≡ is_some (option_and_then (λ a. if test a then Some a else None) o)
tested test None = refl
tested test (Some a) = by (test a)
  where
    by : (b : Bool) → b ≡ is_some (if b then Some a else None)
    by true = refl
    by false = refl

whole_held : (o : Option Argument) → option_map_or (λ a. is_some (whole_in a)) o false ≡ is_some (option_and_then number_in o)
whole_held None = refl
whole_held (Some a) = sym (mapped_some _ (whole_in a))

is_read : (a : Argument) → is_scalar_literal a ≡ is_some (literal_in a)
is_read tree.null = refl
is_read (tree.flag b) = refl
is_read (tree.whole z) = by (is_literal z)
  where
    by : (b : Bool) → b ≡ is_some (option_map whole_cell (if b then Some z else None))
    by true = refl
    by false = refl
is_read tree.inexact = refl
is_read (tree.text s) = refl
is_read (tree.list rest) = refl
is_read (tree.object ms) = refl
is_read (tree.from_node id) = refl
is_read (tree.from_parameter name) = refl
is_read (tree.callback ns result) = refl

literal_held : (o : Option Argument) → option_map_or is_scalar_literal o false ≡ is_some (option_and_then literal_in o)
literal_held None = refl
literal_held (Some a) = is_read a

-- ---- what is read of several arguments

last_held : (x : Bool) {A : Type 0} (o : Option A) → x ≡ is_some o → (x && true) ≡ is_some o
last_held x None h = rw h refl
last_held x (Some a) h = rw h refl

both_held : (x y : Bool) {A B C : Type 0} (f : A → B → C) (o : Option A) (p : Option B) → x ≡ is_some o → y ≡ is_some p → (x && y) ≡ is_some (with_both f o p)
both_held x y f None p h k = rw h refl
both_held x y f (Some a) None h k = rw (h, k) refl
both_held x y f (Some a) (Some b) h k = rw (h, k) refl

then_held : (x y : Bool) {A B : Type 0} (g : A → Option B) (o : Option A) → x ≡ is_some o → ((a : A) → y ≡ is_some (g a)) → (x && y) ≡ is_some (option_and_then g o)
then_held x y g None h k = rw h refl
then_held x y g (Some a) h k = rw h (k a)

-- a test of an argument without effect stands first in what is read, and last in the row
passed_held : (x y z : Bool) {A : Type 0} (o : Option A) → x ≡ is_some o → y ≡ z → (x && y) ≡ is_some (where_passed z o)
passed_held x y true None h k = rw h refl
passed_held x y true (Some a) h k = rw (h, k) refl
passed_held x y false None h k = rw h refl
passed_held x y false (Some a) h k = rw (h, k) refl

map_held : (x : Bool) {A B : Type 0} (f : A → B) (o : Option A) → x ≡ is_some o → (x && true) ≡ is_some (option_map f o)
map_held x f None h = rw h refl
map_held x f (Some a) h = rw h refl

pair_held : (x y a b : Bool) → x ≡ a → y ≡ b → (x && y) ≡ (a && b)
pair_held x y a b h k = rw (h, k) refl

no_more : (a : Bool) → (a && true) ≡ a
no_more true = refl
no_more false = refl

-- ---- tests in another order

second_first : (a b : Bool) → (a && (b && true)) ≡ (b && a)
second_first false false = refl
second_first false true = refl
second_first true false = refl
second_first true true = refl

two_apart : (a b c d : Bool) → (a && (b && (c && (d && true)))) ≡ (a && b && (c && d))
two_apart false b c d = refl
two_apart true false c d = refl
two_apart true true false d = refl
two_apart true true true false = refl
two_apart true true true true = refl

count_apart : (a b c : Bool) → (a && (b && (c && true))) ≡ (b && a && c)
count_apart false false c = refl
count_apart false true c = refl
count_apart true false c = refl
count_apart true true false = refl
count_apart true true true = refl

third_apart : (a b c : Bool) → (a && (b && (c && true))) ≡ (a && b && c)
third_apart false b c = refl
third_apart true false c = refl
third_apart true true false = refl
third_apart true true true = refl

fifth_apart : (a b c d e : Bool) → (a && (b && (c && (d && (e && true))))) ≡ (a && (b && (c && d)) && e)
fifth_apart false b c d e = refl
fifth_apart true false c d e = refl
fifth_apart true true false d e = refl
fifth_apart true true true d e = third_apart true d e

second_later : (a b c d : Bool) → (a && (b && (c && (d && true)))) ≡ (a && (c && (b && d)))
second_later false b c d = refl
second_later true false false d = refl
second_later true false true d = refl
second_later true true false d = refl
second_later true true true false = refl
second_later true true true true = refl

third_later : (a b c d e : Bool) → (a && (b && (c && (d && (e && true))))) ≡ (a && (b && (d && (c && e))))
third_later false b c d e = refl
third_later true false c d e = refl
third_later true true false false e = refl
third_later true true false true e = refl
third_later true true true false e = refl
third_later true true true true false = refl
third_later true true true true true = refl

-- data, process, dimension, target_dimension and context
dimension_sooner : (a b c d e : Bool) → (a && (b && (c && (d && (e && true))))) ≡ (((e && (a && b)) && d) && c)
dimension_sooner false b c d false = refl
dimension_sooner false b c d true = refl
dimension_sooner true false c d false = refl
dimension_sooner true false c d true = refl
dimension_sooner true true false false false = refl
dimension_sooner true true false false true = refl
dimension_sooner true true false true false = refl
dimension_sooner true true false true true = refl
dimension_sooner true true true false false = refl
dimension_sooner true true true false true = refl
dimension_sooner true true true true false = refl
dimension_sooner true true true true true = refl

-- data, intervals, reducer, labels, dimension, context, and whether labels and intervals agree
labels_sooner : (d i r l n c m : Bool) → (d && (i && (r && (l && (n && (c && true))))) && m) ≡ (d && ((i && l && m) && (n && (r && c))))
labels_sooner false i r l n c m = refl
labels_sooner true false r l n c m = refl
labels_sooner true true false false n c m = refl
labels_sooner true true false true false c false = refl
labels_sooner true true false true false c true = refl
labels_sooner true true false true true c false = refl
labels_sooner true true false true true c true = refl
labels_sooner true true true false n c m = refl
labels_sooner true true true true false c false = refl
labels_sooner true true true true false c true = refl
labels_sooner true true true true true false false = refl
labels_sooner true true true true true false true = refl
labels_sooner true true true true true true false = refl
labels_sooner true true true true true true true = refl

-- intervals and their labels, where these agree
intervals_held : (x y : Bool) (e : Option (List TemporalExtent)) (l : Option (List ℤ)) → x ≡ is_some e → y ≡ is_some l
    → (x && y && option_map_or (λ extents. option_map_or (λ labels. is_some (intervals_of extents labels)) l true) e true)
    ≡ is_some (option_and_then (λ extents. option_and_then (intervals_of extents) l) e)
intervals_held x y None l h k = rw h refl
intervals_held x y (Some e) None h k = rw (h, k) refl
intervals_held x y (Some e) (Some l) h k = rw (h, k) refl

-- ---- each process

module _ (given : Named) where
  cube_held : (name : List ℕ) → option_map_or (λ a. is_some (cube_in a)) (argument_named name given) false ≡ is_some (read cube_in name given)
  cube_held name = held cube_in (argument_named name given)

  callback_held : (name : List ℕ) → option_map_or (λ a. is_some (callback_in a)) (argument_named name given) false ≡ is_some (read callback_in name given)
  callback_held name = held callback_in (argument_named name given)

  text_held : (name : List ℕ) → option_map_or (λ a. is_some (text_in a)) (argument_named name given) false ≡ is_some (read text_in name given)
  text_held name = held text_in (argument_named name given)

  name_held : option_map_or (λ a. is_some (null_or text_in a)) (argument_named (codes "dimension") given) false ≡ is_some (read (null_or text_in) (codes "dimension") given)
  name_held = held (null_or text_in) (argument_named (codes "dimension") given)

  context_held : option_map_or is_scalar_literal (argument_named (codes "context") given) false ≡ is_some (read literal_in (codes "context") given)
  context_held = literal_held (argument_named (codes "context") given)

  -- the argument of a name is there, and passes a test
  abbrev told : (Argument → Bool) → List ℕ → Bool
  told test name = option_map_or test (argument_named name given) false

  -- or is read
  abbrev has : {A : Type 0} → (Argument → Option A) → List ℕ → Bool
  has reader name = told (λ a. is_some (reader a)) name

  -- the arguments hold what the row of the process says
  abbrev row_holds : CubeProcess → Bool
  row_holds process = option_map_or (λ (p : Process). list_all (is_held given) p.parameters) (process_named (id_of process)) false

  abbrev Held : CubeProcess → Type 0
  Held process = row_holds process ≡ is_some (cube_request_of process given)

  load_held : Held LoadCollection
  load_held =
      fifth_apart (has text_in (codes "id")) (has (null_or box_in) (codes "spatial_extent")) (has (null_or extent_in) (codes "temporal_extent"))
      (has (null_or some_bands_in) (codes "bands")) (told is_null_or_empty_object (codes "properties"))
      ∙ passed_held _ _ _ _ (then_held _ _ _ _ (text_held (codes "id")) (λ id. then_held _ _ _ _
      (held (null_or box_in) (argument_named (codes "spatial_extent") given)) (λ box. both_held _ _ (load_collection id box) _ _
      (held (null_or extent_in) (argument_named (codes "temporal_extent") given)) (held (null_or some_bands_in) (argument_named (codes "bands") given)))))
      (tested is_null_or_empty_object (argument_named (codes "properties") given))

  bbox_held : Held FilterBbox
  bbox_held =
      both_held _ _ filter_bbox _ _ (cube_held (codes "data")) (last_held _ _ (held box_in (argument_named (codes "extent") given)))

  temporal_held : Held FilterTemporal
  temporal_held =
      then_held _ _ _ _ (cube_held (codes "data")) (λ data_id. both_held _ _ (filter_temporal data_id) _ _
      (held extent_in (argument_named (codes "extent") given)) (last_held _ _ name_held))

  bands_held : Held FilterBands
  bands_held =
      third_apart (has cube_in (codes "data")) (has bands_in (codes "bands")) (told is_empty_list (codes "wavelengths"))
      ∙ passed_held _ _ _ _ (both_held _ _ filter_bands _ _ (cube_held (codes "data")) (held bands_in (argument_named (codes "bands") given)))
      (tested is_empty_list (argument_named (codes "wavelengths") given))

  apply_held : Held Apply
  apply_held =
      both_held _ _ apply _ _ (cube_held (codes "data")) (both_held _ _ called _ _ (callback_held (codes "process")) (last_held _ _ context_held))

  kernel_held : Held ApplyKernel
  kernel_held =
      then_held _ _ _ _ (cube_held (codes "data")) (λ data_id. then_held _ _ _ _ (held kernel_in (argument_named (codes "kernel") given)) (λ kernel.
      then_held _ _ _ _ (whole_held (argument_named (codes "factor") given)) (λ factor. both_held _ _ (apply_kernel data_id kernel factor) _ _
      (held border_in (argument_named (codes "border") given)) (last_held _ _ (whole_held (argument_named (codes "replace_invalid") given))))))

  reduce_held : Held ReduceDimension
  reduce_held =
      second_later (has cube_in (codes "data")) (has callback_in (codes "reducer")) (has text_in (codes "dimension")) (told is_scalar_literal (codes "context"))
      ∙ then_held _ _ _ _ (cube_held (codes "data")) (λ data_id. both_held _ _ (reduce_dimension data_id) _ _
      (text_held (codes "dimension")) (both_held _ _ called _ _ (callback_held (codes "reducer")) context_held))

  merge_held : Held MergeCubes
  merge_held =
      then_held _ _ _ _ (cube_held (codes "cube1")) (λ one. both_held _ _ (merge_cubes one) _ _ (cube_held (codes "cube2"))
      (both_held _ _ _ _ _ (held (null_or callback_in) (argument_named (codes "overlap_resolver") given)) (last_held _ _ context_held)))

  mask_held : Held Mask
  mask_held =
      then_held _ _ _ _ (cube_held (codes "data")) (λ data_id. both_held _ _ (mask data_id) _ _
      (cube_held (codes "mask")) (last_held _ _ (literal_held (argument_named (codes "replacement") given))))

  save_held : Held SaveResult
  save_held =
      third_apart (has cube_in (codes "data")) (has text_in (codes "format")) (told is_empty_object (codes "options"))
      ∙ passed_held _ _ _ _ (both_held _ _ save_result _ _ (cube_held (codes "data")) (text_held (codes "format")))
      (tested is_empty_object (argument_named (codes "options") given))

  aggregate_held : (row_holds AggregateTemporal && have_labels given) ≡ is_some (cube_request_of AggregateTemporal given)
  aggregate_held =
      labels_sooner (has cube_in (codes "data")) (has (list_in extent_in) (codes "intervals")) (has callback_in (codes "reducer"))
      (has (list_in instant_in) (codes "labels")) (has (null_or text_in) (codes "dimension")) (told is_scalar_literal (codes "context")) (have_labels given)
      ∙ then_held _ _ _ _ (cube_held (codes "data")) (λ data_id. then_held _ _ _ _
      (intervals_held _ _ _ _ (held (list_in extent_in) (argument_named (codes "intervals") given)) (held (list_in instant_in) (argument_named (codes "labels") given)))
      (λ intervals. both_held _ _ (aggregate_temporal data_id intervals) _ _ name_held
      (both_held _ _ called _ _ (callback_held (codes "reducer")) context_held)))

  period_held : Held AggregateTemporalPeriod
  period_held =
      third_later (has cube_in (codes "data")) (has period_in (codes "period")) (has callback_in (codes "reducer"))
      (has (null_or text_in) (codes "dimension")) (told is_scalar_literal (codes "context"))
      ∙ then_held _ _ _ _ (cube_held (codes "data")) (λ data_id. then_held _ _ _ _
      (held period_in (argument_named (codes "period") given)) (λ period. both_held _ _ (aggregate_temporal_period data_id period) _ _
      name_held (both_held _ _ called _ _ (callback_held (codes "reducer")) context_held)))

  dimension_held : Held ApplyDimension
  dimension_held =
      dimension_sooner (has cube_in (codes "data")) (has callback_in (codes "process")) (told is_time_name (codes "dimension"))
      (told is_null (codes "target_dimension")) (told is_scalar_literal (codes "context"))
      ∙ passed_held _ _ _ _ (passed_held _ _ _ _ (then_held _ _ _ _ context_held (λ context. both_held _ _ apply_dimension _ _
      (cube_held (codes "data")) (callback_held (codes "process")))) (tested is_null (argument_named (codes "target_dimension") given)))
      (tested is_time_name (argument_named (codes "dimension") given))

  -- the rule of a process that compares two of its arguments
  abbrev agrees : List ℕ → Bool
  agrees id = if same_name id (codes "aggregate_temporal") then have_labels given else true

  each_held : (process : CubeProcess) → (row_holds process && agrees (id_of process)) ≡ is_some (cube_request_of process given)
  each_held AggregateTemporal = aggregate_held
  each_held AggregateTemporalPeriod = no_more _ ∙ period_held
  each_held Apply = no_more _ ∙ apply_held
  each_held ApplyDimension = no_more _ ∙ dimension_held
  each_held ApplyKernel = no_more _ ∙ kernel_held
  each_held FilterBands = no_more _ ∙ bands_held
  each_held FilterBbox = no_more _ ∙ bbox_held
  each_held FilterTemporal = no_more _ ∙ temporal_held
  each_held LoadCollection = no_more _ ∙ load_held
  each_held Mask = no_more _ ∙ mask_held
  each_held MergeCubes = no_more _ ∙ merge_held
  each_held ReduceDimension = no_more _ ∙ reduce_held
  each_held SaveResult = no_more _ ∙ save_held

-- the arguments hold what the row of an id says
abbrev row_at : Named → List ℕ → Bool
row_at given id = option_map_or (λ (p : Process). list_all (is_held given) p.parameters) (process_named id) false

in_graphs : (n : PlainNode) (process : CubeProcess) → cube_process_named n.process_id ≡ Some process → (row : Process) → process_named n.process_id ≡ Some row
    → is_some (cube_request_at n) ≡ (list_all (is_held n.arguments) row.parameters && arguments_agree n)
in_graphs n process named row is_row =
    let is = id_is n.process_id cube_processes process all_named named in
    ap (λ o. is_some (option_and_then (λ p. cube_request_of p n.arguments) o)) named
    ∙ (sym (each_held n.arguments process)
    ∙ (ap (λ id. row_at n.arguments id && agrees n.arguments id) (sym is)
    ∙ ap (λ o. option_map_or (λ (p : Process). list_all (is_held n.arguments) p.parameters) o false && arguments_agree n) is_row))

-- ---- each process of callbacks

module _ (given : Named) where
  scalar_held : (name : List ℕ) → option_map_or (λ a. is_some (scalar_in a)) (argument_named name given) false ≡ is_some (read scalar_in name given)
  scalar_held name = held scalar_in (argument_named name given)

  flag_held : (name : List ℕ) → option_map_or (λ a. is_some (flag_in a)) (argument_named name given) false ≡ is_some (read flag_in name given)
  flag_held name = held flag_in (argument_named name given)

  data_held : option_map_or (λ a. is_some (items_in a)) (argument_named (codes "data") given) false ≡ is_some (read items_in (codes "data") given)
  data_held = held items_in (argument_named (codes "data") given)

  abbrev test : (Argument → Bool) → List ℕ → Bool
  test p name = option_map_or p (argument_named name given) false

  one_held : (f : Unary) → (test (λ a. is_some (scalar_in a)) (codes "x") && true) ≡ is_some (cell_request_of (OfOne f) given)
  one_held f = map_held _ (unary f) _ (scalar_held (codes "x"))

  two_held : (f : Binary) → (test (λ a. is_some (scalar_in a)) (codes "x") && (test (λ a. is_some (scalar_in a)) (codes "y") && true)) ≡ is_some (two_cells f given)
  two_held f = both_held _ _ (binary f) _ _ (scalar_held (codes "x")) (last_held _ _ (scalar_held (codes "y")))

  equal_held : (f : Binary)
      → (test (λ a. is_some (scalar_in a)) (codes "x") && (test (λ a. is_some (scalar_in a)) (codes "y")
      && (test is_null (codes "delta") && (test (λ a. is_some (flag_in a)) (codes "case_sensitive") && true))))
      ≡ is_some (where_passed (has_plain_equality given) (two_cells f given))
  equal_held f =
      two_apart (test (λ a. is_some (scalar_in a)) (codes "x")) (test (λ a. is_some (scalar_in a)) (codes "y"))
      (test is_null (codes "delta")) (test (λ a. is_some (flag_in a)) (codes "case_sensitive"))
      ∙ passed_held _ _ _ _ (both_held _ _ (binary f) _ _ (scalar_held (codes "x")) (scalar_held (codes "y")))
      (pair_held _ _ _ _ (tested is_null (argument_named (codes "delta") given)) (flag_held (codes "case_sensitive")))

  choice_held : (test (λ a. is_some (scalar_in a)) (codes "value") && (test (λ a. is_some (scalar_in a)) (codes "accept")
      && (test (λ a. is_some (scalar_in a)) (codes "reject") && true)))
      ≡ is_some (cell_request_of Choice given)
  choice_held =
      then_held _ _ _ _ (scalar_held (codes "value")) (λ value. both_held _ _ (choice value) _ _
      (scalar_held (codes "accept")) (last_held _ _ (scalar_held (codes "reject"))))

  reduction_held : (reducer : Reducer) → (test (λ a. is_some (items_in a)) (codes "data") && (test (λ a. is_some (flag_in a)) (codes "ignore_nodata") && true))
      ≡ is_some (cell_request_of (Reduction reducer) given)
  reduction_held reducer =
      second_first _ _ ∙ both_held _ _ (reduction reducer) _ _ (flag_held (codes "ignore_nodata")) data_held

  counting_held : (test (λ a. is_some (items_in a)) (codes "data") && (test (λ a. is_some (counter_in a)) (codes "condition")
      && (test is_scalar_literal (codes "context") && true)))
      ≡ is_some (cell_request_of Counting given)
  counting_held =
      count_apart (test (λ a. is_some (items_in a)) (codes "data")) (test (λ a. is_some (counter_in a)) (codes "condition"))
      (test is_scalar_literal (codes "context"))
      ∙ passed_held _ _ _ _ (both_held _ _ (λ counter items. reduction counter true items) _ _
      (held counter_in (argument_named (codes "condition") given)) data_held)
      (tested is_scalar_literal (argument_named (codes "context") given))

  element_held : (test (λ a. is_some (items_in a)) (codes "data") && (test (λ a. is_some (list_index_in a)) (codes "index")
      && (test (λ a. is_some (label_in a)) (codes "label") && (test (λ a. is_some (flag_in a)) (codes "return_nodata") && true))))
      ≡ is_some (cell_request_of Element given)
  element_held =
      then_held _ _ _ _ data_held (λ items. then_held _ _ _ _ (held list_index_in (argument_named (codes "index") given)) (λ index.
      both_held _ _ (element items index) _ _ (held label_in (argument_named (codes "label") given)) (last_held _ _ (flag_held (codes "return_nodata")))))

  -- of each of these operations
  abbrev EachHeld : List NamedOperation → Type 0
  EachHeld [] = ⊤
  EachHeld (o ∷ others) = (row_at given o.0 ≡ is_some (cell_request_of o.1 given)) × EachHeld others

  all_held : EachHeld operations
  all_held = (
    one_held Absolute,
    (
      two_held Add,
      (
        reduction_held EveryOne,
        (
          two_held And,
          (
            reduction_held Any,
            (
              element_held,
              (
                one_held Ceil,
                (
                  counting_held,
                  (
                    two_held Divide,
                    (
                      equal_held Equal,
                      (
                        reduction_held First,
                        (
                          one_held Floor,
                          (
                            two_held Greater,
                            (
                              two_held GreaterOrEqual,
                              (
                                choice_held,
                                (
                                  one_held Int,
                                  (
                                    reduction_held Last,
                                    (
                                      two_held Less,
                                      (
                                        two_held LessOrEqual,
                                        (
                                          reduction_held Max,
                                          (
                                            reduction_held Mean,
                                            (
                                              reduction_held Median,
                                              (
                                                reduction_held Min,
                                                (
                                                  two_held Modulo,
                                                  (
                                                    two_held Multiply,
                                                    (
                                                      equal_held NotEqual,
                                                      (
                                                        one_held Not,
                                                        (
                                                          two_held Or,
                                                          (reduction_held Product, (one_held Sgn, (two_held Subtract, (reduction_held Sum, (two_held Xor, tt))))),
                                                        ),
                                                      ),
                                                    ),
                                                  ),
                                                ),
                                              ),
                                            ),
                                          ),
                                        ),
                                      ),
                                    ),
                                  ),
                                ),
                              ),
                            ),
                          ),
                        ),
                      ),
                    ),
                  ),
                ),
              ),
            ),
          ),
        ),
      ),
    ),
  )

  held_among : (id : List ℕ) (others : List NamedOperation) (operation : Operation) → EachHeld others → operation_among id others ≡ Some operation
      → row_at given id ≡ is_some (cell_request_of operation given)
  held_among id [] operation each e = absurd cc
  held_among id (o ∷ others) operation each e = by (same_name o.0 id) refl e (held_among id others operation each.1)
    where
      by : (b : Bool) → same_name o.0 id ≡ b → (if b then Some o.1 else operation_among id others) ≡ Some operation
          → (operation_among id others ≡ Some operation → row_at given id ≡ is_some (cell_request_of operation given))
          → row_at given id ≡ is_some (cell_request_of operation given)
      by true t e more =
          let same : o.1 ≡ operation = cc in
          ap (row_at given) (same_name_is o.0 id t) ∙ (each.0 ∙ ap (λ p. is_some (cell_request_of p given)) same)
      by false f e more = more e

in_callbacks : (n : PlainNode) (operation : Operation) → operation_named n.process_id ≡ Some operation → (row : Process) → process_named n.process_id ≡ Some row
    → is_some (cell_request_at n) ≡ list_all (is_held n.arguments) row.parameters
in_callbacks n operation named row is_row =
    ap (λ o. is_some (option_and_then (λ p. cell_request_of p n.arguments) o)) named
    ∙ (sym (held_among n.arguments n.process_id operations operation (all_held n.arguments) named)
    ∙ ap (λ o. option_map_or (λ (p : Process). list_all (is_held n.arguments) p.parameters) o false) is_row)

-- ---- running sums

chosen : {A : Type 0} (p : Bool) (o : Option A) → is_some (if p then o else None) ≡ (p && (is_some o && true))
chosen true None = refl
chosen true (Some a) = refl
chosen false o = refl

in_sums : (n : PlainNode) (row : Process) → process_named n.process_id ≡ Some row → same_name n.process_id (codes "cumsum") ≡ true
    → is_some (running_sum_at n) ≡ list_all (is_held n.arguments) row.parameters
in_sums n row is_row same =
    let given = n.arguments in
    let id : codes "cumsum" ≡ n.process_id = same_name_is n.process_id (codes "cumsum") same in
    ap (λ b. is_some (if b && passes is_data (codes "data") given then read flag_in (codes "ignore_nodata") given else None)) same
    ∙ (chosen (passes is_data (codes "data") given) (read flag_in (codes "ignore_nodata") given)
    ∙ (ap (λ b. b && (is_some (read flag_in (codes "ignore_nodata") given) && true)) (sym (tested is_data (argument_named (codes "data") given)))
    ∙ (ap (λ b. option_map_or is_data (argument_named (codes "data") given) false && (b && true))
    (sym (held flag_in (argument_named (codes "ignore_nodata") given)))
    ∙ (ap (row_at given) id
    ∙ ap (λ o. option_map_or (λ (p : Process). list_all (is_held given) p.parameters) o false) is_row))))

pub ask_where_held : AskWhereHeld
ask_where_held = record { in_graphs = in_graphs; in_sums = in_sums; in_callbacks = in_callbacks }
