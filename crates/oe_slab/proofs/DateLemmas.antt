-- Behind a time cut no cube has dates.
use Rattle.std.proofs.Common.{◌≡◌, ◌≢◌, ◌<◌, ◌≤◌, ◌*◌, ℕ, zero, suc, Bool, true, List, [], ◌∷◌, length, map, Option, Some, None, inl, inr, refl, sym, ap, ◌∙◌, subst, arith}
use Rattle.std.proofs.lemmas.Bool.{cases_eq}
use Rattle.std.proofs.lemmas.Nat.{mul-le}
use Rattle.std.proofs.lemmas.Option.{get_or_from_slice_get, same_Some, slice_get_within}
use Rattle.std.specs.Option.{option_and_then}
use Rattle.std.specs.Prelude.{Contains, slice_get, slice_index}
use Rattle.oe_dims.specs.Dimensions.{Dimensions, extent}
use Rattle.oe_dims.specs.declared.kind.Kind.{Kind}
use Rattle.oe_dims.specs.declared.kind.Kind.TheVariants.{Time, Bands, Y, X}
use Rattle.oe_expr.specs.Nodes.{node_named}
use Rattle.oe_expr.proofs.NodeLemmas.{contains_node}
use Rattle.oe_graph.proofs.StateLemmas.{within_nodes}
use Rattle.oe_fold.specs.declared.reducer.Reducer.{Reducer}
use Rattle.oe_graph.proofs.ResolvedLemmas.{node_below}
use Rattle.oe_graph.specs.Printed.{node_count}
use Rattle.oe_graph.specs.References.{each_node, references_named}
use Rattle.oe_graph.specs.Tree.{PlainNode}
use Rattle.oe_order.specs.Graph.{IsInRun, arguments, refers}
use Rattle.oe_plan.specs.Figures.{shape_of_node, side_along, steps_of}
use Rattle.oe_plan.specs.Steps.{argument_shapes, arguments_of_node}
use Rattle.oe_plan.specs.Windows.{AreWindows, span_along, window_at}
use Rattle.oe_plan.proofs.NodeLemmas.{has_operation, seen, whole_is}
use Rattle.oe_check.specs.Checked.{AreFaultless, CheckedGraph}
use Rattle.oe_check.specs.Links.{index_referred, links_of}
use Rattle.oe_requests.specs.declared.extent.TemporalExtent.{TemporalExtent}
use Rattle.oe_requests.specs.Operations.{Operation, keep, each_cell, convolve, reduce, aggregate, accumulate, merge, cover, give_back, first_or, no_dimensions, second_or, shape_of}
use Rattle.oe_check.specs.Reach.{needs_whole, time_fold, time_fold_of_node}
use Rattle.oe_meanings.specs.Stands.{IsSound, sound}
use Rattle.oe_check.proofs.LinkLemmas.{index_is, links_arguments, named_at, referred}
use Rattle.oe_window.specs.Windows.{Holds, position_count, span_length, whole_window}
use Rattle.oe_window.specs.declared.grid.ChunkSize.{ChunkSize}
use Rattle.oe_window.specs.declared.window.Window.{Window}
use Rattle.oe_window.proofs.WindowLemmas.{IsFilled, count_zero, filled_or_not, within_from_holds}
use Rattle.oe_slab.specs.Cuts.{IsTimeCut, links_behind}
use Rattle.oe_slab.specs.Figures.{largest_plane}
use Rattle.oe_slab.proofs.ApartLemmas.{follow, takes_there}
use Rattle.oe_slab.proofs.NodeLemmas.{reached_below}
use Rattle.oe_slab.proofs.FoldLemmas.{folds_reduce}
use Rattle.oe_slab.proofs.PartLemmas.{reached_before}

-- ---- shapes

abbrev pub AreUndated : List Dimensions → Type 0
AreUndated shapes = (k : ℕ) (d : Dimensions) → slice_get shapes k ≡ Some d → d.t ≡ None

first_undated : (shapes : List Dimensions) → AreUndated shapes → (first_or no_dimensions shapes).t ≡ None
first_undated [] h = refl
first_undated (d ∷ shapes) h = h 0 d refl

second_undated : (shapes : List Dimensions) → AreUndated shapes → (second_or no_dimensions shapes).t ≡ None
second_undated [] h = refl
second_undated (d ∷ []) h = refl
second_undated (d ∷ e ∷ shapes) h = h 1 e refl

-- of cubes without dates an operation gives one without, unless it needs all dates
undated_shape : (op : Operation) (shapes : List Dimensions) → AreUndated shapes → (needs_whole op shapes Time ≡ true → ⊥) → (shape_of op shapes).t ≡ None
undated_shape (keep r) shapes h apart = let e = first_undated shapes h in by r.time e
  where
    by : (time : Option TemporalExtent) → (first_or no_dimensions shapes).t ≡ None → (shape_of (keep (record r { time = time })) shapes).t ≡ None
    by None e = e
    by (Some extent) e = rw e refl
undated_shape (each_cell callback) shapes h apart = first_undated shapes h
undated_shape (convolve kernel factor border replace) shapes h apart = first_undated shapes h
undated_shape (reduce Time callback) shapes h apart = refl
undated_shape (reduce Bands callback) shapes h apart = first_undated shapes h
undated_shape (reduce Y callback) shapes h apart = first_undated shapes h
undated_shape (reduce X callback) shapes h apart = first_undated shapes h
undated_shape (aggregate intervals callback) shapes h apart = absurd (apart refl)
undated_shape (accumulate ignore) shapes h apart = first_undated shapes h
undated_shape (merge resolver) shapes h apart =
    let one = first_undated shapes h in
    let two = second_undated shapes h in
    rw (one, two) refl
undated_shape (cover replacement) shapes h apart = first_undated shapes h
undated_shape give_back shapes h apart = first_undated shapes h

-- ---- nodes

from_mapped : {A B : Type 0} (g : A → B) (xs : List A) (k : ℕ) (y : B) → slice_get (map g xs) k ≡ Some y → (x : A) × (slice_get xs k ≡ Some x) × (g x ≡ y)
from_mapped g [] k y h = absurd cc
from_mapped g (x ∷ xs) zero y h = (x, refl, same_Some (g x) y h)
from_mapped g (x ∷ xs) (suc k) y h = from_mapped g xs k y h

contained : {A : Type 0} (xs : List A) (k : ℕ) (x : A) → slice_get xs k ≡ Some x → Contains xs x
contained xs k x h = (k, slice_get_within xs k x h, get_or_from_slice_get xs k x x h)

module _ (c : CheckedGraph) (f : AreFaultless c) (fold : ℕ) (cut : IsTimeCut c fold) where
  abbrev pub IsBehind : ℕ → Type 0
  IsBehind n = IsInRun (links_behind c fold) c.result n

  -- a node behind the cut is one of the run
  pub of_run : (n : ℕ) → IsBehind n → IsInRun (links_of c.nodes) c.result n
  of_run n (inl same) = inl same
  of_run n (inr path) = inr (reached_before (links_of c.nodes) fold path)

  -- and so is what it takes, but for the cut itself
  argument_behind : (n a : ℕ) → IsBehind n → n ≢ fold → Contains (arguments (links_of c.nodes) n) a → IsBehind a
  argument_behind n a (inl same) other has =
      inr (refers (subst (λ k. Contains (arguments (links_behind c fold) k) a) same (takes_there (links_of c.nodes) fold n a other has)))
  argument_behind n a (inr path) other has =
      inr (follow (links_behind c fold) c.result n a path (refers (takes_there (links_of c.nodes) fold n a other has)))

  abbrev Undated : List (List ℕ) → Type 0
  Undated names = (name : List ℕ) → Contains names name → (index : ℕ) (n : PlainNode) → slice_get (each_node c.nodes) index ≡ Some n
      → node_named name c.nodes ≡ Some n → IsBehind index → (shape_of_node c index).t ≡ None

  arguments_undated : (index : ℕ) (n : PlainNode) → slice_get (each_node c.nodes) index ≡ Some n → IsBehind index → index ≢ fold
      → Undated (references_named n.arguments) → AreUndated (argument_shapes c index)
  arguments_undated index n at behind other below k d h =
      let names = references_named n.arguments in
      let argument = from_mapped (shape_of_node c) (arguments_of_node c index) k d h in
      let a : ℕ = argument.0 in
      let referred_by = from_mapped (index_referred c.nodes) names k a
      (subst (λ xs. slice_get xs k ≡ Some a) (links_arguments c.nodes index n at) argument.1) in
      let name : List ℕ = referred_by.0 in
      let has = contained names k name referred_by.1 in
      let to = referred c.nodes f.resolved index n name at has in
      let same : a ≡ to.index = sym referred_by.2 ∙ index_is c.nodes f.resolved name to in
      let named : node_named name c.nodes ≡ Some to.node =
      subst (λ id. node_named id c.nodes ≡ Some to.node) to.is_named (named_at c.nodes f.resolved to.index to.node to.is_there) in
      let inside : IsBehind to.index = subst IsBehind same (argument_behind index a behind other (contained (arguments_of_node c index) k a argument.1)) in
      ap (λ (it : Dimensions). it.t) (sym argument.2)
      ∙ (ap (λ i. (shape_of_node c i).t) same ∙ below name has to.index to.node to.is_there named inside)

  undated_step : (index : ℕ) (n : PlainNode) → slice_get (each_node c.nodes) index ≡ Some n → IsBehind index
      → Undated (references_named n.arguments) → (shape_of_node c index).t ≡ None
  undated_step index n at behind below =
      let within = within_nodes c.nodes index n at in
      let op = has_operation c f index within in
      let is = seen c f index within op.0 op.1 (cut.through index behind) in
      let shapes = argument_shapes c index in
      elim (cases_eq index fold) [
        | inl same ↦
            let x : Reducer × Bool = (cut.lone.reducer, cut.lone.ignores_nulls) in
            let by = folds_reduce op.0 x (sym (ap (option_and_then time_fold) op.1) ∙ (ap (λ i. time_fold_of_node c i) same ∙ cut.lone.folds)) in
            ap (λ (d : Dimensions). d.t) is.shape_is ∙ ap (λ o. (shape_of o shapes).t) by.1
        | inr other ↦
            ap (λ (d : Dimensions). d.t) is.shape_is
            ∙ undated_shape op.0 shapes (arguments_undated index n at behind other below)
            (λ all. other (cut.lone.only index (of_run index behind) (whole_is c index op.0 Time op.1 is.inputs_are ∙ ap Some all)))
      ]

  undated : (name : List ℕ) → IsSound c.rows c.nodes name → (index : ℕ) (n : PlainNode) → slice_get (each_node c.nodes) index ≡ Some n
      → node_named name c.nodes ≡ Some n → IsBehind index → (shape_of_node c index).t ≡ None
  undated name (sound {n = m} is below none) index n at named behind =
      let same : m ≡ n = same_Some m n (sym is ∙ named) in
      undated_step index n at behind
      (λ other has i k there called inside.
      undated other (below other (subst (λ q. Contains (references_named q.arguments) other) (sym same) has)) i k there called inside)

  behind_below : (n : ℕ) → IsBehind n → n < node_count c.nodes
  behind_below n (inl same) = subst (λ k. k < node_count c.nodes) (sym same) f.has_result
  behind_below n (inr path) = reached_below c f c.result n f.has_result (reached_before (links_of c.nodes) fold path)

  -- no cube behind the cut has dates
  pub no_dates_behind : (n : ℕ) → IsBehind n → (shape_of_node c n).t ≡ None
  no_dates_behind n behind =
      let there = node_below c.nodes n (behind_below n behind) in
      undated there.node.id (f.sound there.node (contains_node c.nodes n there.node there.is_there)) n there.node there.is_there
      (named_at c.nodes f.resolved n there.node there.is_there) behind

  -- ---- windows

  one_date : (shape : Dimensions) (w : Window) → shape.t ≡ None → Holds (whole_window shape) w → IsFilled w → span_length w.t ≤ 1
  one_date shape w none holds full =
      let t = (within_from_holds w (whole_window shape) full holds).t in
      let ends : extent shape.t ≡ 1 = ap (λ o. extent o) none in
      let to = t.to in
      omega (arith, to, ends)

  plane_least : (w : Window) (size : ChunkSize) → span_length w.t ≤ 1
      → ((along : Kind) → span_length (span_along w along) ≤ side_along c size along) → position_count w ≤ largest_plane c size
  plane_least w size one sides =
      let most = mul-le _ _ _ _ (mul-le _ _ _ _ (mul-le _ _ _ _ one (sides Bands)) (sides Y)) (sides X) in
      let same : 1 * side_along c size Bands ≡ side_along c size Bands = omega arith in
      subst (λ n. position_count w ≤ n * side_along c size Y * side_along c size X) same most

  -- the windows behind it have as many cells as a plane at most
  pub plane_few : (size : ChunkSize) (chunk : Window) (windows : List Window) → AreWindows c size chunk windows
      → (s : ℕ) → s < length windows → IsBehind (slice_index (steps_of c) s) → position_count (window_at windows s) ≤ largest_plane c size
  plane_few size chunk windows are s below behind =
      let w = window_at windows s in
      elim (filled_or_not w) [
        | inl full ↦ plane_least w size
            (one_date (shape_of_node c (slice_index (steps_of c) s)) w (no_dates_behind (slice_index (steps_of c) s) behind) (are.inside s below) full)
            (are.sides s below)
        | inr none ↦ let nothing = count_zero w none in omega (arith, nothing)
      ]
