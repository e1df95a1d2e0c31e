-- Why each window fits its sides: boxes around the labels of the chunk are closed, so that the least ones lie in them.
use Rattle.std.proofs.Common.{◌≡◌, ◌⊎◌, inl, inr, ℕ, zero, suc, ◌+◌, ◌*◌, ◌<◌, ◌≤◌, min, Bool, true, false, List, [], ◌∷◌, map, length, get_or, Contains, Option, Some, option_map, refl, sym, ap, ◌∙◌, subst, arith, ℤ}
use Rattle.std.specs.List.{slice_get, slice_index, slice_index_or, list_any}
use Rattle.std.specs.Option.{unwrap_or}
use Rattle.std.proofs.lemmas.Bool.{cases_Bool, cases_lt}
use Rattle.std.proofs.lemmas.List.{get_or-map, get_or_default}
use Rattle.std.proofs.lemmas.List.Elements.{Contains-get_or}
use Rattle.std.proofs.lemmas.Nat.{mul-le}
use Rattle.std.proofs.lemmas.Option.{slice_get_within}
use Rattle.oe_dims.specs.Dimensions.{Dimensions, IsShape, extent}
use Rattle.oe_dims.specs.Positions.{IsPosition, Position}
use Rattle.oe_dims.specs.declared.kind.Kind.{Kind}
use Rattle.oe_dims.specs.declared.kind.Kind.TheVariants.{Time, Bands, Y, X}
use Rattle.oe_graph.specs.Printed.{node_count}
use Rattle.oe_order.specs.Graph as order
use Rattle.oe_order.specs.Graph.{IsInRun, Reaches, onwards, refers}
use Rattle.oe_order.specs.Live.{largest}
use Rattle.oe_order.specs.Order.{IsListing}
use Rattle.oe_order.proofs.Reach.{IsInRun-push}
use Rattle.oe_ops.specs.Needs.{argument_shape, zero_window}
use Rattle.oe_check.specs.Checked.{AreFaultless, CheckedGraph, operation_of_node}
use Rattle.oe_check.specs.Links.{links_of}
use Rattle.oe_requests.specs.Operations.{Operation, no_dimensions}
use Rattle.oe_check.specs.Reach.{halo_of, halo_of_node, needs_whole, whole_of_node}
use Rattle.oe_meanings.proofs.OrderedLemmas.{first_not, second_not}
use Rattle.oe_meanings.proofs.ValidLemmas.{no_dimensions_is_shape}
use Rattle.oe_window.specs.Chunks.{FitsSides, tiling_of}
use Rattle.oe_window.specs.Windows.{Holds, IsAlong, IsEmpty, IsIn, extent_along, position_count, span_below, span_length, whole_window}
use Rattle.oe_window.specs.declared.grid.ChunkSize.{ChunkSize}
use Rattle.oe_window.specs.declared.window.Span.{Span}
use Rattle.oe_window.specs.declared.window.Window.{Window}
use Rattle.oe_window.proofs.WindowLemmas.{AreWithin, IsFilled, IsWithin, filled_or_not, filled_unless_empty, within_from_holds}
use Rattle.oe_plan.specs.Figures.{halo_along, is_whole_along, largest_window, most_along, shape_of_node, side_along, steps_of, widened}
use Rattle.oe_plan.specs.Steps.{NeedsOfNode, Takes, argument_shapes, arguments_of_node}
use Rattle.oe_plan.specs.Widening.{IsZeroWhereEmpty}
use Rattle.oe_plan.specs.Windows.{IsClosed, span_along}
use Rattle.oe_plan.proofs.CoreLemmas.{Differ, Follows, HasRun, IsAsked, core_asked, core_chunk, core_of, core_short, later, later_all, later_more, run_of_result, run_passes}
use Rattle.oe_plan.proofs.FollowLemmas.{AreValid, IsCut, IsTaken, asks, differ, follows, index_at, labels_along, needs_position}
use Rattle.oe_plan.proofs.NodeLemmas.{IsSeen, argument_below, argument_shape_is, has_operation, load_alone, seen, whole_is}

-- ---- lists of steps

pub largest_at : (g : ℕ → ℕ) (xs : List ℕ) (i : ℕ) → i < length xs → g (get_or xs i 0) ≤ largest (map g xs)
largest_at g [] i below = absurd (omega arith)
largest_at g (x ∷ xs) zero below = omega arith
largest_at g (x ∷ xs) (suc i) below = let rest = largest_at g xs i (omega arith) in omega arith

none_at : (test : ℕ → Bool) (xs : List ℕ) (i : ℕ) → list_any test xs ≡ false → i < length xs → test (get_or xs i 0) ≡ false
none_at test [] i none below = absurd (omega arith)
none_at test (x ∷ xs) zero none below = first_not (test x) (list_any test xs) none
none_at test (x ∷ xs) (suc i) none below = none_at test xs i (second_not (test x) (list_any test xs) none) (omega arith)

past_all : (g : ℕ → Dimensions) (xs : List ℕ) (k : ℕ) → length xs ≤ k → slice_index_or (map g xs) k no_dimensions ≡ no_dimensions
past_all g [] k h = refl
past_all g (x ∷ xs) zero h = absurd (omega arith)
past_all g (x ∷ xs) (suc k) h = past_all g xs k (omega arith)

get_of : (xs : List ℕ) (k n : ℕ) → k < length xs → slice_index_or xs k n ≡ n → slice_get xs k ≡ Some n
get_of [] k n below e = absurd (omega arith)
get_of (x ∷ xs) zero n below e = ap Some e
get_of (x ∷ xs) (suc k) n below e = get_of xs k n (omega arith) e

-- ---- positions along a dimension

pub in_along : (along : Kind) (w : Window) (p : Position) → IsIn w p → IsAlong (span_along w along) (index_at along p)
in_along Time w p h = h.t
in_along Bands w p h = h.bands
in_along Y w p h = h.y
in_along X w p h = h.x

position_along : (along : Kind) (d : Dimensions) (p : Position) → IsPosition d p → index_at along p < extent_along d along
position_along Time d p h = h.t
position_along Bands d p h = h.band
position_along Y d p h = h.y
position_along X d p h = h.x

extent_cut : (along : Kind) (d : Dimensions) → IsCut along → extent (labels_along along d) ≡ extent_along d along
extent_cut Time d cut = refl
extent_cut Bands d cut = absurd cut
extent_cut Y d cut = refl
extent_cut X d cut = refl

abbrev chunk_side : ChunkSize → Kind → ℕ
chunk_side size Time = size.t
chunk_side size Bands = 0
chunk_side size Y = size.y
chunk_side size X = size.x

side_is : (c : CheckedGraph) (size : ChunkSize) (along : Kind) → IsCut along → side_along c size along ≡ widened c along (chunk_side size along)
side_is c size Time cut = refl
side_is c size Bands cut = absurd cut
side_is c size Y cut = refl
side_is c size X cut = refl

fits_along : (d : Dimensions) (size : ChunkSize) (chunk : Window) (along : Kind) → IsCut along → FitsSides (tiling_of d size) chunk → span_length (span_along chunk along) ≤ chunk_side size along
fits_along d size chunk Time cut h = h.t
fits_along d size chunk Bands cut h = absurd cut
fits_along d size chunk Y cut h = h.y
fits_along d size chunk X cut h = h.x

filled_along : (along : Kind) (w : Window) → IsFilled w → (span_along w along).from < (span_along w along).to
filled_along Time w h = h.t
filled_along Bands w h = h.bands
filled_along Y w h = h.y
filled_along X w h = h.x

within_along : (along : Kind) (inner outer : Window) → AreWithin inner outer → IsWithin (span_along inner along) (span_along outer along)
within_along Time inner outer h = h.t
within_along Bands inner outer h = h.bands
within_along Y inner outer h = h.y
within_along X inner outer h = h.x

whole_along : (along : Kind) (d : Dimensions) → span_along (whole_window d) along ≡ span_below (extent_along d along)
whole_along Time d = refl
whole_along Bands d = refl
whole_along Y d = refl
whole_along X d = refl

nowhere : (span : Span) (i : ℕ) → span.to ≤ span.from → IsAlong span i → ⊥
nowhere span i none h = let low = h.begun in let high = h.before in omega arith

empty_spans : (w : Window) → (w.t.to ≤ w.t.from) ⊎ ((w.bands.to ≤ w.bands.from) ⊎ ((w.y.to ≤ w.y.from) ⊎ (w.x.to ≤ w.x.from))) → IsEmpty w
empty_spans w (inl none) p h = nowhere w.t p.t none h.t
empty_spans w (inr (inl none)) p h = nowhere w.bands p.band none h.bands
empty_spans w (inr (inr (inl none))) p h = nowhere w.y p.y none h.y
empty_spans w (inr (inr (inr none))) p h = nowhere w.x p.x none h.x

-- ---- the nodes of a run

abbrev pub AreValidAt : CheckedGraph → Type 0
AreValidAt c = (s : ℕ) → s < length (steps_of c) → IsShape (shape_of_node c (slice_index (steps_of c) s))

module _ (c : CheckedGraph) (f : AreFaultless c) (listing : IsListing (links_of c.nodes) c.result (steps_of c)) where
  abbrev InRun : ℕ → Type 0
  InRun n = IsInRun (links_of c.nodes) c.result n

  abbrev node_at : ℕ → ℕ
  node_at s = slice_index (steps_of c) s

  reaches_below : {a b : ℕ} → Reaches (links_of c.nodes) a b → a < node_count c.nodes → b < node_count c.nodes
  reaches_below {a} {b} (refers h) below = argument_below c f a below b h
  reaches_below {a} {b} (onwards {b = m} h r) below = reaches_below r (argument_below c f a below m h)

  pub run_below : (n : ℕ) → InRun n → n < node_count c.nodes
  run_below n (inl e) = subst (λ k. k < node_count c.nodes) (sym e) f.has_result
  run_below n (inr r) = reaches_below r f.has_result

  pub step_in_run : (s : ℕ) → s < length (steps_of c) → InRun (node_at s)
  step_in_run s below = (listing.members (node_at s)).0 (Contains-get_or (steps_of c) s 0 below)

  pub step_below : (s : ℕ) → s < length (steps_of c) → node_at s < node_count c.nodes
  step_below s below = run_below (node_at s) (step_in_run s below)

  -- the step of a node of the run
  pub step_of_node : (n : ℕ) → InRun n → (s : ℕ) × (s < length (steps_of c)) × (node_at s ≡ n)
  step_of_node n run =
      let has = (listing.members n).1 run in (has.0, has.1, get_or_default (steps_of c) has.0 0 n has.1 ∙ has.2)

  module _ (valid : AreValidAt c) where
    run_valid : (n : ℕ) → InRun n → IsShape (shape_of_node c n)
    run_valid n run = let at = step_of_node n run in subst (λ k. IsShape (shape_of_node c k)) at.2 (valid at.0 at.1)

    -- the shapes of the arguments of a node of the run are valid
    arguments_valid : (a : ℕ) → InRun a → AreValid (argument_shapes c a)
    arguments_valid a run k = by (cases_lt k (length (arguments_of_node c a)))
      where
        by : (k < length (arguments_of_node c a)) ⊎ (length (arguments_of_node c a) ≤ k) → IsShape (argument_shape (argument_shapes c a) k)
        by (inl below) =
            let n = get_or (arguments_of_node c a) k 0 in
            subst IsShape (sym (get_or-map (shape_of_node c) (arguments_of_node c a) k 0 no_dimensions below))
            (run_valid n (IsInRun-push (links_of c.nodes) c.result a n run (Contains-get_or (arguments_of_node c a) k 0 below)))
        by (inr past) = subst IsShape (sym (past_all (shape_of_node c) (arguments_of_node c a) k past)) no_dimensions_is_shape

    abbrev works : ℕ → Type 0
    works n = order.is_load (links_of c.nodes) n ≡ false

    -- what a node that has an argument needs of it, by its operation
    record IsArc (a k n : ℕ) (op : Operation) : Type 0 where
      operation_is : operation_of_node c a ≡ Some op
      is_seen : IsSeen c a op
      taken : IsTaken op (argument_shapes c a) k
      shape : argument_shape (argument_shapes c a) k ≡ shape_of_node c n
      shapes_valid : AreValid (argument_shapes c a)

    arc : (a k n : ℕ) → InRun a → works a → slice_get (arguments_of_node c a) k ≡ Some n → (op : Operation) → operation_of_node c a ≡ Some op → IsArc a k n op
    arc a k n run works at op is =
        let s = seen c f a (run_below a run) op is works in
        record {
          operation_is = is;
          is_seen = s;
          taken = s.taken_so k (slice_get_within (arguments_of_node c a) k n at);
          shape = argument_shape_is c a k n at;
          shapes_valid = arguments_valid a run;
        }

    module _ (along : Kind) (cut : is_whole_along c along ≡ false) where
      not_whole : (a : ℕ) → InRun a → (op : Operation) → operation_of_node c a ≡ Some op → IsSeen c a op → needs_whole op (argument_shapes c a) along ≡ false
      not_whole a run op is s =
          let at = step_of_node a run in
          let none : unwrap_or (whole_of_node c (node_at at.0) along) false ≡ false = none_at (λ n. unwrap_or (whole_of_node c n along) false) (steps_of c) at.0 cut at.1 in
          sym (ap (λ o. unwrap_or o false) (whole_is c a op along is s.inputs_are)) ∙ subst (λ n. unwrap_or (whole_of_node c n along) false ≡ false) at.2 none

      abbrev labels_of : ℕ → Option (List ℤ)
      labels_of n = labels_along along (shape_of_node c n)

      arc_follows : (a k n : ℕ) → InRun a → works a → slice_get (arguments_of_node c a) k ≡ Some n → Follows (labels_of a) (labels_of n)
      arc_follows a k n run works at =
          let op = has_operation c f a (run_below a run) in
          let one = arc a k n run works at op.0 op.1 in
          let part = follows op.0 (argument_shapes c a) k along one.taken one.shapes_valid (not_whole a run op.0 op.1 one.is_seen) in
          subst (λ d. Follows (labels_of a) (labels_along along d)) one.shape (subst (λ d. Follows (labels_along along d) (labels_along along (argument_shape (argument_shapes c a) k))) (sym one.is_seen.shape_is) part)

      -- by a reference
      refers_follows : (a n : ℕ) → InRun a → Contains (arguments_of_node c a) n → Follows (labels_of a) (labels_of n)
      refers_follows a n run has = by (order.is_load (links_of c.nodes) a) refl
        where
          by : (b : Bool) → order.is_load (links_of c.nodes) a ≡ b → Follows (labels_of a) (labels_of n)
          by true is = absurd (load_alone c f a (run_below a run) is n has)
          by false is = arc_follows a has.0 n run is (get_of (arguments_of_node c a) has.0 n has.1 has.2)

      module _ (result : List ℤ) where
        reaches_run : {a b : ℕ} → Reaches (links_of c.nodes) a b → InRun a → HasRun (labels_of a) result → HasRun (labels_of b) result
        reaches_run {a} {b} (refers h) run has = run_passes (labels_of a) (labels_of b) result (refers_follows a b run h) has
        reaches_run {a} {b} (onwards {b = m} h r) run has =
            reaches_run r (IsInRun-push (links_of c.nodes) c.result a m run h) (run_passes (labels_of a) (labels_of m) result (refers_follows a m run h) has)

        pub node_run : (n : ℕ) → InRun n → HasRun (labels_of c.result) result → HasRun (labels_of n) result
        node_run n (inl e) has = subst (λ k. HasRun (labels_of k) result) (sym e) has
        node_run n (inr r) has = reaches_run r (inl refl) has

    -- ---- spans along one dimension that are closed

    module _ (size : ChunkSize) (chunk : Window) (within : Holds (whole_window (shape_of_node c c.result)) chunk) (some : ¬ IsEmpty chunk)
        (sides : FitsSides (tiling_of (shape_of_node c c.result) size) chunk) where
      filled : IsFilled chunk
      filled = filled_unless_empty chunk some

      inside : (along : Kind) → IsWithin (span_along chunk along) (span_below (extent_along (shape_of_node c c.result) along))
      inside along =
          subst (IsWithin (span_along chunk along)) (whole_along along (shape_of_node c c.result))
          (within_along along chunk (whole_window (shape_of_node c c.result)) (within_from_holds chunk (whole_window (shape_of_node c c.result)) filled within))

      -- spans for all steps that hold the chunk's, hold what is needed, and are short
      record Spans (along : Kind) : Type 0 where
        at : ℕ → Span
        holds : (s p : ℕ) → s < length (steps_of c) → node_at s ≡ c.result → IsAlong (span_along chunk along) p → IsAlong (at s) p
        needed : (s number r : ℕ) (p q : Position) → Takes c s number r → IsAlong (at s) (index_at along p) → NeedsOfNode c (node_at s) number p q
            → IsAlong (at r) (index_at along q)
        short : (s : ℕ) → s < length (steps_of c) → span_length (at s) ≤ side_along c size along

      extent_at : Kind → ℕ → ℕ
      extent_at along s = extent_along (shape_of_node c (node_at s)) along

      extent_most : (along : Kind) (s : ℕ) → s < length (steps_of c) → extent_along (shape_of_node c (node_at s)) along ≤ most_along c along
      extent_most along s below = let most = largest_at (λ n. extent_along (shape_of_node c n) along) (steps_of c) s below in omega arith

      needed_below : (along : Kind) (s number r : ℕ) (p q : Position) → Takes c s number r → NeedsOfNode c (node_at s) number p q
          → index_at along q < extent_along (shape_of_node c (node_at r)) along
      needed_below along s number r p q takes needs =
          subst (λ d. index_at along q < extent_along d along) (argument_shape_is c (node_at s) number (node_at r) takes.taken)
          (position_along along _ q (needs_position needs.operation (argument_shapes c (node_at s)) number p q needs.needs))

      -- whole sides
      whole_spans : (along : Kind) → side_along c size along ≡ most_along c along → Spans along
      whole_spans along is = record {
        at = λ s. span_below (extent_along (shape_of_node c (node_at s)) along);
        holds = λ s p below result h.
            let w = inside along in
            let end = w.to in
            let low = h.begun in
            let high = h.before in
            let same : extent_along (shape_of_node c (node_at s)) along ≡ extent_along (shape_of_node c c.result) along = ap (λ n. extent_along (shape_of_node c n) along) result in
            record { begun = omega arith; before = omega arith };
        needed = λ s number r p q takes h needs. let below = needed_below along s number r p q takes needs in record { begun = omega arith; before = omega arith };
        short = λ s below. let most = extent_most along s below in omega arith;
      }

      -- around the labels of the chunk
      module _ (along : Kind) (is_cut : IsCut along) (cut : is_whole_along c along ≡ false) where
        abbrev labels_at : ℕ → Option (List ℤ)
        labels_at s = labels_along along (shape_of_node c (node_at s))

        abbrev result_labels : Option (List ℤ)
        result_labels = labels_along along (shape_of_node c c.result)

        abbrev result : List ℤ
        result = unwrap_or result_labels []

        abbrev reach : ℕ → ℕ
        reach n = unwrap_or (halo_of_node c n along) 0

        chunk_end : (span_along chunk along).to ≤ extent result_labels
        chunk_end = let w = inside along in let end = w.to in let e = extent_cut along (shape_of_node c c.result) is_cut in omega arith

        result_run : HasRun result_labels result
        result_run = let some_index = filled_along along chunk filled in let end = chunk_end in run_of_result result_labels (omega arith)

        run_at : (s : ℕ) → s < length (steps_of c) → HasRun (labels_at s) result
        run_at s below = node_run along cut result (node_at s) (step_in_run s below) result_run

        core_at : (s : ℕ) → (s < length (steps_of c)) ⊎ (length (steps_of c) ≤ s) → Span
        core_at s (inl below) = core_of (labels_at s) result (run_at s below) (span_along chunk along) (later reach (steps_of c) s)
        core_at s (inr past) = span_below 0

        differ_at : (s : ℕ) → s < length (steps_of c) → Differ (labels_at s)
        differ_at s below = differ along (shape_of_node c (node_at s)) (valid s below)

        core_holds : (s p : ℕ) (d : (s < length (steps_of c)) ⊎ (length (steps_of c) ≤ s)) → s < length (steps_of c) → node_at s ≡ c.result
            → IsAlong (span_along chunk along) p → IsAlong (core_at s d) p
        unfolding core_at
        core_holds s p (inr past) below is h = absurd (omega arith)
        core_holds s p (inl within_steps) below is h = by (node_at s) is (run_at s within_steps)
          where
            by : (n : ℕ) → n ≡ c.result → (run : HasRun (labels_along along (shape_of_node c n)) result)
                → IsAlong (core_of (labels_along along (shape_of_node c n)) result run (span_along chunk along) (later reach (steps_of c) s)) p
            by n same run =
                subst (λ k. (here : HasRun (labels_along along (shape_of_node c k)) result)
                → IsAlong (core_of (labels_along along (shape_of_node c k)) result here (span_along chunk along) (later reach (steps_of c) s)) p) (sym same)
                (λ here. core_chunk result_labels here (span_along chunk along) (later reach (steps_of c) s) p
                (differ along (shape_of_node c c.result) (run_valid c.result (inl refl))) chunk_end h) run

        -- what is asked along the dimension
        asked_at : (s number r : ℕ) (p q : Position) → Takes c s number r → NeedsOfNode c (node_at s) number p q
            → IsAsked (reach (node_at s)) (labels_at s) (labels_at r) (index_at along p) (index_at along q)
        asked_at s number r p q takes needs =
            let a = node_at s in
            let op = needs.operation in
            let run = step_in_run s takes.within in
            let one = arc a number (node_at r) run takes.works takes.taken op needs.operation_is in
            let asked = asks (argument_shapes c a) number along is_cut one.shapes_valid p q op one.taken (not_whole along cut a run op needs.operation_is one.is_seen) needs.needs in
            let halo : halo_of op along ≡ reach a = sym (ap (λ o. unwrap_or (option_map (λ operation. halo_of operation along) o) 0) needs.operation_is) in
            subst (λ n. IsAsked n (labels_at s) (labels_at r) (index_at along p) (index_at along q)) halo
            (subst (λ d. IsAsked (halo_of op along) (labels_at s) (labels_along along d) (index_at along p) (index_at along q)) one.shape
            (subst (λ d. IsAsked (halo_of op along) (labels_along along d) (labels_along along (argument_shape (argument_shapes c a) number)) (index_at along p) (index_at along q)) (sym one.is_seen.shape_is) asked))

        core_needed : (s number r : ℕ) (p q : Position) (d : (s < length (steps_of c)) ⊎ (length (steps_of c) ≤ s)) (e : (r < length (steps_of c)) ⊎ (length (steps_of c) ≤ r))
            → Takes c s number r → IsAlong (core_at s d) (index_at along p) → NeedsOfNode c (node_at s) number p q → IsAlong (core_at r e) (index_at along q)
        unfolding core_at
        core_needed s number r p q (inr past) e takes h needs = let below = takes.within in absurd (omega arith)
        core_needed s number r p q (inl below) (inr past) takes h needs = let before = takes.earlier in absurd (omega arith)
        core_needed s number r p q (inl below) (inl there) takes h needs =
            core_asked (reach (node_at s)) (labels_at s) (labels_at r) result (run_at s below) (run_at r there) (span_along chunk along)
            (later reach (steps_of c) s) (later reach (steps_of c) r) (index_at along p) (index_at along q) (differ_at r there)
            (later_more reach (steps_of c) r s takes.earlier below) h (asked_at s number r p q takes needs)

        core_is_short : (s : ℕ) (d : (s < length (steps_of c)) ⊎ (length (steps_of c) ≤ s)) → s < length (steps_of c)
            → span_length (core_at s d) ≤ min (most_along c along) (chunk_side size along + 2 * halo_along c along)
        unfolding core_at
        core_is_short s (inr past) below = absurd (omega arith)
        core_is_short s (inl there) below =
            let e = extent_cut along (shape_of_node c (node_at s)) is_cut in
            let most = extent_most along s below in
            let reached = later_all reach (steps_of c) s below in
            core_short (labels_at s) result (run_at s there) (span_along chunk along) (later reach (steps_of c) s) (most_along c along) (chunk_side size along) (halo_along c along)
            (omega arith) (omega arith) (filled_along along chunk filled) (fits_along (shape_of_node c c.result) size chunk along is_cut sides) (omega arith)

        cut_side : side_along c size along ≡ min (most_along c along) (chunk_side size along + 2 * halo_along c along)
        cut_side = side_is c size along is_cut ∙ rw cut refl

        core_spans : Spans along
        core_spans = record {
          at = λ s. core_at s (cases_lt s (length (steps_of c)));
          holds = λ s p below is h. core_holds s p (cases_lt s (length (steps_of c))) below is h;
          needed = λ s number r p q takes h needs. core_needed s number r p q (cases_lt s (length (steps_of c))) (cases_lt r (length (steps_of c))) takes h needs;
          short = λ s below. subst (λ n. span_length (core_at s (cases_lt s (length (steps_of c)))) ≤ n) (sym cut_side) (core_is_short s (cases_lt s (length (steps_of c))) below);
        }

      spans_cut : (along : Kind) → IsCut along → Spans along
      spans_cut along is_cut = elim (cases_Bool (is_whole_along c along)) [
        | inl whole ↦ whole_spans along (side_is c size along is_cut ∙ rw whole refl)
        | inr cut ↦ core_spans along is_cut cut
      ]

      spans : (along : Kind) → Spans along
      spans Time = spans_cut Time tt
      spans Bands = whole_spans Bands refl
      spans Y = spans_cut Y tt
      spans X = spans_cut X tt

      -- ---- boxes

      box_at : ℕ → Window
      box_at s = record { t = (spans Time).at s; bands = (spans Bands).at s; y = (spans Y).at s; x = (spans X).at s }

      boxes_closed : IsClosed c chunk box_at
      unfolding box_at
      boxes_closed = record {
        holds = λ s below is p h. record {
          t = (spans Time).holds s p.t below is h.t;
          bands = (spans Bands).holds s p.band below is h.bands;
          y = (spans Y).holds s p.y below is h.y;
          x = (spans X).holds s p.x below is h.x;
        };
        needed = λ s number r takes p q h needs. record {
          t = (spans Time).needed s number r p q takes h.t needs;
          bands = (spans Bands).needed s number r p q takes h.bands needs;
          y = (spans Y).needed s number r p q takes h.y needs;
          x = (spans X).needed s number r p q takes h.x needs;
        };
      }

      box_short : (s : ℕ) → s < length (steps_of c) → (along : Kind) → span_length (span_along (box_at s) along) ≤ side_along c size along
      unfolding box_at
      box_short s below Time = (spans Time).short s below
      box_short s below Bands = (spans Bands).short s below
      box_short s below Y = (spans Y).short s below
      box_short s below X = (spans X).short s below

      span_short : (inner outer : Span) (n : ℕ) → IsWithin inner outer → span_length outer ≤ n → span_length inner ≤ n
      span_short inner outer n w h = let from = w.from in let to = w.to in omega arith

      zero_short : (along : Kind) → span_length (span_along zero_window along) ≡ 0
      zero_short Time = refl
      zero_short Bands = refl
      zero_short Y = refl
      zero_short X = refl

      -- the least boxes fit the sides
      pub window_short : (w : Window) (s : ℕ) → s < length (steps_of c) → ((boxes : ℕ → Window) → IsClosed c chunk boxes → Holds (boxes s) w)
          → IsZeroWhereEmpty w → (along : Kind) → span_length (span_along w along) ≤ side_along c size along
      window_short w s below least empty_is along = elim (filled_or_not w) [
        | inl full ↦ span_short (span_along w along) (span_along (box_at s) along) (side_along c size along)
            (within_along along w (box_at s) (within_from_holds w (box_at s) full (least box_at boxes_closed))) (box_short s below along)
        | inr none ↦
            let is : w ≡ zero_window = empty_is (empty_spans w none) in
            let nothing : span_length (span_along w along) ≡ 0 = ap (λ v. span_length (span_along v along)) is ∙ zero_short along in
            omega arith
      ]

-- and have few cells
pub window_few : (c : CheckedGraph) (size : ChunkSize) (w : Window) → ((along : Kind) → span_length (span_along w along) ≤ side_along c size along) → position_count w ≤ largest_window c size
window_few c size w short = mul-le _ _ _ _ (mul-le _ _ _ _ (mul-le _ _ _ _ (short Time) (short Bands)) (short Y)) (short X)
