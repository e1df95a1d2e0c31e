-- The windows once they are widened for an argument more are the least that have what is needed so far.
use Rattle.std.proofs.Common.{◌≡◌, inl, inr, ℕ, ◌+◌, ◌-◌, ◌<◌, ◌≤◌, false, List, length, set, Contains, Some, refl, sym, ap, ◌∙◌, subst, arith, length-set, get_or-set_other}
use Rattle.std.specs.List.{slice_get, slice_index, slice_index_or}
use Rattle.std.proofs.lemmas.Bool.{cases_eq, cases_lt}
use Rattle.std.proofs.lemmas.Grind.{get_or-set_at}
use Rattle.std.proofs.lemmas.List.Elements.{Contains-get_or}
use Rattle.std.proofs.lemmas.Option.{get_or_from_slice_get, same_Some, slice_get-get_or, slice_get_within}
use Rattle.oe_dims.specs.Dimensions.{Dimensions, IsShape}
use Rattle.oe_dims.specs.Positions.{Position}
use Rattle.oe_graph.specs.Printed.{node_count}
use Rattle.oe_order.specs.Graph.{IsAcyclic, RefersWithin, arguments, graph_of, is_load, refers}
use Rattle.oe_order.specs.declared.Links.{Links}
use Rattle.oe_order.proofs.Graphs.{arguments-graph_of, is_load-graph_of, length-graph_of}
use Rattle.oe_order.specs.Live.{Steps}
use Rattle.oe_order.specs.Order.{IsListing}
use Rattle.oe_order.proofs.Reach.{IsInRun-push, Reaches-push}
use Rattle.oe_ops.specs.Needs.{HoldsNeed, IsNeed, Needs, argument_shape, zero_window}
use Rattle.oe_ops.specs.Nodes.{IsConvolution}
use Rattle.oe_check.specs.Checked.{AreFaultless, CheckedGraph, operation_of_node}
use Rattle.oe_check.specs.Links.{links_of}
use Rattle.oe_requests.specs.Operations.{Operation, keep, each_cell, convolve, reduce, aggregate, accumulate, merge, cover, give_back, shape_of}
use Rattle.oe_window.specs.Chunks.{FitsSides, tiling_of}
use Rattle.oe_window.specs.Windows.{Holds, IsEmpty, IsIn, whole_window}
use Rattle.oe_window.specs.declared.grid.ChunkSize.{ChunkSize}
use Rattle.oe_window.specs.declared.window.Window.{Window}
use Rattle.oe_window.proofs.WholeLemmas.{in_whole}
use Rattle.oe_plan.specs.Figures.{shape_of_node, steps_of}
use Rattle.oe_plan.specs.Steps.{NeedsOfNode, Takes, argument_shapes, arguments_of_node}
use Rattle.oe_plan.specs.Widening.{AreWidened, IsWidenedBy, IsZeroWhereEmpty, NeedsAtStep}
use Rattle.oe_plan.specs.Windows.{AreWindows, IsClosed, IsOrderOf, window_at}
use Rattle.oe_plan.proofs.FollowLemmas.{IsTaken, needs_position}
use Rattle.oe_plan.proofs.NodeLemmas.{IsSeen, argument_shape_is, seen}
use Rattle.oe_plan.proofs.SideLemmas.{AreValidAt, window_few, window_short}

in_same : (a b : Window) (p : Position) → a ≡ b → IsIn a p → IsIn b p
in_same a b p e h = subst (λ (w : Window). IsIn w p) e h

nothing_in : (w : Window) (p : Position) → w ≡ zero_window → IsIn w p → ⊥
nothing_in w p e h =
    let t = (in_same w zero_window p e h).t in
    let low = t.begun in
    let high = t.before in
    omega arith

-- a node stands at one step
pub same_step : (c : CheckedGraph) → IsListing (links_of c.nodes) c.result (steps_of c) → (i j : ℕ) → i < length (steps_of c) → j < length (steps_of c)
    → slice_index (steps_of c) i ≡ slice_index (steps_of c) j → i ≡ j
same_step c listing i j below under same =
    elim (cases_lt i j) [
      | inl lt ↦ absurd (listing.once i j lt under same)
      | inr ge ↦ elim (cases_lt j i) [
        | inl lt ↦ absurd (listing.once j i lt below (sym same))
        | inr le ↦ omega arith
      ]
    ]

pub contains_of : (xs : List ℕ) (k n : ℕ) → slice_get xs k ≡ Some n → Contains xs n
contains_of xs k n e = (k, slice_get_within xs k n e, get_or_from_slice_get xs k n n e)

module _ (c : CheckedGraph) (chunk : Window) where
  abbrev node_at : ℕ → ℕ
  node_at s = slice_index (steps_of c) s

  -- ---- whole cubes are closed

  abbrev whole_at : ℕ → Window
  whole_at s = whole_window (shape_of_node c (node_at s))

  whole_closed : Holds (whole_window (shape_of_node c c.result)) chunk → IsClosed c chunk whole_at
  whole_closed within = record {
    holds = λ s below is. subst (λ n. Holds (whole_window (shape_of_node c n)) chunk) (sym is) within;
    needed = λ s number r takes p q h needs.
        subst (λ d. IsIn (whole_window d) q) (argument_shape_is c (node_at s) number (node_at r) takes.taken)
        (in_whole (argument_shape (argument_shapes c (node_at s)) number) q
        (needs_position needs.operation (argument_shapes c (node_at s)) number p q needs.needs));
  }

  pub widened_inside : (windows : List Window) (left count : ℕ) → Holds (whole_window (shape_of_node c c.result)) chunk → AreWidened c chunk windows left count
      → (s : ℕ) → s < length (steps_of c) → Holds (whole_at s) (window_at windows s)
  widened_inside windows left count within are s below = are.least whole_at (whole_closed within) s below

  -- ---- before the first step

  module _ (blank : List Window) (at : ℕ) (each : length blank ≡ length (steps_of c)) (clear : (k : ℕ) → window_at blank k ≡ zero_window)
      (below : at < length (steps_of c)) (only : (i : ℕ) → i < length (steps_of c) → node_at i ≡ c.result → i ≡ at) (is : node_at at ≡ c.result)
      (some : ¬ IsEmpty chunk) where
    begun : List Window
    begun = set blank at chunk

    at_result : (s : ℕ) → s ≡ at → window_at begun s ≡ chunk
    unfolding begun
    at_result s e = get_or-set_at blank at s chunk zero_window e (omega arith)

    elsewhere : (s : ℕ) → (s ≡ at → ⊥) → window_at begun s ≡ zero_window
    unfolding begun
    elsewhere s other = get_or-set_other blank at s chunk zero_window other ∙ clear s

    pub widened_begins : AreWidened c chunk (set blank at chunk) (length (steps_of c)) 0
    unfolding begun
    widened_begins = record {
      each = length-set blank at chunk ∙ each;
      result = λ s inside here. at_result s (only s inside here);
      needed = λ s number r worked takes. elim worked [
        | inl past ↦ let inside = takes.within in absurd (omega arith)
        | inr last ↦ let none = last.1 in absurd (omega arith)
      ];
      least = λ boxes closed s inside. elim (cases_eq s at) [
        | inl here ↦ λ p h. closed.holds s inside (ap node_at here ∙ is) p (in_same _ _ p (at_result s here) h)
        | inr other ↦ λ p h. absurd (nothing_in _ p (elsewhere s other) h)
      ];
      zero = λ s empty. elim (cases_eq s at) [
        | inl here ↦ absurd (some (λ p h. empty p (in_same _ _ p (sym (at_result s here)) h)))
        | inr other ↦ elsewhere s other
      ];
    }

  -- ---- one argument more

  module _ (listing : IsListing (links_of c.nodes) c.result (steps_of c)) (acyclic : IsAcyclic (links_of c.nodes)) where
    -- no step takes the result
    not_result : (s number r : ℕ) → Takes c s number r → node_at r ≡ c.result → ⊥
    not_result s number r takes is =
        let refers_to : Contains (arguments_of_node c (node_at s)) c.result =
        contains_of (arguments_of_node c (node_at s)) number c.result (takes.taken ∙ ap Some is) in
        elim ((listing.members (node_at s)).0 (Contains-get_or (steps_of c) s 0 takes.within)) [
          | inl same ↦ acyclic c.result (refers (subst (λ n. Contains (arguments_of_node c n) c.result) same refers_to))
          | inr reached ↦ acyclic c.result (Reaches-push reached refers_to)
        ]

    one_argument : (s number r t : ℕ) → Takes c s number r → Takes c s number t → t ≡ r
    one_argument s number r t one two =
        let inside = one.within in
        let r_before = one.earlier in
        let t_before = two.earlier in
        same_step c listing t r (omega arith) (omega arith) (same_Some (node_at t) (node_at r) (sym two.taken ∙ one.taken))

    module _ (before after : List Window) (left count s : ℕ) (are : AreWidened c chunk before left count) (w : IsWidenedBy c s count before after) (last : s + 1 ≡ left) where
      r_before : w.argument < s
      r_before = w.takes.earlier

      stays : (k : ℕ) → s ≤ k → window_at after k ≡ window_at before k
      stays k late = w.others k (λ same. let low = r_before in omega arith)

      grows : (k : ℕ) → Holds (window_at after k) (window_at before k)
      grows k = elim (cases_eq k w.argument) [
        | inl here ↦ subst (λ j. Holds (window_at after j) (window_at before j)) (sym here) w.grows
        | inr other ↦ λ p h. in_same _ _ p (sym (w.others k other)) h
      ]

      kept_needs : (t number r : ℕ) → s ≤ t → HoldsNeed (NeedsAtStep c t number) (window_at before t) (window_at before r)
          → HoldsNeed (NeedsAtStep c t number) (window_at after t) (window_at after r)
      kept_needs t number r late held p q h needs = grows r q (held p q (in_same _ _ p (stays t late) h) needs)

      new_needs : (t number r : ℕ) → t ≡ s → number ≡ count → Takes c t number r → HoldsNeed (NeedsAtStep c t number) (window_at after t) (window_at after r)
      new_needs t number r here this takes p q h needs =
          let same_step = subst (λ i. Takes c i number r) here takes in
          let same = subst (λ n. Takes c s n r) this same_step in
          let at : r ≡ w.argument = one_argument s count w.argument r w.takes same in
          let there = subst (λ i. NeedsAtStep c i number p q) here needs in
          let asked = subst (λ n. NeedsAtStep c s n p q) this there in
          let inside : IsIn (window_at before s) p = in_same _ _ p (stays t (omega arith) ∙ ap (window_at before) here) h in
          in_same _ _ q (ap (window_at after) (sym at)) (w.holds p q inside asked)

      pub widened_more : AreWidened c chunk after left (count + 1)
      widened_more = record {
        each = w.each ∙ are.each;
        result = λ t below is. w.others t (λ same. not_result s count w.argument w.takes (ap node_at (sym same) ∙ is)) ∙ are.result t below is;
        needed = λ t number r worked takes. elim worked [
          | inl past ↦ kept_needs t number r (omega arith) (are.needed t number r (inl past) takes)
          | inr here ↦ elim (cases_lt number count) [
            | inl done ↦ kept_needs t number r (let e = here.0 in omega arith) (are.needed t number r (inr (here.0, done)) takes)
            | inr this ↦ new_needs t number r (let e = here.0 in omega arith) (let under = here.1 in omega arith) takes
          ]
        ];
        least = λ boxes closed t below. elim (cases_eq t w.argument) [
          | inl here ↦
              subst (λ k. Holds (boxes k) (window_at after k)) (sym here)
              (w.least (boxes w.argument) (are.least boxes closed w.argument (let inside = w.takes.within in let low = r_before in omega arith))
              (λ p q h needs. closed.needed s count w.argument w.takes p q (are.least boxes closed s w.takes.within p h) needs))
          | inr other ↦ λ p h. are.least boxes closed t below p (in_same _ _ p (w.others t other) h)
        ];
        zero = λ t. elim (cases_eq t w.argument) [
          | inl here ↦ subst (λ k. IsZeroWhereEmpty (window_at after k)) (sym here) (w.zero (are.zero w.argument))
          | inr other ↦ subst IsZeroWhereEmpty (sym (w.others t other)) (are.zero t)
        ];
      }

  -- ---- all arguments of a step

  pub widened_step : (windows : List Window) (s count : ℕ) → ((number r : ℕ) → Takes c s number r → number < count) → AreWidened c chunk windows (s + 1) count
      → AreWidened c chunk windows s 0
  widened_step windows s count all are = record {
    each = are.each;
    result = are.result;
    needed = λ t number r worked takes. elim worked [
      | inl late ↦ elim (cases_eq t s) [
        | inl here ↦ are.needed t number r (inr (omega arith, all number r (subst (λ i. Takes c i number r) here takes))) takes
        | inr other ↦ are.needed t number r (inl (omega arith)) takes
      ]
      | inr none ↦ let under = none.1 in absurd (omega arith)
    ];
    least = are.least;
    zero = are.zero;
  }

  -- ---- all steps

  pub windows_are : (f : AreFaultless c) (listing : IsListing (links_of c.nodes) c.result (steps_of c)) (valid : AreValidAt c) (size : ChunkSize)
      (within : Holds (whole_window (shape_of_node c c.result)) chunk) (some : ¬ IsEmpty chunk)
      → FitsSides (tiling_of (shape_of_node c c.result) size) chunk → (windows : List Window) → AreWidened c chunk windows 0 0 → AreWindows c size chunk windows
  windows_are f listing valid size within some sides windows are =
      let long = are.each in
      let short : (s : ℕ) → s < length windows → (along : _) → _ = λ s below along.
      window_short c f listing valid size chunk within some sides (window_at windows s) s (omega arith) (λ boxes closed. are.least boxes closed s (omega arith)) (are.zero s) along in
      record {
        each = long;
        closed = record {
          holds = λ s below is p h. in_same _ _ p (sym (are.result s below is)) h;
          needed = λ s number r takes. are.needed s number r (inl (omega arith)) takes;
        };
        least = λ boxes closed s below. are.least boxes closed s (omega arith);
        inside = λ s below. widened_inside windows 0 0 within are s (omega arith);
        result = λ s below is. are.result s (omega arith) is;
        sides = short;
        few = λ s below. window_few c size (window_at windows s) (short s below);
      }

-- ---- how far the loops have come

pub listing_of : (c : CheckedGraph) (order : Steps) → IsOrderOf c order → IsListing (links_of c.nodes) c.result (steps_of c)
listing_of c order is = subst (IsListing (links_of c.nodes) c.result) is.steps_are is.listing

pub node_read : (c : CheckedGraph) (order : Steps) (xs : List ℕ) (s : ℕ) → IsOrderOf c order → xs ≡ order.steps → slice_index xs s ≡ slice_index (steps_of c) s
node_read c order xs s is e = ap (λ ys. slice_index ys s) (e ∙ is.steps_are)

-- an argument of a step stands in the order, and earlier
module _ (c : CheckedGraph) (order : Steps) (is : IsOrderOf c order) where
  pub result_stands : (r : ℕ) → r ≡ c.result → Contains order.steps r
  result_stands r e = (is.listing.members r).1 (inl e)

  module _ (s argument : ℕ) (below : s < length (steps_of c)) (has : Contains (arguments_of_node c (slice_index (steps_of c) s)) argument) where
    pub argument_stands : Contains order.steps argument
    argument_stands =
        (is.listing.members argument).1
        (IsInRun-push (links_of c.nodes) c.result (slice_index (steps_of c) s) argument
        (((listing_of c order is).members (slice_index (steps_of c) s)).0 (Contains-get_or (steps_of c) s 0 below)) has)

    pub argument_earlier : (found : ℕ) → is_load (links_of c.nodes) (slice_index (steps_of c) s) ≡ false → found < length order.steps
        → slice_index order.steps found ≡ argument → found < s
    argument_earlier found works inside at =
        let first = (listing_of c order is).arguments_first s argument below works has in
        let before = first.1 in
        let long : length order.steps ≡ length (steps_of c) = ap length is.steps_are in
        let same : found ≡ first.0 =
        same_step c (listing_of c order is) found first.0 (omega arith) (omega arith)
        (sym (node_read c order order.steps found is refl) ∙ (at ∙ sym first.2)) in
        omega arith

-- ---- links as the code reads them

module _ (c : CheckedGraph) (links : List Links) (is : graph_of links ≡ links_of c.nodes) (count : length links ≡ node_count c.nodes)
    (node : ℕ) (below : node < node_count c.nodes) where
  module _ (link : Links) (read : link ≡ slice_index_or links node link) where
    pub link_loads : is_load (links_of c.nodes) node ≡ link.load
    link_loads = ap (λ nodes. is_load nodes node) (sym is) ∙ is_load-graph_of links node link (omega arith) read

    pub link_arguments : arguments_of_node c node ≡ link.arguments.items
    link_arguments = ap (λ nodes. arguments nodes node) (sym is) ∙ arguments-graph_of links node link (omega arith) read

  pub argument_within : (number argument : ℕ) → RefersWithin (graph_of links) → slice_get (arguments_of_node c node) number ≡ Some argument → argument < node_count c.nodes
  argument_within number argument named at =
      let has = contains_of (arguments_of_node c node) number argument at in
      let low = named node argument (subst (λ nodes. Contains (arguments nodes node) argument) (sym is) has) in
      let long = length-graph_of links in
      omega arith

pub argument_read : (xs items : List ℕ) (i r : ℕ) → xs ≡ items → i < length xs → r ≡ slice_index_or items i r → slice_get xs i ≡ Some r
argument_read xs items i r same below read =
    let inside : i < length items = subst (λ ys. i < length ys) same below in
    ap (λ ys. slice_get ys i) same ∙ (slice_get-get_or items i r inside ∙ ap Some (sym read))

-- so many arguments of a step are worked off, the others are as they were
pub record AreOnStep (c : CheckedGraph) (s number : ℕ) (begun windows : List Window) : Type 0 where
  pub each : length windows ≡ length begun
  pub stays : window_at windows s ≡ window_at begun s
  pub widened : (chunk : Window) → AreWidened c chunk begun (s + 1) 0 → AreWidened c chunk windows (s + 1) number

pub on_step_begins : (c : CheckedGraph) (s : ℕ) (windows : List Window) → AreOnStep c s 0 windows windows
on_step_begins c s windows = record { each = refl; stays = refl; widened = λ chunk are. are }

pub on_step_more : (c : CheckedGraph) (s number : ℕ) (begun windows after : List Window) → IsListing (links_of c.nodes) c.result (steps_of c) → IsAcyclic (links_of c.nodes)
    → AreOnStep c s number begun windows → IsWidenedBy c s number windows after → AreOnStep c s (number + 1) begun after
on_step_more c s number begun windows after listing acyclic on w = record {
  each = w.each ∙ on.each;
  stays = w.others s (λ same. let low = w.takes.earlier in omega arith) ∙ on.stays;
  widened = λ chunk are. widened_more c chunk listing acyclic windows after (s + 1) number s (on.widened chunk are) w refl;
}

pub on_step_ends : (c : CheckedGraph) (s number : ℕ) (begun windows : List Window)
    → (is_load (links_of c.nodes) (slice_index (steps_of c) s) ≡ false → number ≡ length (arguments_of_node c (slice_index (steps_of c) s)))
    → AreOnStep c s number begun windows → (chunk : Window) → AreWidened c chunk begun (s + 1) 0 → AreWidened c chunk windows s 0
on_step_ends c s number begun windows all on chunk are =
    widened_step c chunk windows s number
    (λ k r takes. let count = all takes.works in let under = slice_get_within (arguments_of_node c (slice_index (steps_of c) s)) k _ takes.taken in omega arith)
    (on.widened chunk are)

-- the steps from `left` on are worked off, and the shapes of their nodes are valid
pub record AreWorkedOff (c : CheckedGraph) (chunk : Window) (windows : List Window) (left : ℕ) : Type 0 where
  pub within : left ≤ length (steps_of c)
  pub widened : AreWidened c chunk windows left 0
  pub valid : (s : ℕ) → left ≤ s → s < length (steps_of c) → IsShape (shape_of_node c (slice_index (steps_of c) s))

pub worked_off_begins : (c : CheckedGraph) (chunk : Window) (blank : List Window) (at : ℕ) → length blank ≡ length (steps_of c) → ((k : ℕ) → window_at blank k ≡ zero_window)
    → at < length (steps_of c) → ((i : ℕ) → i < length (steps_of c) → slice_index (steps_of c) i ≡ c.result → i ≡ at) → slice_index (steps_of c) at ≡ c.result
    → ¬ IsEmpty chunk → AreWorkedOff c chunk (set blank at chunk) (length (set blank at chunk))
worked_off_begins c chunk blank at each clear below only is some =
    let long : length (set blank at chunk) ≡ length (steps_of c) = length-set blank at chunk ∙ each in
    record {
      within = omega arith;
      widened = subst (λ n. AreWidened c chunk (set blank at chunk) n 0) (sym long) (widened_begins c chunk blank at each clear below only is some);
      valid = λ s low under. absurd (omega arith);
    }

pub worked_off_more : (c : CheckedGraph) (chunk : Window) (windows after : List Window) (left : ℕ) → 0 < left → AreWorkedOff c chunk windows left
    → ((begun : Window) → AreWidened c begun windows (left - 1 + 1) 0 → AreWidened c begun after (left - 1) 0)
    → IsShape (shape_of_node c (slice_index (steps_of c) (left - 1))) → AreWorkedOff c chunk after (left - 1)
worked_off_more c chunk windows after left some off more shape =
    let last : left ≡ left - 1 + 1 = omega arith in
    let inside = off.within in
    record {
      within = omega arith;
      widened = more chunk (subst (λ n. AreWidened c chunk windows n 0) last off.widened);
      valid = λ s low below. elim (cases_eq s (left - 1)) [
        | inl here ↦ subst (λ k. IsShape (shape_of_node c (slice_index (steps_of c) k))) (sym here) shape
        | inr other ↦ off.valid s (omega arith) below
      ];
    }

pub worked_off_ends : (c : CheckedGraph) (chunk : Window) (windows : List Window) (left : ℕ) → left ≤ 0 → AreFaultless c
    → IsListing (links_of c.nodes) c.result (steps_of c) → Holds (whole_window (shape_of_node c c.result)) chunk → ¬ IsEmpty chunk → AreWorkedOff c chunk windows left
    → (size : ChunkSize) → FitsSides (tiling_of (shape_of_node c c.result) size) chunk → AreWindows c size chunk windows
worked_off_ends c chunk windows left none f listing within some off size sides =
    let last : left ≡ 0 = omega arith in
    windows_are c chunk f listing (λ s below. off.valid s (omega arith) below) size within some sides windows
    (subst (λ n. AreWidened c chunk windows n 0) last off.widened)

-- ---- a kernel

convolution_same : (op : Operation) (shapes : List Dimensions) (number : ℕ) → IsConvolution op → IsTaken op shapes number → shape_of op shapes ≡ argument_shape shapes number
convolution_same (keep r) shapes number conv taken = absurd conv
convolution_same (each_cell c) shapes number conv taken = absurd conv
convolution_same (convolve kernel factor border replace) shapes number conv taken = ap (argument_shape shapes) (sym taken)
convolution_same (reduce kind c) shapes number conv taken = absurd conv
convolution_same (aggregate intervals c) shapes number conv taken = absurd conv
convolution_same (accumulate ignore) shapes number conv taken = absurd conv
convolution_same (merge resolver) shapes number conv taken = absurd conv
convolution_same (cover replacement) shapes number conv taken = absurd conv
convolution_same give_back shapes number conv taken = absurd conv

module _ (c : CheckedGraph) (f : AreFaultless c) (node : ℕ) (below : node < node_count c.nodes) (works : is_load (links_of c.nodes) node ≡ false)
    (number argument : ℕ) (at : slice_get (arguments_of_node c node) number ≡ Some argument) (op : Operation) (is : operation_of_node c node ≡ Some op) where
  here : IsSeen c node op
  here = seen c f node below op is works

  pub node_shape : shape_of_node c node ≡ shape_of op (argument_shapes c node)
  node_shape = here.shape_is

  pub kernel_shape : IsConvolution op → shape_of_node c node ≡ shape_of_node c argument
  kernel_shape conv =
      here.shape_is
      ∙ (convolution_same op (argument_shapes c node) number conv (here.taken_so number (slice_get_within (arguments_of_node c node) number argument at))
      ∙ argument_shape_is c node number argument at)

-- ---- one window

-- what `hull` gives
pub record IsHullOf (a b hull : Window) : Type 0 where
  pub first_empty : IsEmpty a → hull ≡ b
  pub holds_first : Holds hull a
  pub holds_second : Holds hull b
  pub least : (window : Window) → Holds window a → Holds window b → Holds window hull

pub widened_by : (c : CheckedGraph) (s number r : ℕ) (before : List Window) (asked hull : Window) → Takes c s number r → r < length before
    → IsNeed (NeedsAtStep c s number) (window_at before s) asked → IsHullOf (window_at before r) asked hull → IsWidenedBy c s number before (set before r hull)
widened_by c s number r before asked hull takes below need is =
    let here : window_at (set before r hull) r ≡ hull = get_or-set_at before r r hull zero_window refl below in
    record {
      each = length-set before r hull;
      argument = r;
      takes = takes;
      others = λ k other. get_or-set_other before r k hull zero_window other;
      grows = λ p h. in_same _ _ p (sym here) (is.holds_first p h);
      holds = λ p q h needs. in_same _ _ q (sym here) (is.holds_second q (need.holds p q h needs));
      least = λ box was all p h. is.least box was (need.least box all) p (in_same _ _ p here h);
      zero = λ zero_before empty.
          let none : IsEmpty hull = λ p h. empty p (in_same _ _ p (sym here) h) in
          let is_asked : hull ≡ asked = is.first_empty (λ p h. none p (is.holds_first p h)) in
          here ∙ (is_asked ∙ need.zero (λ p q h needs. none q (is.holds_second q (need.holds p q h needs))));
    }

-- of a node with this operation
pub need_of_node : (c : CheckedGraph) (node number : ℕ) (op : Operation) (window box : Window) → operation_of_node c node ≡ Some op
    → IsNeed (Needs op (argument_shapes c node) number) window box → IsNeed (NeedsOfNode c node number) window box
need_of_node c node number op window box is need =
    let there : (p q : Position) → NeedsOfNode c node number p q → Needs op (argument_shapes c node) number p q = λ p q n.
    subst (λ o. Needs o (argument_shapes c node) number p q) (same_Some n.operation op (sym n.operation_is ∙ is)) n.needs in
    let back : (p q : Position) → Needs op (argument_shapes c node) number p q → NeedsOfNode c node number p q = λ p q n.
    record { operation = op; operation_is = is; needs = n } in
    record {
      holds = λ p q h n. need.holds p q h (there p q n);
      least = λ other all. need.least other (λ p q h n. all p q h (back p q n));
      zero = λ none. need.zero (λ p q h n. none p q h (back p q n));
    }

-- ---- a part of the graph

-- what a node needs does not depend on which node is the result
pub needs_in_part : (c : CheckedGraph) (last node number : ℕ) (p q : Position) → NeedsOfNode c node number p q
    → NeedsOfNode (record c { result = last }) node number p q
needs_in_part c last node number p q n = record { operation = n.operation; operation_is = n.operation_is; needs = n.needs }

pub needs_in_whole : (c : CheckedGraph) (last node number : ℕ) (p q : Position)
    → NeedsOfNode (record c { result = last }) node number p q → NeedsOfNode c node number p q
needs_in_whole c last node number p q n = record { operation = n.operation; operation_is = n.operation_is; needs = n.needs }

pub need_in_part : (c : CheckedGraph) (last node number : ℕ) (window box : Window) → IsNeed (NeedsOfNode c node number) window box
    → IsNeed (NeedsOfNode (record c { result = last }) node number) window box
need_in_part c last node number window box need = record {
  holds = λ p q h n. need.holds p q h (needs_in_whole c last node number p q n);
  least = λ other all. need.least other (λ p q h n. all p q h (needs_in_part c last node number p q n));
  zero = λ none. need.zero (λ p q h n. none p q h (needs_in_part c last node number p q n));
}

pub faultless_part : (c : CheckedGraph) (last : ℕ) → last < node_count c.nodes → AreFaultless c → AreFaultless (record c { result = last })
faultless_part c last within f = record { resolved = f.resolved; has_result = within; sound = f.sound; sound_cells = f.sound_cells }
