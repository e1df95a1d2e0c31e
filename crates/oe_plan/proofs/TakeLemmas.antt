-- Which step an argument of a step is taken from.
use Rattle.std.specs.Prelude.{◌≡◌, ◌<◌, ◌↔◌, ℕ, Bool, true, false, List, length, slice_index, slice_get, Option, Some, None, IfSome, if◌then◌else◌, Result, Ok, Err, IfOk}
use Rattle.std.proofs.Common.{sym, ap, ◌∙◌, subst, refl, arith, get_or}
use Rattle.oe_graph.specs.Printed.{node_count}
use Rattle.oe_order.proofs.Graphs.{arguments-graph_of, is_load-graph_of}
use Rattle.oe_order.specs.Graph.{Node, graph_of, is_load, arguments, RefersWithin}
use Rattle.oe_order.specs.Live.{Steps}
use Rattle.oe_order.specs.Order.{IsListing}
use Rattle.oe_order.specs.Turns.{order_by_turns}
use Rattle.oe_order.specs.declared.Links.{Links}
use Rattle.oe_check.specs.Checked.{CheckedGraph}
use Rattle.oe_check.specs.Links.{links_of}
use Rattle.oe_plan.proofs.RunLemmas.{argument_before, step_within}
use Rattle.oe_plan.specs.Figures.{steps_of}
use Rattle.oe_plan.specs.Ranges.{AreStepsOf}
use Rattle.oe_plan.specs.Turns.{turns_of}
use Rattle.oe_plan.proofs.TurnsLemmas.{turns_in_part}
use Rattle.oe_plan.specs.Steps.{Takes, argument_at}

-- ---- the steps that are found

-- they are those of the run of the last node
pub steps_listed : {E : Type 0} (c : CheckedGraph) (nodes : List Node) (turns : List ℕ) (last : ℕ) (r : Result Steps E)
    → nodes ≡ links_of c.nodes → turns ≡ turns_of c → IfOk r (λ o. o.steps ≡ order_by_turns nodes turns last)
    → IfOk r (λ o. o.steps ≡ steps_of (record c { result = last }))
steps_listed c nodes turns last (Ok o) nodes_are turns_are are =
    are
    ∙ (ap (λ (ns : List Node). order_by_turns ns turns last) nodes_are
    ∙ ap (λ (ts : List ℕ). order_by_turns (links_of c.nodes) ts last) (turns_are ∙ sym (turns_in_part c last)))
steps_listed c nodes turns last (Err e) nodes_are turns_are are = tt

-- each is of a node of the graph
pub steps_found : {E : Type 0} (c : CheckedGraph) (nodes : List Node) (last : ℕ) (r : Result Steps E) → RefersWithin nodes
    → length nodes ≡ node_count c.nodes → last < length nodes → IfOk r (λ o. o.steps ≡ steps_of (record c { result = last }))
    → IfOk r (λ o. IsListing nodes last o.steps) → IfOk r (λ o. AreStepsOf (record c { result = last }) o.steps)
steps_found c nodes last (Ok o) named counted within are listing = record {
  steps_are = are;
  within = λ i below. omega (arith, step_within nodes last o.steps named within listing i below, counted);
}
steps_found c nodes last (Err e) named counted within are listing = tt

-- ---- the argument of a step

-- the argument by the links is that of the graph
abbrev pub argument_in : List Node → ℕ → ℕ → Option ℕ
argument_in nodes node number = if is_load nodes node then None else slice_get (arguments nodes node) number

pub argument_linked : (nodes : List Node) (links : List Links) (node number : ℕ) (x : Links) (found : Option ℕ)
    → graph_of links ≡ nodes → node < length links → x ≡ get_or links node x → found ≡ argument_at x number
    → argument_in nodes node number ≡ found
argument_linked nodes links node number x found nodes_are within is found_is =
    ap (λ (ns : List Node). argument_in ns node number) (sym nodes_are)
    ∙ ap (λ (b : Bool). if b then None else slice_get (arguments (graph_of links) node) number) (is_load-graph_of links node x within is)
    ∙ ap (λ (xs : List ℕ). if x.load then None else slice_get xs number) (arguments-graph_of links node x within is)
    ∙ sym found_is

some_argument : (load : Bool) (taken : Option ℕ) (a : ℕ) → (if load then None else taken) ≡ Some a
    → (load ≡ false) × (taken ≡ Some a)
some_argument true taken a is = absurd (cc)
some_argument false taken a is = (refl, is)

no_argument : (load : Bool) (taken : Option ℕ) (a : ℕ) → (if load then None else taken) ≡ None → load ≡ false
    → taken ≡ Some a → ⊥
no_argument true taken a is works some = cc
no_argument false taken a is works some = cc

-- where the node of a step takes no argument of a number
pub none_taken : (c : CheckedGraph) (steps : List ℕ) (s number r : ℕ) → steps ≡ steps_of c
    → argument_in (links_of c.nodes) (slice_index steps s) number ≡ None → Takes c s number r → ⊥
none_taken c steps s number r are none takes =
    let at : argument_in (links_of c.nodes) (slice_index (steps_of c) s) number ≡ None =
    subst (λ (ns : List ℕ). argument_in (links_of c.nodes) (slice_index ns s) number ≡ None) are none in
    no_argument (is_load (links_of c.nodes) (slice_index (steps_of c) s))
    (slice_get (arguments (links_of c.nodes) (slice_index (steps_of c) s)) number) (slice_index (steps_of c) r) at
    takes.works takes.taken

-- a step that is found for the argument of a step: at it stands the node that is taken, and it is the only one
pub record IsFoundFor (c : CheckedGraph) (s number a : ℕ) (found : Option ℕ) (steps : List ℕ) : Type 0 where
  pub listing : IsListing (links_of c.nodes) c.result steps
  pub below : s < length steps
  pub taken : argument_in (links_of c.nodes) (slice_index steps s) number ≡ Some a
  pub within : IfSome found (λ step. step < length steps)
  pub at : IfSome found (λ step. slice_index steps step ≡ a)
  pub only : (i : ℕ) → i < length steps → slice_index steps i ≡ a → found ≡ Some i

step_taken : (c : CheckedGraph) (s number a r : ℕ) → IsFoundFor c s number a (Some r) (steps_of c) → Takes c s number r
step_taken c s number a r f =
    let nodes = links_of c.nodes in
    let node = slice_index (steps_of c) s in
    let some = some_argument (is_load nodes node) (slice_get (arguments nodes node) number) a f.taken in
    let taken : slice_get (arguments nodes node) number ≡ Some (slice_index (steps_of c) r) = some.1 ∙ ap Some (sym f.at) in
    record {
      within = f.below;
      earlier = argument_before nodes c.result (steps_of c) f.listing s number r f.below f.within some.0 taken;
      works = some.0;
      taken = taken;
    }

takes_exactly : (c : CheckedGraph) (s number a : ℕ) (found : Option ℕ) → IsFoundFor c s number a found (steps_of c)
    → (r : ℕ) → (found ≡ Some r) ↔ Takes c s number r
takes_exactly c s number a found f r = (
  λ is. step_taken c s number a r (subst (λ (o : Option ℕ). IsFoundFor c s number a o (steps_of c)) is f),
  λ takes.
      let nodes = links_of c.nodes in
      let node = slice_index (steps_of c) s in
      let some = some_argument (is_load nodes node) (slice_get (arguments nodes node) number) a f.taken in
      let same : Some a ≡ Some (slice_index (steps_of c) r) = sym some.1 ∙ takes.taken in
      let is : slice_index (steps_of c) r ≡ a = cc in
      f.only r (omega (arith, takes.earlier, takes.within)) is,
)

pub takes_found : (c : CheckedGraph) (s number a : ℕ) (found : Option ℕ) (steps : List ℕ) → steps ≡ steps_of c
    → IsFoundFor c s number a found steps → (r : ℕ) → (found ≡ Some r) ↔ Takes c s number r
takes_found c s number a found steps are f =
    takes_exactly c s number a found (subst (λ (ns : List ℕ). IsFoundFor c s number a found ns) are f)
