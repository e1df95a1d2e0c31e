use Rattle.std.proofs.Common.{◌≡◌, ◌∙◌, ◌<◌, ℕ, List, Contains, true, false, length, map, slice_index_or, sym, ap, subst, true≢false, arith}
use Rattle.std.specs.List.{list_all}
use Rattle.oe_graph.specs.Plain.{plain_node, plain_stored}
use Rattle.oe_order.specs.Graph.{graph_of}
use Rattle.oe_order.specs.Order.{contains}
use Rattle.oe_order.proofs.Graphs.{length-graph_of}
use Rattle.oe_order.proofs.Lists.{contains-to}
use Rattle.oe_calls.specs.Reached.{AnyRecurs, unsupported, recursive, faultless, IsUnsupported}
use Rattle.oe_calls.proofs.BringLemmas.{reached_within}
use Rattle.oe_calls.proofs.CallFaultLemmas.{all_stand, own_unsupported, called_unsupported}
use Rattle.oe_calls.proofs.RecursLemmas.{refers_within, pairs_within, recursive_by, recursive_any}
use Rattle.oe_calls.proofs.reach.node_code.Goals as goal
use Rattle.oe_calls.proofs.reach.node_code.Goals.{then-not-is_supported-via-then-not-is_supported, then-not-is_supported-via-else-not-is_supported+then-not-are_marked}

pub are_marked-requires : goal.are_marked-requires
are_marked-requires c = record {
  within = λ k e.
      let stored = map plain_stored c.args.stored.now in
      let links = c.args.calls.now.links.items in
      let marks = c.args.calls.now.supported.items in
      let n = plain_node c.args.node.now in
      let has : Contains c.in_ok-found.found.items k =
      contains-to c.in_ok-found.found.items k (ap (λ ys. contains ys k) (sym c.as_slice.ensures.value) ∙ e) in
      let below : k < length (graph_of links) = reached_within stored (graph_of links) marks c.requires.calls n k
      (c.in_ok-found.ensures.sound k has) in
      omega (arith, below, c.requires.calls.each, c.requires.calls.each_marked);
}

pub returns-then-not-is_supported : goal.returns-then-not-is_supported
returns-then-not-is_supported c =
    let stored = map plain_stored c.args.stored.now in
    let links = graph_of c.args.calls.now.links.items in
    let marks = c.args.calls.now.supported.items in
    let n = plain_node c.args.node.now in
    let found = c.in_ok-found.found.items in
    elim c.then-not-is_supported.branch [
      | then-not-is_supported-via-then-not-is_supported w ↦
          unsupported (own_unsupported stored links marks c.requires.calls n found c.in_ok-found.ensures
          (sym c.is_supported.ensures ∙ w.if-not-is_supported.true))
      | then-not-is_supported-via-else-not-is_supported+then-not-are_marked w ↦
          unsupported (called_unsupported stored links marks c.requires.calls n found c.in_ok-found.ensures
          (ap (λ (xs : List ℕ). list_all (λ k. slice_index_or marks k false) xs) (sym w.as_slice.ensures.value)
          ∙ sym w.are_marked.ensures ∙ w.if-not-are_marked.true))
    ]

pub recur-requires-clause-within : goal.recur-requires-clause-within
recur-requires-clause-within c =
    refers_within (map plain_stored c.args.stored.now) (graph_of c.args.calls.now.links.items) c.args.calls.now.supported.items
    c.requires.calls

pub recur-requires-clause-pairs : goal.recur-requires-clause-pairs
recur-requires-clause-pairs c = λ k has.
    let links = c.args.calls.now.links.items in
    let below = pairs_within (map plain_stored c.args.stored.now) (graph_of links) c.args.calls.now.supported.items c.requires.calls
    (plain_node c.args.node.now) c.in_ok-found.found.items c.in_ok-found.ensures k
    (subst (λ (xs : List ℕ). Contains xs k) c.as_slice-2.ensures.value has) in
    omega (arith, below, length-graph_of links)

pub returns-then-branch : goal.returns-then-branch
returns-then-branch c =
    let stored = map plain_stored c.args.stored.now in
    let links = graph_of c.args.calls.now.links.items in
    let marks = c.args.calls.now.supported.items in
    let n = plain_node c.args.node.now in
    let found = c.in_ok-found.found.items in
    recursive
    (all_stand stored links marks c.requires.calls n found c.in_ok-found.ensures
    (sym c.is_supported.ensures ∙ c.if-not-is_supported.false)
    (ap (λ (xs : List ℕ). list_all (λ k. slice_index_or marks k false) xs) (sym c.as_slice.ensures.value)
    ∙ sym c.are_marked.ensures ∙ c.if-not-are_marked.false))
    (recursive_by stored links marks c.requires.calls n found c.in_ok-found.ensures
    (subst (λ (xs : List ℕ). AnyRecurs links xs) c.as_slice-2.ensures.value (c.in_ok-recur.ensures.0 c.if-branch.true)))

pub returns : goal.returns
returns c =
    let stored = map plain_stored c.args.stored.now in
    let links = graph_of c.args.calls.now.links.items in
    let marks = c.args.calls.now.supported.items in
    let n = plain_node c.args.node.now in
    let found = c.in_ok-found.found.items in
    faultless
    (all_stand stored links marks c.requires.calls n found c.in_ok-found.ensures
    (sym c.is_supported.ensures ∙ c.if-not-is_supported.false)
    (ap (λ (xs : List ℕ). list_all (λ k. slice_index_or marks k false) xs) (sym c.as_slice.ensures.value)
    ∙ sym c.are_marked.ensures ∙ c.if-not-are_marked.false))
    (λ is. true≢false (sym (c.in_ok-recur.ensures.1
    (subst (λ (xs : List ℕ). AnyRecurs links xs) (sym c.as_slice-2.ensures.value)
    (recursive_any stored links marks c.requires.calls c.requires.stored_valid n found c.in_ok-found.ensures is))) ∙ c.if-branch.false))
