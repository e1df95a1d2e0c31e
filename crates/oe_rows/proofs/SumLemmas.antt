-- In a resolved callback in which no fault of running sums stands each node is a running sum.
use Rattle.std.proofs.Common.{◌≡◌, ℕ, zero, suc, ◌+◌, ◌<◌, ◌&&◌, Bool, true, false, true≢false, List, [], ◌∷◌, Option, Some, None, is_some, is_none, Contains, refl, sym, ap, ◌∙◌, subst, codes, slice_get, arith}
use Rattle.std.specs.Prelude.{option_and_then}
use Rattle.std.proofs.lemmas.Option.{get_or_from_slice_get, slice_get_within}
use Rattle.oe_graph.specs.Form.{callback_name, node_name}
use Rattle.oe_graph.specs.Printed.{ids_of, node_count}
use Rattle.oe_graph.specs.References.{each_node, references_named, Chain, none}
use Rattle.oe_graph.specs.Resolved.{IsResolvedObject}
use Rattle.oe_graph.specs.Tree.{Nodes, PlainGraph, PlainNode}
use Rattle.oe_graph.specs.declared.code.Code.TheVariants.{ProcessParameterInvalid}
use Rattle.oe_graph.proofs.ResolvedLemmas.{Chain-end, references_end}
use Rattle.oe_graph.proofs.SearchLemmas.{id_there}
use Rattle.oe_memory.proofs.Lists.{first_of, later_of}
use Rattle.oe_expr.specs.Nodes.{node_named}
use Rattle.oe_expr.proofs.NodeLemmas.{index_of_node, node_is, node_there}
use Rattle.oe_requests.specs.RunningSums.{AreSums, are_sums_named, running_sum_at}

-- one of these names is that of no running sum
record OtherNamed (nodes : Nodes) (names : List (List ℕ)) : Type 0 where
  name : List ℕ
  is_name : Contains names name
  other : is_some (option_and_then running_sum_at (node_named name nodes)) ≡ false

other_named : (nodes : Nodes) (names : List (List ℕ)) → are_sums_named nodes names ≡ false → OtherNamed nodes names
other_named nodes [] e = absurd (true≢false e)
other_named nodes (name ∷ names) e =
    by (is_some (option_and_then running_sum_at (node_named name nodes))) refl e (other_named nodes names)
  where
    by : (b : Bool) → is_some (option_and_then running_sum_at (node_named name nodes)) ≡ b
        → (b && are_sums_named nodes names) ≡ false → (are_sums_named nodes names ≡ false → OtherNamed nodes names)
        → OtherNamed nodes (name ∷ names)
    by true is e later =
        let found = later e in
        record { name = found.name; is_name = later_of name names found.name found.is_name; other = found.other }
    by false is e later = record { name = name; is_name = first_of name names; other = is }

module _ (scope : List (List ℕ)) (g : PlainGraph) (object : IsResolvedObject true scope g.nodes g.result) (sums : AreSums g) where
  -- a node that is something else
  record IsOther (n : PlainNode) : Type 0 where
    is_node : Contains (each_node g.nodes) n
    other : running_sum_at n ≡ None

  -- it refers to another one
  record RefersToOther (n : PlainNode) : Type 0 where
    next : PlainNode
    is_other : IsOther next
    refers : Contains (references_named n.arguments) next.id

  none_stands : (n : PlainNode) → IsOther n → are_sums_named g.nodes (references_named n.arguments) ≡ true → ⊥
  none_stands n o all =
      sums [] ProcessParameterInvalid (node_name (callback_name [] (codes "process")) n.id)
      (record {
        node = n;
        is_node = o.is_node;
        stands = ap (λ (s : Option Bool). is_none s && are_sums_named g.nodes (references_named n.arguments)) o.other ∙ all;
        code_is = refl;
        name_is = refl;
      })

  refers_to_other : (n : PlainNode) → IsOther n → RefersToOther n
  refers_to_other n o = by (are_sums_named g.nodes (references_named n.arguments)) refl
    where
      found : (f : OtherNamed g.nodes (references_named n.arguments)) (named : Option PlainNode) → node_named f.name g.nodes ≡ named → RefersToOther n
      found f None is = absurd (node_there g.nodes f.name ((object.each n o.is_node).names_nodes f.name f.is_name) is)
      found f (Some m) is =
          let there = node_is g.nodes f.name m is in
          record {
            next = m;
            is_other = record {
              is_node = there.0;
              other = unsaid (running_sum_at m) (sym (ap (λ (p : Option PlainNode). is_some (option_and_then running_sum_at p)) is) ∙ f.other);
            };
            refers = subst (Contains (references_named n.arguments)) (sym there.1) f.is_name;
          }
        where
          unsaid : (s : Option Bool) → is_some s ≡ false → s ≡ None
          unsaid None e = refl
          unsaid (Some ignore) e = absurd (true≢false e)

      by : (b : Bool) → are_sums_named g.nodes (references_named n.arguments) ≡ b → RefersToOther n
      by true all = absurd (none_stands n o all)
      by false e = let f = other_named g.nodes (references_named n.arguments) e in found f (node_named f.name g.nodes) refl

  -- a walk down from a node that is something else would not end
  walk : (left count : ℕ) (from : List ℕ) (n : PlainNode) → IsOther n → Chain g.nodes count from n.id → Contains (ids_of g.nodes) from
      → count + left ≡ node_count g.nodes → ⊥
  walk zero count from n o chain has all =
      let short : count < node_count g.nodes = references_end g.nodes g.result count from n.id object chain has in
      absurd (omega arith)
  walk (suc left) count from n o chain has all =
      let r = refers_to_other n o in
      walk left (suc count) from r.next r.is_other
      (Chain-end g.nodes count from n.id r.next.id chain (record { from = n; is_node = o.is_node; is_named = refl; refers = r.refers }))
      has (omega (arith, all))

  has_id : (n : PlainNode) → Contains (each_node g.nodes) n → Contains (ids_of g.nodes) n.id
  has_id n has =
      let at = index_of_node g.nodes n has in
      let there : slice_get (ids_of g.nodes) at.0 ≡ Some n.id = id_there g.nodes at.0 n at.1 in
      (at.0, slice_get_within (ids_of g.nodes) at.0 n.id there, get_or_from_slice_get (ids_of g.nodes) at.0 n.id n.id there)

  pub each_sums : (n : PlainNode) → Contains (each_node g.nodes) n → is_some (running_sum_at n) ≡ true
  each_sums n has = by (running_sum_at n) refl
    where
      by : (s : Option Bool) → running_sum_at n ≡ s → is_some s ≡ true
      by (Some ignore) e = refl
      by None e =
          absurd (walk (node_count g.nodes) 0 n.id n (record { is_node = has; other = e }) none (has_id n has) (omega arith))
