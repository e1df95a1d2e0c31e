-- The first node whose calls are at fault has the least fault of calls.
use Rattle.std.proofs.Common.{◌≡◌, ℕ, ◌+◌, ◌<◌, ◌⊎◌, inl, inr, Bool, true, false, List, [], ◌∷◌, Option, Some, None, Contains, Ordering, Less, Equal, Greater, length, map, drop, get_or, nat_cmp, refl, sym, ap, ◌∙◌, subst, true≢false, arith}
use Rattle.std.specs.Cmp.Lexicographic.{slice_cmp}
use Rattle.std.specs.Ordering.{ordering_then, is_lt}
use Rattle.std.proofs.lemmas.Cmp.{nat_list_cmp_total, tied_itself}
use Rattle.oe_dims.specs.Names.{is_name_before, names_rise}
use Rattle.oe_dims.proofs.NameOrderLemmas.{tail_rises}
use Rattle.oe_graph.specs.Codes.{phase_of, number_in_phase}
use Rattle.oe_graph.specs.Faults.{is_before, IsLeastFault}
use Rattle.oe_graph.specs.Plain.{plain_node, plain_nodes}
use Rattle.oe_graph.specs.Printed.{ids_of}
use Rattle.oe_graph.specs.References.{each_node}
use Rattle.oe_graph.specs.Tree.{PlainGraph, PlainNode, PlainStored, nodes_from_list}
use Rattle.oe_graph.specs.declared.code.Code.{Code}
use Rattle.oe_graph.specs.declared.code.Code.TheVariants.{ProcessUnsupported, ProcessRecursive}
use Rattle.oe_graph.specs.declared.fault.Fault.{Fault}
use Rattle.oe_graph.specs.declared.tree.Node.{Node}
use Rattle.oe_graph.proofs.LeastLemmas.{IsLeastFault-iff, before_not_after, not_before_itself}
use Rattle.oe_calls.specs.Faults as faults
use Rattle.oe_calls.specs.Faults.{StandsWithStored}
use Rattle.oe_calls.specs.Reached.{IsCallFault, IsCodeOf, unsupported, recursive, faultless, IsUnsupported, IsRecursive}
use Rattle.oe_calls.proofs.Along.{first_there, later_there, none_there, there_cases, map_there}
use Rattle.oe_graph.proofs.ReferenceGraphLemmas.{each_nodes}
use Rattle.oe_graph.proofs.SearchLemmas.{rises_before}

-- ---- the order of these faults

leads_by : (o p : Ordering) → is_lt o ≡ true → is_lt (ordering_then o p) ≡ true
leads_by Less p is = refl
leads_by Equal p is = absurd (true≢false (sym is))
leads_by Greater p is = absurd (true≢false (sym is))

earlier_node : (a b : Fault) → phase_of a.code ≡ 2 → phase_of b.code ≡ 2 → is_name_before a.node b.node ≡ true → is_before a b ≡ true
earlier_node a b first second is =
    let tied : nat_cmp (phase_of a.code) (phase_of b.code) ≡ Equal =
    ap (λ k. nat_cmp k (phase_of b.code)) first ∙ ap (nat_cmp 2) second in
    let rest = ordering_then (slice_cmp nat_cmp a.node b.node) (nat_cmp (number_in_phase a.code) (number_in_phase b.code)) in
    ap (λ o. is_lt (ordering_then o rest)) tied
    ∙ leads_by (slice_cmp nat_cmp a.node b.node) (nat_cmp (number_in_phase a.code) (number_in_phase b.code)) is

unsupported_before : (id : List ℕ)
    → is_before (record { code = ProcessUnsupported; node = id }) (record { code = ProcessRecursive; node = id }) ≡ true
unsupported_before id = ap (λ o. is_lt (ordering_then o Less)) (tied_itself nat_list_cmp_total id)

module _ (stored : List PlainStored) where
  pub data HasCode (n : PlainNode) : Code → Type 0 where
    is_unsupported : IsUnsupported stored n → HasCode n ProcessUnsupported
    is_recursive : IsRecursive stored n → HasCode n ProcessRecursive

  -- a fault of calls of one of these nodes
  pub record OfCalls (ns : List PlainNode) (f : Fault) : Type 0 where
    pub node : PlainNode
    pub is_node : Contains ns node
    pub at : f.node ≡ node.id
    pub has : HasCode node f.code

  phase_two : (n : PlainNode) (code : Code) → HasCode n code → phase_of code ≡ 2
  phase_two n code (is_unsupported u) = refl
  phase_two n code (is_recursive r) = refl

  no_code : (n : PlainNode) (code : Code) → IsCodeOf stored n None → HasCode n code → ⊥
  no_code n code (faultless fine ends) (is_unsupported u) = fine u
  no_code n code (faultless fine ends) (is_recursive r) = ends r

  has_code : (n : PlainNode) (code : Code) → IsCodeOf stored n (Some code) → HasCode n code
  has_code n code (unsupported u) = is_unsupported u
  has_code n code (recursive fine r) = is_recursive r

  least_code : (n : PlainNode) (code other : Code) → IsCodeOf stored n (Some code) → HasCode n other
      → is_before (record { code = other; node = n.id }) (record { code = code; node = n.id }) ≡ false
  least_code n code other (unsupported u) (is_unsupported v) = not_before_itself (record { code = ProcessUnsupported; node = n.id })
  least_code n code other (unsupported u) (is_recursive r) =
      before_not_after (record { code = ProcessUnsupported; node = n.id }) (record { code = ProcessRecursive; node = n.id })
      (unsupported_before n.id)
  least_code n code other (recursive fine q) (is_unsupported v) = absurd (fine v)
  least_code n code other (recursive fine q) (is_recursive r) = not_before_itself (record { code = ProcessRecursive; node = n.id })

  -- the fault of the first of these nodes that has one
  pub data First : List PlainNode → Option Fault → Type 0 where
    at_end : First [] None
    skip : {n : PlainNode} {ns : List PlainNode} {o : Option Fault} → IsCodeOf stored n None → First ns o → First (n ∷ ns) o
    here : {n : PlainNode} {ns : List PlainNode} {code : Code} → IsCodeOf stored n (Some code)
        → First (n ∷ ns) (Some (record { code = code; node = n.id }))

  abbrev id_of : PlainNode → List ℕ
  id_of n = n.id

  further : (n : PlainNode) (ns : List PlainNode) (f : Fault) → OfCalls ns f → OfCalls (n ∷ ns) f
  further n ns f c = record { node = c.node; is_node = later_there n ns c.node c.is_node; at = c.at; has = c.has }

  later_only : (n : PlainNode) (ns : List PlainNode) (f : Fault) → IsCodeOf stored n None → OfCalls (n ∷ ns) f → OfCalls ns f
  later_only n ns f fine c = elim (there_cases n ns c.node c.is_node) [
    | inl same ↦ absurd (no_code n f.code fine (subst (λ (m : PlainNode). HasCode m f.code) (sym same) c.has))
    | inr later ↦ record { node = c.node; is_node = later; at = c.at; has = c.has }
  ]

  pub first_least : (ns : List PlainNode) (o : Option Fault) → names_rise (map (λ (n : PlainNode). n.id) ns) ≡ true → First ns o
      → IsLeastFault (OfCalls ns) o
  first_least ns o rise at_end = λ f c. none_there c.node c.is_node
  first_least ns o rise (skip {n = n} {ns = ms} fine rest) =
      IsLeastFault-iff (OfCalls ms) (OfCalls (n ∷ ms)) o (further n ms) (λ f c. later_only n ms f fine c)
      (first_least ms o (tail_rises n.id (map (λ (m : PlainNode). m.id) ms) rise) rest)
  first_least ns o rise (here {n = n} {ns = ms} {code = code} is) = (
    record { node = n; is_node = first_there n ms; at = refl; has = has_code n code is },
    λ f c. elim (there_cases n ms c.node c.is_node) [
      | inl same ↦
          let id : f.node ≡ n.id = c.at ∙ ap (λ (m : PlainNode). m.id) (sym same) in
          subst (λ xs. is_before (record { code = f.code; node = xs }) (record { code = code; node = n.id }) ≡ false) (sym id)
          (least_code n code f.code is (subst (λ (m : PlainNode). HasCode m f.code) (sym same) c.has))
      | inr later ↦
          let before : is_name_before n.id c.node.id ≡ true =
          rises_before n.id (map (λ (m : PlainNode). m.id) ms) c.node.id rise (map_there (λ (m : PlainNode). m.id) ms c.node later) in
          before_not_after (record { code = code; node = n.id }) f
          (earlier_node (record { code = code; node = n.id }) f (phase_two n code (has_code n code is))
          (phase_two c.node f.code c.has) (subst (λ xs. is_name_before n.id xs ≡ true) (sym c.at) before))
    ],
  )

  module _ (g : PlainGraph) where
    call_of : (code : Code) (at : List ℕ) → StandsWithStored stored g code at → phase_of code ≡ 2
        → OfCalls (each_node g.nodes) (record { code = code; node = at })
    call_of code at (faults.process_unsupported {n = n} {m = m} {in_callback = b} has brings stands) phase = record {
      node = n;
      is_node = has;
      at = refl;
      has = is_unsupported (record { in_callback = b; brought = m; brings = brings; stands_not = stands });
    }
    call_of code at (faults.process_recursive {n = n} {s = s} has reach reaches) phase = record {
      node = n;
      is_node = has;
      at = refl;
      has = is_recursive (record { reached = s; calls_reach = reach; recurs = reaches });
    }
    call_of code at (faults.graph_too_large more) phase = absurd (omega arith)
    call_of code at (faults.callback_too_large has brings written more) phase = absurd (omega arith)
    call_of code at (faults.argument_unknown times h same there absent) phase = absurd (omega arith)
    call_of code at (faults.process_parameter_missing times h same there default optional absent) phase = absurd (omega arith)
    call_of code at (faults.parameter_unknown h there absent) phase = absurd (omega arith)
    call_of code at (faults.node_unknown times h there absent) phase = absurd (omega arith)
    call_of code at (faults.graph_cycle h leads) phase = absurd (omega arith)

    stands_by : (n : PlainNode) (code : Code) → Contains (each_node g.nodes) n → HasCode n code → StandsWithStored stored g code n.id
    stands_by n code is_node (is_unsupported u) = faults.process_unsupported is_node u.brings u.stands_not
    stands_by n code is_node (is_recursive r) = faults.process_recursive is_node r.calls_reach r.recurs

    fault_of : (f : Fault) → OfCalls (each_node g.nodes) f → IsCallFault stored g f
    fault_of f c = (
      phase_two c.node f.code c.has,
      subst (λ xs. StandsWithStored stored g f.code xs) (sym c.at) (stands_by c.node f.code c.is_node c.has),
    )

    pub call_least : (o : Option Fault) → IsLeastFault (OfCalls (each_node g.nodes)) o → IsLeastFault (IsCallFault stored g) o
    call_least o is =
        IsLeastFault-iff (OfCalls (each_node g.nodes)) (IsCallFault stored g) o fault_of
        (λ f c. call_of f.code f.node c.1 c.0) is

pub ids_are : (ns : List PlainNode) → ids_of (nodes_from_list ns) ≡ map (λ (n : PlainNode). n.id) ns
ids_are [] = refl
ids_are (n ∷ ns) = ap (λ xs. n.id ∷ xs) (ids_are ns)

pub first_call : (stored : List PlainStored) (g : PlainGraph) (ns : List Node) (o : Option Fault) → g.nodes ≡ plain_nodes ns
    → names_rise (ids_of g.nodes) ≡ true → First stored (map plain_node ns) o → IsLeastFault (IsCallFault stored g) o
first_call stored g ns o is rise first =
    let each : each_node g.nodes ≡ map plain_node ns = ap each_node is ∙ each_nodes (map plain_node ns) in
    call_least stored g o (subst (λ (ms : List PlainNode). IsLeastFault (OfCalls stored ms) o) (sym each)
    (first_least stored (map plain_node ns) o
    (sym (ap names_rise (ap ids_of is ∙ ids_are (map plain_node ns))) ∙ rise) first))
