-- Where faults stand in bytes and in values, beside what the pass over the graph finds.
use Rattle.std.proofs.Common.{◌≡◌, ◌≢◌, inl, inr, ℕ, ◌<◌, ◌≤◌, List, [], ◌∷◌, length, codes, Bool, true, false, if◌then◌else◌, Option, Some, None, is_some, Result, Ok, Err, IfErr, IsErrAnd, refl, sym, ap, ◌∙◌, subst, true≢false, arith, IsUtf8}
use Rattle.serde_json.specs.Data.{Data, null, boolean, number, string, array, object, Members, depth}
use Rattle.serde_json.specs.Find.{as_object}
use Rattle.serde_json.specs.Read.{max_depth, read}
use Rattle.oe_graph.specs.Faults.{least, IsLeast, is_before, IsLeastFault}
use Rattle.oe_graph.specs.Form as form
use Rattle.oe_graph.specs.Form.{nodes_in, is_absent_or, IsNamedWithin, IsGraphObject, IsReading, StandsIn, Stands, most_input}
use Rattle.oe_graph.specs.Parameters.{are_parameters, StandsStored, of_graph, parameters_invalid}
use Rattle.oe_graph.specs.Walked.{fault_at, graph_fault, parameters_fault}
use Rattle.oe_graph.specs.declared.code.Code.{Code}
use Rattle.oe_graph.specs.declared.code.Code.TheVariants.{InputTooLong, GraphUnreadable, ProcessGraphMissing, NodeInvalid, ResultNodeCount, ParametersInvalid}
use Rattle.oe_graph.specs.declared.fault.Fault.{Fault}
use Rattle.oe_graph.specs.declared.fault.Refusal.{Refusal}
use Rattle.oe_graph.specs.declared.fault.Refusal.TheVariants as refusal
use Rattle.oe_graph.specs.Read.{IsFault, PrecedesParameters}
use Rattle.oe_graph.proofs.LeastLemmas.{IsLeastFault-iff, IsLeastFault-least, Either, not_before_itself, to_least}
use Rattle.oe_graph.proofs.WalkLemmas.{at_code, Local, id_invalid, node_invalid, miscounted, FaultIn, same_members, graph_least}

-- ---- in a value

pub some_is : (o : Option Members) → is_some o ≡ true → o ≢ None
some_is None is = absurd (true≢false (sym is))
some_is (Some ms) is = λ none. absurd cc

pub none_is : (o : Option Members) → is_some o ≡ false → o ≡ None
none_is None is = refl
none_is (Some ms) is = absurd (true≢false is)

is_object : (d : Data) (ms : Members) → nodes_in d ≡ Some ms → as_object d ≢ None
is_object null ms is = absurd cc
is_object (boolean b) ms is = absurd cc
is_object (number n) ms is = absurd cc
is_object (string s) ms is = absurd cc
is_object (array ds) ms is = absurd cc
is_object (object ns) ms is = λ none. absurd cc

local_stands : (d : Data) (nodes : Members) (name : List ℕ) → IsGraphObject d nodes name → (f : Fault) → Local nodes name f
    → StandsIn d f.code f.node
local_stands d nodes name g f (id_invalid m is) = form.node_id_invalid g m is
local_stands d nodes name g f (node_invalid m valid is) = form.node_invalid g m valid is
local_stands d nodes name g f (miscounted other) = form.result_node_count g other

value_into : (d : Data) (main : Members) → nodes_in d ≡ Some main → (f : Fault) → FaultIn main [] f → StandsIn d f.code f.node
value_into d main is f i =
    local_stands d i.nodes i.name (record { main = main; is_main = is; within = i.within }) f i.local

in_main : (d : Data) (main : Members) → nodes_in d ≡ Some main → (nodes : Members) (name : List ℕ) (f : Fault)
    → IsGraphObject d nodes name → Local nodes name f → FaultIn main [] f
in_main d main is nodes name f g local = record {
  nodes = nodes;
  name = name;
  within = subst (λ ms. IsNamedWithin nodes name ms []) (same_members g.main main (nodes_in d) g.is_main is) g.within;
  local = local;
}

value_out : (d : Data) (main : Members) → nodes_in d ≡ Some main → (code : Code) (node : List ℕ) → StandsIn d code node
    → FaultIn main [] (at_code code node)
value_out d main is code node (form.graph_unreadable none) = absurd (is_object d main is none)
value_out d main is code node (form.process_graph_missing none) = let both : None ≡ Some main = sym none ∙ is in absurd cc
value_out d main is code node (form.node_id_invalid g m fails) = in_main d main is _ _ _ g (id_invalid m fails)
value_out d main is code node (form.node_invalid g m valid fails) = in_main d main is _ _ _ g (node_invalid m valid fails)
value_out d main is code node (form.result_node_count g other) = in_main d main is _ _ _ g (miscounted other)

-- of a value with a graph, what the pass finds
pub value_least : (d : Data) (main : Members) → nodes_in d ≡ Some main
    → IsLeastFault (λ f. StandsIn d f.code f.node) (graph_fault [] main)
value_least d main is =
    IsLeastFault-iff (FaultIn main []) (λ f. StandsIn d f.code f.node) (graph_fault [] main)
    (value_into d main is) (λ f s. value_out d main is f.code f.node s) (graph_least main [])

pub value_refused : (d : Data) (main : Members) → nodes_in d ≡ Some main → (f : Fault) → Some f ≡ graph_fault [] main
    → IsLeast (StandsIn d) f
value_refused d main is f found =
    to_least (StandsIn d) f (subst (IsLeastFault (λ f. StandsIn d f.code f.node)) (sym found) (value_least d main is))

pub value_valid : (d : Data) (main : Members) → nodes_in d ≡ Some main → None ≡ graph_fault [] main
    → (code : Code) (node : List ℕ) → ¬ StandsIn d code node
value_valid d main is found code node =
    subst (IsLeastFault (λ f. StandsIn d f.code f.node)) (sym found) (value_least d main is) (at_code code node)

missing_only : (d : Data) → nodes_in d ≡ None → as_object d ≢ None → (code : Code) (node : List ℕ) → StandsIn d code node
    → is_before (at_code code node) (at_code ProcessGraphMissing []) ≡ false
missing_only d none is code node (form.graph_unreadable fails) = absurd (is fails)
missing_only d none is code node (form.process_graph_missing _) = not_before_itself (at_code ProcessGraphMissing [])
missing_only d none is code node (form.node_id_invalid g m fails) = let both : None ≡ Some g.main = sym none ∙ g.is_main in absurd cc
missing_only d none is code node (form.node_invalid g m valid fails) = let both : None ≡ Some g.main = sym none ∙ g.is_main in absurd cc
missing_only d none is code node (form.result_node_count g other) = let both : None ≡ Some g.main = sym none ∙ g.is_main in absurd cc

-- of an object without a graph
pub missing_least : (d : Data) → nodes_in d ≡ None → as_object d ≢ None → IsLeast (StandsIn d) (at_code ProcessGraphMissing [])
missing_least d none is =
    record { stands = form.process_graph_missing none; least = λ g s. missing_only d none is g.code g.node s }

unreadable_only : (d : Data) → as_object d ≡ None → (code : Code) (node : List ℕ) → StandsIn d code node
    → is_before (at_code code node) (at_code GraphUnreadable []) ≡ false
unreadable_only d none code node (form.graph_unreadable _) = not_before_itself (at_code GraphUnreadable [])
unreadable_only d none code node (form.process_graph_missing _) = refl
unreadable_only d none code node (form.node_id_invalid g m fails) = absurd (is_object d g.main g.is_main none)
unreadable_only d none code node (form.node_invalid g m valid fails) = absurd (is_object d g.main g.is_main none)
unreadable_only d none code node (form.result_node_count g other) = absurd (is_object d g.main g.is_main none)

-- of a value that is no object
pub unreadable_least : (d : Data) → as_object d ≡ None → IsLeast (StandsIn d) (at_code GraphUnreadable [])
unreadable_least d none =
    record { stands = form.graph_unreadable none; least = λ g s. unreadable_only d none g.code g.node s }

-- ---- in bytes

pub same_value : (bytes : List ℕ) (d e : Data) → IsReading bytes d → IsReading bytes e → d ≡ e
same_value bytes d e a b = let both : Some d ≡ Some e = sym a.value ∙ b.value in cc

stands_out : (bytes : List ℕ) (d : Data) → IsReading bytes d → length bytes ≤ most_input
    → (code : Code) (node : List ℕ) → Stands bytes code node → StandsIn d code node
stands_out bytes d r fits code node (form.input_too_long long) = absurd (omega arith)
stands_out bytes d r fits code node (form.graph_unreadable fails) = absurd (fails d r)
stands_out bytes d r fits code node (form.of_value e s) = subst (λ x. StandsIn x code node) (same_value bytes _ d e r) s

-- of bytes that were read, those of the value
pub bytes_least : (bytes : List ℕ) (d : Data) → IsReading bytes d → length bytes ≤ most_input
    → (f : Fault) → IsLeast (StandsIn d) f → IsLeast (Stands bytes) f
bytes_least bytes d r fits f is = record {
  stands = form.of_value r is.stands;
  least = λ g s. is.least g (stands_out bytes d r fits g.code g.node s);
}

pub refused_by : (bytes : List ℕ) (d : Data) → IsReading bytes d → length bytes ≤ most_input
    → (r : Refusal) → IsFault (StandsIn d) r → IsFault (Stands bytes) r
refused_by bytes d is fits (refusal.Fault f) fault = bytes_least bytes d is fits f fault
refused_by bytes d is fits refusal.OutOfMemory fault = tt

pub bytes_refused : {X : Type 0} (bytes : List ℕ) (d : Data) → IsReading bytes d → length bytes ≤ most_input
    → (o : Result X Refusal) → IfErr o (IsFault (StandsIn d)) → IfErr o (IsFault (Stands bytes))
bytes_refused bytes d is fits (Ok x) refused = tt
bytes_refused bytes d is fits (Err r) refused = refused_by bytes d is fits r refused

pub bytes_valid : (bytes : List ℕ) (d : Data) → IsReading bytes d → length bytes ≤ most_input
    → ((code : Code) (node : List ℕ) → ¬ StandsIn d code node) → (code : Code) (node : List ℕ) → ¬ Stands bytes code node
bytes_valid bytes d r fits valid code node s = valid code node (stands_out bytes d r fits code node s)

node_after : (name : List ℕ) → is_before (at_code NodeInvalid name) (at_code InputTooLong []) ≡ false
node_after [] = refl
node_after (b ∷ name) = refl

count_after : (name : List ℕ) → is_before (at_code ResultNodeCount name) (at_code InputTooLong []) ≡ false
count_after [] = refl
count_after (b ∷ name) = refl

value_after : (d : Data) (code : Code) (node : List ℕ) → StandsIn d code node
    → is_before (at_code code node) (at_code InputTooLong []) ≡ false
value_after d code node (form.graph_unreadable _) = refl
value_after d code node (form.process_graph_missing _) = refl
value_after d code node (form.node_id_invalid g m fails) = node_after node
value_after d code node (form.node_invalid g m valid fails) = node_after node
value_after d code node (form.result_node_count g other) = count_after node

long_only : (bytes : List ℕ) (code : Code) (node : List ℕ) → Stands bytes code node
    → is_before (at_code code node) (at_code InputTooLong []) ≡ false
long_only bytes code node (form.input_too_long _) = not_before_itself (at_code InputTooLong [])
long_only bytes code node (form.graph_unreadable _) = refl
long_only bytes code node (form.of_value {d} r s) = value_after d code node s

-- of too many bytes
pub long_least : (bytes : List ℕ) → most_input < length bytes → IsLeast (Stands bytes) (at_code InputTooLong [])
long_least bytes long = record { stands = form.input_too_long long; least = λ g s. long_only bytes g.code g.node s }

text_only : (bytes : List ℕ) → length bytes ≤ most_input → ((d : Data) → ¬ IsReading bytes d) → (code : Code) (node : List ℕ)
    → Stands bytes code node → is_before (at_code code node) (at_code GraphUnreadable []) ≡ false
text_only bytes fits fails code node (form.input_too_long long) = absurd (omega arith)
text_only bytes fits fails code node (form.graph_unreadable _) = not_before_itself (at_code GraphUnreadable [])
text_only bytes fits fails code node (form.of_value {d} r s) = absurd (fails d r)

-- of bytes that are no JSON
pub text_least : (bytes : List ℕ) → length bytes ≤ most_input → ((d : Data) → ¬ IsReading bytes d)
    → IsLeast (Stands bytes) (at_code GraphUnreadable [])
text_least bytes fits fails = record { stands = form.graph_unreadable fails; least = λ g s. text_only bytes fits fails g.code g.node s }

-- ---- in a stored process

stored_only : (bytes : List ℕ) (f : Fault) → IsLeast (Stands bytes) f → is_before (at_code ParametersInvalid []) f ≡ false
    → (code : Code) (node : List ℕ) → StandsStored bytes code node → is_before (at_code code node) f ≡ false
stored_only bytes f is first code node (of_graph s) = is.least (at_code code node) s
stored_only bytes f is first code node (parameters_invalid r fails) = first

-- of a fault that comes before one of the parameters
pub stored_first : (bytes : List ℕ) (f : Fault) → IsLeast (Stands bytes) f → is_before (at_code ParametersInvalid []) f ≡ false
    → IsLeast (StandsStored bytes) f
stored_first bytes f is first =
    record { stands = of_graph is.stands; least = λ g s. stored_only bytes f is first g.code g.node s }

-- the fault of the parameters alone
data Wrong (d : Data) : Fault → Type 0 where
  wrong : is_absent_or are_parameters (codes "parameters") d ≡ false → Wrong d (at_code ParametersInvalid [])

no_less_wrong : (d : Data) (f : Fault) → Wrong d f → is_before f (at_code ParametersInvalid []) ≡ false
no_less_wrong d f (wrong _) = not_before_itself (at_code ParametersInvalid [])

not_wrong : (d : Data) → is_absent_or are_parameters (codes "parameters") d ≡ true → (f : Fault) → ¬ Wrong d f
not_wrong d is f (wrong fails) = absurd (true≢false (sym is ∙ fails))

wrong_by : (d : Data) (fits : Bool) → is_absent_or are_parameters (codes "parameters") d ≡ fits
    → IsLeastFault (Wrong d) (if fits then None else fault_at ParametersInvalid [])
wrong_by d true is = not_wrong d is
wrong_by d false is = (wrong is, no_less_wrong d)

wrong_least : (d : Data) → IsLeastFault (Wrong d) (parameters_fault d)
wrong_least d = wrong_by d (is_absent_or are_parameters (codes "parameters") d) refl

-- a refusal of the graph alone, where none of the parameters can come before it
pub stored_refused : (bytes : List ℕ) (r : Refusal) → IsFault (Stands bytes) r → PrecedesParameters r
    → IsFault (StandsStored bytes) r
stored_refused bytes (refusal.Fault f) fault first = stored_first bytes f fault first
stored_refused bytes refusal.OutOfMemory fault first = tt

-- what `?` hands on is what was refused
pub handed_on : {X : Type 0} (P : Refusal → Type 0) (r : Refusal) (o : Result X Refusal)
    → IsErrAnd o (λ e. e ≡ r) → P r → IfErr o P
handed_on P r (Ok x) is p = tt
handed_on P r (Err e) is p = subst P (sym is) p

module _ (bytes : List ℕ) (d : Data) (r : IsReading bytes d) (small : length bytes ≤ most_input) where
  stored_into : (f : Fault) → Either (λ f. StandsIn d f.code f.node) (Wrong d) f → StandsStored bytes f.code f.node
  stored_into f (inl s) = of_graph (form.of_value r s)
  stored_into f (inr (wrong fails)) = parameters_invalid r fails

  stored_out : (code : Code) (node : List ℕ) → StandsStored bytes code node
      → Either (λ f. StandsIn d f.code f.node) (Wrong d) (at_code code node)
  stored_out code node (of_graph s) = inl (stands_out bytes d r small code node s)
  stored_out code node (parameters_invalid {d = e} q fails) =
      inr (wrong (subst (λ x. is_absent_or are_parameters (codes "parameters") x ≡ false) (same_value bytes e d q r) fails))

  both_least : (main : Members) → nodes_in d ≡ Some main
      → IsLeastFault (λ f. StandsStored bytes f.code f.node) (least (graph_fault [] main) (parameters_fault d))
  both_least main is =
      IsLeastFault-iff (Either (λ f. StandsIn d f.code f.node) (Wrong d)) (λ f. StandsStored bytes f.code f.node)
      (least (graph_fault [] main) (parameters_fault d)) stored_into (λ f s. stored_out f.code f.node s)
      (IsLeastFault-least (λ f. StandsIn d f.code f.node) (Wrong d) (graph_fault [] main) (parameters_fault d)
      (value_least d main is) (wrong_least d))

  -- of a value with a graph, the lesser one of the graph's and of the parameters'
  pub stored_least : (main : Members) → nodes_in d ≡ Some main → (f : Fault)
      → Some f ≡ least (graph_fault [] main) (parameters_fault d) → IsLeast (StandsStored bytes) f
  stored_least main is f found =
      to_least (StandsStored bytes) f (subst (IsLeastFault (λ f. StandsStored bytes f.code f.node)) (sym found) (both_least main is))

  pub stored_valid : (main : Members) → nodes_in d ≡ Some main → None ≡ least (graph_fault [] main) (parameters_fault d)
      → (code : Code) (node : List ℕ) → ¬ StandsStored bytes code node
  stored_valid main is found code node =
      subst (IsLeastFault (λ f. StandsStored bytes f.code f.node)) (sym found) (both_least main is) (at_code code node)

pub reading_of : (d e : Data) (text s : List ℕ) → text ≡ s → IsUtf8 s → d ≡ e → (depth d ≤ max_depth → read s ≡ Some d)
    → depth e ≤ max_depth → IsReading text e
reading_of d e text s is utf8 same back deep = record {
  utf8 = subst IsUtf8 (sym is) utf8;
  value = ap read is ∙ (back (subst (λ x. depth x ≤ max_depth) (sym same) deep) ∙ ap Some same);
}
