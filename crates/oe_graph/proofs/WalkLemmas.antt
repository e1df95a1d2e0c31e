-- The one pass over a graph finds the least of the faults that stand in it.
use Rattle.std.proofs.Common.{◌≡◌, ◌≢◌, ◌⊎◌, inl, inr, ℕ, zero, suc, max, ◌+◌, ◌≤◌, ◌==◌, List, [], ◌∷◌, codes, Bool, true, false, if◌then◌else◌, Option, Some, None, option_and_then, refl, sym, ap, ◌∙◌, subst, true≢false, arith, eqb-true, eq-eqb}
use Rattle.serde_json.specs.Data.{Data, Members, no_members, member, depth, members_depth}
use Rattle.oe_dims.specs.Names.{is_name}
use Rattle.oe_graph.specs.Faults.{least, IsLeast, is_before, IsLeastFault}
use Rattle.oe_graph.specs.Form.{is_node, arguments_in, nodes_in, result_count, node_name, callback_name, IsMember, first, later, IsNamedWithin, itself, in_callback}
use Rattle.oe_graph.specs.Walked.{fault_at, count_fault, own_fault, node_fault, nodes_fault, inside_fault, callbacks_fault, callback_fault, graph_fault}
use Rattle.oe_graph.specs.declared.code.Code.{Code}
use Rattle.oe_graph.specs.declared.code.Code.TheVariants.{NodeInvalid, ResultNodeCount}
use Rattle.oe_graph.specs.declared.fault.Fault.{Fault}
use Rattle.oe_graph.proofs.Depths.{inner_depth, member_depth_of}
use Rattle.oe_graph.proofs.Finds.{inside_with, inside_without, callback_with, callback_without}
use Rattle.oe_graph.proofs.LeastLemmas.{IsLeastFault-iff, IsLeastFault-least, Either, not_before_itself}

abbrev pub at_code : Code → List ℕ → Fault
at_code code node = record { code = code; node = node }

-- ---- where the faults of a graph object stand

-- a fault of a graph object by itself
pub data Local (nodes : Members) (name : List ℕ) : Fault → Type 0 where
  id_invalid : {id : List ℕ} {d : Data} → IsMember id d nodes → is_name id ≡ false → Local nodes name (at_code NodeInvalid name)
  node_invalid : {id : List ℕ} {d : Data} → IsMember id d nodes → is_name id ≡ true → is_node d ≡ false
      → Local nodes name (at_code NodeInvalid (node_name name id))
  miscounted : result_count nodes ≢ 1 → Local nodes name (at_code ResultNodeCount name)

-- a fault of a graph object, or of a callback within it
pub record FaultIn (outer : Members) (at : List ℕ) (f : Fault) : Type 0 where
  pub nodes : Members
  pub name : List ℕ
  pub within : IsNamedWithin nodes name outer at
  pub local : Local nodes name f

-- a fault that one of the members of an object has
pub record Among (Of : List ℕ → Data → Fault → Type 0) (ms : Members) (f : Fault) : Type 0 where
  pub name : List ℕ
  pub value : Data
  pub is_member : IsMember name value ms
  pub has : Of name value f

-- a fault in an argument of a node that is a callback
pub record OfCallback (name a : List ℕ) (value : Data) (f : Fault) : Type 0 where
  pub inner : Members
  pub is_callback : nodes_in value ≡ Some inner
  pub inside : FaultIn inner (callback_name name a) f

-- a fault in the arguments of a node
pub record OfArguments (name : List ℕ) (d : Data) (f : Fault) : Type 0 where
  pub arguments : Members
  pub is_arguments : arguments_in d ≡ Some arguments
  pub among : Among (OfCallback name) arguments f

data Own (name : List ℕ) (d : Data) : Fault → Type 0 where
  own : is_node d ≡ false → Own name d (at_code NodeInvalid name)

-- a fault of a node
data OfNode (at id : List ℕ) (d : Data) : Fault → Type 0 where
  of_id : is_name id ≡ false → OfNode at id d (at_code NodeInvalid at)
  by_itself : {f : Fault} → is_name id ≡ true → Own (node_name at id) d f → OfNode at id d f
  inside : {f : Fault} → is_name id ≡ true → OfArguments (node_name at id) d f → OfNode at id d f

data Miscount (nodes : Members) (name : List ℕ) : Fault → Type 0 where
  miscount : result_count nodes ≢ 1 → Miscount nodes name (at_code ResultNodeCount name)

-- ---- a pass over members, which hands the least fault found along

no_member : {k : List ℕ} {d : Data} → IsMember k d no_members → ⊥
no_member m = elim m [ ]

one_or_rest : (Of : List ℕ → Data → Fault → Type 0) (j k : List ℕ) (e d : Data) (rest : Members) (f : Fault)
    → IsMember j e (member k d rest) → Of j e f → Of k d f ⊎ Among Of rest f
one_or_rest Of j k e d rest f first has = inl has
one_or_rest Of j k e d rest f (later m) has = inr (record { name = j; value = e; is_member = m; has = has })

into : (Of : List ℕ → Data → Fault → Type 0) (P : Fault → Type 0) (k : List ℕ) (d : Data) (rest : Members) (f : Fault)
    → Either (Either P (Of k d)) (Among Of rest) f → Either P (Among Of (member k d rest)) f
into Of P k d rest f (inl (inl p)) = inl p
into Of P k d rest f (inl (inr has)) = inr (record { name = k; value = d; is_member = first; has = has })
into Of P k d rest f (inr a) = inr (record { name = a.name; value = a.value; is_member = later a.is_member; has = a.has })

regroup : (Of : List ℕ → Data → Fault → Type 0) (P : Fault → Type 0) (k : List ℕ) (d : Data) (rest : Members) (f : Fault)
    → Of k d f ⊎ Among Of rest f → Either (Either P (Of k d)) (Among Of rest) f
regroup Of P k d rest f (inl has) = inl (inr has)
regroup Of P k d rest f (inr a) = inr a

out_of : (Of : List ℕ → Data → Fault → Type 0) (P : Fault → Type 0) (k : List ℕ) (d : Data) (rest : Members) (f : Fault)
    → Either P (Among Of (member k d rest)) f → Either (Either P (Of k d)) (Among Of rest) f
out_of Of P k d rest f (inl p) = inl (inl p)
out_of Of P k d rest f (inr a) = regroup Of P k d rest f (one_or_rest Of a.name k a.value d rest f a.is_member a.has)

module _ (Of : List ℕ → Data → Fault → Type 0) (step : List ℕ → Data → Option Fault)
    (pass : Option Fault → Members → Option Fault)
    (pass_none : (found : Option Fault) → pass found no_members ≡ found)
    (pass_more : (found : Option Fault) (k : List ℕ) (d : Data) (rest : Members)
    → pass found (member k d rest) ≡ pass (least found (step k d)) rest) where
  pub pass_least : (ms : Members) (P : Fault → Type 0) (found : Option Fault)
      → ((k : List ℕ) (d : Data) → IsMember k d ms → IsLeastFault (Of k d) (step k d))
      → IsLeastFault P found → IsLeastFault (Either P (Among Of ms)) (pass found ms)
  pass_least no_members P found each is =
      subst (IsLeastFault (Either P (Among Of no_members))) (sym (pass_none found))
      (IsLeastFault-iff P (Either P (Among Of no_members)) found (λ f p. inl p)
      (λ f e. elim e [ inl p ↦ p | inr a ↦ absurd (no_member a.is_member) ]) is)
  pass_least (member k d rest) P found each is =
      subst (IsLeastFault (Either P (Among Of (member k d rest)))) (sym (pass_more found k d rest))
      (IsLeastFault-iff (Either (Either P (Of k d)) (Among Of rest)) (Either P (Among Of (member k d rest)))
      (pass (least found (step k d)) rest)
      (into Of P k d rest) (out_of Of P k d rest)
      (pass_least rest (Either P (Of k d)) (least found (step k d)) (λ j e m. each j e (later m))
      (IsLeastFault-least P (Of k d) found (step k d) is (each k d first))))

-- ---- one node, where the faults of the graph objects in it are known

-- the least fault of a graph object is the one that the pass finds
abbrev IsFound : Members → List ℕ → Type 0
IsFound nodes at = IsLeastFault (FaultIn nodes at) (graph_fault at nodes)

pub same_members : (ms ns : Members) (o : Option Members) → o ≡ Some ms → o ≡ Some ns → ms ≡ ns
same_members ms ns o a b = let both : Some ms ≡ Some ns = sym a ∙ b in cc

callback_by : (name a : List ℕ) (value : Data) (o : Option Members) → nodes_in value ≡ o
    → ((inner : Members) → nodes_in value ≡ Some inner → IsFound inner (callback_name name a))
    → IsLeastFault (OfCallback name a value) (callback_fault (callback_name name a) value)
callback_by name a value None is found =
    subst (IsLeastFault (OfCallback name a value)) (callback_without (callback_name name a) value (sym is))
    (λ f c. let both : None ≡ Some c.inner = sym is ∙ c.is_callback in absurd cc)
callback_by name a value (Some inner) is found =
    subst (IsLeastFault (OfCallback name a value)) (callback_with (callback_name name a) value inner (sym is))
    (IsLeastFault-iff (FaultIn inner (callback_name name a)) (OfCallback name a value) (graph_fault (callback_name name a) inner)
    (λ f inside. record { inner = inner; is_callback = is; inside = inside })
    (λ f c. subst (λ ms. FaultIn ms (callback_name name a) f) (same_members c.inner inner (nodes_in value) c.is_callback is) c.inside)
    (found inner is))

callbacks_least : (name : List ℕ) (ms : Members)
    → ((a : List ℕ) (value : Data) → IsMember a value ms → (inner : Members) → nodes_in value ≡ Some inner
    → IsFound inner (callback_name name a))
    → IsLeastFault (Among (OfCallback name) ms) (callbacks_fault name None ms)
callbacks_least name ms found =
    IsLeastFault-iff (Either (λ f. ⊥) (Among (OfCallback name) ms)) (Among (OfCallback name) ms) (callbacks_fault name None ms)
    (λ f e. elim e [ inl none ↦ absurd none | inr a ↦ a ]) (λ f a. inr a)
    (pass_least (OfCallback name) (λ a value. callback_fault (callback_name name a) value) (callbacks_fault name)
    (λ o. refl) (λ o k d rest. refl) ms (λ f. ⊥) None
    (λ a value m. callback_by name a value (nodes_in value) refl (found a value m)) (λ f none. none))

arguments_by : (name : List ℕ) (d : Data) (o : Option Members) → arguments_in d ≡ o
    → ((ms : Members) → arguments_in d ≡ Some ms → IsLeastFault (Among (OfCallback name) ms) (callbacks_fault name None ms))
    → IsLeastFault (OfArguments name d) (inside_fault name d)
arguments_by name d None is found =
    subst (IsLeastFault (OfArguments name d)) (inside_without name d (sym is))
    (λ f c. let both : None ≡ Some c.arguments = sym is ∙ c.is_arguments in absurd cc)
arguments_by name d (Some ms) is found =
    subst (IsLeastFault (OfArguments name d)) (inside_with name d ms (sym is))
    (IsLeastFault-iff (Among (OfCallback name) ms) (OfArguments name d) (callbacks_fault name None ms)
    (λ f among. record { arguments = ms; is_arguments = is; among = among })
    (λ f c. subst (λ ns. Among (OfCallback name) ns f) (same_members c.arguments ms (arguments_in d) c.is_arguments is) c.among)
    (found ms is))

not_own : (name : List ℕ) (d : Data) → is_node d ≡ true → (f : Fault) → ¬ Own name d f
not_own name d is f (own not_node) = absurd (true≢false (sym is ∙ not_node))

no_less_own : (name : List ℕ) (d : Data) (f : Fault) → Own name d f → is_before f (at_code NodeInvalid name) ≡ false
no_less_own name d f (own is) = not_before_itself (at_code NodeInvalid name)

own_by : (name : List ℕ) (d : Data) (b : Bool) → is_node d ≡ b
    → IsLeastFault (Own name d) (if b then None else fault_at NodeInvalid name)
own_by name d true is = not_own name d is
own_by name d false is = (own is, no_less_own name d)

node_into : (at id : List ℕ) (d : Data) → is_name id ≡ true → (f : Fault)
    → Either (Own (node_name at id) d) (OfArguments (node_name at id) d) f → OfNode at id d f
node_into at id d valid f (inl o) = by_itself valid o
node_into at id d valid f (inr o) = inside valid o

node_out : (at id : List ℕ) (d : Data) → is_name id ≡ true → (f : Fault)
    → OfNode at id d f → Either (Own (node_name at id) d) (OfArguments (node_name at id) d) f
node_out at id d valid f (of_id is) = absurd (true≢false (sym valid ∙ is))
node_out at id d valid f (by_itself _ o) = inl o
node_out at id d valid f (inside _ o) = inr o

no_less_id : (at id : List ℕ) (d : Data) → is_name id ≡ false → (f : Fault) → OfNode at id d f
    → is_before f (at_code NodeInvalid at) ≡ false
no_less_id at id d is f (of_id _) = not_before_itself (at_code NodeInvalid at)
no_less_id at id d is f (by_itself valid o) = absurd (true≢false (sym valid ∙ is))
no_less_id at id d is f (inside valid o) = absurd (true≢false (sym valid ∙ is))

node_by : (at id : List ℕ) (d : Data) (b : Bool) → is_name id ≡ b
    → IsLeastFault (OfArguments (node_name at id) d) (inside_fault (node_name at id) d)
    → IsLeastFault (OfNode at id d)
    (if b then least (own_fault (node_name at id) d) (inside_fault (node_name at id) d) else fault_at NodeInvalid at)
node_by at id d true is inner =
    IsLeastFault-iff (Either (Own (node_name at id) d) (OfArguments (node_name at id) d)) (OfNode at id d)
    (least (own_fault (node_name at id) d) (inside_fault (node_name at id) d))
    (node_into at id d is) (node_out at id d is)
    (IsLeastFault-least (Own (node_name at id) d) (OfArguments (node_name at id) d) (own_fault (node_name at id) d)
    (inside_fault (node_name at id) d) (own_by (node_name at id) d (is_node d) refl) inner)
node_by at id d false is inner = (of_id is, no_less_id at id d is)

-- ---- a graph object

not_miscounted : (nodes : Members) (at : List ℕ) → result_count nodes ≡ 1 → (f : Fault) → ¬ Miscount nodes at f
not_miscounted nodes at is f (miscount other) = other is

no_less_miscount : (nodes : Members) (at : List ℕ) (f : Fault) → Miscount nodes at f
    → is_before f (at_code ResultNodeCount at) ≡ false
no_less_miscount nodes at f (miscount other) = not_before_itself (at_code ResultNodeCount at)

count_by : (nodes : Members) (at : List ℕ) (b : Bool) → (result_count nodes == 1) ≡ b
    → IsLeastFault (Miscount nodes at) (if b then None else fault_at ResultNodeCount at)
count_by nodes at true is = not_miscounted nodes at (eqb-true (result_count nodes) 1 is)
count_by nodes at false is =
    (miscount (λ one. absurd (true≢false (sym (eq-eqb (result_count nodes) 1 one) ∙ is))), no_less_miscount nodes at)

abbrev Faults : Members → List ℕ → Fault → Type 0
Faults nodes at = Either (Miscount nodes at) (Among (OfNode at) nodes)

of_node_within : (nodes : Members) (at id : List ℕ) (d : Data) (f : Fault) → IsMember id d nodes → OfNode at id d f
    → FaultIn nodes at f
of_node_within nodes at id d f m (of_id is) =
    record { nodes = nodes; name = at; within = itself; local = id_invalid m is }
of_node_within nodes at id d f m (by_itself valid (own is)) =
    record { nodes = nodes; name = at; within = itself; local = node_invalid m valid is }
of_node_within nodes at id d f m (inside valid o) =
    record {
      nodes = o.among.has.inside.nodes;
      name = o.among.has.inside.name;
      within = in_callback m valid o.is_arguments o.among.is_member o.among.has.is_callback o.among.has.inside.within;
      local = o.among.has.inside.local;
    }

faults_into : (nodes : Members) (at : List ℕ) (f : Fault) → Faults nodes at f → FaultIn nodes at f
faults_into nodes at f (inl (miscount other)) =
    record { nodes = nodes; name = at; within = itself; local = miscounted other }
faults_into nodes at f (inr a) = of_node_within nodes at a.name a.value f a.is_member a.has

local_faults : (nodes : Members) (at : List ℕ) (f : Fault) → Local nodes at f → Faults nodes at f
local_faults nodes at f (id_invalid m is) = inr (record { name = _; value = _; is_member = m; has = of_id is })
local_faults nodes at f (node_invalid m valid is) =
    inr (record { name = _; value = _; is_member = m; has = by_itself valid (own is) })
local_faults nodes at f (miscounted other) = inl (miscount other)

within_faults : (inner : Members) (name : List ℕ) (nodes : Members) (at : List ℕ) (f : Fault)
    → IsNamedWithin inner name nodes at → Local inner name f → Faults nodes at f
within_faults inner name nodes at f itself local = local_faults inner name f local
within_faults inner name nodes at f (in_callback m valid is_arguments n is_callback within) local =
    inr (record {
      name = _;
      value = _;
      is_member = m;
      has = inside valid (record {
        arguments = _;
        is_arguments = is_arguments;
        among = record {
          name = _;
          value = _;
          is_member = n;
          has = record {
            inner = _;
            is_callback = is_callback;
            inside = record {
              nodes = inner;
              name = name;
              within = within;
              local = local;
            };
          };
        };
      });
    })

faults_out : (nodes : Members) (at : List ℕ) (f : Fault) → FaultIn nodes at f → Faults nodes at f
faults_out nodes at f i = within_faults i.nodes i.name nodes at f i.within i.local

-- a graph object, where all that lie in it are known
object_by : (nodes : Members) (at : List ℕ)
    → ((inner : Members) (name : List ℕ) → members_depth inner + 1 ≤ members_depth nodes → IsFound inner name)
    → IsFound nodes at
object_by nodes at found =
    IsLeastFault-iff (Faults nodes at) (FaultIn nodes at) (graph_fault at nodes) (faults_into nodes at) (faults_out nodes at)
    (pass_least (OfNode at) (λ id d. node_fault at id d (inside_fault (node_name at id) d)) (nodes_fault at)
    (λ o. refl) (λ o k d rest. refl) nodes (Miscount nodes at) (count_fault at nodes)
    (λ id d m. node_by at id d (is_name id) refl
    (arguments_by (node_name at id) d (arguments_in d) refl (λ ms is. callbacks_least (node_name at id) ms (λ a value n inner callback.
    let outer = member_depth_of m in
    let arguments = inner_depth (codes "arguments") d ms is in
    let argument = member_depth_of n in
    let object = inner_depth (codes "process_graph") value inner callback in
    found inner (callback_name (node_name at id) a) (omega arith)))))
    (count_by nodes at (result_count nodes == 1) refl))

least_to : (n : ℕ) (nodes : Members) (at : List ℕ) → members_depth nodes ≤ n → IsFound nodes at
least_to zero nodes at fits = object_by nodes at (λ inner name deeper. absurd (omega arith))
least_to (suc n) nodes at fits = object_by nodes at (λ inner name deeper. least_to n inner name (omega arith))

-- the pass over a graph object finds the least of the faults in it
pub graph_least : (nodes : Members) (at : List ℕ) → IsLeastFault (FaultIn nodes at) (graph_fault at nodes)
graph_least nodes at = least_to (members_depth nodes) nodes at (omega arith)
