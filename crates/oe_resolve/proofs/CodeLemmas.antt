-- The first fault of a node is the least of those that it has by itself.
use Rattle.std.proofs.Common.{◌≡◌, ◌↔◌, ℕ, zero, suc, ◌⊎◌, inl, inr, Bool, true, false, not, ◌&&◌, ◌||◌, if◌then◌else◌, List, [], ◌∷◌, ◌++◌, Option, Some, None, is_none, Contains, map, option_map, Ordering, Less, Equal, Greater, refl, sym, ap, ◌∙◌, subst, true≢false, nat_cmp}
use Rattle.std.specs.Cmp.Lexicographic.{slice_cmp}
use Rattle.std.specs.List.{list_any, list_all}
use Rattle.std.specs.Ordering.{is_lt, ordering_then}
use Rattle.std.proofs.lemmas.Bool.{or_cases, or_left, or_right, and_parts}
use Rattle.std.proofs.lemmas.Cmp.{nat_list_cmp_total, tied_itself}
use Rattle.std.proofs.lemmas.List.Elements.{Contains-append_left, Contains-append_right, Contains-append_cases}
use Rattle.oe_dims.specs.Names.{same_name}
use Rattle.oe_dims.proofs.OrderLemmas.{same_name_is, same_name_refl}
use Rattle.oe_graph.specs.Faults.{is_before, IsLeastFault}
use Rattle.oe_graph.specs.Printed.{ids_of, names_of}
use Rattle.oe_graph.specs.References.{argument_named, references_in, references_named, references_each, parameters_in, parameters_named, parameters_each, Leads}
use Rattle.oe_graph.specs.Tree.{Argument, null, flag, whole, inexact, text, list, object, from_node, from_parameter, callback, ListValues, no_arguments, argument, Named, no_named, named, Nodes, PlainNode, PlainParameter, PlainStored}
use Rattle.oe_graph.specs.declared.code.Code.{Code}
use Rattle.oe_graph.specs.declared.code.Code.TheVariants.{ArgumentUnknown, ProcessParameterMissing, ParameterUnknown, NodeUnknown, GraphCycle}
use Rattle.oe_graph.specs.declared.fault.Fault.{Fault}
use Rattle.oe_graph.proofs.LeastLemmas.{IsLeastFault-iff}
use Rattle.oe_calls.specs.Calls.{parameters_of}
use Rattle.oe_calls.specs.Faults.{names_among}
use Rattle.oe_resolve.specs.NameFaults.{has_unknown, has_unknown_argument, is_missing, lacks_parameter, sees, see_each, see_named, knows, know_each, know_named, first_code, node_code, HasFault, argument_unknown, process_parameter_missing, parameter_unknown, node_unknown, graph_cycle, OfItself, IsMark}
use Rattle.oe_calls.proofs.Along.{first_there, later_there, none_there, there_cases}

-- ---- tests along lists

record Passing {X : Type 0} (test : X → Bool) (value : Bool) (xs : List X) : Type 0 where
  pub one : X
  pub is_there : Contains xs one
  pub is : test one ≡ value

module _ {X : Type 0} (test : X → Bool) where
  any_there : (xs : List X) (x : X) → Contains xs x → test x ≡ true → list_any test xs ≡ true
  any_there [] x there is = absurd (none_there x there)
  any_there (y ∷ xs) x there is = elim (there_cases y xs x there) [
    | inl same ↦ or_left (test y) (list_any test xs) (ap test same ∙ is)
    | inr later ↦ or_right (test y) (list_any test xs) (any_there xs x later is)
  ]

  any_one : (xs : List X) → list_any test xs ≡ true → Passing test true xs
  any_one [] is = absurd (true≢false (sym is))
  any_one (x ∷ xs) is = elim (or_cases (test x) (list_any test xs) is) [
    | inl here ↦ record { one = x; is_there = first_there x xs; is = here }
    | inr rest ↦ let p = any_one xs rest in record { one = p.one; is_there = later_there x xs p.one p.is_there; is = p.is }
  ]

  failing_by : (x : X) (xs : List X) (b : Bool) → test x ≡ b → (list_all test xs ≡ false → Passing test false xs)
      → b && list_all test xs ≡ false → Passing test false (x ∷ xs)
  failing_by x xs true here later rest =
      let p = later rest in record { one = p.one; is_there = later_there x xs p.one p.is_there; is = p.is }
  failing_by x xs false here later rest = record { one = x; is_there = first_there x xs; is = here }

  all_failing : (xs : List X) → list_all test xs ≡ false → Passing test false xs
  all_failing [] is = absurd (true≢false is)
  all_failing (x ∷ xs) is = failing_by x xs (test x) refl (all_failing xs) is

  all_each : (xs : List X) (x : X) → list_all test xs ≡ true → Contains xs x → test x ≡ true
  all_each [] x is there = absurd (none_there x there)
  all_each (y ∷ xs) x is there =
      let parts = and_parts (test y) (list_all test xs) is in
      elim (there_cases y xs x there) [
        | inl same ↦ ap test (sym same) ∙ parts.0
        | inr later ↦ all_each xs x parts.1 later
      ]

  and_assoc : (a b c : Bool) → a && (b && c) ≡ (a && b) && c
  and_assoc true b c = refl
  and_assoc false b c = refl

  all_append : (xs ys : List X) → list_all test (xs ++ ys) ≡ (list_all test xs && list_all test ys)
  all_append [] ys = refl
  all_append (x ∷ xs) ys =
      ap (λ b. test x && b) (all_append xs ys) ∙ and_assoc (test x) (list_all test xs) (list_all test ys)

not_true : (b : Bool) → not b ≡ true → b ≡ false
not_true true is = absurd (true≢false (sym is))
not_true false is = refl

false_not : (b : Bool) → b ≡ false → not b ≡ true
false_not b is = ap not is

pub by_bool : (b : Bool) → (b ≡ true) ⊎ (b ≡ false)
by_bool true = inl refl
by_bool false = inr refl

and_true : (b : Bool) → b && true ≡ b
and_true true = refl
and_true false = refl

-- ---- names

named_in : (names : List (List ℕ)) (name : List ℕ) → Contains names name → list_any (λ other. same_name other name) names ≡ true
named_in names name there = any_there (λ other. same_name other name) names name there (same_name_refl name)

in_named : (names : List (List ℕ)) (name : List ℕ) → list_any (λ other. same_name other name) names ≡ true → Contains names name
in_named names name is =
    let p = any_one (λ other. same_name other name) names is in
    subst (λ n. Contains names n) (sym (same_name_is p.one name p.is)) p.is_there

pub among : (names : List (List ℕ)) (name : List ℕ) → Contains names name → list_any (same_name name) names ≡ true
among names name there = any_there (same_name name) names name there (same_name_refl name)

pub in_among : (names : List (List ℕ)) (name : List ℕ) → list_any (same_name name) names ≡ true → Contains names name
in_among names name is =
    let p = any_one (same_name name) names is in
    subst (λ n. Contains names n) (same_name_is name p.one p.is) p.is_there

-- ---- unknown arguments

record Unknown (names : List (List ℕ)) (arguments : Named) : Type 0 where
  pub name : List ℕ
  pub is_there : Contains (names_of arguments) name
  pub is : ¬ Contains names name

unknown_one : (names : List (List ℕ)) (arguments : Named) → has_unknown names arguments ≡ true → Unknown names arguments
unknown_one names no_named is = absurd (true≢false (sym is))
unknown_one names (named name a rest) is =
    elim (or_cases (not (list_any (λ other. same_name other name) names)) (has_unknown names rest) is) [
      | inl here ↦ record {
        name = name;
        is_there = first_there name (names_of rest);
        is = λ there. true≢false (sym (named_in names name there) ∙ not_true _ here);
      }
      | inr later ↦ let u = unknown_one names rest later in record {
        name = u.name;
        is_there = later_there name (names_of rest) u.name u.is_there;
        is = u.is;
      }
    ]

unknown_by_test : (names : List (List ℕ)) (name : List ℕ) (b : Bool) → list_any (λ other. same_name other name) names ≡ b
    → ¬ Contains names name → not b ≡ true
unknown_by_test names name true is absent = absurd (absent (in_named names name is))
unknown_by_test names name false is absent = refl

unknown_there : (names : List (List ℕ)) (arguments : Named) (argument : List ℕ) → Contains (names_of arguments) argument
    → ¬ Contains names argument → has_unknown names arguments ≡ true
unknown_there names no_named other there not_in = absurd (none_there other there)
unknown_there names (named name a rest) other there not_in =
    elim (there_cases name (names_of rest) other there) [
      | inl same ↦ or_left (not (list_any (λ k. same_name k name) names)) (has_unknown names rest)
          (unknown_by_test names name (list_any (λ k. same_name k name) names) refl (subst (λ n. ¬ Contains names n) (sym same) not_in))
      | inr later ↦ or_right (not (list_any (λ k. same_name k name) names)) (has_unknown names rest)
          (unknown_there names rest other later not_in)
    ]

-- ---- missing parameters

none_of : {X : Type 0} (o : Option X) → is_none o ≡ true → o ≡ None
none_of None is = refl
none_of (Some x) is = absurd (true≢false (sym is))

of_none : {X : Type 0} (o : Option X) → o ≡ None → is_none o ≡ true
of_none o is = ap is_none is

given_by : (name other : List ℕ) (a : Argument) (rest : Named) (b : Bool) → same_name other name ≡ b
    → (argument_named name rest ≡ None → ¬ Contains (names_of rest) name)
    → (if b then Some a else argument_named name rest) ≡ None → ¬ Contains (other ∷ names_of rest) name
given_by name other a rest true same below found there = absurd cc
given_by name other a rest false same below found there = elim (there_cases other (names_of rest) name there) [
  | inl here ↦ true≢false (sym (subst (λ n. same_name other n ≡ true) here (same_name_refl other)) ∙ same)
  | inr later ↦ below found later
]

given_not : (name : List ℕ) (arguments : Named) → argument_named name arguments ≡ None → ¬ Contains (names_of arguments) name
given_not name no_named is there = none_there name there
given_not name (named other a rest) is there =
    given_by name other a rest (same_name other name) refl (given_not name rest) is there

absent_by : (name other : List ℕ) (a : Argument) (rest : Named) (b : Bool) → same_name other name ≡ b
    → (¬ Contains (names_of rest) name → argument_named name rest ≡ None) → ¬ Contains (other ∷ names_of rest) name
    → (if b then Some a else argument_named name rest) ≡ None
absent_by name other a rest true same below absent =
    absurd (absent (subst (λ n. Contains (other ∷ names_of rest) n) (sym (same_name_is other name same)) (first_there other (names_of rest))))
absent_by name other a rest false same below absent = below (λ there. absent (later_there other (names_of rest) name there))

not_given : (name : List ℕ) (arguments : Named) → ¬ Contains (names_of arguments) name → argument_named name arguments ≡ None
not_given name no_named absent = refl
not_given name (named other a rest) absent =
    absent_by name other a rest (same_name other name) refl (not_given name rest) absent

missing_there : (arguments : Named) (p : PlainParameter) → p.default ≡ None → p.optional ≡ false
    → ¬ Contains (names_of arguments) p.name → is_missing arguments p ≡ true
missing_there arguments p default optional absent =
    ap (λ b. b && not p.optional && is_none (argument_named p.name arguments)) (of_none p.default default)
    ∙ ap (λ b. b && is_none (argument_named p.name arguments)) (false_not p.optional optional)
    ∙ of_none (argument_named p.name arguments) (not_given p.name arguments absent)

-- ---- references and parameters

abbrev pub all_in : List (List ℕ) → List (List ℕ) → Bool
all_in scope names = list_all (λ name. list_any (same_name name) scope) names

module _ (scope : List (List ℕ)) where
  pub joined : (a b : Bool) (xs ys : List (List ℕ)) → a ≡ all_in scope xs → b ≡ all_in scope ys → (a && b) ≡ all_in scope (xs ++ ys)
  joined a b xs ys p q =
      ap (λ c. c && b) p ∙ ap (λ c. all_in scope xs && c) q ∙ sym (all_append (λ name. list_any (same_name name) scope) xs ys)

  mutual
    sees_all : (a : Argument) → sees scope a ≡ all_in scope (parameters_in a)
    sees_all null = refl
    sees_all (flag b) = refl
    sees_all (whole z) = refl
    sees_all inexact = refl
    sees_all (text s) = refl
    sees_all (list rest) = sees_all_each rest
    sees_all (object ms) = sees_all_named ms
    sees_all (from_node id) = refl
    sees_all (from_parameter name) = sym (and_true (list_any (same_name name) scope))
    sees_all (callback ns result) = refl

    sees_all_each : (xs : ListValues) → see_each scope xs ≡ all_in scope (parameters_each xs)
    sees_all_each no_arguments = refl
    sees_all_each (argument a rest) =
        joined (sees scope a) (see_each scope rest) (parameters_in a) (parameters_each rest) (sees_all a) (sees_all_each rest)

    sees_all_named : (ms : Named) → see_named scope ms ≡ all_in scope (parameters_named ms)
    sees_all_named no_named = refl
    sees_all_named (named name a rest) =
        joined (sees scope a) (see_named scope rest) (parameters_in a) (parameters_named rest) (sees_all a) (sees_all_named rest)

  mutual
    pub knows_all : (a : Argument) → knows scope a ≡ all_in scope (references_in a)
    knows_all null = refl
    knows_all (flag b) = refl
    knows_all (whole z) = refl
    knows_all inexact = refl
    knows_all (text s) = refl
    knows_all (list rest) = knows_all_each rest
    knows_all (object ms) = knows_all_named ms
    knows_all (from_node id) = sym (and_true (list_any (same_name id) scope))
    knows_all (from_parameter name) = refl
    knows_all (callback ns result) = refl

    pub knows_all_each : (xs : ListValues) → know_each scope xs ≡ all_in scope (references_each xs)
    knows_all_each no_arguments = refl
    knows_all_each (argument a rest) =
        joined (knows scope a) (know_each scope rest) (references_in a) (references_each rest) (knows_all a) (knows_all_each rest)

    pub knows_all_named : (ms : Named) → know_named scope ms ≡ all_in scope (references_named ms)
    knows_all_named no_named = refl
    knows_all_named (named name a rest) =
        joined (knows scope a) (know_named scope rest) (references_in a) (references_named rest) (knows_all a) (knows_all_named rest)

  missing_name : (names : List (List ℕ)) → all_in scope names ≡ false → (name : List ℕ) × Contains names name × (¬ Contains scope name)
  missing_name names is =
      let p = all_failing (λ name. list_any (same_name name) scope) names is in
      (p.one, p.is_there, λ there. true≢false (sym (among scope p.one there) ∙ p.is))

  not_all : (names : List (List ℕ)) (name : List ℕ) → Contains names name → ¬ Contains scope name → all_in scope names ≡ false
  not_all names name there absent = elim (by_bool (all_in scope names)) [
    | inl every ↦ absurd (absent (in_among scope name (all_each (λ n. list_any (same_name n) scope) names name every there)))
    | inr is ↦ is
  ]

-- ---- the first of five

data Row (b1 b2 b3 b4 b5 : Bool) : Code → Type 0 where
  r1 : b1 ≡ true → Row b1 b2 b3 b4 b5 ArgumentUnknown
  r2 : b2 ≡ true → Row b1 b2 b3 b4 b5 ProcessParameterMissing
  r3 : b3 ≡ true → Row b1 b2 b3 b4 b5 ParameterUnknown
  r4 : b4 ≡ true → Row b1 b2 b3 b4 b5 NodeUnknown
  r5 : b5 ≡ true → Row b1 b2 b3 b4 b5 GraphCycle

abbrev fault_at : Code → List ℕ → Fault
fault_at code at = record { code = code; node = at }

abbrev IsRow : Bool → Bool → Bool → Bool → Bool → List ℕ → Fault → Type 0
IsRow b1 b2 b3 b4 b5 at f = Row b1 b2 b3 b4 b5 f.code × (f.node ≡ at)

module _ (at : List ℕ) where
  at_same : (o : Ordering) → is_lt (ordering_then (slice_cmp nat_cmp at at) o) ≡ is_lt o
  at_same o = ap (λ e. is_lt (ordering_then e o)) (tied_itself nat_list_cmp_total at)

  after : (b1 b2 b3 b4 b5 : Bool) (c : Code)
      → ((d : Code) → Row b1 b2 b3 b4 b5 d → is_before (fault_at d at) (fault_at c at) ≡ false)
      → (g : Fault) → IsRow b1 b2 b3 b4 b5 at g → is_before g (fault_at c at) ≡ false
  after b1 b2 b3 b4 b5 c each g has =
      subst (λ n. is_before (fault_at g.code n) (fault_at c at) ≡ false) (sym has.1) (each g.code has.0)

  after1 : (b1 b2 b3 b4 b5 : Bool) (d : Code) → Row b1 b2 b3 b4 b5 d → is_before (fault_at d at) (fault_at ArgumentUnknown at) ≡ false
  after1 b1 b2 b3 b4 b5 d (r1 is) = at_same Equal
  after1 b1 b2 b3 b4 b5 d (r2 is) = at_same Greater
  after1 b1 b2 b3 b4 b5 d (r3 is) = at_same Greater
  after1 b1 b2 b3 b4 b5 d (r4 is) = at_same Greater
  after1 b1 b2 b3 b4 b5 d (r5 is) = at_same Greater

  after2 : (b2 b3 b4 b5 : Bool) (d : Code) → Row false b2 b3 b4 b5 d → is_before (fault_at d at) (fault_at ProcessParameterMissing at) ≡ false
  after2 b2 b3 b4 b5 d (r1 is) = absurd (true≢false (sym is))
  after2 b2 b3 b4 b5 d (r2 is) = at_same Equal
  after2 b2 b3 b4 b5 d (r3 is) = at_same Greater
  after2 b2 b3 b4 b5 d (r4 is) = at_same Greater
  after2 b2 b3 b4 b5 d (r5 is) = at_same Greater

  after3 : (b3 b4 b5 : Bool) (d : Code) → Row false false b3 b4 b5 d → is_before (fault_at d at) (fault_at ParameterUnknown at) ≡ false
  after3 b3 b4 b5 d (r1 is) = absurd (true≢false (sym is))
  after3 b3 b4 b5 d (r2 is) = absurd (true≢false (sym is))
  after3 b3 b4 b5 d (r3 is) = at_same Equal
  after3 b3 b4 b5 d (r4 is) = at_same Greater
  after3 b3 b4 b5 d (r5 is) = at_same Greater

  after4 : (b4 b5 : Bool) (d : Code) → Row false false false b4 b5 d → is_before (fault_at d at) (fault_at NodeUnknown at) ≡ false
  after4 b4 b5 d (r1 is) = absurd (true≢false (sym is))
  after4 b4 b5 d (r2 is) = absurd (true≢false (sym is))
  after4 b4 b5 d (r3 is) = absurd (true≢false (sym is))
  after4 b4 b5 d (r4 is) = at_same Equal
  after4 b4 b5 d (r5 is) = at_same Greater

  after5 : (b5 : Bool) (d : Code) → Row false false false false b5 d → is_before (fault_at d at) (fault_at GraphCycle at) ≡ false
  after5 b5 d (r1 is) = absurd (true≢false (sym is))
  after5 b5 d (r2 is) = absurd (true≢false (sym is))
  after5 b5 d (r3 is) = absurd (true≢false (sym is))
  after5 b5 d (r4 is) = absurd (true≢false (sym is))
  after5 b5 d (r5 is) = at_same Equal

  no_row : (d : Code) → ¬ Row false false false false false d
  no_row d (r1 is) = true≢false (sym is)
  no_row d (r2 is) = true≢false (sym is)
  no_row d (r3 is) = true≢false (sym is)
  no_row d (r4 is) = true≢false (sym is)
  no_row d (r5 is) = true≢false (sym is)

  rows_least : (b1 b2 b3 b4 b5 : Bool)
      → IsLeastFault (IsRow b1 b2 b3 b4 b5 at) (option_map (λ code. record { code = code; node = at }) (first_code b1 b2 b3 b4 b5))
  rows_least true b2 b3 b4 b5 = ((r1 refl, refl), after true b2 b3 b4 b5 ArgumentUnknown (after1 true b2 b3 b4 b5))
  rows_least false true b3 b4 b5 = ((r2 refl, refl), after false true b3 b4 b5 ProcessParameterMissing (after2 true b3 b4 b5))
  rows_least false false true b4 b5 = ((r3 refl, refl), after false false true b4 b5 ParameterUnknown (after3 true b4 b5))
  rows_least false false false true b5 = ((r4 refl, refl), after false false false true b5 NodeUnknown (after4 true b5))
  rows_least false false false false true = ((r5 refl, refl), after false false false false true GraphCycle (after5 true))
  rows_least false false false false false = λ f has. no_row f.code has.0

-- ---- a node

abbrev TestRow : List PlainStored → Bool → List (List ℕ) → Nodes → PlainNode → Bool → Code → Type 0
TestRow stored last scope nodes n mark =
    Row (has_unknown_argument (parameters_of stored n) n.arguments) (lacks_parameter (parameters_of stored n) n.arguments)
    (last && not (see_named scope n.arguments)) (not (know_named (ids_of nodes) n.arguments)) mark

module _ (stored : List PlainStored) (last : Bool) (scope : List (List ℕ)) (nodes : Nodes) (n : PlainNode) (mark : Bool)
    (marked : IsMark last nodes n mark) where
  unknown_by : (o : Option (List PlainParameter)) → parameters_of stored n ≡ o → has_unknown_argument o n.arguments ≡ true
      → HasFault stored last scope nodes n ArgumentUnknown
  unknown_by None same is = absurd (true≢false (sym is))
  unknown_by (Some ps) same is =
      let u = unknown_one (names_among ps) n.arguments is in argument_unknown same u.is_there u.is

  missing_by : (o : Option (List PlainParameter)) → parameters_of stored n ≡ o → lacks_parameter o n.arguments ≡ true
      → HasFault stored last scope nodes n ProcessParameterMissing
  missing_by None same is = absurd (true≢false (sym is))
  missing_by (Some ps) same is =
      let p = any_one (is_missing n.arguments) ps is in
      let parts = and_parts (is_none p.one.default && not p.one.optional) (is_none (argument_named p.one.name n.arguments)) p.is in
      let first = and_parts (is_none p.one.default) (not p.one.optional) parts.0 in
      process_parameter_missing same p.is_there (none_of p.one.default first.0) (not_true p.one.optional first.1)
      (given_not p.one.name n.arguments (none_of (argument_named p.one.name n.arguments) parts.1))

  from_row : (c : Code) → TestRow stored last scope nodes n mark c → HasFault stored last scope nodes n c
  from_row c (r1 is) = unknown_by (parameters_of stored n) refl is
  from_row c (r2 is) = missing_by (parameters_of stored n) refl is
  from_row c (r3 is) =
      let parts = and_parts last (not (see_named scope n.arguments)) is in
      let name = missing_name scope (parameters_named n.arguments)
      (sym (sees_all_named scope n.arguments) ∙ not_true (see_named scope n.arguments) parts.1) in
      parameter_unknown parts.0 name.1 name.2
  from_row c (r4 is) =
      let name = missing_name (ids_of nodes) (references_named n.arguments)
      (sym (knows_all_named (ids_of nodes) n.arguments) ∙ not_true (know_named (ids_of nodes) n.arguments) is) in
      node_unknown name.1 name.2
  from_row c (r5 is) = let leads = marked.0 is in graph_cycle leads.0 leads.1

  to_row : (c : Code) → HasFault stored last scope nodes n c → TestRow stored last scope nodes n mark c
  to_row c (argument_unknown {parameters = ps} {argument = a} same there absent) =
      r1 (ap (λ o. has_unknown_argument o n.arguments) same ∙ unknown_there (names_among ps) n.arguments a there absent)
  to_row c (process_parameter_missing {parameters = ps} {p = p} same there default optional absent) =
      r2 (ap (λ o. lacks_parameter o n.arguments) same
      ∙ any_there (is_missing n.arguments) ps p there (missing_there n.arguments p default optional absent))
  to_row c (parameter_unknown {parameter = name} is there absent) =
      r3 (ap (λ b. b && not (see_named scope n.arguments)) is
      ∙ false_not (see_named scope n.arguments)
      (sees_all_named scope n.arguments ∙ not_all scope (parameters_named n.arguments) name there absent))
  to_row c (node_unknown {id = id} there absent) =
      r4 (false_not (know_named (ids_of nodes) n.arguments)
      (knows_all_named (ids_of nodes) n.arguments ∙ not_all (ids_of nodes) (references_named n.arguments) id there absent))
  to_row c (graph_cycle is leads) = r5 (marked.1 (is, leads))

pub own_least : (stored : List PlainStored) (last : Bool) (scope : List (List ℕ)) (nodes : Nodes) (n : PlainNode) (mark : Bool)
    (at : List ℕ) → IsMark last nodes n mark
    → IsLeastFault (OfItself stored last at scope nodes n)
    (option_map (λ code. record { code = code; node = at }) (node_code stored last scope n (know_named (ids_of nodes) n.arguments) mark))
own_least stored last scope nodes n mark at marked =
    IsLeastFault-iff
    (λ f. TestRow stored last scope nodes n mark f.code × (f.node ≡ at))
    (OfItself stored last at scope nodes n)
    (option_map (λ code. record { code = code; node = at }) (node_code stored last scope n (know_named (ids_of nodes) n.arguments) mark))
    (λ f has. record { at = has.1; has = from_row stored last scope nodes n mark marked f.code has.0 })
    (λ f has. (to_row stored last scope nodes n mark marked f.code has.has, has.at))
    (rows_least at (has_unknown_argument (parameters_of stored n) n.arguments) (lacks_parameter (parameters_of stored n) n.arguments)
    (last && not (see_named scope n.arguments)) (not (know_named (ids_of nodes) n.arguments)) mark)
