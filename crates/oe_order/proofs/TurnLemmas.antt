-- A graph whose nodes are numbered by their turns: it has the same runs, and an order of it is one of the graph.
use Rattle.std.specs.Prelude.{◌≡◌, ◌≢◌, ◌<◌, ◌≤◌, ◌+◌, ◌==◌, ℕ, zero, suc, Bool, true, false, List, [], ◌∷◌, ◌++◌, length, map, slice_index, take, Contains}
use Rattle.std.proofs.Common.{get_or, inl, inr, refl, sym, ap, ◌∙◌, subst, arith}
use Rattle.std.proofs.lemmas.Bool.{eq-eqb, ne_eqb}
use Rattle.std.proofs.lemmas.List.{get_or-map, get_or_default, length-map, map_more}
use Rattle.std.proofs.lemmas.List.Elements.{Contains-get_or}
use Rattle.std.proofs.lemmas.List.Sums.{position_or_len_is}
use Rattle.oe_order.specs.Graph.{IsAcyclic, IsInRun, Node, Reaches, RefersWithin, arguments, graph_of, is_load, onwards, refers}
use Rattle.oe_order.specs.declared.Links.{Links}
use Rattle.oe_order.specs.Order.{IsListing, order_of}
use Rattle.oe_order.specs.Evaluation.{LoadsFirst}
use Rattle.oe_order.specs.Turns.{AreTurns, by_turns, node_by_turns, order_by_turns, turn_of}
use Rattle.oe_order.proofs.Evaluations.{order_of-loads_first}
use Rattle.oe_order.proofs.Graphs.{arguments-graph_of, graph_of-push, is_load-graph_of, length-graph_of}
use Rattle.oe_order.proofs.Reach.{IsInRun-within}

-- ---- members of a list by a function

map_has : (f : ℕ → ℕ) (xs : List ℕ) (n : ℕ) → Contains xs n → Contains (map f xs) (f n)
map_has f xs n has =
    let below : has.0 < length xs = has.1 in
    let long : length (map f xs) ≡ length xs = length-map xs f in
    let at : get_or xs has.0 0 ≡ n = get_or_default xs has.0 0 n has.1 ∙ has.2 in
    (has.0, omega arith, get_or-map f xs has.0 0 (f n) has.1 ∙ ap f at)

map_from : (f : ℕ → ℕ) (xs : List ℕ) (m : ℕ) → Contains (map f xs) m → (n : ℕ) × Contains xs n × (f n ≡ m)
map_from f xs m has =
    let below : has.0 < length xs = subst (λ k. has.0 < k) (length-map xs f) has.1 in
    (get_or xs has.0 0, Contains-get_or xs has.0 0 below, sym (get_or-map f xs has.0 0 m below) ∙ has.2)

map_same : (f g : ℕ → ℕ) (xs : List ℕ) → ((n : ℕ) → Contains xs n → f n ≡ g n) → map f xs ≡ map g xs
map_same f g [] same = refl
map_same f g (x ∷ xs) same =
    let here : f x ≡ g x = same x (0, omega arith, refl) in
    let rest : map f xs ≡ map g xs = map_same f g xs (λ n has. let below : has.0 < length xs = has.1 in same n (suc has.0, omega arith, has.2)) in
    ap (λ y. y ∷ map f xs) here ∙ ap (λ ys. g x ∷ ys) rest

-- ---- the nodes of a list by a function

load_at : (f : ℕ → Node) (xs : List ℕ) (i : ℕ) → i < length xs → is_load (map f xs) i ≡ (f (get_or xs i 0)).load
load_at f [] i below = absurd (omega arith)
load_at f (x ∷ xs) zero below = refl
load_at f (x ∷ xs) (suc i) below = load_at f xs i (omega arith)

arguments_at : (f : ℕ → Node) (xs : List ℕ) (i : ℕ) → i < length xs → arguments (map f xs) i ≡ (f (get_or xs i 0)).arguments
arguments_at f [] i below = absurd (omega arith)
arguments_at f (x ∷ xs) zero below = refl
arguments_at f (x ∷ xs) (suc i) below = arguments_at f xs i (omega arith)

-- what has arguments is a node
has_arguments : (nodes : List Node) (n a : ℕ) → Contains (arguments nodes n) a → n < length nodes
has_arguments [] n a has = let below : has.0 < 0 = has.1 in absurd (omega arith)
has_arguments (x ∷ xs) zero a has = omega arith
has_arguments (x ∷ xs) (suc n) a has = let below : n < length xs = has_arguments xs n a has in omega arith

-- ---- nodes and their turns

-- the node of a turn
abbrev pub node_of : List ℕ → ℕ → ℕ
node_of turns = λ turn. slice_index turns turn

module _ (count : ℕ) (turns : List ℕ) (are : AreTurns count turns) where
  pub turn_back : (i : ℕ) → i < length turns → turn_of turns (node_of turns i) ≡ i
  turn_back i below =
      position_or_len_is (λ m. m == node_of turns i) turns i 0 (omega arith)
      (λ k before. ne_eqb (get_or turns k 0) (node_of turns i) (are.once k i before below)) (λ _. eq-eqb (node_of turns i) (node_of turns i) refl)

  -- a node has a turn at which it stands
  turn_there : (n : ℕ) → n < count → (i : ℕ) × (i < length turns) × (node_of turns i ≡ n)
  turn_there n below =
      let has = are.has n below in
      (has.0, has.1, get_or_default turns has.0 0 n has.1 ∙ has.2)

  turn_is : (n : ℕ) (below : n < count) → turn_of turns n ≡ (turn_there n below).0
  turn_is n below =
      let there = turn_there n below in
      ap (turn_of turns) (sym there.2) ∙ turn_back there.0 there.1

  pub turn_below : (n : ℕ) → n < count → turn_of turns n < length turns
  turn_below n below = subst (λ i. i < length turns) (sym (turn_is n below)) (turn_there n below).1

  pub node_back : (n : ℕ) → n < count → node_of turns (turn_of turns n) ≡ n
  node_back n below = ap (node_of turns) (turn_is n below) ∙ (turn_there n below).2

  -- the turns, kept by node
  pub turn_kept : (by_node : List ℕ) → ((i : ℕ) → i < length turns → get_or by_node (get_or turns i 0) 0 ≡ i) → (n : ℕ) → n < count → get_or by_node n 0 ≡ turn_of turns n
  turn_kept by_node at n below =
      let there = turn_there n below in
      ap (λ m. get_or by_node m 0) (sym there.2) ∙ (at there.0 there.1 ∙ sym (turn_is n below))

-- ---- the graph by turns

abbrev made : Bool → List ℕ → Node
made load arguments = record { load = load; arguments = arguments }

same_made : (a b : Bool) (xs ys : List ℕ) → a ≡ b → xs ≡ ys → made a xs ≡ made b ys
same_made a b xs ys p q = ap (λ (l : Bool). made l xs) p ∙ ap (λ (zs : List ℕ). made b zs) q

-- one more node
pub one_more : (links : List Links) (turns by_node : List ℕ) (so_far more : List Links) (i : ℕ) (x y : Links) → RefersWithin (graph_of links)
    → i < length turns → get_or turns i 0 < length links → x ≡ get_or links (get_or turns i 0) x
    → ((n : ℕ) → n < length links → get_or by_node n 0 ≡ turn_of turns n)
    → more ≡ so_far ++ y ∷ [] → y.load ≡ x.load → y.arguments.items ≡ map (λ n. get_or by_node n 0) x.arguments.items
    → graph_of so_far ≡ map (node_by_turns (graph_of links) turns) (take i turns)
    → graph_of more ≡ map (node_by_turns (graph_of links) turns) (take (i + 1) turns)
one_more links turns by_node so_far more i x y named below within is kept more_is load_is arguments_are before =
    let n = get_or turns i 0 in
    let nodes = graph_of links in
    let f = node_by_turns nodes turns in
    let named_here : arguments nodes n ≡ x.arguments.items = arguments-graph_of links n x within is in
    let load : y.load ≡ is_load nodes n = load_is ∙ sym (is_load-graph_of links n x within is) in
    let same : map (λ m. get_or by_node m 0) (arguments nodes n) ≡ map (turn_of turns) (arguments nodes n) =
    map_same (λ m. get_or by_node m 0) (turn_of turns) (arguments nodes n)
    (λ m has. kept m (subst (λ k. m < k) (length-graph_of links) (named n m has))) in
    let args : y.arguments.items ≡ map (turn_of turns) (arguments nodes n) =
    arguments_are ∙ (ap (map (λ m. get_or by_node m 0)) (sym named_here) ∙ same) in
    ap graph_of more_is
    ∙ (graph_of-push so_far y
    ∙ (ap (λ (ns : List Node). ns ++ made y.load y.arguments.items ∷ []) before
    ∙ (ap (λ (m : Node). map f (take i turns) ++ m ∷ []) (same_made y.load (is_load nodes n) y.arguments.items (map (turn_of turns) (arguments nodes n)) load args)
    ∙ sym (map_more f turns i 0 below))))

-- what a node of links refers to is a node
pub argument_below : (links : List Links) (n : ℕ) (x : Links) (found : List ℕ) → RefersWithin (graph_of links) → n < length links → x ≡ get_or links n x
    → found ≡ x.arguments.items → (i : ℕ) → i < length found → get_or found i 0 < length links
argument_below links n x found named within is has i below =
    let same : found ≡ arguments (graph_of links) n = has ∙ sym (arguments-graph_of links n x within is) in
    let there : Contains (arguments (graph_of links) n) (get_or found i 0) =
    subst (λ (xs : List ℕ). Contains xs (get_or found i 0)) same (Contains-get_or found i 0 below) in
    subst (λ k. get_or found i 0 < k) (length-graph_of links) (named n (get_or found i 0) there)

module _ (nodes : List Node) (turns : List ℕ) (are : AreTurns (length nodes) turns) where
  length_by : length (by_turns nodes turns) ≡ length turns
  length_by = length-map turns (node_by_turns nodes turns)

  load_by : (i : ℕ) → i < length turns → is_load (by_turns nodes turns) i ≡ is_load nodes (node_of turns i)
  load_by i below = load_at (node_by_turns nodes turns) turns i below

  arguments_by : (i : ℕ) → i < length turns → arguments (by_turns nodes turns) i ≡ map (turn_of turns) (arguments nodes (node_of turns i))
  arguments_by i below = arguments_at (node_by_turns nodes turns) turns i below

  module _ (named : RefersWithin nodes) where
    -- what a node takes in it is the turn of what it takes in the graph
    taken_back : (a b : ℕ) → Contains (arguments (by_turns nodes turns) a) b
        → (m : ℕ) × Contains (arguments nodes (node_of turns a)) m × (turn_of turns m ≡ b)
    taken_back a b has =
        let below : a < length turns = subst (λ k. a < k) length_by (has_arguments (by_turns nodes turns) a b has) in
        map_from (turn_of turns) (arguments nodes (node_of turns a)) b (subst (λ (xs : List ℕ). Contains xs b) (arguments_by a below) has)

    step_back : (a b : ℕ) → Contains (arguments (by_turns nodes turns) a) b → Contains (arguments nodes (node_of turns a)) (node_of turns b)
    step_back a b has =
        let m = taken_back a b has in
        let is : node_of turns b ≡ m.0 = ap (node_of turns) (sym m.2) ∙ node_back (length nodes) turns are m.0 (named (node_of turns a) m.0 m.1) in
        subst (Contains (arguments nodes (node_of turns a))) (sym is) m.1

    reaches_back : {a b : ℕ} → Reaches (by_turns nodes turns) a b → Reaches nodes (node_of turns a) (node_of turns b)
    reaches_back {a} {b} (refers has) = refers (step_back a b has)
    reaches_back {a} {b = c} (onwards {b = m} has rest) = onwards (step_back a m has) (reaches_back rest)

    step_there : (a b : ℕ) → Contains (arguments nodes a) b → Contains (arguments (by_turns nodes turns) (turn_of turns a)) (turn_of turns b)
    step_there a b has =
        let below : a < length nodes = has_arguments nodes a b has in
        let same : arguments (by_turns nodes turns) (turn_of turns a) ≡ map (turn_of turns) (arguments nodes a) =
        arguments_by (turn_of turns a) (turn_below (length nodes) turns are a below)
        ∙ ap (λ n. map (turn_of turns) (arguments nodes n)) (node_back (length nodes) turns are a below) in
        subst (λ (xs : List ℕ). Contains xs (turn_of turns b)) (sym same) (map_has (turn_of turns) (arguments nodes a) b has)

    reaches_there : {a b : ℕ} → Reaches nodes a b → Reaches (by_turns nodes turns) (turn_of turns a) (turn_of turns b)
    reaches_there {a} {b} (refers has) = refers (step_there a b has)
    reaches_there {a} {b = c} (onwards {b = m} has rest) = onwards (step_there a m has) (reaches_there rest)

    pub by_within : RefersWithin (by_turns nodes turns)
    by_within n a has =
        let m = taken_back n a has in
        let below : turn_of turns m.0 < length turns = turn_below (length nodes) turns are m.0 (named (node_of turns n) m.0 m.1) in
        subst (λ k. a < k) (sym length_by) (subst (λ k. k < length turns) m.2 below)

    pub by_acyclic : IsAcyclic nodes → IsAcyclic (by_turns nodes turns)
    by_acyclic acyclic n path = acyclic (node_of turns n) (reaches_back path)

    module _ (last : ℕ) (within : last < length nodes) where
      pub last_below : turn_of turns last < length (by_turns nodes turns)
      last_below = subst (λ k. turn_of turns last < k) (sym length_by) (turn_below (length nodes) turns are last within)

      run_back : (t : ℕ) → IsInRun (by_turns nodes turns) (turn_of turns last) t → IsInRun nodes last (node_of turns t)
      run_back t (inl same) = inl (ap (node_of turns) same ∙ node_back (length nodes) turns are last within)
      run_back t (inr path) = inr (subst (λ n. Reaches nodes n (node_of turns t)) (node_back (length nodes) turns are last within) (reaches_back path))

      run_there : (n : ℕ) → IsInRun nodes last n → IsInRun (by_turns nodes turns) (turn_of turns last) (turn_of turns n)
      run_there n (inl same) = inl (ap (turn_of turns) same)
      run_there n (inr path) = inr (reaches_there path)

      -- ---- an order of it, and the nodes that it has

      module _ (order : List ℕ) (listing : IsListing (by_turns nodes turns) (turn_of turns last) order) where
        pub step_turn : (i : ℕ) → i < length order → get_or order i 0 < length turns
        step_turn i below =
            subst (λ k. get_or order i 0 < k) length_by
            (IsInRun-within (by_turns nodes turns) (turn_of turns last) (get_or order i 0) by_within last_below
            ((listing.members (get_or order i 0)).0 (Contains-get_or order i 0 below)))

        long : length (map (node_of turns) order) ≡ length order
        long = length-map order (node_of turns)

        back_at : (i : ℕ) → i < length order → get_or (map (node_of turns) order) i 0 ≡ node_of turns (get_or order i 0)
        back_at i below = get_or-map (node_of turns) order i 0 0 below

        once : (i j : ℕ) → i < j → j < length (map (node_of turns) order) → get_or (map (node_of turns) order) i 0 ≢ get_or (map (node_of turns) order) j 0
        once i j before below same =
            let j_in : j < length order = subst (λ k. j < k) long below in
            let i_in : i < length order = omega arith in
            let nodes_same : node_of turns (get_or order i 0) ≡ node_of turns (get_or order j 0) = sym (back_at i i_in) ∙ (same ∙ back_at j j_in) in
            listing.once i j before j_in
            (sym (turn_back (length nodes) turns are (get_or order i 0) (step_turn i i_in))
            ∙ (ap (turn_of turns) nodes_same ∙ turn_back (length nodes) turns are (get_or order j 0) (step_turn j j_in)))

        member_back : (n : ℕ) → Contains (map (node_of turns) order) n → IsInRun nodes last n
        member_back n has =
            let t = map_from (node_of turns) order n has in
            subst (IsInRun nodes last) t.2 (run_back t.0 ((listing.members t.0).0 t.1))

        member_there : (n : ℕ) → IsInRun nodes last n → Contains (map (node_of turns) order) n
        member_there n run =
            let below : n < length nodes = IsInRun-within nodes last n named within run in
            subst (Contains (map (node_of turns) order)) (node_back (length nodes) turns are n below)
            (map_has (node_of turns) order (turn_of turns n) ((listing.members (turn_of turns n)).1 (run_there n run)))

        arguments_first : (j a : ℕ) → j < length (map (node_of turns) order) → is_load nodes (get_or (map (node_of turns) order) j 0) ≡ false
            → Contains (arguments nodes (get_or (map (node_of turns) order) j 0)) a → (i : ℕ) × (i < j) × (get_or (map (node_of turns) order) i 0 ≡ a)
        arguments_first j a below works has =
            let j_in : j < length order = subst (λ k. j < k) long below in
            let t = get_or order j 0 in
            let t_in : t < length turns = step_turn j j_in in
            let at : get_or (map (node_of turns) order) j 0 ≡ node_of turns t = back_at j j_in in
            let works_there : is_load (by_turns nodes turns) t ≡ false = load_by t t_in ∙ subst (λ n. is_load nodes n ≡ false) at works in
            let has_there : Contains (arguments (by_turns nodes turns) t) (turn_of turns a) =
            subst (λ (xs : List ℕ). Contains xs (turn_of turns a)) (sym (arguments_by t t_in))
            (map_has (turn_of turns) (arguments nodes (node_of turns t)) a (subst (λ n. Contains (arguments nodes n) a) at has)) in
            let before = listing.arguments_first j (turn_of turns a) j_in works_there has_there in
            let i_before : before.0 < j = before.1 in
            let i_in : before.0 < length order = omega arith in
            (before.0, before.1, back_at before.0 i_in ∙ (ap (node_of turns) before.2 ∙ node_back (length nodes) turns are a (named (get_or (map (node_of turns) order) j 0) a has)))

        pub listing_back : IsListing nodes last (map (node_of turns) order)
        listing_back = record {
          once = once;
          members = λ n. (member_back n, member_there n);
          arguments_first = arguments_first;
        }

        pub loads_back : LoadsFirst (by_turns nodes turns) order → LoadsFirst nodes (map (node_of turns) order)
        loads_back first i j before below load =
            let j_in : j < length order = subst (λ k. j < k) long below in
            let i_in : i < length order = omega arith in
            let there : is_load (by_turns nodes turns) (get_or order j 0) ≡ true =
            load_by (get_or order j 0) (step_turn j j_in) ∙ subst (λ n. is_load nodes n ≡ true) (back_at j j_in) load in
            ap (is_load nodes) (back_at i i_in) ∙ (sym (load_by (get_or order i 0) (step_turn i i_in)) ∙ first i j before j_in there)

-- ---- the same of links

module _ (links : List Links) (turns : List ℕ) (given : AreTurns (length links) turns) (named : RefersWithin (graph_of links)) (last : ℕ) (within : last < length links) where
  are : AreTurns (length (graph_of links)) turns
  are = subst (λ count. AreTurns count turns) (sym (length-graph_of links)) given

  inside : last < length (graph_of links)
  inside = subst (λ k. last < k) (sym (length-graph_of links)) within

  module _ (graph : List Links) (graph_is : graph_of graph ≡ by_turns (graph_of links) turns) where
    pub graph_count : length graph ≡ length links
    graph_count = sym (length-graph_of graph) ∙ (ap length graph_is ∙ (length_by (graph_of links) turns are ∙ given.each))

    pub steps_room : (order steps : List ℕ) → steps ≡ map (node_of turns) order → length order ≤ length graph → length steps ≤ length links
    steps_room order steps is room =
        let long : length steps ≡ length order = ap length is ∙ length-map order (node_of turns) in
        let count : length graph ≡ length links = graph_count in
        omega arith

    pub graph_within : RefersWithin (graph_of graph)
    graph_within = subst RefersWithin (sym graph_is) (by_within (graph_of links) turns are named)

    pub graph_acyclic : IsAcyclic (graph_of links) → IsAcyclic (graph_of graph)
    graph_acyclic acyclic = subst IsAcyclic (sym graph_is) (by_acyclic (graph_of links) turns are named acyclic)

    module _ (turn : ℕ) (turn_is_last : turn ≡ turn_of turns last) where
      pub turn_within : turn < length graph
      turn_within =
          let below : turn_of turns last < length turns = turn_below (length links) turns given last within in
          subst (λ k. k < length graph) (sym turn_is_last) (subst (λ k. turn_of turns last < k) (given.each ∙ sym graph_count) below)

      module _ (order : List ℕ) (listing : IsListing (graph_of graph) turn order) where
        there : IsListing (by_turns (graph_of links) turns) (turn_of turns last) order
        there =
            subst (λ (ns : List Node). IsListing ns (turn_of turns last) order) graph_is
            (subst (λ t. IsListing (graph_of graph) t order) turn_is_last listing)

        pub order_below : (i : ℕ) → i < length order → get_or order i 0 < length turns
        order_below i below = step_turn (graph_of links) turns are named last inside order there i below

        pub steps_listed : (steps : List ℕ) → steps ≡ map (node_of turns) order → IsListing (graph_of links) last steps
        steps_listed steps is =
            subst (IsListing (graph_of links) last) (sym is) (listing_back (graph_of links) turns are named last inside order there)

        module _ (order_is : order ≡ order_of (graph_of graph) turn) where
          order_there : order ≡ order_of (by_turns (graph_of links) turns) (turn_of turns last)
          order_there =
              order_is ∙ (ap (λ (ns : List Node). order_of ns turn) graph_is ∙ ap (order_of (by_turns (graph_of links) turns)) turn_is_last)

          pub steps_first : (steps : List ℕ) → steps ≡ map (node_of turns) order → LoadsFirst (graph_of links) steps
          steps_first steps is =
              subst (LoadsFirst (graph_of links)) (sym is)
              (loads_back (graph_of links) turns are named last inside order there
              (subst (LoadsFirst (by_turns (graph_of links) turns)) (sym order_there) (order_of-loads_first (by_turns (graph_of links) turns) (turn_of turns last))))

          pub steps_are : (steps : List ℕ) → steps ≡ map (node_of turns) order → steps ≡ order_by_turns (graph_of links) turns last
          unfolding order_by_turns
          steps_are steps is = is ∙ ap (map (node_of turns)) order_there
