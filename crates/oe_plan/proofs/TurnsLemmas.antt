-- Each node has one turn, and the next node is put where it belongs.
use Rattle.std.specs.Prelude.{◌≡◌, ◌≢◌, ◌<◌, ◌≤◌, ◌+◌, ◌-◌, ℕ, zero, suc, Bool, List, [], ◌∷◌, length, map, slice_index, Contains, count_by}
use Rattle.std.specs.List.{insert}
use Rattle.std.proofs.Common.{get_or, inl, inr, refl, sym, ap, ◌∙◌, subst, arith}
use Rattle.std.proofs.lemmas.Bool.{cases_eq, cases_lt}
use Rattle.std.proofs.lemmas.List.{get_or_default, length-map}
use Rattle.std.proofs.lemmas.List.Edits.{get_or-insert_above, get_or-insert_at, get_or-insert_below, length-insert}
use Rattle.std.proofs.lemmas.List.Elements.{Contains-get_or}
use Rattle.std.proofs.lemmas.List.Sums.{count_by-le-length, sum_by-cons}
use Rattle.oe_dims.specs.Names.{is_name_before}
use Rattle.oe_graph.specs.Printed.{node_count}
use Rattle.oe_order.proofs.Lists.{one_if}
use Rattle.oe_order.specs.Turns.{AreTurns}
use Rattle.oe_check.specs.Checked.{CheckedGraph}
use Rattle.oe_plan.specs.Turns.{in_order_of, turn_name, turns_of}

-- one node more is put at an index
module _ (n k : ℕ) (xs : List ℕ) (le : k ≤ length xs) (are : AreTurns n xs) where
  abbrev after : List ℕ
  after = insert xs k n

  long : length after ≡ length xs + 1
  long = length-insert xs k n le

  low : (j : ℕ) → j < k → get_or after j 0 ≡ get_or xs j 0
  low j before = get_or-insert_below xs k n 0 j before le

  there : get_or after k 0 ≡ n
  there = get_or-insert_at xs k n 0 le

  high : (i j : ℕ) → k ≤ j → i ≡ j + 1 → get_or after i 0 ≡ get_or xs j 0
  high i j behind is = ap (λ (m : ℕ). get_or after m 0) is ∙ get_or-insert_above xs k n 0 j behind le

  all_within : (i : ℕ) → i < length after → slice_index after i < n + 1
  all_within i below = elim (cases_lt i k) [
    | inl before ↦ (let old = are.within i (omega arith) in omega (arith, low i before, old))
    | inr ge ↦ elim (cases_eq i k) [
      | inl same ↦ (let is : get_or after i 0 ≡ n = ap (λ (m : ℕ). get_or after m 0) same ∙ there in omega (arith, is))
      | inr other ↦
          let is : i ≡ (i - 1) + 1 = omega (arith, other) in
          let inside : i - 1 < length xs = omega (arith, long, other) in
          let old = are.within (i - 1) inside in
          omega (arith, high i (i - 1) (omega (arith, other)) is, old)
    ]
  ]

  -- what stood stands there still
  has_old : (m : ℕ) → Contains xs m → Contains after m
  has_old m has =
      let at : get_or xs has.0 0 ≡ m = get_or_default xs has.0 0 m has.1 ∙ has.2 in
      let below = has.1 in
      elim (cases_lt has.0 k) [
        | inl before ↦ subst (Contains after) (low has.0 before ∙ at) (Contains-get_or after has.0 0 (omega (arith, long)))
        | inr ge ↦ subst (Contains after) (high (has.0 + 1) has.0 ge refl ∙ at) (Contains-get_or after (has.0 + 1) 0 (omega (arith, long)))
      ]

  all_stand : (m : ℕ) → m < n + 1 → Contains after m
  all_stand m below = elim (cases_lt m n) [
    | inl old ↦ has_old m (are.has m old)
    | inr ge ↦ (let is : n ≡ m = omega arith in subst (Contains after) (there ∙ is) (Contains-get_or after k 0 (omega (arith, long))))
  ]

  old_below : (i : ℕ) → i < length xs → get_or xs i 0 < n
  old_below i inside = are.within i inside

  none_twice : (i j : ℕ) → i < j → j < length after → slice_index after i ≢ slice_index after j
  none_twice i j before below same = elim (cases_lt j k) [
    | inl j_low ↦ are.once i j before (omega arith) (sym (low i (omega arith)) ∙ (same ∙ low j j_low))
    | inr ge ↦ elim (cases_eq j k) [
      | inl j_new ↦
          let is : get_or after j 0 ≡ n = ap (λ (m : ℕ). get_or after m 0) j_new ∙ there in
          let old = old_below i (omega arith) in
          let here = low i (omega arith) in
          absurd (omega (arith, is, old, here, same))
      | inr other ↦
          let is : j ≡ (j - 1) + 1 = omega arith in
          let j_in : j - 1 < length xs = omega (arith, long) in
          let j_at = high j (j - 1) (omega (arith, other)) is in
          elim (cases_lt i k) [
            | inl i_low ↦ are.once i (j - 1) (omega (arith, other)) j_in (sym (low i i_low) ∙ (same ∙ j_at))
            | inr i_ge ↦ elim (cases_eq i k) [
              | inl i_new ↦
                  let i_is : get_or after i 0 ≡ n = ap (λ (m : ℕ). get_or after m 0) i_new ∙ there in
                  let old = old_below (j - 1) j_in in
                  absurd (omega (arith, i_is, old, j_at, same))
              | inr i_other ↦
                  let i_is : i ≡ (i - 1) + 1 = omega (arith, i_other) in
                  are.once (i - 1) (j - 1) (omega (arith, i_other)) j_in (sym (high i (i - 1) (omega (arith, i_other)) i_is) ∙ (same ∙ j_at))
            ]
          ]
    ]
  ]

  pub one_more : AreTurns (n + 1) after
  one_more = record {
    each = long ∙ ap (λ (m : ℕ). m + 1) are.each;
    within = all_within;
    has = all_stand;
    once = none_twice;
  }

no_turns : AreTurns 0 []
no_turns = record {
  each = refl;
  within = λ i below. absurd (omega arith);
  has = λ n below. absurd (omega arith);
  once = λ i j before below. absurd (omega arith);
}

pub all_have_turns : (name : ℕ → List ℕ) (n : ℕ) → AreTurns n (in_order_of name n)
unfolding in_order_of
all_have_turns name zero = no_turns
all_have_turns name (suc n) =
    let turns = in_order_of name n in
    let next : suc n ≡ n + 1 = omega arith in
    subst (λ m. AreTurns m (insert turns (count_by (λ other. is_name_before (name other) (name n)) turns) n)) (sym next)
    (one_more n (count_by (λ other. is_name_before (name other) (name n)) turns) turns
    (count_by-le-length (λ other. is_name_before (name other) (name n)) turns) (all_have_turns name n))

pub are_turns : (c : CheckedGraph) → AreTurns (node_count c.nodes) (turns_of c)
unfolding turns_of
are_turns c = all_have_turns (turn_name c) (node_count c.nodes)

-- which node is the result does not matter
pub turns_in_part : (c : CheckedGraph) (last : ℕ) → turns_of (record c { result = last }) ≡ turns_of c
unfolding turns_of
turns_in_part c last = refl

-- ---- one node after the other

map_count : (p : List ℕ → Bool) (f : ℕ → List ℕ) (xs : List ℕ) → count_by p (map f xs) ≡ count_by (λ x. p (f x)) xs
map_count p f [] = refl
map_count p f (x ∷ xs) =
    let left = sum_by-cons (λ (y : List ℕ). one_if (p y)) (f x) (map f xs) in
    let right = sum_by-cons (λ (y : ℕ). one_if (p (f y))) x xs in
    let rest = map_count p f xs in
    omega (arith, left, right, rest)

map_insert : (f : ℕ → List ℕ) (xs : List ℕ) (k x : ℕ) → insert (map f xs) k (f x) ≡ map f (insert xs k x)
map_insert f xs zero x = refl
map_insert f [] (suc k) x = refl
map_insert f (y ∷ ys) (suc k) x = ap (λ (zs : List (List ℕ)). f y ∷ zs) (map_insert f ys k x)

one_later : (name : ℕ → List ℕ) (node : ℕ)
    → insert (in_order_of name node) (count_by (λ other. is_name_before (name other) (name node)) (in_order_of name node)) node
    ≡ in_order_of name (node + 1)
unfolding in_order_of
one_later name node = ap (in_order_of name) (let next : suc node ≡ node + 1 = omega arith in next)

pub none_yet : (name : ℕ → List ℕ) → in_order_of name 0 ≡ []
unfolding in_order_of
none_yet name = refl

-- the nodes so far with their names, in the same order, and a place among them
module _ (name : ℕ → List ℕ) (node place : ℕ) (turns : List ℕ) (names : List (List ℕ)) (turns_are : turns ≡ in_order_of name node)
    (names_are : names ≡ map name turns) where
  pub as_many : length names ≡ length turns
  as_many = ap (λ (ns : List (List ℕ)). length ns) names_are ∙ length-map turns name

  pub next_turn : (later : List ℕ) → place ≡ count_by (λ other. is_name_before other (name node)) names
      → later ≡ insert turns place node → later ≡ in_order_of name (node + 1)
  next_turn later is put =
      let counted : place ≡ count_by (λ other. is_name_before (name other) (name node)) turns =
      is ∙ (ap (count_by (λ (other : List ℕ). is_name_before other (name node))) names_are
      ∙ map_count (λ other. is_name_before other (name node)) name turns) in
      put
      ∙ (ap (λ (p : ℕ). insert turns p node) counted
      ∙ (ap (λ (ts : List ℕ). insert ts (count_by (λ other. is_name_before (name other) (name node)) ts) node) turns_are
      ∙ one_later name node))

  pub next_name : (own : List ℕ) (later : List ℕ) (later_names : List (List ℕ)) → own ≡ name node → later ≡ insert turns place node
      → later_names ≡ insert names place own → later_names ≡ map name later
  next_name own later later_names is put own_put =
      own_put
      ∙ (ap (λ (ns : List (List ℕ)). insert ns place own) names_are
      ∙ (ap (λ (n : List ℕ). insert (map name turns) place n) is
      ∙ (map_insert name turns place node ∙ sym (ap (map name) put))))

-- all nodes
pub all_turns : (c : CheckedGraph) (node : ℕ) (turns : List ℕ) → node ≡ node_count c.nodes → turns ≡ in_order_of (turn_name c) node
    → turns ≡ turns_of c
unfolding turns_of
all_turns c node turns all are = are ∙ ap (in_order_of (turn_name c)) all
