-- The order of a run is one to evaluate by.
use Rattle.std.proofs.Common.{◌≡◌, ℕ, zero, suc, ◌+◌, ◌-◌, ◌<◌, ◌≤◌, Bool, true, false, eqb, not, List, [], ◌∷◌, ◌++◌, length, get_or, Option, Some, None, cond, refl, sym, ap, ◌∙◌, subst, inl, inr, arith}
use Rattle.std.specs.Option.{option_to_list}
use Rattle.std.specs.List.{Contains, find, filter, list_all}
use Rattle.std.proofs.lemmas.Bool.{cases_lt, or_left, or_right, or_cases, and_parts, and_from, eq-eqb}
use Rattle.std.proofs.lemmas.List.{get_or_append_left, length_push}
use Rattle.oe_order.specs.Graph.{Node, arguments, is_load, run_of}
use Rattle.oe_order.specs.Order.{contains, is_ready, next_of, extend_order, loads_of, order_of, IsListing}
use Rattle.oe_order.specs.Live.{is_live, taken_from}
use Rattle.oe_order.specs.Evaluation.{LoadsFirst, IsEvaluationOrder}
use Rattle.oe_order.proofs.Lists.{bool_split, clash, contains-append, contains-at, contains-from}
use Rattle.oe_order.proofs.Lives.{is_live-here, is_live-before, taken_from-more, taken_from-earlier}
use Rattle.oe_order.proofs.Nexts.{contains-filter}

-- what a search found passes, and stands in the list
find-passes : (p : ℕ → Bool) (xs : List ℕ) (x : ℕ) → find p xs ≡ Some x → (p x ≡ true) × (contains xs x ≡ true)
find-passes p [] x e = absurd (none e)
  where
    none : None ≡ Some x → ⊥
    none q = cc
find-passes p (y ∷ ys) x e = elim (bool_split (p y)) [
  | inl t ↦ here t (ap (λ b. cond b (Some y) (find p ys)) (sym t) ∙ e)
  | inr f ↦ (let w = find-passes p ys x (ap (λ b. cond b (Some y) (find p ys)) (sym f) ∙ e) in (w.0, or_right (eqb y x) (contains ys x) w.1))
]
  where
    here : p y ≡ true → Some y ≡ Some x → (p x ≡ true) × (contains (y ∷ ys) x ≡ true)
    here t q = let s : y ≡ x = cc in (ap p (sym s) ∙ t, or_left (eqb y x) (contains ys x) (eq-eqb y x s))

-- a node that comes next does not stand yet, and belongs to the run
next_of-comes : (nodes : List Node) (run steps : List ℕ) (x : ℕ) → next_of nodes run steps ≡ Some x → (contains steps x ≡ false) × (contains run x ≡ true)
unfolding next_of
next_of-comes nodes run steps x e =
    let w = find-passes (is_ready nodes steps) run x e in
    let r = and_parts (not (contains steps x)) (list_all (contains steps) (arguments nodes x)) w.0 in
    (turn (contains steps x) r.0, w.1)
  where
    turn : (b : Bool) → not b ≡ true → b ≡ false
    turn true q = sym q
    turn false q = refl

LoadsFirst-push : (nodes : List Node) (steps : List ℕ) (x : ℕ) → LoadsFirst nodes steps → is_load nodes x ≡ false → LoadsFirst nodes (steps ++ x ∷ [])
LoadsFirst-push nodes steps x first free i j lt h load =
    let long : length (steps ++ x ∷ []) ≡ length steps + 1 = length_push steps x in
    elim (cases_lt j (length steps)) [
      | inl l ↦ ap (is_load nodes) (get_or_append_left steps (x ∷ []) 0 i (omega arith))
          ∙ first i j lt l (ap (is_load nodes) (sym (get_or_append_left steps (x ∷ []) 0 j l)) ∙ load)
      | inr g ↦ (let is : j ≡ length steps = omega arith in
          clash (is_load nodes x) (ap (is_load nodes) (sym (ap (λ k. get_or (steps ++ x ∷ []) k 0) is ∙ last_of steps)) ∙ load) free)
    ]
  where
    last_of : (xs : List ℕ) → get_or (xs ++ x ∷ []) (length xs) 0 ≡ x
    last_of [] = refl
    last_of (y ∷ ys) = last_of ys

-- the loads stand first, and stay there however the order goes on
LoadsFirst-extend : (nodes : List Node) (run : List ℕ) (times : ℕ) (steps : List ℕ) → LoadsFirst nodes steps →
    ((n : ℕ) → contains run n ≡ true → is_load nodes n ≡ true → contains steps n ≡ true) → LoadsFirst nodes (extend_order nodes run times steps)
unfolding extend_order
LoadsFirst-extend nodes run zero steps first stand = first
LoadsFirst-extend nodes run (suc times) steps first stand =
    go (λ ys f s. LoadsFirst-extend nodes run times ys f s) (next_of nodes run steps) refl
  where
    nil : (xs : List ℕ) → xs ++ [] ≡ xs
    nil [] = refl
    nil (x ∷ xs) = ap (λ ys. x ∷ ys) (nil xs)

    free : (x : ℕ) → next_of nodes run steps ≡ Some x → is_load nodes x ≡ false
    free x e = let w = next_of-comes nodes run steps x e in elim (bool_split (is_load nodes x)) [
      | inl l ↦ clash (contains steps x) (stand x w.1 l) w.0
      | inr f ↦ f
    ]

    go : ((ys : List ℕ) → LoadsFirst nodes ys → ((n : ℕ) → contains run n ≡ true → is_load nodes n ≡ true → contains ys n ≡ true) → LoadsFirst nodes (extend_order nodes run times ys)) →
        (o : Option ℕ) → next_of nodes run steps ≡ o → LoadsFirst nodes (extend_order nodes run times (steps ++ option_to_list o))
    go then None e = subst (λ ys. LoadsFirst nodes (extend_order nodes run times ys)) (sym (nil steps)) (then steps first stand)
    go then (Some x) e =
        then (steps ++ x ∷ []) (LoadsFirst-push nodes steps x first (free x e))
        (λ n m l. contains-append steps (x ∷ []) n ∙ or_left (contains steps n) (contains (x ∷ []) n) (stand n m l))

pub order_of-loads_first : (nodes : List Node) (last : ℕ) → LoadsFirst nodes (order_of nodes last)
unfolding order_of loads_of
order_of-loads_first nodes last =
    let run = run_of nodes last in
    let loads = filter (is_load nodes) run in
    LoadsFirst-extend nodes run (length nodes - length loads) loads
    (λ i j lt h load. (let w = and_parts (contains run (get_or loads i 0)) (is_load nodes (get_or loads i 0)) (sym (contains-filter (is_load nodes) run (get_or loads i 0)) ∙ contains-at loads i 0 (omega arith)) in w.1))
    (λ n m l. contains-filter (is_load nodes) run n ∙ and_from (contains run n) (is_load nodes n) m l)

module _ (nodes : List Node) (last : ℕ) (steps : List ℕ) where
  argument_live : (s i a : ℕ) → s < length steps → i < s → get_or steps i 0 ≡ a → Contains (arguments nodes (get_or steps s 0)) a → is_live nodes last steps s i ≡ true
  argument_live s i a h lt e c =
      is_live-before nodes last steps s i lt
      ∙ or_right (eqb (get_or steps i 0) last) (taken_from nodes steps s (get_or steps i 0))
      (ap (taken_from nodes steps s) e ∙ taken_from-more nodes steps s a h ∙ or_left (contains (arguments nodes (get_or steps s 0)) a) (taken_from nodes steps (s + 1) a) (contains-from (arguments nodes (get_or steps s 0)) a c))

  live_since : (early late i : ℕ) → i ≤ early → early ≤ late → is_live nodes last steps late i ≡ true → is_live nodes last steps early i ≡ true
  live_since early late i from to live = elim (cases_lt i early) [
    | inr ge ↦ is_live-here nodes last steps early i (omega arith)
    | inl lt ↦ is_live-before nodes last steps early i lt
        ∙ elim (or_cases (eqb (get_or steps i 0) last) (taken_from nodes steps late (get_or steps i 0)) (sym (is_live-before nodes last steps late i (omega arith)) ∙ live)) [
          | inl q ↦ or_left (eqb (get_or steps i 0) last) (taken_from nodes steps early (get_or steps i 0)) q
          | inr q ↦ or_right (eqb (get_or steps i 0) last) (taken_from nodes steps early (get_or steps i 0)) (taken_from-earlier nodes steps early late (get_or steps i 0) to q)
        ]
  ]

  result_live : (step i : ℕ) → i ≤ step → get_or steps i 0 ≡ last → is_live nodes last steps step i ≡ true
  result_live step i from e = elim (cases_lt i step) [
    | inr ge ↦ is_live-here nodes last steps step i (omega arith)
    | inl lt ↦ is_live-before nodes last steps step i lt ∙ or_left (eqb (get_or steps i 0) last) (taken_from nodes steps step (get_or steps i 0)) (eq-eqb (get_or steps i 0) last e)
  ]

  pub IsEvaluationOrder-of : LoadsFirst nodes steps → IsListing nodes last steps → IsEvaluationOrder nodes last steps
  IsEvaluationOrder-of first listing = record {
    loads_first = first;
    arguments_held = λ step a h free c.
        (let before = listing.arguments_first step a h free c in
        record { at = before.0; earlier = before.1; is = before.2; live = argument_live step before.0 a h before.1 before.2 c });
    own_live = λ i. is_live-here nodes last steps i i refl;
    result_live = result_live;
    live_since = live_since;
  }
