use Rattle.std.proofs.Common.{◌≡◌, ℕ, ◌<◌, ◌≤◌, ◌+◌, ◌||◌, ◌&&◌, Bool, true, false, eqb, ltb, List, ◌∷◌, [], ◌++◌, length, get_or, set, take, max, refl, sym, ap, ◌∙◌, inl, inr, arith}
use Rattle.std.proofs.lemmas.Bool.{cases_eq, eqb-true, and_parts, ltb-true, eq-eqb, lt-ltb, or_right, or_left}
use Rattle.std.proofs.lemmas.List.{take_more, get_or-set_same, get_or-set_other, length-set}
use Rattle.oe_order.specs.Pool.{IsPool, is_step_of}
use Rattle.oe_order.proofs.Lists.{contains-at, or_assoc, or_false, or_same, count}
use Rattle.oe_order.proofs.Pools.{count_grows}
use Rattle.oe_order.proofs.pool.Pool.hold_arguments.Invariants.{Holds}
use Rattle.oe_order.proofs.pool.Pool.hold_arguments.Goals as goal
use Rattle.oe_order.proofs.pool.Pool.hold_arguments.Goals.{then-earlier-step, else-earlier-step}

is_step_of-push : (named by_node : List ℕ) (x i : ℕ) → is_step_of (named ++ x ∷ []) by_node i ≡ is_step_of named by_node i || eqb (get_or by_node x 0) i
is_step_of-push [] by_node x i = or_false (eqb (get_or by_node x 0) i)
is_step_of-push (y ∷ ys) by_node x i =
    ap (λ b. eqb (get_or by_node y 0) i || b) (is_step_of-push ys by_node x i) ∙ sym (or_assoc (eqb (get_or by_node y 0) i) (is_step_of ys by_node i) (eqb (get_or by_node x 0) i))

-- the step of one more argument, which lies before the step or not
at_step : (named by_node : List ℕ) (x step i : ℕ) (was held : Bool) → held ≡ was || (ltb i step && is_step_of named by_node i) →
    held || (ltb i step && eqb (get_or by_node x 0) i) ≡ was || (ltb i step && is_step_of (named ++ x ∷ []) by_node i)
at_step named by_node x step i was held e =
    ap (λ b. b || (ltb i step && eqb (get_or by_node x 0) i)) e
    ∙ regroup was (ltb i step) (is_step_of named by_node i) (eqb (get_or by_node x 0) i)
    ∙ ap (λ b. was || (ltb i step && b)) (sym (is_step_of-push named by_node x i))
  where
    regroup : (a b c d : Bool) → (a || (b && c)) || (b && d) ≡ a || (b && (c || d))
    regroup true b c d = refl
    regroup false true c d = refl
    regroup false false c d = refl

Holds-more : (named by_node : List ℕ) (step x : ℕ) (held0 held held' : List Bool) (slots0 slots slots' free free' : List ℕ) (n0 n n' : ℕ) →
    Holds named by_node step held0 held slots0 slots free n0 n → step ≤ length held → get_or by_node x 0 < step →
    IsPool held' slots' free' n' → held' ≡ set held (get_or by_node x 0) true →
    ((i : ℕ) → get_or held i false ≡ true → get_or slots' i 0 ≡ get_or slots i 0) →
    ((i : ℕ) → (i ≡ get_or by_node x 0 → ⊥) → get_or slots' i 0 ≡ get_or slots i 0) →
    n' ≡ max n (count held') → Holds (named ++ x ∷ []) by_node step held0 held' slots0 slots' free' n0 n'
Holds-more named by_node step x held0 held held' slots0 slots slots' free free' n0 n n' h in' before pool is kept others most =
    let p = get_or by_node x 0 in
    record {
      pool = pool;
      len = ap length is ∙ length-set held p true ∙ h.len;
      taken = λ i. ap (λ ys. get_or ys i false) is ∙ elim (cases_eq i p) [
        | inl e ↦ ap (λ j. get_or (set held p true) j false) e ∙ get_or-set_same held p true false (omega arith)
            ∙ sym (or_right (get_or held i false) (ltb i step && eqb p i) (both (ltb i step) (eqb p i) (lt-ltb i step (omega arith)) (eq-eqb p i (sym e))))
            ∙ at_step named by_node x step i (get_or held0 i false) (get_or held i false) (h.taken i)
        | inr ne ↦ get_or-set_other held p i true false ne
            ∙ or_same (get_or held i false) (ltb i step && eqb p i) (λ q. absurd (ne (sym (eqb-true p i (second (ltb i step) (eqb p i) q)))))
            ∙ at_step named by_node x step i (get_or held0 i false) (get_or held i false) (h.taken i)
      ];
      kept = λ i e. kept i (h.taken i ∙ or_left (get_or held0 i false) (ltb i step && is_step_of named by_node i) e) ∙ h.kept i e;
      later = λ i g. others i (λ e. omega (arith, e)) ∙ h.later i g;
      most = omega (arith, most, h.most, count_grows held p held' is (omega arith));
    }
  where
    both : (a b : Bool) → a ≡ true → b ≡ true → a && b ≡ true
    both true b e d = d
    both false b e d = e

    second : (a b : Bool) → a && b ≡ true → b ≡ true
    second true b e = e
    second false true e = refl
    second false false e = e

Holds-skip : (named by_node : List ℕ) (step x : ℕ) (held0 held : List Bool) (slots0 slots free : List ℕ) (n0 n : ℕ) →
    Holds named by_node step held0 held slots0 slots free n0 n → step ≤ get_or by_node x 0 → Holds (named ++ x ∷ []) by_node step held0 held slots0 slots free n0 n
Holds-skip named by_node step x held0 held slots0 slots free n0 n h past =
    record {
      pool = h.pool;
      len = h.len;
      taken = λ i. or_same (get_or held i false) (ltb i step && eqb (get_or by_node x 0) i) (λ q. absurd (apart i q))
          ∙ at_step named by_node x step i (get_or held0 i false) (get_or held i false) (h.taken i);
      kept = h.kept;
      later = h.later;
      most = h.most;
    }
  where
    apart : (i : ℕ) → ltb i step && eqb (get_or by_node x 0) i ≡ true → ⊥
    apart i q = let w = and_parts (ltb i step) (eqb (get_or by_node x 0) i) q in omega (arith, ltb-true i step w.0, eqb-true (get_or by_node x 0) i w.1)

pub bounds-by_node-argument : goal.bounds-by_node-argument
bounds-by_node-argument c = c.requires.within _ (contains-at c.args.arguments.now c.loop-argument.argument-index 0 (omega arith))

pub loop-argument-preserved : goal.loop-argument-preserved
loop-argument-preserved c =
    let k = c.loop-argument.argument-index in
    let xs = c.args.arguments.now in
    let x = get_or xs k 0 in
    let e : take (k + 1) xs ≡ take k xs ++ x ∷ [] = take_more xs k 0 (omega arith) in
    elim c.if-earlier-step.branch [
      | then-earlier-step w ↦ rw (e, w.self-is) (Holds-more (take k xs) c.args.by_node.now c.args.step x _ _ _ _ _ _ _ _ _ _ _ c.loop-argument.invariant (omega (arith, c.loop-argument.invariant.len, c.requires.step)) w.if-earlier-step.true w.hold.ensures.pool w.hold.ensures.held w.hold.ensures.kept w.hold.ensures.others w.hold.ensures.count)
      | else-earlier-step w ↦ rw (e, w.self-is) (Holds-skip (take k xs) c.args.by_node.now c.args.step x _ _ _ _ _ _ _ c.loop-argument.invariant w.if-earlier-step.false)
    ]
