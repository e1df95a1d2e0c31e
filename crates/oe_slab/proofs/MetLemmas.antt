-- The windows of one step after the other, met with those of the whole run, or taken from them.
use Rattle.std.proofs.Common.{◌≡◌, ◌≢◌, ◌↔◌, ◌<◌, ◌≤◌, ◌+◌, ◌∙◌, ℕ, List, length, set, get_or, inl, inr, refl, sym, ap, subst, arith}
use Rattle.std.proofs.lemmas.Bool.{cases_lt}
use Rattle.std.proofs.lemmas.List.{get_or_default, get_or-set_other, get_or-set_same, length-set}
use Rattle.std.specs.Prelude.{slice_index}
use Rattle.oe_dims.specs.Positions.{Position}
use Rattle.oe_ops.specs.Needs.{zero_window}
use Rattle.oe_plan.specs.Figures.{steps_of}
use Rattle.oe_plan.specs.Schedules.{ScheduleOf, node_at}
use Rattle.oe_plan.specs.Windows.{window_at}
use Rattle.oe_check.specs.Checked.{CheckedGraph}
use Rattle.oe_window.specs.Windows.{IsIn}
use Rattle.oe_window.specs.declared.window.Window.{Window}

-- what an index of windows reads is the window there
pub read_window : (windows : List Window) (k : ℕ) (default : Window) → k < length windows → get_or windows k default ≡ window_at windows k
read_window windows k default below = get_or_default windows k default zero_window below

-- the node that the code reads at a step is that of the step
pub read_node : (schedule : ScheduleOf) (nodes : List ℕ) (k default : ℕ) → nodes ≡ schedule.order.steps → k < length nodes
    → get_or nodes k default ≡ node_at schedule k
read_node schedule nodes k default are below =
    get_or_default nodes k default 0 below ∙ ap (λ (xs : List ℕ). slice_index xs k) are

module _ (c : CheckedGraph) (schedule : ScheduleOf) (all old : List Window) where
  -- the windows of the steps so far are met, and the others are as they were
  pub record AreMetTo (windows : List Window) (count : ℕ) : Type 0 where
    pub long : length windows ≡ length old
    pub met : (s r : ℕ) → s < count → r < length (steps_of c) → slice_index (steps_of c) r ≡ node_at schedule s
        → (p : Position) → IsIn (window_at windows s) p ↔ (IsIn (window_at old s) p × IsIn (window_at all r) p)
    pub rest : (s : ℕ) → count ≤ s → window_at windows s ≡ window_at old s

  pub none_met : AreMetTo old 0
  none_met = record { long = refl; met = λ s r below. absurd (omega arith); rest = λ s past. refl }

  pub one_met : (windows : List Window) (k : ℕ) (new : Window) → k < length windows → AreMetTo windows k
      → ((r : ℕ) → r < length (steps_of c) → slice_index (steps_of c) r ≡ node_at schedule k → (p : Position)
      → IsIn new p ↔ (IsIn (window_at windows k) p × IsIn (window_at all r) p))
      → AreMetTo (set windows k new) (k + 1)
  one_met windows k new within was here = record {
    long = length-set windows k new ∙ was.long;
    met = λ s r below r_below is p. elim (cases_lt s k) [
      | inl lt ↦
          let other : s ≢ k = omega arith in
          subst (λ w. IsIn w p ↔ (IsIn (window_at old s) p × IsIn (window_at all r) p)) (sym (get_or-set_other windows k s new zero_window other))
          (was.met s r lt r_below is p)
      | inr ge ↦
          let same : k ≡ s = omega arith in
          subst (λ n. IsIn (window_at (set windows k new) n) p ↔ (IsIn (window_at old n) p × IsIn (window_at all r) p)) same
          (subst (λ w. IsIn w p ↔ (IsIn (window_at old k) p × IsIn (window_at all r) p)) (sym (get_or-set_same windows k new zero_window within))
          (subst (λ w. IsIn new p ↔ (IsIn w p × IsIn (window_at all r) p)) (was.rest k (omega arith))
          (here r r_below (is ∙ ap (node_at schedule) (sym same)) p)))
    ];
    rest = λ s past.
        let other : s ≢ k = omega arith in
        get_or-set_other windows k s new zero_window other ∙ was.rest s (omega arith);
  }

module _ (c : CheckedGraph) (schedule : ScheduleOf) (all : List Window) where
  -- the windows of the steps so far are those of their nodes
  pub record ArePickedTo (picked : List Window) (count long : ℕ) : Type 0 where
    pub long_is : length picked ≡ long
    pub same : (s r : ℕ) → s < count → r < length (steps_of c) → slice_index (steps_of c) r ≡ node_at schedule s
        → window_at picked s ≡ window_at all r

  pub none_picked : (picked : List Window) (long : ℕ) → length picked ≡ long → ArePickedTo picked 0 long
  none_picked picked long is = record { long_is = is; same = λ s r below. absurd (omega arith) }

  pub one_picked : (picked : List Window) (k long : ℕ) (new : Window) → k < length picked → ArePickedTo picked k long
      → ((r : ℕ) → r < length (steps_of c) → slice_index (steps_of c) r ≡ node_at schedule k → new ≡ window_at all r)
      → ArePickedTo (set picked k new) (k + 1) long
  one_picked picked k long new within was here = record {
    long_is = length-set picked k new ∙ was.long_is;
    same = λ s r below r_below is. elim (cases_lt s k) [
      | inl lt ↦
          let other : s ≢ k = omega arith in
          get_or-set_other picked k s new zero_window other ∙ was.same s r lt r_below is
      | inr ge ↦
          let same : s ≡ k = omega arith in
          ap (window_at (set picked k new)) same
          ∙ (get_or-set_same picked k new zero_window within ∙ here r r_below (is ∙ ap (node_at schedule) same))
    ];
  }
