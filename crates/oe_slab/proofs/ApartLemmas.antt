-- The parts of a run before and behind a node.
use Rattle.std.proofs.Common.{◌≡◌, ◌≢◌, ◌⊎◌, ◌↔◌, ℕ, zero, suc, true, false, List, [], ◌∷◌, inl, inr, refl, sym, ap, ◌∙◌, subst, arith}
use Rattle.std.proofs.lemmas.Bool.{cases_eq, true≢false}
use Rattle.std.specs.Prelude.{Contains}
use Rattle.oe_order.specs.Graph.{Node, IsAcyclic, IsInRun, Reaches, arguments, is_load, onwards, refers}
use Rattle.oe_plan.specs.Schedules.{as_load}

-- ---- a node that takes one other

first_of_one : (taken : ℕ) → Contains (taken ∷ []) taken
first_of_one taken = (0, omega arith, refl)

only_of_one : (taken n : ℕ) → Contains (taken ∷ []) n → n ≡ taken
only_of_one taken n (zero, under, is) = sym is
only_of_one taken n (suc k, under, is) = absurd (omega arith)

module _ (nodes : List Node) (fold taken : ℕ) (one : arguments nodes fold ≡ taken ∷ []) where
  takes : Contains (arguments nodes fold) taken
  takes = subst (λ xs. Contains xs taken) (sym one) (first_of_one taken)

  takes_only : (n : ℕ) → Contains (arguments nodes fold) n → n ≡ taken
  takes_only n has = only_of_one taken n (subst (λ xs. Contains xs n) one has)

  from_taken : (n : ℕ) → IsInRun nodes taken n → Reaches nodes fold n
  from_taken n (inl same) = subst (Reaches nodes fold) (sym same) (refers takes)
  from_taken n (inr path) = onwards takes path

  to_taken : (n : ℕ) → Reaches nodes fold n → IsInRun nodes taken n
  to_taken n (refers has) = inl (takes_only n has)
  to_taken n (onwards {b = m} has path) = inr (subst (λ k. Reaches nodes k n) (takes_only m has) path)

  -- what it reaches is the run of that one
  pub before_is : (n : ℕ) → IsInRun nodes taken n ↔ Reaches nodes fold n
  before_is n = (from_taken n, to_taken n)

-- ---- the nodes that do not stand before it

-- another node takes what it took
pub still_takes : (nodes : List Node) (fold n : ℕ) → n ≢ fold → arguments (as_load nodes fold) n ≡ arguments nodes n
still_takes [] fold n other = refl
still_takes (x ∷ xs) zero zero other = absurd (other refl)
still_takes (x ∷ xs) zero (suc n) other = refl
still_takes (x ∷ xs) (suc fold) zero other = refl
still_takes (x ∷ xs) (suc fold) (suc n) other = still_takes xs fold n (λ e. other (ap suc e))

module _ (nodes : List Node) (fold : ℕ) where
  pub takes_there : (n a : ℕ) → n ≢ fold → Contains (arguments nodes n) a → Contains (arguments (as_load nodes fold) n) a
  takes_there n a other has = subst (λ xs. Contains xs a) (sym (still_takes nodes fold n other)) has

  -- a path leads through the node, or stays where that one takes nothing
  reaches_or_through : (a n : ℕ) → Reaches nodes a n → Reaches nodes fold n ⊎ Reaches (as_load nodes fold) a n
  reaches_or_through a n (refers has) = elim (cases_eq a fold) [
    | inl same ↦ inl (subst (λ k. Reaches nodes k n) same (refers has))
    | inr other ↦ inr (refers (takes_there a n other has))
  ]
  reaches_or_through a n (onwards {b = m} has path) = elim (cases_eq a fold) [
    | inl same ↦ inl (subst (λ k. Reaches nodes k n) same (onwards has path))
    | inr other ↦ elim (reaches_or_through m n path) [
      | inl through ↦ inl through
      | inr there ↦ inr (onwards (takes_there a m other has) there)
    ]
  ]

  -- each node of the run stands before it or behind it
  pub parted : (last n : ℕ) → IsInRun nodes last n → Reaches nodes fold n ⊎ IsInRun (as_load nodes fold) last n
  parted last n (inl same) = inr (inl same)
  parted last n (inr path) = elim (reaches_or_through last n path) [
    | inl through ↦ inl through
    | inr there ↦ inr (inr there)
  ]

  -- from a node that does not reach it, all paths stay
  stays : (a n : ℕ) → a ≢ fold → (Reaches nodes a fold → ⊥) → Reaches nodes a n → Reaches (as_load nodes fold) a n
  stays a n other apart (refers has) = refers (takes_there a n other has)
  stays a n other apart (onwards {b = m} has path) =
      onwards (takes_there a m other has)
      (stays m n (λ e. apart (subst (Reaches nodes a) e (refers has))) (λ p. apart (onwards has p)) path)

pub follow : (nodes : List Node) (a b c : ℕ) → Reaches nodes a b → Reaches nodes b c → Reaches nodes a c
follow nodes a b c (refers has) path = onwards has path
follow nodes a b c (onwards {b = m} has rest) path = onwards has (follow nodes m b c rest path)

-- ---- each node of a run loads, or reaches one that does

pub record ComesFrom (nodes : List Node) (n : ℕ) : Type 0 where
  pub load : ℕ
  pub loads : is_load nodes load ≡ true
  pub at : IsInRun nodes n load

pub onwards_from : (nodes : List Node) (n a : ℕ) → Contains (arguments nodes n) a → ComesFrom nodes a → ComesFrom nodes n
onwards_from nodes n a has from = record {
  load = from.load;
  loads = from.loads;
  at = inr (by from.at);
}
  where
    by : IsInRun nodes a from.load → Reaches nodes n from.load
    by (inl same) = subst (Reaches nodes n) (sym same) (refers has)
    by (inr path) = onwards has path

-- no node stands both before it and behind it, where the part behind loads nothing else
module _ (nodes : List Node) (last fold : ℕ) (acyclic : IsAcyclic nodes)
    (through : (n : ℕ) → IsInRun (as_load nodes fold) last n → is_load nodes n ≡ false) where
  pub apart : (n : ℕ) → ComesFrom nodes n → Reaches nodes fold n → IsInRun (as_load nodes fold) last n → ⊥
  apart n from before behind = true≢false (sym from.loads ∙ through from.load (there from.at behind))
    where
      away : n ≢ fold
      away e = acyclic fold (subst (Reaches nodes fold) e before)

      never_back : Reaches nodes n fold → ⊥
      never_back path = acyclic fold (follow nodes fold n fold before path)

      there : {m : ℕ} → IsInRun nodes n m → IsInRun (as_load nodes fold) last n → IsInRun (as_load nodes fold) last m
      there {m} (inl same) inside = subst (IsInRun (as_load nodes fold) last) (sym same) inside
      there {m} (inr path) (inl same) =
          inr (subst (λ k. Reaches (as_load nodes fold) k m) same (stays nodes fold n m away never_back path))
      there {m} (inr path) (inr rest) =
          inr (follow (as_load nodes fold) last n m rest (stays nodes fold n m away never_back path))
