-- The walk along calls that notes each index that is reached.
use Rattle.std.proofs.Common.{◌≡◌, ℕ, ◌+◌, ◌<◌, ◌≤◌, ◌||◌, inl, inr, Bool, true, false, List, [], Contains, length, get_or, take, refl, sym, ap, ◌∙◌, subst, arith}
use Rattle.std.proofs.lemmas.Bool.{cases_lt, or_left, or_right, or_cases}
use Rattle.std.proofs.lemmas.List.{length-take}
use Rattle.oe_graph.specs.Tree.{PlainNode, PlainStored}
use Rattle.oe_order.specs.Graph as order
use Rattle.oe_order.specs.Graph.{arguments}
use Rattle.oe_order.specs.Order.{contains}
use Rattle.oe_order.specs.Marks.{IsMarked}
use Rattle.oe_order.proofs.Lists.{contains-at, contains-index, kept_index, contains-to, contains-from}
use Rattle.oe_calls.specs.Reached.{held_by, IsCalledBehind, IsCallGraph, IsReached, AreReached}
use Rattle.oe_graph.specs.Valid.{AreValidStored}
use Rattle.oe_calls.proofs.BringLemmas.{first_reached, next_reached, all_reached}

pub record Reaching (stored : List PlainStored) (links : List order.Node) (n : PlainNode) (done : ℕ) (found : List ℕ)
    (marks : List Bool) : Type 0 where
  pub len : length marks ≡ length links
  pub marked : IsMarked marks found
  pub first : List ℕ
  pub is_first : IsCalledBehind stored (held_by false n) [] first
  pub begun : (a : ℕ) → Contains first a → contains found a ≡ true
  pub sound : (k : ℕ) → contains found k ≡ true → IsReached stored n k
  pub behind : done ≤ length found
  pub closed : (k a : ℕ) → k < done → contains (arguments links (get_or found k 0)) a ≡ true → contains found a ≡ true

module _ (stored : List PlainStored) (links : List order.Node) (supported : List Bool) (graph : IsCallGraph stored links supported)
    (n : PlainNode) where
  pub reaching_begin : (found first : List ℕ) (marks : List Bool) → length marks ≡ length links → IsMarked marks found
      → IsCalledBehind stored (held_by false n) [] first → ((k : ℕ) → contains found k ≡ contains first k)
      → Reaching stored links n 0 found marks
  reaching_begin found first marks long marked is has = record {
    len = long;
    marked = marked;
    first = first;
    is_first = is;
    begun = λ a there. has a ∙ contains-from first a there;
    sound = λ k e. first_reached stored links supported graph n first k is (contains-to first k (sym (has k) ∙ e));
    behind = omega arith;
    closed = λ k a h. absurd (omega arith);
  }

  pub reaching_more : (done : ℕ) (found new named : List ℕ) (marks after : List Bool) → Reaching stored links n done found marks
      → done < length found → arguments links (get_or found done 0) ≡ named → length after ≡ length marks → IsMarked after new
      → ((k : ℕ) → contains new k ≡ contains found k || contains named k) → take (length found) new ≡ found
      → Reaching stored links n (done + 1) new after
  reaching_more done found new named marks after s h is long marked has kept = record {
    len = long ∙ s.len;
    marked = marked;
    first = s.first;
    is_first = s.is_first;
    begun = λ a there. has a ∙ or_left (contains found a) (contains named a) (s.begun a there);
    sound = λ k e. elim (or_cases (contains found k) (contains named k) (sym (has k) ∙ e)) [
      | inl q ↦ s.sound k q
      | inr q ↦ next_reached stored links supported graph n (get_or found done 0) k
          (s.sound (get_or found done 0) (contains-at found done 0 h))
          (contains-to (arguments links (get_or found done 0)) k (ap (λ ys. contains ys k) is ∙ q))
    ];
    behind = omega (arith, ap length kept, length-take (length found) new);
    closed = λ k a lt q. elim (cases_lt k done) [
      | inl less ↦ has a ∙ or_left (contains found a) (contains named a)
          (s.closed k a less (ap (λ m. contains (arguments links m) a) (sym (kept_index found new k kept (omega arith))) ∙ q))
      | inr more ↦ has a ∙ or_right (contains found a) (contains named a) (let same : k ≡ done = omega arith in
          ap (λ ys. contains ys a) (sym is) ∙ ap (λ m. contains (arguments links m) a)
          (sym (ap (λ i. get_or found i 0) same) ∙ sym (kept_index found new k kept (omega arith))) ∙ q)
    ];
  }

  pub reaching_all : (valid : AreValidStored stored) (done : ℕ) (found : List ℕ) (marks : List Bool)
      → Reaching stored links n done found marks → length found ≤ done → AreReached stored n found
  reaching_all valid done found marks s all = record {
    sound = λ index has. s.sound index (contains-from found index has);
    complete = all_reached stored links supported graph valid found closed n s.first s.is_first
        (λ k there. contains-to found k (s.begun k there));
  }
    where
      closed : (k j : ℕ) → Contains found k → Contains (arguments links k) j → Contains found j
      closed k j has next =
          let at = contains-index found k (contains-from found k has) in
          contains-to found j (s.closed at.0 j (omega (arith, at.1))
          (ap (λ i. contains (arguments links i) j) at.2 ∙ contains-from (arguments links k) j next))
