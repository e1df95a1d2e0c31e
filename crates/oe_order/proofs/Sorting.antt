-- Nodes in an order in which each stands behind those that it refers to: what more cannot be ready says of them, and what they
-- say of cycles.
use Rattle.std.proofs.Common.{◌≡◌, ◌≢◌, ℕ, zero, suc, ◌+◌, ◌<◌, ◌≤◌, Bool, true, false, eqb, List, [], ◌∷◌, length, get_or, replicate, None, refl, sym, ap, ◌∙◌, subst, inl, inr, arith}
use Rattle.std.specs.List.{Contains, list_all}
use Rattle.std.proofs.lemmas.Bool.{eqb-true, false≢true, false_from_ne_true, or_cases}
use Rattle.std.proofs.lemmas.List.{length-replicate}
use Rattle.std.proofs.lemmas.List.Sums.{sum_by-cons}
use Rattle.oe_order.specs.Graph.{Node, arguments, Reaches, refers, onwards, RefersWithin, IsAcyclic}
use Rattle.oe_order.specs.Order.{contains, next_of}
use Rattle.oe_order.specs.Sorted.{AreNoLoads, AreSorted, AreAllSorted}
use Rattle.oe_order.specs.Waiting.{IsPartial, marked_nodes}
use Rattle.oe_order.proofs.Lists.{Apart, IsMarked-marks_of, bool_split, contains-from, contains-index, contains-to, count, length-apart, length-marks_of, marks_of, one_if}
use Rattle.oe_order.proofs.Nexts.{contains-marked_from, list_all-fails, next_of-not_ready}
use Rattle.oe_order.proofs.Pools.{count_more, marked_within}
use Rattle.oe_order.proofs.Reach.{IsPath, IsPath-none, IsPath-push, IsPath-short, Reaches-within}
use Rattle.oe_order.proofs.Steps.{ready_from}

-- ---- marks of all nodes

pub all_marked : (size : ℕ) (marks : List Bool) → marks ≡ replicate size true → (n : ℕ) → n < length marks → get_or marks n false ≡ true
all_marked size marks is n below = ap (λ ms. get_or ms n false) is ∙ by size n (subst (λ ms. n < length ms) is below)
  where
    by : (size n : ℕ) → n < length (replicate size true) → get_or (replicate size true) n false ≡ true
    by zero n h = absurd (omega arith)
    by (suc size) zero h = refl
    by (suc size) (suc n) h = by size n (omega arith)

count_all : (n : ℕ) → count (replicate n true) ≡ n
count_all zero = refl
count_all (suc n) = omega (arith, sum_by-cons one_if true (replicate n true), count_all n)

-- ---- once no node is ready

-- a node that does not stand then refers to one that does not
left_over : (nodes : List Node) (members : List Bool) (steps : List ℕ) (n : ℕ) → next_of nodes (marked_nodes members (length nodes)) steps ≡ None →
    n < length nodes → get_or members n false ≡ true → contains steps n ≡ false → (a : ℕ) × Contains (arguments nodes n) a × (contains steps a ≡ false)
left_over nodes members steps n none below marked fresh =
    let run = marked_nodes members (length nodes) in
    let waits : list_all (contains steps) (arguments nodes n) ≡ false =
    false_from_ne_true (list_all (contains steps) (arguments nodes n)) (λ all. false≢true (sym (next_of-not_ready nodes run steps n none (contains-marked_from members (length nodes) n below marked)) ∙ ready_from nodes steps n fresh all)) in
    let a = list_all-fails (contains steps) (arguments nodes n) waits in
    (a.0, contains-to (arguments nodes n) a.0 a.1, a.2)

pub AreAllSorted-from : (nodes : List Node) (members : List Bool) (steps : List ℕ) → AreNoLoads nodes → length members ≡ length nodes →
    ((n : ℕ) → n < length nodes → get_or members n false ≡ true) → IsPartial nodes members steps →
    next_of nodes (marked_nodes members (length nodes)) steps ≡ None → AreAllSorted nodes steps
AreAllSorted-from nodes members steps free long marked p none = record {
  sorted = record {
    once = p.once;
    within = λ n has. (let here : n < length members = marked_within members n (p.member n (contains-from steps n has)) in omega (arith, here, long));
    behind = λ j a h has. p.arguments_first j a h (free (get_or steps j 0)) (contains-from (arguments nodes (get_or steps j 0)) a has);
  };
  left = λ n below nay.
      let fresh : contains steps n ≡ false = false_from_ne_true (contains steps n) (λ e. nay (contains-to steps n e)) in
      let a = left_over nodes members steps n none below (marked n below) fresh in
      (a.0, a.1, λ has. false≢true (sym a.2 ∙ contains-from steps a.0 has));
}

-- ---- where there is no cycle

none_left : (nodes : List Node) (steps : List ℕ) → IsAcyclic nodes → RefersWithin nodes → AreAllSorted nodes steps →
    (most : ℕ) (path : List ℕ) (n : ℕ) → n < length nodes → IsPath nodes path n → length nodes ≤ most + length path → (Contains steps n → ⊥) → ⊥
none_left nodes steps acyclic w s zero path n below p m nay = omega (arith, IsPath-short nodes path n acyclic below p)
none_left nodes steps acyclic w s (suc most) path n below p m nay =
    let a = s.left n below nay in
    none_left nodes steps acyclic w s most (n ∷ path) a.0 (w n a.0 a.1) (IsPath-push nodes path n a.0 acyclic below p a.1) (omega arith) a.2

-- all nodes are listed
pub all_listed : (nodes : List Node) (steps : List ℕ) → IsAcyclic nodes → RefersWithin nodes → AreAllSorted nodes steps → (n : ℕ) → n < length nodes → Contains steps n
all_listed nodes steps acyclic w s n below = elim (bool_split (contains steps n)) [
  | inl t ↦ contains-to steps n t
  | inr f ↦ absurd (none_left nodes steps acyclic w s (length nodes) [] n below (IsPath-none nodes n) (omega arith) (λ has. false≢true (sym f ∙ contains-from steps n has)))
]

-- ---- where all are listed

-- what a node reaches is listed before it
Reaches-behind : {nodes : List Node} {a b : ℕ} (steps : List ℕ) → AreSorted nodes steps → Reaches nodes a b → (j : ℕ) → j < length steps → get_or steps j 0 ≡ a →
    (i : ℕ) × (i < j) × (get_or steps i 0 ≡ b)
Reaches-behind {nodes} {a} {b} steps s (refers h) j below is = s.behind j b below (subst (λ m. Contains (arguments nodes m) b) (sym is) h)
Reaches-behind {nodes} {a} {b = c} steps s (onwards {b = b} h r) j below is =
    let one = s.behind j b below (subst (λ m. Contains (arguments nodes m) b) (sym is) h) in
    let two = Reaches-behind steps s r one.0 (omega (arith, one.1, below)) one.2 in
    (two.0, omega (arith, two.1, one.1), two.2)

pub IsAcyclic-listed : (nodes : List Node) (steps : List ℕ) → RefersWithin nodes → AreSorted nodes steps → ((n : ℕ) → n < length nodes → Contains steps n) → IsAcyclic nodes
IsAcyclic-listed nodes steps w s all n r =
    let at = contains-index steps n (contains-from steps n (all n (Reaches-within w r))) in
    let back = Reaches-behind steps s r at.0 at.1 at.2 in
    s.once back.0 at.0 back.1 at.1 (back.2 ∙ sym at.2)

-- ---- how many are listed

apart_from : (xs : List ℕ) → ((i j : ℕ) → i < j → j < length xs → get_or xs i 0 ≢ get_or xs j 0) → Apart xs
apart_from [] once = tt
apart_from (x ∷ xs) once = (
  false_from_ne_true (contains xs x) (λ e.
      let at = contains-index xs x e in
      once 0 (suc at.0) (omega arith) (omega (arith, at.1)) (sym at.2)),
  apart_from xs (λ i j less below. once (suc i) (suc j) (omega (arith, less)) (omega (arith, below))),
)

-- as many as there are nodes are all of them
pub all_by_count : (nodes : List Node) (steps : List ℕ) → AreSorted nodes steps → length nodes ≤ length steps → (n : ℕ) → n < length nodes → Contains steps n
all_by_count nodes steps s many n below = elim (bool_split (contains steps n)) [
  | inl t ↦ contains-to steps n t
  | inr f ↦ absurd (omega (
    arith,
    many,
    length-apart (length nodes) (n ∷ steps) (f, apart_from steps s.once) (λ k e. elim (or_cases (eqb n k) (contains steps k) e) [
      | inl q ↦ subst (λ m. m < length nodes) (eqb-true n k q) below
      | inr q ↦ s.within k (contains-to steps k q)
    ]),
  ))
]

pub count_by_all : (nodes : List Node) (steps : List ℕ) → AreSorted nodes steps → ((n : ℕ) → n < length nodes → Contains steps n) → length steps ≡ length nodes
count_by_all nodes steps s all =
    let apart = apart_from steps s.once in
    let inside : (k : ℕ) → contains steps k ≡ true → k < length nodes = λ k e. s.within k (contains-to steps k e) in
    let marked = IsMarked-marks_of (length nodes) steps apart inside in
    let more : count (replicate (length nodes) true) ≤ count (marks_of (length nodes) steps) =
    count_more (replicate (length nodes) true) (marks_of (length nodes) steps) (length-replicate (length nodes) true ∙ sym (length-marks_of (length nodes) steps))
    (λ i e. marked.same i ∙ contains-from steps i (all i (subst (λ k. i < k) (length-replicate (length nodes) true) (marked_within (replicate (length nodes) true) i e)))) in
    omega (arith, more, count_all (length nodes), marked.once, length-apart (length nodes) steps apart inside)
