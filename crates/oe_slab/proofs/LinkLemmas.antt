-- Links that are copied, and those where one node counts as one that loads.
use Rattle.std.proofs.Common.{◌≡◌, ℕ, zero, suc, ◌+◌, ◌<◌, true, List, [], ◌∷◌, ◌++◌, length, take, get_or, refl, sym, ap, ◌∙◌, arith}
use Rattle.std.specs.Prelude.{slice_set}
use Rattle.oe_order.specs.Graph.{Node, graph_of}
use Rattle.oe_order.specs.declared.Links.{Links}
use Rattle.oe_plan.specs.Schedules.{as_load}

abbrev node_of : Links → Node
node_of x = record { load = x.load; arguments = x.arguments.items }

graph_of-append : (xs : List Links) (x : Links) → graph_of (xs ++ x ∷ []) ≡ graph_of xs ++ node_of x ∷ []
graph_of-append [] x = refl
graph_of-append (y ∷ ys) x = ap (λ (ns : List Node). node_of y ∷ ns) (graph_of-append ys x)

graph_of-take : (xs : List Links) (i : ℕ) (x : Links) → i < length xs → x ≡ get_or xs i x
    → graph_of (take (i + 1) xs) ≡ graph_of (take i xs) ++ node_of x ∷ []
graph_of-take [] i x below is = absurd (omega arith)
graph_of-take (y ∷ ys) zero x below is = ap (λ (z : Links). node_of z ∷ []) (sym is)
graph_of-take (y ∷ ys) (suc i) x below is =
    let next : suc i + 1 ≡ suc (i + 1) = omega arith in
    rw next (ap (λ (ns : List Node). node_of y ∷ ns) (graph_of-take ys i x (omega arith) is))

-- one more of the links that are copied
pub copied_more : (xs copies : List Links) (i : ℕ) (x y : Links) → i < length xs → x ≡ get_or xs i x → y.load ≡ x.load
    → y.arguments.items ≡ x.arguments.items → graph_of copies ≡ graph_of (take i xs)
    → graph_of (copies ++ y ∷ []) ≡ graph_of (take (i + 1) xs)
copied_more xs copies i x y below is load arguments so_far =
    let same : node_of y ≡ node_of x = cc in
    graph_of-append copies y ∙ (ap (λ (ns : List Node). ns ++ node_of y ∷ []) so_far
    ∙ (ap (λ (n : Node). graph_of (take i xs) ++ n ∷ []) same ∙ sym (graph_of-take xs i x below is)))

-- where one of them is replaced
pub replaced : (xs : List Links) (n : ℕ) (x : Links) → x.load ≡ true → x.arguments.items ≡ []
    → graph_of (slice_set xs n x) ≡ as_load (graph_of xs) n
replaced [] n x load none = refl
replaced (y ∷ ys) zero x load none =
    let same : node_of x ≡ record { load = true; arguments = [] } = cc in
    ap (λ (m : Node). m ∷ graph_of ys) same
replaced (y ∷ ys) (suc n) x load none = ap (λ (ns : List Node). node_of y ∷ ns) (replaced ys n x load none)
