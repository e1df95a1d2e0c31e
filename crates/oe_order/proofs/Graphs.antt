-- The nodes of a list of links.
use Rattle.std.proofs.Common.{◌≡◌, ℕ, zero, suc, ◌<◌, false, List, [], ◌∷◌, ◌++◌, length, get_or, refl, sym, ap, arith}
use Rattle.oe_order.specs.Graph.{Node, graph_of, arguments, is_load}
use Rattle.oe_order.specs.declared.Links.{Links}

pub length-graph_of : (xs : List Links) → length (graph_of xs) ≡ length xs
length-graph_of [] = refl
length-graph_of (x ∷ xs) = ap suc (length-graph_of xs)

pub arguments-graph_of : (xs : List Links) (n : ℕ) (x : Links) → n < length xs → x ≡ get_or xs n x → arguments (graph_of xs) n ≡ x.arguments.items
arguments-graph_of [] n x h e = absurd (omega arith)
arguments-graph_of (y ∷ ys) zero x h e = sym (ap (λ (z : Links). z.arguments.items) e)
arguments-graph_of (y ∷ ys) (suc n) x h e = arguments-graph_of ys n x (omega arith) e

pub is_load-graph_of : (xs : List Links) (n : ℕ) (x : Links) → n < length xs → x ≡ get_or xs n x → is_load (graph_of xs) n ≡ x.load
is_load-graph_of [] n x h e = absurd (omega arith)
is_load-graph_of (y ∷ ys) zero x h e = sym (ap (λ (z : Links). z.load) e)
is_load-graph_of (y ∷ ys) (suc n) x h e = is_load-graph_of ys n x (omega arith) e

pub graph_of-push : (xs : List Links) (x : Links) → graph_of (xs ++ x ∷ []) ≡ graph_of xs ++ record { load = x.load; arguments = x.arguments.items } ∷ []
graph_of-push [] x = refl
graph_of-push (y ∷ xs) x = ap (λ (ns : List Node). record { load = y.load; arguments = y.arguments.items } ∷ ns) (graph_of-push xs x)

-- where none loads, none does with one more
pub no_loads-push : (xs : List Links) (x : Links) (n : ℕ) → x.load ≡ false → ((m : ℕ) → is_load (graph_of xs) m ≡ false) → is_load (graph_of (xs ++ x ∷ [])) n ≡ false
no_loads-push [] x zero is free = is
no_loads-push [] x (suc n) is free = refl
no_loads-push (y ∷ xs) x zero is free = free 0
no_loads-push (y ∷ xs) x (suc n) is free = no_loads-push xs x n is (λ m. free (suc m))
