-- A graph where one node counts as one that loads: it has no other references than before.
use Rattle.std.proofs.Common.{◌≡◌, ℕ, zero, suc, ◌<◌, List, [], ◌∷◌, length, refl, ap, arith}
use Rattle.std.proofs.lemmas.List.Elements.{Contains-get_or}
use Rattle.std.specs.Prelude.{Contains, IfOk, Result, Ok, Err, slice_index}
use Rattle.oe_order.specs.Graph.{Node, arguments, Reaches, refers, onwards, IsAcyclic, RefersWithin}
use Rattle.oe_order.specs.Live.{Steps}
use Rattle.oe_order.specs.Order.{IsListing}
use Rattle.oe_order.proofs.Reach.{IsInRun-within}
use Rattle.oe_plan.specs.Schedules.{as_load}

pub length-as_load : (nodes : List Node) (f : ℕ) → length (as_load nodes f) ≡ length nodes
length-as_load [] f = refl
length-as_load (x ∷ xs) zero = refl
length-as_load (x ∷ xs) (suc f) = ap suc (length-as_load xs f)

no_member : {A : Type 0} (n : ℕ) → Contains [] n → A
no_member n (i, below, is) = absurd (omega arith)

pub taken_before : (nodes : List Node) (f n a : ℕ) → Contains (arguments (as_load nodes f) n) a → Contains (arguments nodes n) a
taken_before [] f n a has = has
taken_before (x ∷ xs) zero zero a has = no_member a has
taken_before (x ∷ xs) zero (suc n) a has = has
taken_before (x ∷ xs) (suc f) zero a has = has
taken_before (x ∷ xs) (suc f) (suc n) a has = taken_before xs f n a has

pub reached_before : (nodes : List Node) (f : ℕ) {a b : ℕ} → Reaches (as_load nodes f) a b → Reaches nodes a b
reached_before nodes f {a} {b} (refers has) = refers (taken_before nodes f a b has)
reached_before nodes f {a} (onwards {b = m} has rest) = onwards (taken_before nodes f a m has) (reached_before nodes f rest)

pub refers_within : (nodes : List Node) (f : ℕ) → RefersWithin nodes → RefersWithin (as_load nodes f)
refers_within nodes f within n a has = let below = within n a (taken_before nodes f n a has) in omega (arith, length-as_load nodes f)

pub still_acyclic : (nodes : List Node) (f : ℕ) → IsAcyclic nodes → IsAcyclic (as_load nodes f)
still_acyclic nodes f acyclic n path = acyclic n (reached_before nodes f path)

-- each step is of a node
pub steps_within : {E : Type 0} (nodes : List Node) (last count : ℕ) (r : Result Steps E) → RefersWithin nodes → last < length nodes
    → length nodes ≡ count → IfOk r (λ o. IsListing nodes last o.steps)
    → IfOk r (λ o. (i : ℕ) → i < length o.steps → slice_index o.steps i < count)
steps_within nodes last count (Ok o) named within counted listing = λ i below.
    let inside : slice_index o.steps i < length nodes =
    IsInRun-within nodes last (slice_index o.steps i) named within
    ((listing.members (slice_index o.steps i)).0 (Contains-get_or o.steps i 0 below)) in
    omega (arith, inside, counted)
steps_within nodes last count (Err e) named within counted listing = tt
