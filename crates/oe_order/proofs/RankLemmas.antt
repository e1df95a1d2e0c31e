-- Ranks that fall along each reference.
use Rattle.std.proofs.Common.{◌≡◌, ℕ, zero, suc, ◌<◌, ◌≤◌, true, List, [], ◌∷◌, length, get_or, refl, sym, ap, ◌∙◌, inl, inr, arith}
use Rattle.std.proofs.lemmas.Bool.{cases_lt, false≢true}
use Rattle.oe_order.specs.Graph.{Node, arguments, Reaches, refers, onwards, RefersWithin, IsAcyclic}
use Rattle.oe_order.specs.Order.{contains}
use Rattle.oe_order.specs.Ranks.{IsRanking}
use Rattle.oe_order.proofs.Lists.{contains-from, contains-to}

arguments-past : (nodes : List Node) (n : ℕ) → length nodes ≤ n → arguments nodes n ≡ []
arguments-past [] n h = refl
arguments-past (x ∷ xs) zero h = absurd (omega arith)
arguments-past (x ∷ xs) (suc n) h = arguments-past xs n (omega arith)

-- each argument of a node is a node, of lesser rank
abbrev pub AllRanked : List Node → List ℕ → ℕ → Type 0
AllRanked nodes ranks count = (n : ℕ) → n < count → (a : ℕ) → contains (arguments nodes n) a ≡ true → (a < length nodes) × (get_or ranks a 0 < get_or ranks n 0)

ranked_at : (nodes : List Node) (ranks : List ℕ) → AllRanked nodes ranks (length nodes) → (n a : ℕ) → contains (arguments nodes n) a ≡ true → (a < length nodes) × (get_or ranks a 0 < get_or ranks n 0)
ranked_at nodes ranks r n a e = elim (cases_lt n (length nodes)) [
  | inl h ↦ r n h a e
  | inr h ↦ absurd (false≢true (sym (ap (λ ys. contains ys a) (arguments-past nodes n h)) ∙ e))
]

Reaches-falls : {nodes : List Node} {a b : ℕ} (ranks : List ℕ) → AllRanked nodes ranks (length nodes) → Reaches nodes a b → get_or ranks b 0 < get_or ranks a 0
Reaches-falls {nodes} {a} {b} ranks r (refers h) = let w = ranked_at nodes ranks r a b (contains-from (arguments nodes a) b h) in w.1
Reaches-falls {nodes} {a} ranks r (onwards {b = m} h q) =
    let w = ranked_at nodes ranks r a m (contains-from (arguments nodes a) m h) in omega (arith, w.1, Reaches-falls ranks r q)

pub RefersWithin-ranked : (nodes : List Node) (ranks : List ℕ) → AllRanked nodes ranks (length nodes) → RefersWithin nodes
RefersWithin-ranked nodes ranks r n a h = let w = ranked_at nodes ranks r n a (contains-from (arguments nodes n) a h) in w.0

pub IsAcyclic-ranked : (nodes : List Node) (ranks : List ℕ) → AllRanked nodes ranks (length nodes) → IsAcyclic nodes
IsAcyclic-ranked nodes ranks r n q = omega (arith, Reaches-falls ranks r q)

-- ---- what a ranking is

pub IsRanking-from : (nodes : List Node) (ranks : List ℕ) → length ranks ≡ length nodes → AllRanked nodes ranks (length nodes) → IsRanking nodes ranks
IsRanking-from nodes ranks e r = record {
  each = e;
  named = RefersWithin-ranked nodes ranks r;
  falls = λ n a h. let w = ranked_at nodes ranks r n a (contains-from (arguments nodes n) a h) in w.1;
}

pub IsRanking-at : (nodes : List Node) (ranks : List ℕ) → IsRanking nodes ranks → (n a : ℕ) → contains (arguments nodes n) a ≡ true → (a < length ranks) × (get_or ranks a 0 < get_or ranks n 0)
IsRanking-at nodes ranks r n a e =
    let h = contains-to (arguments nodes n) a e in
    (omega (arith, r.each, r.named n a h), r.falls n a h)
