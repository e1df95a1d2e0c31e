use Rattle.std.proofs.Common.{◌≡◌, ◌++◌, Bool, List, ℕ, ap, ◌∙◌, sym}
use Rattle.std.specs.Prelude.{codes, if◌then◌else◌}
use Rattle.std.proofs.lemmas.Result.{IfOk-weaker}
use Rattle.oe_expr.specs.Nodes.{id_at}
use Rattle.oe_plan.specs.Turns.{turn_name}
use Rattle.oe_plan.proofs.turns.turn_name.Goals as goal

pub returns-then-takes_sums : goal.returns-then-takes_sums
returns-then-takes_sums c =
    let id = id_at c.args.node c.args.checked.now.nodes in
    let is : id ++ codes "/sum" ≡ turn_name c.args.checked.now c.args.node =
    ap (λ (sums : Bool). if sums then id ++ codes "/sum" else id) (sym c.if-takes_sums.true ∙ c.takes_sums.ensures) in
    IfOk-weaker c.name_of_sums.result _ _ (λ (name : List ℕ) named. named ∙ (ap (λ (xs : List ℕ). xs ++ codes "/sum") c.id-id.ensures ∙ is))
    c.name_of_sums.ensures

pub returns-else-takes_sums : goal.returns-else-takes_sums
returns-else-takes_sums c =
    let id = id_at c.args.node c.args.checked.now.nodes in
    let is : id ≡ turn_name c.args.checked.now c.args.node =
    ap (λ (sums : Bool). if sums then id ++ codes "/sum" else id) (sym c.if-takes_sums.false ∙ c.takes_sums.ensures) in
    IfOk-weaker c.of.result _ _ (λ (name : List ℕ) named. named ∙ (c.id-id.ensures ∙ is)) c.of.ensures
