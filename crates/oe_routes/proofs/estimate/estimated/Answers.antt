use Rattle.std.proofs.Common.{List, ℕ, ap, sym, ◌∙◌, subst, arith}
use Rattle.std.proofs.lemmas.Grind.{common_steps}
use borrow.Author.Differences.{ints}
use Rattle.oe_graph.specs.Plain.{plain_graph}
use Rattle.oe_graph.specs.Tree.{PlainGraph}
use Rattle.oe_routes.specs.Performs.{AreWithin, IsSound}
use Rattle.oe_routes.specs.Scenes.{plain_scene}
use Rattle.oe_routes.proofs.EstimateLemmas.{assets_within}
use Rattle.oe_routes.proofs.estimate.estimated.Goals as goal

pub asset_graphs-requires-clause-sound : goal.asset_graphs-requires-clause-sound
asset_graphs-requires-clause-sound c =
    subst (λ (g : PlainGraph). IsSound (plain_scene c.args.scene) c.args.user.now g) c.in_ok-graph.ensures.graph
    c.in_ok-judged.ensures.none

pub asset_graphs-requires-clause-within : goal.asset_graphs-requires-clause-within
asset_graphs-requires-clause-within c =
    subst (λ (g : PlainGraph). AreWithin g c.deref.result.now) c.in_ok-graph.ensures.graph
    (subst (AreWithin (plain_graph c.in_ok-graph.graph)) (sym (c.deref.ensures.value ∙ c.in_ok-nodes.ensures.nodes))
    (assets_within (plain_graph c.in_ok-graph.graph)))

pub returns-clause-answer : goal.returns-clause-answer
returns-clause-answer c = grind (ints, arith, common_steps) steps 4000000

pub returns-clause-valid : goal.returns-clause-valid
returns-clause-valid c = grind (arith, common_steps) steps 2000000

pub returns-in_err-few_assets-clause-answer : goal.returns-in_err-few_assets-clause-answer
returns-in_err-few_assets-clause-answer c = grind (arith, common_steps) steps 2000000

pub returns-in_err-few_assets-clause-valid : goal.returns-in_err-few_assets-clause-valid
returns-in_err-few_assets-clause-valid c = grind (arith, common_steps) steps 2000000

pub returns-in_err-graph-clause-answer : goal.returns-in_err-graph-clause-answer
returns-in_err-graph-clause-answer c = grind (arith, common_steps) steps 2000000

pub returns-in_err-graph-clause-valid : goal.returns-in_err-graph-clause-valid
returns-in_err-graph-clause-valid c = grind (arith, common_steps) steps 2000000

pub returns-in_err-graphs-clause-answer : goal.returns-in_err-graphs-clause-answer
returns-in_err-graphs-clause-answer c = grind (arith, common_steps) steps 2000000

pub returns-in_err-graphs-clause-valid : goal.returns-in_err-graphs-clause-valid
returns-in_err-graphs-clause-valid c = grind (arith, common_steps) steps 2000000

pub returns-in_err-ids-clause-answer : goal.returns-in_err-ids-clause-answer
returns-in_err-ids-clause-answer c = grind (arith, common_steps) steps 2000000

pub returns-in_err-ids-clause-valid : goal.returns-in_err-ids-clause-valid
returns-in_err-ids-clause-valid c = grind (arith, common_steps) steps 2000000

pub returns-in_err-judged-clause-answer : goal.returns-in_err-judged-clause-answer
returns-in_err-judged-clause-answer c = grind (arith, common_steps) steps 2000000

pub returns-in_err-judged-clause-valid : goal.returns-in_err-judged-clause-valid
returns-in_err-judged-clause-valid c = grind (arith, common_steps) steps 2000000

pub returns-in_err-nodes-clause-answer : goal.returns-in_err-nodes-clause-answer
returns-in_err-nodes-clause-answer c = grind (arith, common_steps) steps 2000000

pub returns-in_err-nodes-clause-valid : goal.returns-in_err-nodes-clause-valid
returns-in_err-nodes-clause-valid c = grind (arith, common_steps) steps 2000000
