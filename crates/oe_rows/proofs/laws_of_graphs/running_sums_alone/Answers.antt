use Rattle.std.proofs.Common.{[], ◌∷◌, codes}
use Rattle.std.proofs.lemmas.Result.{IfOk-weaker}
use Rattle.oe_graph.specs.Plain.{plain_graph}
use Rattle.oe_rows.proofs.SumLemmas.{each_sums}
use Rattle.oe_rows.proofs.laws_of_graphs.running_sums_alone.Goals as goal

pub running_sum_in-requires : goal.running_sum_in-requires
running_sum_in-requires c = record { ids_rise = c.requires.ids_rise; has_result = c.requires.has_result }

pub returns : goal.returns
returns c =
    IfOk-weaker c.running_sum_in.result _ _
    (λ ignore sums. each_sums (codes "data" ∷ codes "context" ∷ []) (plain_graph c.args.process.now) c.requires sums)
    c.running_sum_in.ensures.faultless
