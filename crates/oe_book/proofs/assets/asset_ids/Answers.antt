use Rattle.std.proofs.Common.{◌≡◌, true, ℕ, List, sym, subst}
use Rattle.std.proofs.lemmas.Result.{IfOk-weaker}
use Rattle.oe_dims.specs.Names.{names_rise}
use Rattle.oe_graph.specs.Plain.{plain_graph}
use Rattle.oe_book.proofs.AssetLemmas.{asset_ids_rise}
use Rattle.oe_book.proofs.assets.asset_ids.Goals as goal

pub returns-clause-rise : goal.returns-clause-rise
returns-clause-rise c =
    IfOk-weaker c.copy_ids.result _ _
    (λ v is valid. subst (λ (ids : List (List ℕ)). names_rise ids ≡ true) (sym is) (asset_ids_rise (plain_graph c.args.graph.now) valid))
    c.copy_ids.ensures
