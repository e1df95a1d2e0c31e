use Rattle.std.proofs.Common.{◌≡◌, ◌∙◌, ℕ, List, length, subst, sym, arith}
use Rattle.oe_dims.specs.Names.{OrdersNames}
use Rattle.oe_dims.proofs.DistinctLemmas.{whole_write}
use Rattle.oe_dims.proofs.bands.BandIndex.of.Goals as goal

pub returns : goal.returns
returns c =
    let names = c.bands-names.result.now in
    let order = c.sort_indices.new.indices in
    let sort = c.sort_indices.ensures in
    let puts : OrdersNames names order = record {
      within = sort.within;
      rise = sym sort.rise ∙ sort.value ∙ c.bands-names.ensures.differ;
      whole = sort.same;
    } in
    let long : length order ≡ c.in_ok-order.order.len = omega arith in
    subst (OrdersNames _) (whole_write c.in_ok-order.order.len order _ long) (subst (λ (v : List (List ℕ)). OrdersNames v order) c.bands-names.ensures.value puts)
