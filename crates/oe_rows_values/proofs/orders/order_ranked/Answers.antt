use Rattle.std.proofs.Common.{refl}
use Rattle.oe_rows_values.proofs.orders.order_ranked.Goals as goal

pub leads_back-requires-clause-named : goal.leads_back-requires-clause-named
leads_back-requires-clause-named c = c.if-not-is_ranked.ensures.named refl

pub order-requires-clause-named : goal.order-requires-clause-named
order-requires-clause-named c = c.if-not-is_ranked.ensures.named refl

pub order-requires-clause-acyclic : goal.order-requires-clause-acyclic
order-requires-clause-acyclic c = c.if-not-is_ranked.ensures.acyclic refl
