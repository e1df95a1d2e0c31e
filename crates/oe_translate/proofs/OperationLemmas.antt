-- An operation of the code that is an aggregation or gives running sums.
use Rattle.std.proofs.Common.{◌≡◌, Bool, List, Some, refl, sym, ap, ◌∙◌}
use Rattle.oe_expr.specs.Callback.{Callback}
use Rattle.oe_requests.specs.Operations as operation
use Rattle.oe_requests.specs.PlainRequests.{plain_operation}
use Rattle.oe_requests.specs.declared.extent.Interval.{Interval}
use Rattle.oe_requests.specs.declared.operation.Operation.{Operation}
use Rattle.oe_requests.specs.declared.operation.Operation.TheVariants.{Keep, EachCell, Convolve, Reduce, Aggregate, Accumulate, Merge, Cover, GiveBack}

pub an_aggregation : (op : Operation) (intervals : List Interval) (callback : Callback)
    → plain_operation op ≡ operation.aggregate intervals callback
    → ((is : List Interval) (c : Callback) → op ≡ Aggregate is c → ⊥) → ⊥
an_aggregation (Aggregate is c) intervals callback e none = none is c refl
an_aggregation (Keep r) intervals callback e none = absurd cc
an_aggregation (EachCell c) intervals callback e none = absurd cc
an_aggregation (Convolve kernel factor border replace) intervals callback e none = absurd cc
an_aggregation (Reduce kind c) intervals callback e none = absurd cc
an_aggregation (Accumulate ignore) intervals callback e none = absurd cc
an_aggregation (Merge r) intervals callback e none = absurd cc
an_aggregation (Cover r) intervals callback e none = absurd cc
an_aggregation GiveBack intervals callback e none = absurd cc

same_intervals : (is intervals : List Interval) (c callback : Callback)
    → operation.aggregate is c ≡ operation.aggregate intervals callback → is ≡ intervals
same_intervals is intervals c callback e = cc

pub the_intervals : (op : Operation) (is intervals : List Interval) (c callback : Callback) → op ≡ Aggregate is c
    → plain_operation op ≡ operation.aggregate intervals callback → is ≡ intervals
the_intervals op is intervals c callback e plain = same_intervals is intervals c callback (sym (ap plain_operation e) ∙ plain)

pub running_sums : (op : Operation) (ignore : Bool) → plain_operation op ≡ operation.accumulate ignore
    → ((b : Bool) → op ≡ Accumulate b → ⊥) → ⊥
running_sums (Accumulate b) ignore e none = none b refl
running_sums (Keep r) ignore e none = absurd cc
running_sums (EachCell c) ignore e none = absurd cc
running_sums (Convolve kernel factor border replace) ignore e none = absurd cc
running_sums (Reduce kind c) ignore e none = absurd cc
running_sums (Aggregate is c) ignore e none = absurd cc
running_sums (Merge r) ignore e none = absurd cc
running_sums (Cover r) ignore e none = absurd cc
running_sums GiveBack ignore e none = absurd cc

same_flag : (b ignore : Bool) → operation.accumulate b ≡ operation.accumulate ignore → b ≡ ignore
same_flag b ignore e = cc

pub the_flag : (op : Operation) (b ignore : Bool) → op ≡ Accumulate b → plain_operation op ≡ operation.accumulate ignore → b ≡ ignore
the_flag op b ignore e plain = same_flag b ignore (sym (ap plain_operation e) ∙ plain)

-- what is found is one
pub same_operation : (op : operation.Operation) (other : operation.Operation) → Some op ≡ Some other → op ≡ other
same_operation op other e = cc
