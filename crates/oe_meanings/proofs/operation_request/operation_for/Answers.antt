use Rattle.std.proofs.Common.{sym, subst}
use Rattle.std.specs.Option.{option_map}
use Rattle.oe_meanings.specs.Callbacks.{IsBuilt}
use Rattle.oe_requests.specs.Operations.{Outline}
use Rattle.oe_requests.specs.PlainRequests.{plain_cube_request}
use Rattle.oe_meanings.proofs.operation_request.operation_for.Goals as goal

pub returns-in-Apply : goal.returns-in-Apply
returns-in-Apply c =
    let k = c.in-Apply in
    let one : Outline = record { shape = c.args.shape.now; kind = c.args.kind } in
    let b : IsBuilt c.args.id.now (plain_cube_request c.args.request.now) one c.apply_for.result =
    subst (λ r. IsBuilt c.args.id.now (plain_cube_request r) one c.apply_for.result) (sym k.is) (c.apply_for.ensures k.cube.now c.args.shape.now) in
    record { built = b.built; faultless = b.faultless; refused = b.refused }

pub returns-in-ReduceDimension : goal.returns-in-ReduceDimension
returns-in-ReduceDimension c =
    let k = c.in-ReduceDimension in
    let one : Outline = record { shape = c.args.shape.now; kind = c.args.kind } in
    let b : IsBuilt c.args.id.now (plain_cube_request c.args.request.now) one c.reduction_for.result =
    subst (λ r. IsBuilt c.args.id.now (plain_cube_request r) one c.reduction_for.result) (sym k.is) (c.reduction_for.ensures k.cube.now) in
    record { built = b.built; faultless = b.faultless; refused = b.refused }

pub returns-in-AggregateTemporal : goal.returns-in-AggregateTemporal
returns-in-AggregateTemporal c =
    let k = c.in-AggregateTemporal in
    let one : Outline = record { shape = c.args.shape.now; kind = c.args.kind } in
    let b : IsBuilt c.args.id.now (plain_cube_request c.args.request.now) one c.aggregation_for.result =
    subst (λ r. IsBuilt c.args.id.now (plain_cube_request r) one c.aggregation_for.result) (sym k.is) (c.aggregation_for.ensures k.cube.now (option_map (λ name. name.now) k.dimension)) in
    record { built = b.built; faultless = b.faultless; refused = b.refused }

pub returns-in-AggregateTemporalPeriod : goal.returns-in-AggregateTemporalPeriod
returns-in-AggregateTemporalPeriod c =
    let k = c.in-AggregateTemporalPeriod in
    let one : Outline = record { shape = c.args.shape.now; kind = c.args.kind } in
    let b : IsBuilt c.args.id.now (plain_cube_request c.args.request.now) one c.period_for.result =
    subst (λ r. IsBuilt c.args.id.now (plain_cube_request r) one c.period_for.result) (sym k.is) (c.period_for.ensures k.cube.now (option_map (λ name. name.now) k.dimension)) in
    record { built = b.built; faultless = b.faultless; refused = b.refused }

pub returns-in-ApplyDimension : goal.returns-in-ApplyDimension
returns-in-ApplyDimension c =
    let k = c.in-ApplyDimension in
    let one : Outline = record { shape = c.args.shape.now; kind = c.args.kind } in
    let b : IsBuilt c.args.id.now (plain_cube_request c.args.request.now) one c.sums_for.result =
    subst (λ r. IsBuilt c.args.id.now (plain_cube_request r) one c.sums_for.result) (sym k.is) (c.sums_for.ensures k.cube.now one) in
    record { built = b.built; faultless = b.faultless; refused = b.refused }

pub returns-in-MergeCubes : goal.returns-in-MergeCubes
returns-in-MergeCubes c =
    let k = c.in-MergeCubes in
    let one : Outline = record { shape = c.args.shape.now; kind = c.args.kind } in
    let b : IsBuilt c.args.id.now (plain_cube_request c.args.request.now) one c.merge_for.result =
    subst (λ r. IsBuilt c.args.id.now (plain_cube_request r) one c.merge_for.result) (sym k.is) (c.merge_for.ensures k.one.now k.two.now c.args.shape.now) in
    record { built = b.built; faultless = b.faultless; refused = b.refused }
