use Rattle.std.proofs.Common.{◌≡◌, ◌∙◌, sym, subst}
use Rattle.std.specs.Prelude.{IfOk}
use Rattle.std.specs.Option.{option_map}
use Rattle.oe_graph.specs.Plain.{plain_graph}
use Rattle.oe_meanings.proofs.AmongLemmas.{mapped_some}
use Rattle.oe_check.specs.Early.{IsEarlyFault}
use Rattle.oe_requests.specs.PlainRequests.{plain_called, plain_kernel, plain_cube_request}
use Rattle.oe_check.proofs.faults_early.early_fault.Goals as goal

pub returns-in-LoadCollection : goal.returns-in-LoadCollection
returns-in-LoadCollection c =
    subst (λ r. IfOk c.load_fault.result (IsEarlyFault (plain_cube_request r) c.args.one.now c.args.two.now)) (sym c.in-LoadCollection.is)
    (c.load_fault.ensures c.in-LoadCollection.id.now c.args.two.now)

pub returns-in-FilterBbox : goal.returns-in-FilterBbox
returns-in-FilterBbox c =
    subst (λ r. IsEarlyFault (plain_cube_request r) c.args.one.now c.args.two.now c.filter_bbox_fault.result) (sym c.in-FilterBbox.is)
    (c.filter_bbox_fault.ensures c.in-FilterBbox.cube.now c.args.two.now)

pub returns-in-FilterTemporal : goal.returns-in-FilterTemporal
returns-in-FilterTemporal c =
    subst (λ r. IsEarlyFault (plain_cube_request r) c.args.one.now c.args.two.now c.filter_temporal_fault.result) (sym c.in-FilterTemporal.is)
    (c.filter_temporal_fault.ensures c.in-FilterTemporal.cube.now c.args.two.now)

pub returns-in-FilterBands : goal.returns-in-FilterBands
returns-in-FilterBands c =
    subst (λ r. IfOk c.filter_bands_fault.result (IsEarlyFault (plain_cube_request r) c.args.one.now c.args.two.now)) (sym c.in-FilterBands.is)
    (rw c.as_slice.ensures.value at c.filter_bands_fault.ensures c.in-FilterBands.cube.now c.args.two.now)

pub returns-in-ApplyKernel : goal.returns-in-ApplyKernel
returns-in-ApplyKernel c =
    let k = c.in-ApplyKernel in
    subst (λ r. IsEarlyFault (plain_cube_request r) c.args.one.now c.args.two.now c.kernel_fault.result) (sym k.is)
    (c.kernel_fault.ensures k.cube.now k.factor k.replace_invalid k.border c.args.two.now)

pub returns-in-ReduceDimension : goal.returns-in-ReduceDimension
returns-in-ReduceDimension c =
    let k = c.in-ReduceDimension in
    subst (λ r. IsEarlyFault (plain_cube_request r) c.args.one.now c.args.two.now c.reduce_fault.result) (sym k.is)
    (c.reduce_fault.ensures k.cube.now (plain_called k.reducer) c.args.two.now)

pub returns-in-AggregateTemporal : goal.returns-in-AggregateTemporal
returns-in-AggregateTemporal c =
    let k = c.in-AggregateTemporal in
    subst (λ r. IfOk c.aggregate_fault.result (IsEarlyFault (plain_cube_request r) c.args.one.now c.args.two.now)) (sym k.is)
    (rw c.as_slice-in-AggregateTemporal.ensures.value at c.aggregate_fault.ensures k.cube.now (plain_called k.reducer) c.args.two.now)

pub returns-in-AggregateTemporalPeriod : goal.returns-in-AggregateTemporalPeriod
returns-in-AggregateTemporalPeriod c =
    let k = c.in-AggregateTemporalPeriod in
    subst (λ r. IsEarlyFault (plain_cube_request r) c.args.one.now c.args.two.now c.period_fault.result) (sym k.is)
    (c.period_fault.ensures k.cube.now k.period (plain_called k.reducer) c.args.two.now)

pub returns-in-ApplyDimension : goal.returns-in-ApplyDimension
returns-in-ApplyDimension c =
    let k = c.in-ApplyDimension in
    subst (λ r. IsEarlyFault (plain_cube_request r) c.args.one.now c.args.two.now c.apply_dimension_fault.result) (sym k.is)
    (c.apply_dimension_fault.ensures k.cube.now (plain_graph k.process.now) c.args.two.now)

pub returns-in-MergeCubes : goal.returns-in-MergeCubes
returns-in-MergeCubes c =
    let k = c.in-MergeCubes in
    subst (λ r. IfOk c.merge_fault.result (IsEarlyFault (plain_cube_request r) c.args.one.now c.args.two.now)) (sym k.is)
    (c.merge_fault.ensures k.one.now k.two.now (option_map plain_called k.resolver) (c.is_some.ensures ∙ sym (mapped_some plain_called k.resolver)))

pub returns-in-Mask : goal.returns-in-Mask
returns-in-Mask c =
    let k = c.in-Mask in
    subst (λ r. IfOk c.mask_fault.result (IsEarlyFault (plain_cube_request r) c.args.one.now c.args.two.now)) (sym k.is)
    (c.mask_fault.ensures k.cube.now k.mask.now k.replacement)

pub returns-in-SaveResult : goal.returns-in-SaveResult
returns-in-SaveResult c =
    let k = c.in-SaveResult in
    subst (λ r. IsEarlyFault (plain_cube_request r) c.args.one.now c.args.two.now c.save_fault.result) (sym k.is)
    (c.save_fault.ensures k.cube.now c.args.one.now c.args.two.now)
