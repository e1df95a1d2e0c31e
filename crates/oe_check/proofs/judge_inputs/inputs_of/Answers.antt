use Rattle.std.proofs.Common.{refl, ap, option_map}
use Rattle.oe_dims.specs.Plain.{plain_rows}
use Rattle.oe_graph.specs.Plain.{plain_nodes}
use Rattle.oe_check.proofs.InputLemmas.{one_input, two_inputs, load_input}
use Rattle.oe_check.specs.Inputs.{outline_in}
use Rattle.oe_requests.specs.PlainRequests.{plain_cube_request}
use Rattle.oe_check.proofs.judge_inputs.inputs_of.Goals as goal

pub returns-in-LoadCollection : goal.returns-in-LoadCollection
returns-in-LoadCollection c = λ at known.
    load_input (plain_rows c.args.dims.now) at _ _ _ _ _ (option_map outline_in c.collection_named.result) _ (ap plain_cube_request c.in-LoadCollection.is)
    c.collection_named.ensures c.once.ensures

pub returns-in-FilterBbox : goal.returns-in-FilterBbox
returns-in-FilterBbox c = λ at.
    one_input (plain_nodes c.args.nodes.now) c.requires.resolved (plain_rows c.args.dims.now) c.args.states.now at _ _ c.in-FilterBbox.cube.now
    (option_map outline_in c.input_named.result) _ (ap plain_cube_request c.in-FilterBbox.is) refl refl refl c.input_named.ensures c.once-in-FilterBbox.ensures

pub returns-in-FilterTemporal : goal.returns-in-FilterTemporal
returns-in-FilterTemporal c = λ at.
    one_input (plain_nodes c.args.nodes.now) c.requires.resolved (plain_rows c.args.dims.now) c.args.states.now at _ _ c.in-FilterTemporal.cube.now
    (option_map outline_in c.input_named-in-FilterTemporal.result) _ (ap plain_cube_request c.in-FilterTemporal.is) refl refl refl c.input_named-in-FilterTemporal.ensures c.once-in-FilterTemporal.ensures

pub returns-in-FilterBands : goal.returns-in-FilterBands
returns-in-FilterBands c = λ at.
    one_input (plain_nodes c.args.nodes.now) c.requires.resolved (plain_rows c.args.dims.now) c.args.states.now at _ _ c.in-FilterBands.cube.now
    (option_map outline_in c.input_named-in-FilterBands.result) _ (ap plain_cube_request c.in-FilterBands.is) refl refl refl c.input_named-in-FilterBands.ensures c.once-in-FilterBands.ensures

pub returns-in-Apply : goal.returns-in-Apply
returns-in-Apply c = λ at.
    one_input (plain_nodes c.args.nodes.now) c.requires.resolved (plain_rows c.args.dims.now) c.args.states.now at _ _ c.in-Apply.cube.now
    (option_map outline_in c.input_named-in-Apply.result) _ (ap plain_cube_request c.in-Apply.is) refl refl refl c.input_named-in-Apply.ensures c.once-in-Apply.ensures

pub returns-in-ApplyKernel : goal.returns-in-ApplyKernel
returns-in-ApplyKernel c = λ at.
    one_input (plain_nodes c.args.nodes.now) c.requires.resolved (plain_rows c.args.dims.now) c.args.states.now at _ _ c.in-ApplyKernel.cube.now
    (option_map outline_in c.input_named-in-ApplyKernel.result) _ (ap plain_cube_request c.in-ApplyKernel.is) refl refl refl c.input_named-in-ApplyKernel.ensures c.once-in-ApplyKernel.ensures

pub returns-in-ReduceDimension : goal.returns-in-ReduceDimension
returns-in-ReduceDimension c = λ at.
    one_input (plain_nodes c.args.nodes.now) c.requires.resolved (plain_rows c.args.dims.now) c.args.states.now at _ _ c.in-ReduceDimension.cube.now
    (option_map outline_in c.input_named-in-ReduceDimension.result) _ (ap plain_cube_request c.in-ReduceDimension.is) refl refl refl c.input_named-in-ReduceDimension.ensures c.once-in-ReduceDimension.ensures

pub returns-in-AggregateTemporal : goal.returns-in-AggregateTemporal
returns-in-AggregateTemporal c = λ at.
    one_input (plain_nodes c.args.nodes.now) c.requires.resolved (plain_rows c.args.dims.now) c.args.states.now at _ _ c.in-AggregateTemporal.cube.now
    (option_map outline_in c.input_named-in-AggregateTemporal.result) _ (ap plain_cube_request c.in-AggregateTemporal.is) refl refl refl c.input_named-in-AggregateTemporal.ensures c.once-in-AggregateTemporal.ensures

pub returns-in-AggregateTemporalPeriod : goal.returns-in-AggregateTemporalPeriod
returns-in-AggregateTemporalPeriod c = λ at.
    one_input (plain_nodes c.args.nodes.now) c.requires.resolved (plain_rows c.args.dims.now) c.args.states.now at _ _ c.in-AggregateTemporalPeriod.cube.now
    (option_map outline_in c.input_named-in-AggregateTemporalPeriod.result) _ (ap plain_cube_request c.in-AggregateTemporalPeriod.is) refl refl refl c.input_named-in-AggregateTemporalPeriod.ensures c.once-in-AggregateTemporalPeriod.ensures

pub returns-in-ApplyDimension : goal.returns-in-ApplyDimension
returns-in-ApplyDimension c = λ at.
    one_input (plain_nodes c.args.nodes.now) c.requires.resolved (plain_rows c.args.dims.now) c.args.states.now at _ _ c.in-ApplyDimension.cube.now
    (option_map outline_in c.input_named-in-ApplyDimension.result) _ (ap plain_cube_request c.in-ApplyDimension.is) refl refl refl c.input_named-in-ApplyDimension.ensures c.once-in-ApplyDimension.ensures

pub returns-in-SaveResult : goal.returns-in-SaveResult
returns-in-SaveResult c = λ at.
    one_input (plain_nodes c.args.nodes.now) c.requires.resolved (plain_rows c.args.dims.now) c.args.states.now at _ _ c.in-SaveResult.cube.now
    (option_map outline_in c.input_named-in-SaveResult.result) _ (ap plain_cube_request c.in-SaveResult.is) refl refl refl c.input_named-in-SaveResult.ensures c.once-in-SaveResult.ensures

pub returns-in-MergeCubes : goal.returns-in-MergeCubes
returns-in-MergeCubes c = λ at.
    two_inputs (plain_nodes c.args.nodes.now) c.requires.resolved (plain_rows c.args.dims.now) c.args.states.now at _ _ c.in-MergeCubes.one.now c.in-MergeCubes.two.now
    (option_map outline_in c.input_named-in-MergeCubes.result) (option_map outline_in c.input_named-in-MergeCubes-2.result) _ (ap plain_cube_request c.in-MergeCubes.is) refl refl refl
    c.input_named-in-MergeCubes.ensures c.input_named-in-MergeCubes-2.ensures c.both.ensures

pub returns-in-Mask : goal.returns-in-Mask
returns-in-Mask c = λ at.
    two_inputs (plain_nodes c.args.nodes.now) c.requires.resolved (plain_rows c.args.dims.now) c.args.states.now at _ _ c.in-Mask.cube.now c.in-Mask.mask.now
    (option_map outline_in c.input_named-in-Mask.result) (option_map outline_in c.input_named-in-Mask-2.result) _ (ap plain_cube_request c.in-Mask.is) refl refl refl
    c.input_named-in-Mask.ensures c.input_named-in-Mask-2.ensures c.both-in-Mask.ensures
