use Rattle.std.proofs.Common.{◌≡◌, ◌<◌, ◌∙◌, Err, length, ap, refl, subst, arith}
use Rattle.oe_jobs.specs.Plain.{plain_job, plain_ran}
use Rattle.oe_plan.specs.Figures.{bound_of, most_held_cells}
use Rattle.oe_check.specs.Checked.{CheckedGraph}
use Rattle.oe_sources.specs.CatalogueDims.{dims_of}
use Rattle.oe_sources.specs.CatalogueRows.{rows_of}
use Rattle.oe_graph.specs.Read.{IsFaultless}
use Rattle.oe_service.specs.Causes.{JudgeRefused, PlanRefused, Stands}
use Rattle.oe_service.specs.Refusals.{of_plan}
use Rattle.oe_service.specs.Runs.{asset_graph, ran_of}
use Rattle.oe_service.specs.States.{count_assets}
use Rattle.oe_service.proofs.RefusalLemmas.{handed_on}
use Rattle.oe_service.proofs.RunLemmas.{first_going, first_run, judge_refused, next_within, of_next, plan_refused, plannable}
use Rattle.oe_service.proofs.asset.begin_asset.Goals as goal

pub judge_asset-requires-clause-within : goal.judge_asset-requires-clause-within
judge_asset-requires-clause-within g c =
    let few : c.len.result ≡ length c.args.job.now.assets.items = omega (arith, c.len.ensures, c.args.job.now.assets.ok.0) in
    next_within (plain_job c.args.job.now) (plain_ran c.ran_of.result.now) c.len.result c.ran_of.ensures.value few
    c.requires.missing

pub returns-in_err-checked-clause-refused : goal.returns-in_err-checked-clause-refused
returns-in_err-checked-clause-refused g c =
    let dims = dims_of (rows_of (λ z. (goal.SharedSource-dyn g z).CubeSource.seen z.1) c.args.catalogue.now) in
    let job = plain_job c.args.job.now in
    let few : c.len.result ≡ length c.args.job.now.assets.items = omega (arith, c.len.ensures, c.args.job.now.assets.ok.0) in
    let reason = c.in_err-checked.field-0.0 in
    handed_on (PlanRefused dims (ran_of job) (count_assets job) c.args.sizes.0 c.args.sizes.1) reason c.from_residual.result
    c.from_residual.ensures.1
    (judge_refused dims job c.args.sizes.0 c.args.sizes.1 reason
    (of_next job (plain_ran c.ran_of.result.now) c.len.result c.ran_of.ensures.value few
    (λ ran k. JudgeRefused dims ran k reason) c.in_err-checked.ensures.refused))

pub returns-in_err-plan-clause-refused : goal.returns-in_err-plan-clause-refused
returns-in_err-plan-clause-refused g c =
    let dims = dims_of (rows_of (λ z. (goal.SharedSource-dyn g z).CubeSource.seen z.1) c.args.catalogue.now) in
    let job = plain_job c.args.job.now in
    let few : c.len.result ≡ length c.args.job.now.assets.items = omega (arith, c.len.ensures, c.args.job.now.assets.ok.0) in
    let fail = c.in_err-plan.field-0.0 in
    let checked = c.in_ok-checked.checked in
    let graph_is : checked ≡ asset_graph dims (ran_of job) (count_assets job) =
    of_next job (plain_ran c.ran_of.result.now) c.len.result c.ran_of.ensures.value few
    (λ ran k. checked ≡ asset_graph dims ran k) c.in_ok-checked.ensures.checked in
    handed_on (PlanRefused dims (ran_of job) (count_assets job) c.args.sizes.0 c.args.sizes.1) (of_plan fail)
    c.from_residual-in_err-plan.result c.from_residual-in_err-plan.ensures.1
    (plan_refused dims job c.args.sizes.0 c.args.sizes.1 fail
    (of_next job (plain_ran c.ran_of.result.now) c.len.result c.ran_of.ensures.value few
    (λ ran k. IsFaultless (Stands dims ran k)) c.in_ok-checked.ensures.none)
    (λ cells is. subst (λ (g : CheckedGraph). (cells ≡ bound_of g c.args.sizes.0 c.args.sizes.1) × (most_held_cells < cells))
    graph_is (c.in_err-plan.ensures.too_large cells (ap Err is))))

pub returns-clause-run : goal.returns-clause-run
returns-clause-run g c =
    let dims = dims_of (rows_of (λ z. (goal.SharedSource-dyn g z).CubeSource.seen z.1) c.args.catalogue.now) in
    let job = plain_job c.args.job.now in
    let few : c.len.result ≡ length c.args.job.now.assets.items = omega (arith, c.len.ensures, c.args.job.now.assets.ok.0) in
    let checked = c.in_ok-checked.checked in
    first_run dims job c.args.sizes.0 c.args.sizes.1 c.in_ok-plan.plan
    (c.in_ok-plan.ensures.graph ∙ of_next job (plain_ran c.ran_of.result.now) c.len.result c.ran_of.ensures.value few
    (λ ran k. checked ≡ asset_graph dims ran k) c.in_ok-checked.ensures.checked)
    c.in_ok-plan.ensures.valid c.in_ok-plan.ensures.size c.in_ok-plan.ensures.workers c.requires.missing c.start.result
    c.start.ensures

pub returns-clause-going : goal.returns-clause-going
returns-clause-going g c =
    let rows = rows_of (λ z. (goal.SharedSource-dyn g z).CubeSource.seen z.1) c.args.catalogue.now in
    let dims = dims_of rows in
    let job = plain_job c.args.job.now in
    let few : c.len.result ≡ length c.args.job.now.assets.items = omega (arith, c.len.ensures, c.args.job.now.assets.ok.0) in
    let checked = c.in_ok-checked.checked in
    first_going dims job c.args.sizes.0 c.args.sizes.1 c.in_ok-plan.plan
    (c.in_ok-plan.ensures.graph ∙ of_next job (plain_ran c.ran_of.result.now) c.len.result c.ran_of.ensures.value few
    (λ ran k. checked ≡ asset_graph dims ran k) c.in_ok-checked.ensures.checked)
    c.in_ok-plan.ensures.valid c.in_ok-plan.ensures.size c.in_ok-plan.ensures.workers rows refl
    c.in_ok-checked.ensures.given c.in_ok-checked.ensures.found c.start.result c.start.ensures

pub returns-clause-plannable : goal.returns-clause-plannable
returns-clause-plannable g c =
    let dims = dims_of (rows_of (λ z. (goal.SharedSource-dyn g z).CubeSource.seen z.1) c.args.catalogue.now) in
    let job = plain_job c.args.job.now in
    let few : c.len.result ≡ length c.args.job.now.assets.items = omega (arith, c.len.ensures, c.args.job.now.assets.ok.0) in
    let checked = c.in_ok-checked.checked in
    plannable dims job c.args.sizes.0 c.args.sizes.1 c.in_ok-plan.plan
    (c.in_ok-plan.ensures.graph ∙ of_next job (plain_ran c.ran_of.result.now) c.len.result c.ran_of.ensures.value few
    (λ ran k. checked ≡ asset_graph dims ran k) c.in_ok-checked.ensures.checked)
    c.in_ok-plan.ensures.valid c.in_ok-plan.ensures.size c.in_ok-plan.ensures.workers
    (of_next job (plain_ran c.ran_of.result.now) c.len.result c.ran_of.ensures.value few
    (λ ran k. IsFaultless (Stands dims ran k)) c.in_ok-checked.ensures.none)
