use Rattle.std.proofs.Common.{◌≡◌, ℕ, List, Result, map, sym, subst}
use Rattle.std.specs.Prelude.{IfOk}
use Rattle.serde_json.specs.Written.{compact_text}
use Rattle.oe_http.specs.Plain.{PlainRequest, plain_request}
use Rattle.oe_jobs.specs.Plain.{plain_book}
use Rattle.oe_replies.specs.Bodies.{capabilities_data, conformance_data, file_formats_data, versions_data}
use Rattle.oe_routes.specs.Actions.{MayBeDone}
use Rattle.oe_routes.specs.Answers as spec
use Rattle.oe_routes.specs.Asks.{needs_rows}
use Rattle.oe_routes.specs.Performs.{Performs}
use Rattle.oe_routes.specs.Scenes.{PlainScene, plain_scene}
use Rattle.oe_routes.specs.Table.{endpoint_of, routes}
use Rattle.oe_routes.specs.declared.action.Action.{Action}
use Rattle.oe_routes.specs.declared.refusal.Rejection.{Rejection}
use Rattle.oe_routes.specs.declared.table.Operation.{Operation}
use Rattle.oe_routes.specs.declared.table.Operation.TheVariants as ops
use Rattle.oe_routes.proofs.perform.perform.Goals as goal

-- what holds at the operation of an arm
at : (s : PlainScene) (user : List ℕ) (r : PlainRequest) (operation x : Operation) (result : Result Action Rejection)
    → operation ≡ x → Performs s user r x result → Performs s user r operation result
at s user r operation x result is h = subst (λ (o : Operation). Performs s user r o result) (sym is) h

may_at : (s : PlainScene) (operation x : Operation) (result : Result Action Rejection) → operation ≡ x
    → IfOk result (MayBeDone s (needs_rows x)) → IfOk result (MayBeDone s (needs_rows operation))
may_at s operation x result is h = subst (λ (o : Operation). IfOk result (MayBeDone s (needs_rows o))) (sym is) h

pub returns-in-RunNow-clause-answer : goal.returns-in-RunNow-clause-answer
returns-in-RunNow-clause-answer c =
    at (plain_scene c.args.scene) c.args.user.now (plain_request c.args.request.now) c.args.operation ops.RunNow c.run_action.result
    c.in-RunNow.is c.run_action.ensures.answer

pub returns-in-RunNow-clause-valid : goal.returns-in-RunNow-clause-valid
returns-in-RunNow-clause-valid c =
    may_at (plain_scene c.args.scene) c.args.operation ops.RunNow c.run_action.result c.in-RunNow.is
    c.run_action.ensures.valid

pub returns-in-CreateJob-clause-answer : goal.returns-in-CreateJob-clause-answer
returns-in-CreateJob-clause-answer c =
    at (plain_scene c.args.scene) c.args.user.now (plain_request c.args.request.now) c.args.operation ops.CreateJob c.create_action.result
    c.in-CreateJob.is c.create_action.ensures.answer

pub returns-in-CreateJob-clause-valid : goal.returns-in-CreateJob-clause-valid
returns-in-CreateJob-clause-valid c =
    may_at (plain_scene c.args.scene) c.args.operation ops.CreateJob c.create_action.result c.in-CreateJob.is
    c.create_action.ensures.valid

pub returns-in-PatchJob-clause-answer : goal.returns-in-PatchJob-clause-answer
returns-in-PatchJob-clause-answer c =
    at (plain_scene c.args.scene) c.args.user.now (plain_request c.args.request.now) c.args.operation ops.PatchJob c.patch_action.result
    c.in-PatchJob.is c.patch_action.ensures.answer

pub returns-in-PatchJob-clause-valid : goal.returns-in-PatchJob-clause-valid
returns-in-PatchJob-clause-valid c =
    may_at (plain_scene c.args.scene) c.args.operation ops.PatchJob c.patch_action.result c.in-PatchJob.is
    c.patch_action.ensures.valid

pub returns-in-DeleteJob-clause-answer : goal.returns-in-DeleteJob-clause-answer
returns-in-DeleteJob-clause-answer c =
    at (plain_scene c.args.scene) c.args.user.now (plain_request c.args.request.now) c.args.operation ops.DeleteJob c.delete_action.result
    c.in-DeleteJob.is c.delete_action.ensures.answer

pub returns-in-DeleteJob-clause-valid : goal.returns-in-DeleteJob-clause-valid
returns-in-DeleteJob-clause-valid c =
    may_at (plain_scene c.args.scene) c.args.operation ops.DeleteJob c.delete_action.result c.in-DeleteJob.is
    c.delete_action.ensures.valid

pub returns-in-QueueJob-clause-answer : goal.returns-in-QueueJob-clause-answer
returns-in-QueueJob-clause-answer c =
    at (plain_scene c.args.scene) c.args.user.now (plain_request c.args.request.now) c.args.operation ops.QueueJob c.queue_action.result
    c.in-QueueJob.is c.queue_action.ensures.answer

pub returns-in-QueueJob-clause-valid : goal.returns-in-QueueJob-clause-valid
returns-in-QueueJob-clause-valid c =
    may_at (plain_scene c.args.scene) c.args.operation ops.QueueJob c.queue_action.result c.in-QueueJob.is
    c.queue_action.ensures.valid

pub returns-in-EstimateJob-clause-answer : goal.returns-in-EstimateJob-clause-answer
returns-in-EstimateJob-clause-answer c =
    at (plain_scene c.args.scene) c.args.user.now (plain_request c.args.request.now) c.args.operation ops.EstimateJob c.estimate_action.result
    c.in-EstimateJob.is c.estimate_action.ensures.answer

pub returns-in-EstimateJob-clause-valid : goal.returns-in-EstimateJob-clause-valid
returns-in-EstimateJob-clause-valid c =
    may_at (plain_scene c.args.scene) c.args.operation ops.EstimateJob c.estimate_action.result c.in-EstimateJob.is
    (c.estimate_action.ensures.valid (plain_scene c.args.scene) (needs_rows ops.EstimateJob))

pub returns-in-CancelJob-clause-answer : goal.returns-in-CancelJob-clause-answer
returns-in-CancelJob-clause-answer c =
    at (plain_scene c.args.scene) c.args.user.now (plain_request c.args.request.now) c.args.operation ops.CancelJob c.cancel_action.result
    c.in-CancelJob.is c.cancel_action.ensures.answer

pub returns-in-CancelJob-clause-valid : goal.returns-in-CancelJob-clause-valid
returns-in-CancelJob-clause-valid c =
    may_at (plain_scene c.args.scene) c.args.operation ops.CancelJob c.cancel_action.result c.in-CancelJob.is
    c.cancel_action.ensures.valid

pub returns-in-SendAsset-clause-answer : goal.returns-in-SendAsset-clause-answer
returns-in-SendAsset-clause-answer c =
    at (plain_scene c.args.scene) c.args.user.now (plain_request c.args.request.now) c.args.operation ops.SendAsset c.asset_action.result
    c.in-SendAsset.is c.asset_action.ensures.answer

pub returns-in-SendAsset-clause-valid : goal.returns-in-SendAsset-clause-valid
returns-in-SendAsset-clause-valid c =
    may_at (plain_scene c.args.scene) c.args.operation ops.SendAsset c.asset_action.result c.in-SendAsset.is
    c.asset_action.ensures.valid

pub returns-in-StoreProcess-clause-answer : goal.returns-in-StoreProcess-clause-answer
returns-in-StoreProcess-clause-answer c =
    at (plain_scene c.args.scene) c.args.user.now (plain_request c.args.request.now) c.args.operation ops.StoreProcess c.store_action.result
    c.in-StoreProcess.is c.store_action.ensures.answer

pub returns-in-StoreProcess-clause-valid : goal.returns-in-StoreProcess-clause-valid
returns-in-StoreProcess-clause-valid c =
    may_at (plain_scene c.args.scene) c.args.operation ops.StoreProcess c.store_action.result c.in-StoreProcess.is
    c.store_action.ensures.valid

pub returns-in-ForgetProcess-clause-answer : goal.returns-in-ForgetProcess-clause-answer
returns-in-ForgetProcess-clause-answer c =
    at (plain_scene c.args.scene) c.args.user.now (plain_request c.args.request.now) c.args.operation ops.ForgetProcess c.forget_action.result
    c.in-ForgetProcess.is c.forget_action.ensures.answer

pub returns-in-ForgetProcess-clause-valid : goal.returns-in-ForgetProcess-clause-valid
returns-in-ForgetProcess-clause-valid c =
    may_at (plain_scene c.args.scene) c.args.operation ops.ForgetProcess c.forget_action.result c.in-ForgetProcess.is
    c.forget_action.ensures.valid

pub returns-in-ShowCollection-clause-answer : goal.returns-in-ShowCollection-clause-answer
returns-in-ShowCollection-clause-answer c =
    at (plain_scene c.args.scene) c.args.user.now (plain_request c.args.request.now) c.args.operation ops.ShowCollection c.action_of.result
    c.in-ShowCollection.is (λ f is.
    c.action_of.ensures.answer (plain_book c.args.scene.book.now)
    (spec.perform (plain_scene c.args.scene) f c.args.user.now (plain_request c.args.request.now) ops.ShowCollection)
    (c.collection_reply.ensures.reply f c.args.user.now))

pub returns-in-ShowCollection-clause-valid : goal.returns-in-ShowCollection-clause-valid
returns-in-ShowCollection-clause-valid c =
    may_at (plain_scene c.args.scene) c.args.operation ops.ShowCollection c.action_of.result c.in-ShowCollection.is
    (c.action_of.ensures.valid (plain_scene c.args.scene) (needs_rows ops.ShowCollection))

pub returns-in-Validate-clause-answer : goal.returns-in-Validate-clause-answer
returns-in-Validate-clause-answer c =
    at (plain_scene c.args.scene) c.args.user.now (plain_request c.args.request.now) c.args.operation ops.Validate c.action_of-in-Validate.result
    c.in-Validate.is (λ f is.
    c.action_of-in-Validate.ensures.answer (plain_book c.args.scene.book.now)
    (spec.perform (plain_scene c.args.scene) f c.args.user.now (plain_request c.args.request.now) ops.Validate)
    (c.validation_reply.ensures.reply f is))

pub returns-in-Validate-clause-valid : goal.returns-in-Validate-clause-valid
returns-in-Validate-clause-valid c =
    may_at (plain_scene c.args.scene) c.args.operation ops.Validate c.action_of-in-Validate.result c.in-Validate.is
    (c.action_of-in-Validate.ensures.valid (plain_scene c.args.scene) (needs_rows ops.Validate))

pub returns-in-ShowJob-clause-answer : goal.returns-in-ShowJob-clause-answer
returns-in-ShowJob-clause-answer c =
    at (plain_scene c.args.scene) c.args.user.now (plain_request c.args.request.now) c.args.operation ops.ShowJob c.action_of-in-ShowJob.result
    c.in-ShowJob.is (λ f is.
    c.action_of-in-ShowJob.ensures.answer (plain_book c.args.scene.book.now)
    (spec.perform (plain_scene c.args.scene) f c.args.user.now (plain_request c.args.request.now) ops.ShowJob)
    (c.job_reply.ensures.reply f))

pub returns-in-ShowJob-clause-valid : goal.returns-in-ShowJob-clause-valid
returns-in-ShowJob-clause-valid c =
    may_at (plain_scene c.args.scene) c.args.operation ops.ShowJob c.action_of-in-ShowJob.result c.in-ShowJob.is
    (c.action_of-in-ShowJob.ensures.valid (plain_scene c.args.scene) (needs_rows ops.ShowJob))

pub returns-in-ShowLogs-clause-answer : goal.returns-in-ShowLogs-clause-answer
returns-in-ShowLogs-clause-answer c =
    at (plain_scene c.args.scene) c.args.user.now (plain_request c.args.request.now) c.args.operation ops.ShowLogs c.action_of-in-ShowLogs.result
    c.in-ShowLogs.is (λ f is.
    c.action_of-in-ShowLogs.ensures.answer (plain_book c.args.scene.book.now)
    (spec.perform (plain_scene c.args.scene) f c.args.user.now (plain_request c.args.request.now) ops.ShowLogs)
    (c.logs_reply.ensures.reply f))

pub returns-in-ShowLogs-clause-valid : goal.returns-in-ShowLogs-clause-valid
returns-in-ShowLogs-clause-valid c =
    may_at (plain_scene c.args.scene) c.args.operation ops.ShowLogs c.action_of-in-ShowLogs.result c.in-ShowLogs.is
    (c.action_of-in-ShowLogs.ensures.valid (plain_scene c.args.scene) (needs_rows ops.ShowLogs))

pub returns-in-ShowResults-clause-answer : goal.returns-in-ShowResults-clause-answer
returns-in-ShowResults-clause-answer c =
    at (plain_scene c.args.scene) c.args.user.now (plain_request c.args.request.now) c.args.operation ops.ShowResults c.action_of-in-ShowResults.result
    c.in-ShowResults.is (λ f is.
    c.action_of-in-ShowResults.ensures.answer (plain_book c.args.scene.book.now)
    (spec.perform (plain_scene c.args.scene) f c.args.user.now (plain_request c.args.request.now) ops.ShowResults)
    (c.results_reply.ensures.reply f))

pub returns-in-ShowResults-clause-valid : goal.returns-in-ShowResults-clause-valid
returns-in-ShowResults-clause-valid c =
    may_at (plain_scene c.args.scene) c.args.operation ops.ShowResults c.action_of-in-ShowResults.result c.in-ShowResults.is
    (c.action_of-in-ShowResults.ensures.valid (plain_scene c.args.scene) (needs_rows ops.ShowResults))

pub returns-in-ShowStored-clause-answer : goal.returns-in-ShowStored-clause-answer
returns-in-ShowStored-clause-answer c =
    at (plain_scene c.args.scene) c.args.user.now (plain_request c.args.request.now) c.args.operation ops.ShowStored c.action_of-in-ShowStored.result
    c.in-ShowStored.is (λ f is.
    c.action_of-in-ShowStored.ensures.answer (plain_book c.args.scene.book.now)
    (spec.perform (plain_scene c.args.scene) f c.args.user.now (plain_request c.args.request.now) ops.ShowStored)
    (c.process_reply.ensures.reply f))

pub returns-in-ShowStored-clause-valid : goal.returns-in-ShowStored-clause-valid
returns-in-ShowStored-clause-valid c =
    may_at (plain_scene c.args.scene) c.args.operation ops.ShowStored c.action_of-in-ShowStored.result c.in-ShowStored.is
    (c.action_of-in-ShowStored.ensures.valid (plain_scene c.args.scene) (needs_rows ops.ShowStored))

pub returns-in-ShowCapabilities-clause-answer : goal.returns-in-ShowCapabilities-clause-answer
returns-in-ShowCapabilities-clause-answer c =
    at (plain_scene c.args.scene) c.args.user.now (plain_request c.args.request.now) c.args.operation ops.ShowCapabilities c.show.result
    c.in-ShowCapabilities.is (λ f is.
    c.show.ensures.answer (plain_book c.args.scene.book.now) (capabilities_data (map endpoint_of routes))
    c.capabilities_text.ensures)

pub returns-in-ShowCapabilities-clause-valid : goal.returns-in-ShowCapabilities-clause-valid
returns-in-ShowCapabilities-clause-valid c =
    may_at (plain_scene c.args.scene) c.args.operation ops.ShowCapabilities c.show.result c.in-ShowCapabilities.is
    (c.show.ensures.valid (plain_scene c.args.scene) (needs_rows ops.ShowCapabilities))

pub returns-in-ShowVersions-clause-answer : goal.returns-in-ShowVersions-clause-answer
returns-in-ShowVersions-clause-answer c =
    at (plain_scene c.args.scene) c.args.user.now (plain_request c.args.request.now) c.args.operation ops.ShowVersions c.show-in-ShowVersions.result
    c.in-ShowVersions.is (λ f is.
    c.show-in-ShowVersions.ensures.answer (plain_book c.args.scene.book.now) (versions_data c.args.scene.site.now.base)
    (subst (λ (t : List ℕ). IfOk c.versions_body.result (λ body. body.items ≡ compact_text (versions_data t))) c.as_str-base.ensures c.versions_body.ensures))

pub returns-in-ShowVersions-clause-valid : goal.returns-in-ShowVersions-clause-valid
returns-in-ShowVersions-clause-valid c =
    may_at (plain_scene c.args.scene) c.args.operation ops.ShowVersions c.show-in-ShowVersions.result c.in-ShowVersions.is
    (c.show-in-ShowVersions.ensures.valid (plain_scene c.args.scene) (needs_rows ops.ShowVersions))

pub returns-in-ShowConformance-clause-answer : goal.returns-in-ShowConformance-clause-answer
returns-in-ShowConformance-clause-answer c =
    at (plain_scene c.args.scene) c.args.user.now (plain_request c.args.request.now) c.args.operation ops.ShowConformance c.show-in-ShowConformance.result
    c.in-ShowConformance.is (λ f is.
    c.show-in-ShowConformance.ensures.answer (plain_book c.args.scene.book.now) conformance_data
    c.conformance_body.ensures)

pub returns-in-ShowConformance-clause-valid : goal.returns-in-ShowConformance-clause-valid
returns-in-ShowConformance-clause-valid c =
    may_at (plain_scene c.args.scene) c.args.operation ops.ShowConformance c.show-in-ShowConformance.result c.in-ShowConformance.is
    (c.show-in-ShowConformance.ensures.valid (plain_scene c.args.scene) (needs_rows ops.ShowConformance))

pub returns-in-ListFileFormats-clause-answer : goal.returns-in-ListFileFormats-clause-answer
returns-in-ListFileFormats-clause-answer c =
    at (plain_scene c.args.scene) c.args.user.now (plain_request c.args.request.now) c.args.operation ops.ListFileFormats c.show-in-ListFileFormats.result
    c.in-ListFileFormats.is (λ f is.
    c.show-in-ListFileFormats.ensures.answer (plain_book c.args.scene.book.now) file_formats_data
    c.file_formats_body.ensures)

pub returns-in-ListFileFormats-clause-valid : goal.returns-in-ListFileFormats-clause-valid
returns-in-ListFileFormats-clause-valid c =
    may_at (plain_scene c.args.scene) c.args.operation ops.ListFileFormats c.show-in-ListFileFormats.result c.in-ListFileFormats.is
    (c.show-in-ListFileFormats.ensures.valid (plain_scene c.args.scene) (needs_rows ops.ListFileFormats))

pub returns-in-ListCollections-clause-answer : goal.returns-in-ListCollections-clause-answer
returns-in-ListCollections-clause-answer c =
    at (plain_scene c.args.scene) c.args.user.now (plain_request c.args.request.now) c.args.operation ops.ListCollections c.list_collections.result
    c.in-ListCollections.is (c.list_collections.ensures.answer c.args.user.now)

pub returns-in-ListCollections-clause-valid : goal.returns-in-ListCollections-clause-valid
returns-in-ListCollections-clause-valid c =
    may_at (plain_scene c.args.scene) c.args.operation ops.ListCollections c.list_collections.result c.in-ListCollections.is
    (c.list_collections.ensures.valid (plain_scene c.args.scene) (needs_rows ops.ListCollections))

pub returns-in-ListProcesses-clause-answer : goal.returns-in-ListProcesses-clause-answer
returns-in-ListProcesses-clause-answer c =
    at (plain_scene c.args.scene) c.args.user.now (plain_request c.args.request.now) c.args.operation ops.ListProcesses c.list_processes.result
    c.in-ListProcesses.is (c.list_processes.ensures.answer c.args.user.now)

pub returns-in-ListProcesses-clause-valid : goal.returns-in-ListProcesses-clause-valid
returns-in-ListProcesses-clause-valid c =
    may_at (plain_scene c.args.scene) c.args.operation ops.ListProcesses c.list_processes.result c.in-ListProcesses.is
    (c.list_processes.ensures.valid (plain_scene c.args.scene) (needs_rows ops.ListProcesses))

pub returns-in-ListJobs-clause-answer : goal.returns-in-ListJobs-clause-answer
returns-in-ListJobs-clause-answer c =
    at (plain_scene c.args.scene) c.args.user.now (plain_request c.args.request.now) c.args.operation ops.ListJobs c.list_jobs.result
    c.in-ListJobs.is c.list_jobs.ensures.answer

pub returns-in-ListJobs-clause-valid : goal.returns-in-ListJobs-clause-valid
returns-in-ListJobs-clause-valid c =
    may_at (plain_scene c.args.scene) c.args.operation ops.ListJobs c.list_jobs.result c.in-ListJobs.is
    (c.list_jobs.ensures.valid (plain_scene c.args.scene) (needs_rows ops.ListJobs))

pub returns-in-ListStored-clause-answer : goal.returns-in-ListStored-clause-answer
returns-in-ListStored-clause-answer c =
    at (plain_scene c.args.scene) c.args.user.now (plain_request c.args.request.now) c.args.operation ops.ListStored c.list_stored.result
    c.in-ListStored.is c.list_stored.ensures.answer

pub returns-in-ListStored-clause-valid : goal.returns-in-ListStored-clause-valid
returns-in-ListStored-clause-valid c =
    may_at (plain_scene c.args.scene) c.args.operation ops.ListStored c.list_stored.result c.in-ListStored.is
    (c.list_stored.ensures.valid (plain_scene c.args.scene) (needs_rows ops.ListStored))
