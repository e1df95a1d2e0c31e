-- What a request asks for: a row of the table, and whether what that does depends on the mounted collections.
use Rattle.std.specs.Prelude.{Bool, true, false, Result, Ok, Err}
use Rattle.oe_http.specs.Plain.{PlainRequest}
use Rattle.oe_replies.specs.declared.code.ReplyCode.{ReplyCode}
use Rattle.oe_routes.specs.Steps.{◌>>=◌}
use Rattle.oe_routes.specs.Table.{Method, find_method, find_path}
use Rattle.oe_routes.specs.declared.table.Operation.{Operation}
use Rattle.oe_routes.specs.declared.table.Operation.TheVariants as ops

-- the row of the table for the path and the method of a request
abbrev pub asked_method : PlainRequest → Result Method ReplyCode
asked_method r = find_path r.path >>= λ methods. find_method methods r.method

-- the operation of a request
abbrev pub operation_of : PlainRequest → Result Operation ReplyCode
operation_of r = asked_method r >>= λ method. Ok method.operation

-- an operation shows collections, or judges a graph over them
abbrev pub needs_rows : Operation → Bool
needs_rows ops.ShowCapabilities = false
needs_rows ops.ShowVersions = false
needs_rows ops.ListCollections = true
needs_rows ops.ShowCollection = true
needs_rows ops.ShowConformance = false
needs_rows ops.ListFileFormats = false
needs_rows ops.ListJobs = false
needs_rows ops.CreateJob = false
needs_rows ops.DeleteJob = false
needs_rows ops.ShowJob = false
needs_rows ops.PatchJob = false
needs_rows ops.EstimateJob = true
needs_rows ops.ShowLogs = false
needs_rows ops.CancelJob = false
needs_rows ops.ShowResults = false
needs_rows ops.QueueJob = true
needs_rows ops.SendAsset = false
needs_rows ops.ListStored = false
needs_rows ops.ForgetProcess = false
needs_rows ops.ShowStored = false
needs_rows ops.StoreProcess = false
needs_rows ops.ListProcesses = false
needs_rows ops.RunNow = true
needs_rows ops.Validate = true

abbrev pub needs_rows_of : Result Operation ReplyCode → Bool
needs_rows_of (Ok operation) = needs_rows operation
needs_rows_of (Err code) = false

-- a request asks for the rows of the collections: its operation needs them
abbrev pub asks_for_rows : PlainRequest → Bool
asks_for_rows r = needs_rows_of (operation_of r)
