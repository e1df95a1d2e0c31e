-- The one table of routes, and the route that `matchit` finds for a path.
use Rattle.std.specs.Prelude.{ℕ, ◌+◌, List, [], ◌∷◌, map, Bool, true, false, codes, Option, Some, None, Ok, Err, Result, option_and_then, slice_get, find, bytes_eq, ◌&&◌, is_none}
use denote.Bor.{Bor}
use Rattle.matchit.specs.Order.{placed}
use Rattle.matchit.specs.Route.{Scan, parse_route}
use Rattle.matchit.specs.Router.{RouteOf, nearest, route_from}
use Rattle.matchit.specs.Rows.{RowsOf}
use Rattle.matchit.specs.Seek.{first}
use Rattle.matchit.specs.declared.error.InsertError.{InsertError}
use Rattle.oe_replies.specs.Bodies.{PlainEndpoint}
use Rattle.oe_replies.specs.declared.code.ReplyCode.{ReplyCode}
use Rattle.oe_replies.specs.declared.code.ReplyCode.TheVariants.{NotFound, MethodUnsupported}
use Rattle.oe_routes.specs.declared.table.Operation.{Operation}
use Rattle.oe_routes.specs.declared.table.Operation.TheVariants as operations

-- a method of a path: its name, what it does, and whether it needs a user
pub record Method : Type 0 where
  pub name : List ℕ
  pub operation : Operation
  pub needs_user : Bool

-- a path with its methods
pub record Route : Type 0 where
  pub text : List ℕ
  pub methods : List Method

abbrev pub method_from : List ℕ → Operation → Bool → Method
method_from name operation needs_user = record { name = name; operation = operation; needs_user = needs_user }

abbrev pub route_of_parts : List ℕ → List Method → Route
route_of_parts text methods = record { text = text; methods = methods }

-- an entry of the table behind references
abbrev pub MethodEntry : Type 0
MethodEntry = Bor (List ℕ) × Operation × Bool

abbrev pub RouteEntry : Type 0
RouteEntry = Bor (List ℕ) × Bor (List MethodEntry)

abbrev pub method_of : MethodEntry → Method
method_of entry = method_from entry.0.now entry.1 entry.2

abbrev pub route_of : RouteEntry → Route
route_of entry = route_of_parts entry.0.now (map method_of entry.1.now)

-- a method that all may use, and one that needs a user
abbrev by_all : List ℕ → Operation → Method
by_all name operation = method_from name operation false

abbrev by_user : List ℕ → Operation → Method
by_user name operation = method_from name operation true

-- all rows, in byte order of the paths, each with its methods in byte order
abbrev pub routes : List Route
routes =
    route_of_parts (codes "/") (by_all (codes "GET") operations.ShowCapabilities ∷ [])
    ∷ route_of_parts (codes "/.well-known/openeo") (by_all (codes "GET") operations.ShowVersions ∷ [])
    ∷ route_of_parts (codes "/collections") (by_all (codes "GET") operations.ListCollections ∷ [])
    ∷ route_of_parts (codes "/collections/{id}") (by_all (codes "GET") operations.ShowCollection ∷ [])
    ∷ route_of_parts (codes "/conformance") (by_all (codes "GET") operations.ShowConformance ∷ [])
    ∷ route_of_parts (codes "/file_formats") (by_all (codes "GET") operations.ListFileFormats ∷ [])
    ∷ route_of_parts (codes "/jobs") (
    by_user (codes "GET") operations.ListJobs
    ∷ by_user (codes "POST") operations.CreateJob
    ∷ [])
    ∷ route_of_parts (codes "/jobs/{id}") (
    by_user (codes "DELETE") operations.DeleteJob
    ∷ by_user (codes "GET") operations.ShowJob
    ∷ by_user (codes "PATCH") operations.PatchJob
    ∷ [])
    ∷ route_of_parts (codes "/jobs/{id}/estimate") (by_user (codes "GET") operations.EstimateJob ∷ [])
    ∷ route_of_parts (codes "/jobs/{id}/logs") (by_user (codes "GET") operations.ShowLogs ∷ [])
    ∷ route_of_parts (codes "/jobs/{id}/results") (
    by_user (codes "DELETE") operations.CancelJob
    ∷ by_user (codes "GET") operations.ShowResults
    ∷ by_user (codes "POST") operations.QueueJob
    ∷ [])
    ∷ route_of_parts (codes "/jobs/{id}/results/{name}") (by_user (codes "GET") operations.SendAsset ∷ [])
    ∷ route_of_parts (codes "/process_graphs") (by_user (codes "GET") operations.ListStored ∷ [])
    ∷ route_of_parts (codes "/process_graphs/{id}") (
    by_user (codes "DELETE") operations.ForgetProcess
    ∷ by_user (codes "GET") operations.ShowStored
    ∷ by_user (codes "PUT") operations.StoreProcess
    ∷ [])
    ∷ route_of_parts (codes "/processes") (by_all (codes "GET") operations.ListProcesses ∷ [])
    ∷ route_of_parts (codes "/result") (by_user (codes "POST") operations.RunNow ∷ [])
    ∷ route_of_parts (codes "/validation") (by_user (codes "POST") operations.Validate ∷ [])
    ∷ []

-- ---- the row of a path

-- the router with a row by its number, where its text is a route
abbrev pub with_row : Result Scan InsertError → ℕ → RowsOf (RouteOf ℕ) → RowsOf (RouteOf ℕ)
with_row (Ok s) number rows = placed (s.pattern, route_from s number) rows
with_row (Err e) number rows = rows

abbrev pub numbered : ℕ → List Route → RowsOf (RouteOf ℕ) → RowsOf (RouteOf ℕ)
numbered number [] rows = rows
numbered number (route ∷ rest) rows = numbered (number + 1) rest (with_row (parse_route route.text) number rows)

abbrev pub router_of : List Route → RowsOf (RouteOf ℕ)
router_of rows = numbered 0 rows []

-- a text is a route that conflicts with no row
abbrev pub goes_in : Result Scan InsertError → RowsOf (RouteOf ℕ) → Bool
goes_in (Err e) rows = false
goes_in (Ok s) rows = is_none (nearest s.pattern rows)

-- all of them are, each behind those before it
abbrev pub go_in : ℕ → List Route → RowsOf (RouteOf ℕ) → Bool
go_in number [] rows = true
go_in number (route ∷ rest) rows =
    goes_in (parse_route route.text) rows
    && go_in (number + 1) rest (with_row (parse_route route.text) number rows)

abbrev pub methods_of : Option Route → Result (List Method) ReplyCode
methods_of None = Err NotFound
methods_of (Some route) = Ok route.methods

-- the methods of the row that is found for a path
abbrev pub path_in : List Route → List ℕ → Result (List Method) ReplyCode
path_in rows path = methods_of (option_and_then (λ found. slice_get rows found.value) (first (router_of rows) path))

abbrev pub find_path : List ℕ → Result (List Method) ReplyCode
find_path path = path_in routes path

-- ---- the method

abbrev pub method_or_refused : Option Method → Result Method ReplyCode
method_or_refused None = Err MethodUnsupported
method_or_refused (Some method) = Ok method

abbrev pub has_name : List ℕ → Method → Bool
has_name name m = bytes_eq m.name name

-- the row of a method, whose name has letter case
abbrev pub find_method : List Method → List ℕ → Result Method ReplyCode
find_method methods name = method_or_refused (find (has_name name) methods)

-- ---- as the capabilities print it

abbrev pub endpoint_of : Route → PlainEndpoint
endpoint_of route = record { path = route.text; methods = map (λ (m : Method). m.name) route.methods }
