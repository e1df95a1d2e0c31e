-- Steps that are refused with a code and, where it is that of a graph's fault, a node: the first that refuses decides.
use Rattle.std.specs.Prelude.{◌≡◌, ℕ, List, [], Option, Some, Result, Ok, Err, ⊤}
use Rattle.oe_graph.specs.declared.fault.Fault.{Fault}
use Rattle.oe_graph.specs.declared.fault.Refusal as graphs
use Rattle.oe_graph.specs.declared.fault.Refusal.TheVariants as graph
use Rattle.oe_pages.specs.declared.query.QueryFail.{QueryFail}
use Rattle.oe_pages.specs.declared.query.QueryFail.TheVariants as query
use Rattle.oe_replies.specs.declared.code.ReplyCode.{ReplyCode}
use Rattle.oe_replies.specs.declared.code.ReplyCode.TheVariants.{Graph, QueryInvalid}
use Rattle.oe_routes.specs.declared.refusal.Refusal.{Refusal}
use Rattle.oe_routes.specs.declared.refusal.Refusal.TheVariants as refusal
use Rattle.oe_routes.specs.declared.refusal.Rejection.{Rejection}
use Rattle.oe_routes.specs.declared.refusal.Rejection.TheVariants as rejection

-- what a request is refused with: a code, and the node of a graph's fault, empty for every other code
pub record Rejected : Type 0 where
  pub code : ReplyCode
  pub node : List ℕ

abbrev pub of_code : ReplyCode → Rejected
of_code code = record { code = code; node = [] }

abbrev pub of_fault : Fault → Rejected
of_fault fault = record { code = Graph fault.code; node = fault.node }

infixl 10 ◌>>=◌
abbrev pub ◌>>=◌ : {A B : Type 0} → Result A Rejected → (A → Result B Rejected) → Result B Rejected
(Ok x) >>= next = next x
(Err rejected) >>= next = Err rejected

abbrev pub reject : {A : Type 0} → ReplyCode → Result A Rejected
reject code = Err (of_code code)

-- a step that is refused with a code alone
abbrev pub plainly : {A : Type 0} → Result A ReplyCode → Result A Rejected
plainly (Ok x) = Ok x
plainly (Err code) = reject code

-- a step whose value may be missing, where it gives one
abbrev pub as_some : {A : Type 0} → Result A Rejected → Result (Option A) Rejected
as_some (Ok x) = Ok (Some x)
as_some (Err rejected) = Err rejected

-- what a rejection says of a step: that it is refused so, or nothing where it is out of memory
abbrev pub Rejects : {Y : Type 0} → Rejection → Result Y Rejected → Type 0
Rejects rejection.OutOfMemory step = ⊤
Rejects (rejection.Code code) step = step ≡ reject code
Rejects (rejection.Fault fault) step = step ≡ Err (of_fault fault)

-- what a call answered, seen by view, is what the step gives, unless it is out of memory
abbrev pub Settles : {X Y : Type 0} → (X → Y) → Result X Rejection → Result Y Rejected → Type 0
Settles view (Ok x) step = step ≡ Ok (view x)
Settles view (Err e) step = Rejects e step

-- a failure of a query
abbrev pub refusal_of : QueryFail → Refusal
refusal_of query.OutOfMemory = refusal.OutOfMemory
refusal_of query.Invalid = refusal.Code QueryInvalid

-- a refusal with a code alone
abbrev pub rejection_of : Refusal → Rejection
rejection_of refusal.OutOfMemory = rejection.OutOfMemory
rejection_of (refusal.Code code) = rejection.Code code

-- a refusal of a graph
abbrev pub rejection_of_graph : graphs.Refusal → Rejection
rejection_of_graph graph.OutOfMemory = rejection.OutOfMemory
rejection_of_graph (graph.Fault fault) = rejection.Fault fault
