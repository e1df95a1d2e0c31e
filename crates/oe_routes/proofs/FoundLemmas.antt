-- What is found is what the calls that look for it answer: each of them answers the one value, or the one least fault.
use Rattle.std.proofs.Common.{◌≡◌, ℕ, List, codes, Option, Some, None, Result, Ok, refl, sym, ap, ◌∙◌, subst}
use Rattle.std.specs.Prelude.{⊤, ◌≤◌, IfSome, unwrap_or}
use Rattle.serde_json.specs.Data.{Data, depth, no_members, null}
use Rattle.serde_json.specs.Find.{get}
use Rattle.serde_json.specs.Read.{max_depth}
use Rattle.serde_json.proofs.Nesting.{depth-read}
use Rattle.oe_dims.specs.declared.dims.DimsRow.{DimsRow}
use Rattle.oe_graph.specs.Built.{graph_of}
use Rattle.oe_graph.specs.Faults.{IsLeast}
use Rattle.oe_graph.specs.Form.{Stands, StandsIn}
use Rattle.oe_graph.specs.Read.{IsFault, IsFaultless, IsGraphOf, Reads}
use Rattle.oe_graph.specs.Tree.{PlainGraph, PlainStored}
use Rattle.oe_graph.specs.Valid.{AreValidStored, IsValidGraph}
use Rattle.oe_graph.specs.declared.code.Code.{Code}
use Rattle.oe_graph.specs.declared.fault.Fault.{Fault}
use Rattle.oe_graph.specs.declared.fault.Refusal as graphs
use Rattle.oe_graph.specs.declared.fault.Refusal.TheVariants as graph
use Rattle.oe_graph.proofs.LeastLemmas.{IsLeast-unique}
use Rattle.oe_graph.proofs.ReadLemmas.{same_value}
use Rattle.oe_book.specs.Laws.{BookStoredIsValid}
use Rattle.oe_jobs.specs.Plain.{PlainBook}
use Rattle.oe_jobs.specs.Valid.{IsBook}
use Rattle.oe_jobs.specs.Verdicts.{stored_of}
use Rattle.oe_judge.specs.Judged.{StandsWithCollections}
use Rattle.oe_routes.specs.Forms.{IsSent, faultless, graph_in, job_changes, new_job, object_in}
use Rattle.oe_routes.specs.Found.{Found, IsFaultWhere, IsJson, IsJudged, IsLeastOf, IsRead, fault_where, process_fault, process_in}
use Rattle.oe_routes.specs.Rejections.{Rejected, Rejects, rejection_of_graph, ◌>>=◌}
use Rattle.oe_routes.specs.declared.refusal.Rejection.{Rejection}
use Rattle.oe_routes.proofs.CommandLemmas.{refuses_all}
use Rattle.oe_routes.specs.Sent.{changes_sent, graph_from, graph_sent, graph_where, job_sent, validated}

-- two answers of one search are one
pub one_least : (Stands : Code → List ℕ → Type 0) (a b : Option Fault) → IsLeastOf Stands a → IsLeastOf Stands b → a ≡ b
one_least Stands None None h k = refl
one_least Stands None (Some g) h k = absurd (h g.code g.node k.stands)
one_least Stands (Some f) None h k = absurd (k f.code f.node h.stands)
one_least Stands (Some f) (Some g) h k = ap Some (IsLeast-unique Stands f g h k)

pub one_json : (bytes : List ℕ) (a b : Option Data) → IsJson bytes a → IsJson bytes b → a ≡ b
one_json bytes None None h k = refl
one_json bytes None (Some d) h k = absurd (h d k)
one_json bytes (Some d) None h k = absurd (k d h)
one_json bytes (Some d) (Some e) h k = ap Some (same_value bytes d e h k)

pub one_fault : (f : Found) → IsRead f → (o : Option Data) (fault : Option Fault)
    → IsFaultWhere o fault → fault ≡ fault_where f.in_value o
one_fault f is None fault h = h
one_fault f is (Some d) fault h = one_least (StandsIn d) fault (f.in_value d) h (is.in_value d)

-- ---- bodies with a process

pub job_is_sent : (f : Found) → IsRead f → (body : List ℕ) (json : Option Data)
    (fault : Option Fault) → IsJson body json → IsFaultWhere (process_in json) fault → new_job json fault ≡ job_sent f body
job_is_sent f is body json fault read least =
    let same : json ≡ f.json body = one_json body json (f.json body) read (is.json body) in
    let found : fault ≡ process_fault f json = one_fault f is (process_in json) fault least in
    ap (new_job json) found ∙ ap (λ (j : Option Data). new_job j (process_fault f j)) same

pub changes_are_sent : (f : Found) → IsRead f → (body : List ℕ) (json : Option Data)
    (fault : Option Fault) → IsJson body json → IsFaultWhere (process_in json) fault
    → job_changes json fault ≡ changes_sent f body
changes_are_sent f is body json fault read least =
    let same : json ≡ f.json body = one_json body json (f.json body) read (is.json body) in
    let found : fault ≡ process_fault f json = one_fault f is (process_in json) fault least in
    ap (job_changes json) found ∙ ap (λ (j : Option Data). job_changes j (process_fault f j)) same

-- a value that was read is no deeper than may be
pub json_depth : (bytes : List ℕ) (json : Option Data) → IsJson bytes json → IfSome json (λ d. depth d ≤ max_depth)
json_depth bytes None is = tt
json_depth bytes (Some d) is = depth-read bytes d is.value

pub is_sent : (body : List ℕ) (json : Option Data) (fault : Option Fault) → IsJson body json
    → IsFaultWhere (process_in json) fault → IsSent json fault
is_sent body json fault read least = (json_depth body json read, least)

-- ---- a graph that has no fault, and one that is refused

pub passes_on : {Y : Type 0} (Stands : Code → List ℕ → Type 0) (found : Option Fault) (next : ⊤ → Result Y Rejected)
    → IsLeastOf Stands found → IsFaultless Stands → (faultless found >>= next) ≡ next tt
passes_on Stands found next least none = ap (λ (o : Option Fault). faultless o >>= next) (one_least Stands found None least none)

pub hands_on : {Y : Type 0} (Stands : Code → List ℕ → Type 0) (found : Option Fault) (next : ⊤ → Result Y Rejected)
    (refusal : graphs.Refusal) → IsLeastOf Stands found → IsFault Stands refusal
    → Rejects (rejection_of_graph refusal) (faultless found >>= next)
hands_on Stands found next (graph.Fault fault) least is =
    ap (λ (o : Option Fault). faultless o >>= next) (one_least Stands found (Some fault) least is)
hands_on Stands found next graph.OutOfMemory least is = tt

-- ---- a graph with stored processes

pub users_stored : BookStoredIsValid → (book : PlainBook) (user : List ℕ) (made : List PlainStored) → IsBook book → made ≡ stored_of user book
    → AreValidStored made
users_stored law book user made valid same = subst AreValidStored (sym same) (law book user valid)

pub later_none : (rows : List DimsRow) (made stored : List PlainStored) (g : PlainGraph) → made ≡ stored
    → IsFaultless (StandsWithCollections rows made g) → IsLeastOf (StandsWithCollections rows stored g) None
later_none rows made stored g same none =
    subst (λ (s : List PlainStored). IsLeastOf (StandsWithCollections rows s g) None) same none

pub later_some : (rows : List DimsRow) (made stored : List PlainStored) (g : PlainGraph) (fault : Fault) → made ≡ stored
    → IsLeast (StandsWithCollections rows made g) fault → IsLeastOf (StandsWithCollections rows stored g) (Some fault)
later_some rows made stored g fault same least =
    subst (λ (s : List PlainStored). IsLeastOf (StandsWithCollections rows s g) (Some fault)) same least

pub judged_passes : BookStoredIsValid → (rows : List DimsRow) (f : Found) → IsJudged rows f → (book : PlainBook) (user : List ℕ)
    (made : List PlainStored) (g : PlainGraph) → IsBook book → IsValidGraph g → made ≡ stored_of user book
    → IsFaultless (StandsWithCollections rows made g) → faultless (f.judged (stored_of user book) g) ≡ Ok tt
judged_passes law rows f is book user made g valid form same none =
    ap faultless (one_least (StandsWithCollections rows (stored_of user book) g) (f.judged (stored_of user book) g) None
    (is.judged (stored_of user book) g (law book user valid) form)
    (later_none rows made (stored_of user book) g same none))

pub judged_refused : BookStoredIsValid → (rows : List DimsRow) (f : Found) → IsJudged rows f → (book : PlainBook) (user : List ℕ)
    (made : List PlainStored) (g : PlainGraph) → IsBook book → IsValidGraph g → made ≡ stored_of user book
    → (refusal : graphs.Refusal) → IsFault (StandsWithCollections rows made g) refusal
    → Rejects (rejection_of_graph refusal) (faultless (f.judged (stored_of user book) g))
judged_refused law rows f is book user made g valid form same (graph.Fault fault) least =
    ap faultless (one_least (StandsWithCollections rows (stored_of user book) g) (f.judged (stored_of user book) g) (Some fault)
    (is.judged (stored_of user book) g (law book user valid) form)
    (later_some rows made (stored_of user book) g fault same least))
judged_refused law rows f is book user made g valid form same graph.OutOfMemory least = tt

-- ---- a value as a graph

pub graph_is : (d : Data) (g : PlainGraph) → IsGraphOf d g → g ≡ graph_in d
graph_is d g is = is.built ∙ ap (λ o. graph_of (unwrap_or o no_members)) (sym is.is_main)

pub value_passes : (f : Found) → IsRead f → (d : Data) (g : PlainGraph) → IsGraphOf d g
    → IsFaultless (StandsIn d) → graph_where f d ≡ Ok g
value_passes f is d g graph none =
    passes_on (StandsIn d) (f.in_value d) (λ sound. Ok (graph_in d)) (is.in_value d) none ∙ ap Ok (sym (graph_is d g graph))

pub value_refused : (f : Found) → IsRead f → (d : Data) (refusal : graphs.Refusal)
    → IsFault (StandsIn d) refusal → Rejects (rejection_of_graph refusal) (graph_where f d)
value_refused f is d refusal fault =
    hands_on (StandsIn d) (f.in_value d) (λ sound. Ok (graph_in d)) refusal (is.in_value d) fault

-- the steps before it, over the value that was read
pub graph_is_sent : (f : Found) → IsRead f → (body : List ℕ) (json : Option Data)
    → IsJson body json → graph_sent f body ≡ graph_from f json
graph_is_sent f is body json read =
    ap (graph_from f) (one_json body (f.json body) json (is.json body) read)

pub no_object_sent : (f : Found) → IsRead f → (body : List ℕ) (json : Option Data) (e : Rejection)
    → IsJson body json → Rejects e (object_in json) → Rejects e (graph_sent f body)
no_object_sent f is body json e read h =
    subst (Rejects e) (sym (graph_is_sent f is body json read))
    (refuses_all e (object_in json) (λ sent. object_in (get (codes "process") sent) >>= λ process. graph_where f process) h)

pub no_process_sent : (f : Found) → IsRead f → (body : List ℕ) (json : Option Data) (sent : Data)
    (e : Rejection) → IsJson body json → object_in json ≡ Ok sent → Rejects e (object_in (get (codes "process") sent))
    → Rejects e (graph_sent f body)
no_process_sent f is body json sent e read there h =
    subst (Rejects e) (sym (graph_is_sent f is body json read))
    (rw there (refuses_all e (object_in (get (codes "process") sent)) (λ process. graph_where f process) h))

-- ---- bytes that are validated

bytes_by : (found : Option Fault) (json : Option Data) (d : Data) (later : PlainGraph → Option Fault) (g : PlainGraph)
    (fault : Option Fault) → found ≡ None → json ≡ Some d → g ≡ graph_in d → later g ≡ fault
    → validated found (later (graph_in (unwrap_or json null))) ≡ Ok fault
bytes_by found json d later g fault none is graph told = rw (none, is, sym graph, told) refl

pub bytes_pass : BookStoredIsValid → (rows : List DimsRow) (f : Found) → IsRead f → IsJudged rows f → (book : PlainBook) (user body : List ℕ)
    (g : PlainGraph) (fault : Option Fault) → IsBook book → IsValidGraph g → Reads body g
    → IsLeastOf (StandsWithCollections rows (stored_of user book) g) fault
    → validated (f.in_bytes body) (f.judged (stored_of user book) (graph_in (unwrap_or (f.json body) null))) ≡ Ok fault
bytes_pass law rows f read is book user body g fault valid form reads least =
    bytes_by (f.in_bytes body) (f.json body) reads.value (f.judged (stored_of user book)) g fault
    (one_least (Stands body) (f.in_bytes body) None (read.in_bytes body) reads.valid)
    (one_json body (f.json body) (Some reads.value) (read.json body) reads.is_read)
    (graph_is reads.value g reads.is_graph)
    (one_least (StandsWithCollections rows (stored_of user book) g) (f.judged (stored_of user book) g) fault
    (is.judged (stored_of user book) g (law book user valid) form) least)

pub bytes_refused : (f : Found) → IsRead f → (body : List ℕ) (fault : Fault)
    → IsLeast (Stands body) fault → f.in_bytes body ≡ Some fault
bytes_refused f is body fault least = one_least (Stands body) (f.in_bytes body) (Some fault) (is.in_bytes body) least
