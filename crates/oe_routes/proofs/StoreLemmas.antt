-- A process under an id of its own is one that a valid book takes.
use Rattle.std.proofs.Common.{◌≡◌, ℕ, ◌≤◌, List, codes, Bool, true, false, Option, Some, None, Ordering, Less, Equal, Greater, nat_cmp, ◌||◌, Ok, refl, sym, ap, ◌∙◌, subst, arith}
use Rattle.std.specs.Prelude.{IfSome, length, option_and_then}
use Rattle.std.specs.Cmp.Lexicographic.{slice_cmp}
use Rattle.std.specs.Ordering.{match_ordering}
use Rattle.std.proofs.lemmas.Bool.{or_parts}
use Rattle.serde_json.specs.Data.{Data, null, boolean, number, string, array, object, Members, no_members, member, put, depth, members_depth}
use Rattle.serde_json.specs.Find.{as_object}
use Rattle.serde_json.specs.Read.{max_depth}
use Rattle.serde_json.specs.Written.{compact_text, has_float, members_have_float}
use Rattle.serde_json.proofs.Nesting.{depth-read}
use Rattle.serde_json.proofs.Views.{get_member-put_other}
use Rattle.oe_graph.specs.Form as form
use Rattle.oe_graph.specs.Form.{IsReading, StandsIn, is_absent_or, nodes_in}
use Rattle.oe_graph.specs.Parameters.{StandsStored, are_parameters, of_graph, parameters_invalid, parameters_of}
use Rattle.oe_graph.specs.Read.{IsFault, IsFaultless, IsGraphOf, ReadsStored}
use Rattle.oe_graph.specs.Tree.{PlainStored}
use Rattle.oe_graph.specs.declared.code.Code.{Code}
use Rattle.oe_graph.proofs.ReadLemmas.{same_value}
use Rattle.oe_book.specs.Laws.{IdLeavesFaults}
use Rattle.oe_book.proofs.IdLemmas.{other_name, other_parameters}
use Rattle.oe_graph.specs.declared.fault.Fault.{Fault}
use Rattle.oe_graph.specs.declared.fault.Refusal as graphs
use Rattle.oe_jobs.specs.Valid.{IsStored, most_process}
use Rattle.oe_routes.specs.Forms.{faultless, graph_in, object_in}
use Rattle.oe_routes.specs.Found.{Found, IsJson, IsLeastOf, IsRead}
use Rattle.oe_routes.specs.Rejections.{Rejects, rejection_of_graph, ◌>>=◌}
use Rattle.oe_routes.specs.Tokens.{is_id}
use Rattle.oe_routes.specs.declared.refusal.Rejection.{Rejection}
use Rattle.oe_routes.specs.Sent.{process_from, process_sent, short, text_under, whole, with_id}
use Rattle.oe_routes.proofs.FormLemmas.{object_is}
use Rattle.oe_routes.proofs.CommandLemmas.{refuses_all}
use Rattle.oe_routes.proofs.FoundLemmas.{graph_is, hands_on, one_json, one_least}

-- ---- an id adds no fraction and no depth

whole_by : (o : Ordering) (a b c : Members) → members_have_float a ≡ false → members_have_float b ≡ false
    → members_have_float c ≡ false → members_have_float (match_ordering o a b c) ≡ false
whole_by Less a b c p q r = p
whole_by Equal a b c p q r = q
whole_by Greater a b c p q r = r

pub whole_put : (k s : List ℕ) (ms : Members) → members_have_float ms ≡ false
    → members_have_float (put k (string s) ms) ≡ false
whole_put k s no_members h = refl
whole_put k s (member l e ms) h =
    let parts = or_parts (has_float e) (members_have_float ms) h in
    whole_by (slice_cmp nat_cmp k l) (member k (string s) (member l e ms)) (member l (string s) ms)
    (member l e (put k (string s) ms)) h parts.1
    (ap (λ (b : Bool). b || members_have_float (put k (string s) ms)) parts.0 ∙ whole_put k s ms parts.1)

deep_by : (o : Ordering) (a b c : Members) (n : ℕ) → members_depth a ≤ n → members_depth b ≤ n → members_depth c ≤ n
    → members_depth (match_ordering o a b c) ≤ n
deep_by Less a b c n p q r = p
deep_by Equal a b c n p q r = q
deep_by Greater a b c n p q r = r

deep_put : (k s : List ℕ) (ms : Members) (n : ℕ) → members_depth ms ≤ n → members_depth (put k (string s) ms) ≤ n
deep_put k s no_members n h = omega arith
deep_put k s (member l e ms) n h =
    deep_by (slice_cmp nat_cmp k l) (member k (string s) (member l e ms)) (member l (string s) ms)
    (member l e (put k (string s) ms)) n (omega arith) (omega arith) (omega (arith, deep_put k s ms n (omega arith)))

pub id_deep : (id : List ℕ) (ms : Members) → depth (object ms) ≤ max_depth → depth (with_id id (object ms)) ≤ max_depth
id_deep id ms h = let below = deep_put (codes "id") id ms (members_depth ms) (omega arith) in omega arith

pub id_whole : (id : List ℕ) (ms : Members) → has_float (object ms) ≡ false → has_float (with_id id (object ms)) ≡ false
id_whole id ms h = whole_put (codes "id") id ms h

-- ---- and leaves the graph and the parameters

same_nodes : (id : Data) (ms : Members) → nodes_in (object (put (codes "id") id ms)) ≡ nodes_in (object ms)
same_nodes id ms =
    ap (option_and_then as_object) (get_member-put_other (codes "process_graph") (codes "id") id ms other_name)

same_parameters : (id : Data) (ms : Members) → parameters_of (object (put (codes "id") id ms)) ≡ parameters_of (object ms)
same_parameters id ms = rw (get_member-put_other (codes "parameters") (codes "id") id ms other_parameters) refl

-- no fault stands in the text under the id
under_valid : IdLeavesFaults → (id body text : List ℕ) (ms : Members) → IsReading body (object ms) → IsReading text (with_id id (object ms))
    → length text ≤ most_process → IsFaultless (StandsStored body) → (code : Code) (node : List ℕ)
    → StandsStored text code node → ⊥
under_valid law id body text ms r s short valid code node (of_graph (form.input_too_long long)) = absurd (omega (arith, long, short))
under_valid law id body text ms r s short valid code node (of_graph (form.graph_unreadable none)) = none (with_id id (object ms)) s
under_valid law id body text ms r s short valid code node (of_graph (form.of_value {d = e} q stands)) =
    let inside : StandsIn (with_id id (object ms)) code node =
    subst (λ x. StandsIn x code node) (same_value text e (with_id id (object ms)) q s) stands in
    valid code node (of_graph (form.of_value r (((law ms (string id)).0 code node).0 inside)))
under_valid law id body text ms r s short valid code node (parameters_invalid {d = e} q fails) =
    let wrong = subst (λ x. is_absent_or are_parameters (codes "parameters") x ≡ false)
    (same_value text e (with_id id (object ms)) q s) fails in
    valid code node (parameters_invalid r (sym (law ms (string id)).1 ∙ wrong))

abbrev having_text : PlainStored → List ℕ → PlainStored
having_text process text =
    record { id = process.id; parameters = process.parameters; graph = process.graph; text = text }

stored_under : IdLeavesFaults → (id body text : List ℕ) (process : PlainStored) (ms : Members) → ReadsStored id body process
    → IsReading body (object ms) → IsReading text (with_id id (object ms)) → length text ≤ most_process
    → IsStored (having_text process text)
stored_under law id body text process ms p r s short =
    let same : p.value ≡ object ms = same_value body p.value (object ms) p.is_read r in
    record {
      reads = record {
        value = with_id id (object ms);
        is_read = s;
        is_graph = record {
          nodes = p.is_graph.nodes;
          is_main = same_nodes (string id) ms ∙ subst (λ x. nodes_in x ≡ Some p.is_graph.nodes) same p.is_graph.is_main;
          built = p.is_graph.built;
        };
        parameters = p.parameters ∙ (ap parameters_of same ∙ sym (same_parameters (string id) ms));
        named = refl;
        text = refl;
        valid = under_valid law id body text ms r s short p.valid;
      };
      short = short;
    }

abbrev Reread : List ℕ → List ℕ → Data → Type 0
Reread id text d = depth d ≤ max_depth → IsReading text (with_id id d)

-- a process that was sent, with the text of the body under its id
pub stored_sent : IdLeavesFaults → (id body text : List ℕ) (process : PlainStored) (json : Option Data) (sent : Data) → IsJson body json
    → object_in json ≡ Ok sent → ReadsStored id body process → IfSome json (Reread id text) → length text ≤ most_process
    → IsStored (having_text process text)
stored_sent law id body text process None sent is there p again short = absurd cc
stored_sent law id body text process (Some null) sent is there p again short = absurd cc
stored_sent law id body text process (Some (boolean b)) sent is there p again short = absurd cc
stored_sent law id body text process (Some (number n)) sent is there p again short = absurd cc
stored_sent law id body text process (Some (string s)) sent is there p again short = absurd cc
stored_sent law id body text process (Some (array ds)) sent is there p again short = absurd cc
stored_sent law id body text process (Some (object ms)) sent is there p again short =
    stored_under law id body text process ms p is (again (depth-read body (object ms) is.value)) short

-- ---- it is that of the definition

steps : (id text : List ℕ) (process : PlainStored) (json : Option Data) (sent : Data) (fault : Option Fault)
    → object_in json ≡ Ok sent → fault ≡ None → whole sent ≡ Ok tt → short (compact_text (with_id id sent)) ≡ Ok text
    → process.id ≡ id → process.parameters ≡ parameters_of sent → process.graph ≡ graph_in sent
    → process_from id json fault ≡ Ok (having_text process text)
steps id text process json sent fault there none numbers made named parameters graph =
    rw (there, none, numbers, made, named, parameters, graph) refl

pub process_is_sent : (id body text : List ℕ) (process : PlainStored) (json : Option Data) (sent : Data) (fault : Option Fault)
    → IsJson body json → object_in json ≡ Ok sent → IsLeastOf (StandsStored body) fault → ReadsStored id body process
    → whole sent ≡ Ok tt → text_under id json ≡ Ok text
    → process_from id json fault ≡ Ok (having_text process text)
process_is_sent id body text process json sent fault is there least p numbers made =
    let read : IsReading body sent = subst (IsJson body) (object_is json sent there) is in
    let same : p.value ≡ sent = same_value body p.value sent p.is_read read in
    let written : short (compact_text (with_id id sent)) ≡ Ok text = rw there at made in
    let main : IsGraphOf sent process.graph = subst (λ (d : Data). IsGraphOf d process.graph) same p.is_graph in
    steps id text process json sent fault there (one_least (StandsStored body) fault None least p.valid) numbers written
    p.named (p.parameters ∙ ap parameters_of same) (graph_is sent process.graph main)

-- a fault of it is refused
pub process_refused : (id body : List ℕ) (json : Option Data) (sent : Data) (fault : Option Fault) (refusal : graphs.Refusal)
    → object_in json ≡ Ok sent → IsLeastOf (StandsStored body) fault → IsFault (StandsStored body) refusal
    → Rejects (rejection_of_graph refusal) (process_from id json fault)
process_refused id body json sent fault refusal there least is =
    rw there (hands_on (StandsStored body) fault (λ sound.
    whole sent >>= λ numbers.
    short (compact_text (with_id id sent)) >>= λ text.
    Ok (record { id = id; parameters = parameters_of sent; graph = graph_in sent; text = text })) refusal least is)

-- a value that is no object, a number that is not whole, a text that is too long
pub no_object : (id : List ℕ) (json : Option Data) (fault : Option Fault) (e : Rejection)
    → Rejects e (object_in json) → Rejects e (process_from id json fault)
no_object id json fault e h =
    refuses_all e (object_in json) (λ sent.
    faultless fault >>= λ sound.
    whole sent >>= λ numbers.
    short (compact_text (with_id id sent)) >>= λ text.
    Ok (record { id = id; parameters = parameters_of sent; graph = graph_in sent; text = text })) h

not_whole_by : (id : List ℕ) (json : Option Data) (sent : Data) (fault : Option Fault) (e : Rejection)
    → object_in json ≡ Ok sent → fault ≡ None → Rejects e (whole sent) → Rejects e (process_from id json fault)
not_whole_by id json sent fault e there none h =
    rw (there, none) (refuses_all e (whole sent) (λ numbers.
    short (compact_text (with_id id sent)) >>= λ text.
    Ok (record { id = id; parameters = parameters_of sent; graph = graph_in sent; text = text })) h)

pub not_whole : (id body : List ℕ) (json : Option Data) (sent : Data) (process : PlainStored) (fault : Option Fault) (e : Rejection)
    → object_in json ≡ Ok sent → IsLeastOf (StandsStored body) fault → ReadsStored id body process
    → Rejects e (whole sent) → Rejects e (process_from id json fault)
not_whole id body json sent process fault e there least p h =
    not_whole_by id json sent fault e there (one_least (StandsStored body) fault None least p.valid) h

-- the steps over what is found
pub stored_is_sent : (f : Found) → IsRead f → (id body : List ℕ) (json : Option Data)
    → is_id id ≡ true → IsJson body json → process_from id json (f.in_stored body) ≡ process_sent f id body
stored_is_sent f is id body json valid read =
    rw valid (ap (λ (j : Option Data). process_from id j (f.in_stored body)) (one_json body json (f.json body) read (is.json body)))
