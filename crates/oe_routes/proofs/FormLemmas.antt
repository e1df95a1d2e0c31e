-- What a valid book takes of the bodies of requests.
use Rattle.std.proofs.Common.{◌≡◌, ℕ, ◌≤◌, List, codes, Bool, true, false, Option, Some, None, Result, Ok, refl, sym, ap, ◌∙◌, subst, arith, Bor}
use Rattle.std.specs.Prelude.{IfSome, is_some, unwrap_or}
use Rattle.std.specs.Option.{option_copied, option_map}
use Rattle.serde_json.specs.View.{view}
use Rattle.serde_json.specs.declared.value.Value.{Value}
use Rattle.serde_json.specs.Data.{Data, null, boolean, number, string, array, object, depth}
use Rattle.serde_json.specs.Find.{as_object, get}
use Rattle.serde_json.specs.Read.{max_depth}
use Rattle.oe_graph.specs.AsRead.{is_as_read}
use Rattle.oe_graph.specs.Form.{IsReading}
use Rattle.oe_graph.specs.Printed.{IsPrintable}
use Rattle.oe_graph.specs.Tree.{PlainGraph}
use Rattle.oe_graph.specs.Valid.{IsValidGraph}
use Rattle.oe_graph.specs.declared.fault.Fault.{Fault}
use Rattle.oe_graph.proofs.AsReadLemmas.{get_as_read, read_as_read}
use Rattle.oe_graph.proofs.ValidLemmas.{IsPrintable-valid}
use Rattle.oe_graph.proofs.Depths.{member_depth}
use Rattle.oe_jobs.specs.Valid.{AreWords}
use Rattle.oe_routes.specs.Forms.{IsProcess, IsSent, faultless, object_in, object_where}
use Rattle.oe_routes.specs.Found.{IsFaultWhere, IsJson, process_in}
use Rattle.oe_routes.specs.Rejections.{Rejected, ◌>>=◌}

-- ---- a member is no deeper than its object

pub get_depth : (k : List ℕ) (d e : Data) → get k d ≡ Some e → depth e ≤ depth d
get_depth k null e is = absurd cc
get_depth k (boolean b) e is = absurd cc
get_depth k (number n) e is = absurd cc
get_depth k (string s) e is = absurd cc
get_depth k (array ds) e is = absurd cc
get_depth k (object ms) e is = let below = member_depth k ms e is in omega arith

-- ---- steps that pass

by_object : (d e : Data) (yes : Bool) → is_some (as_object d) ≡ yes → object_in (Some d) ≡ Ok e → Some d ≡ Some e
by_object d e true is h = let taken = rw is at h in cc
by_object d e false is h = let refused = rw is at h in absurd cc

pub object_is : (o : Option Data) (d : Data) → object_in o ≡ Ok d → o ≡ Some d
object_is None d h = absurd cc
object_is (Some e) d h = by_object e d (is_some (as_object e)) refl h

faultless_is : (fault : Option Fault) → faultless fault ≡ Ok tt → fault ≡ None
faultless_is None h = refl
faultless_is (Some fault) h = absurd cc

-- ---- a process that was sent

none_stands : (o : Option Data) (fault : Option Fault) (d : Data) → o ≡ Some d → fault ≡ None
    → IsFaultWhere o fault → IsFaultWhere (Some d) None
none_stands o fault d there none is =
    subst (λ (x : Option Fault). IsFaultWhere (Some d) x) none (subst (λ (x : Option Data). IsFaultWhere x fault) there is)

process_of : (json : Option Data) (fault : Option Fault) (body process : Data) → IsSent json fault
    → json ≡ Some body → get (codes "process") body ≡ Some process → fault ≡ None → IsProcess process
process_of json fault body process sent is there none =
    let deep : depth body ≤ max_depth = subst (λ (o : Option Data). IfSome o (λ d. depth d ≤ max_depth)) is sent.0 in
    let below = get_depth (codes "process") body process there in
    (none_stands (process_in json) fault process (ap process_in is ∙ there) none sent.1, omega (arith, deep, below))

pub process_is : (json : Option Data) (fault : Option Fault) (body process : Data) → IsSent json fault
    → object_in json ≡ Ok body → object_in (get (codes "process") body) ≡ Ok process → faultless fault ≡ Ok tt
    → IsProcess process
process_is json fault body process sent is there none =
    process_of json fault body process sent (object_is json body is) (object_is (get (codes "process") body) process there)
    (faultless_is fault none)

by_where : (d e : Data) (yes : Bool) → is_some (as_object d) ≡ yes → object_where (Some d) ≡ Ok (Some e) → Some d ≡ Some e
by_where d e true is h = let taken = rw is at h in cc
by_where d e false is h = let refused = rw is at h in absurd cc

pub where_by : (o : Option Data) (d e : Data) → o ≡ Some d → object_in (Some d) ≡ Ok e → object_where o ≡ Ok (Some e)
where_by o d e is h =
    subst (λ (x : Option Data). object_where x ≡ Ok (Some e)) (sym is)
    (ap (λ (x : Result Data Rejected). x >>= λ found. Ok (Some found)) h)

where_is : (o : Option Data) (d : Data) → object_where o ≡ Ok (Some d) → o ≡ Some d
where_is None d h = absurd cc
where_is (Some e) d h = by_where e d (is_some (as_object e)) refl h

pub process_where_is : (json : Option Data) (fault : Option Fault) (body : Data) (process : Option Data)
    → IsSent json fault → object_in json ≡ Ok body → object_where (get (codes "process") body) ≡ Ok process
    → faultless fault ≡ Ok tt → IfSome process IsProcess
process_where_is json fault body None sent is there none = tt
process_where_is json fault body (Some process) sent is there none =
    process_of json fault body process sent (object_is json body is) (where_is (get (codes "process") body) process there)
    (faultless_is fault none)

-- ---- words that are not given

pub words_of : (given : Option (Option (List ℕ))) → IfSome given AreWords → AreWords (unwrap_or given None)
words_of None short = tt
words_of (Some words) short = short

-- ---- a value and a reference to it

pub same_view : (borrowed : Option (Bor Value)) (json : Option Value) → option_copied borrowed ≡ json
    → option_map view json ≡ option_map (λ (v : Bor Value). view v.now) borrowed
same_view None json h = sym (ap (option_map view) h)
same_view (Some v) json h = sym (ap (option_map view) h)

-- ---- a graph that is to be run at once

pub printable_is_valid : (d : Data) (g : PlainGraph) → (is_as_read d ≡ true → IsPrintable g) → is_as_read d ≡ true
    → IsValidGraph g
printable_is_valid d g printable read = IsPrintable-valid g (printable read)

pub process_as_read : (body : List ℕ) (json : Option Data) (sent process : Data) → IsJson body json
    → object_in json ≡ Ok sent → object_in (get (codes "process") sent) ≡ Ok process → is_as_read process ≡ true
process_as_read body json sent process is there inside =
    let read : IsReading body sent = subst (IsJson body) (object_is json sent there) is in
    get_as_read (codes "process") sent process (read_as_read body sent read.value)
    (object_is (get (codes "process") sent) process inside)
