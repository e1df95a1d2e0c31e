-- Stored processes of the code, by index and by id.
use Rattle.std.proofs.Common.{◌≡◌, ℕ, zero, suc, ◌<◌, Bool, true, false, cond, IfSome, List, [], ◌∷◌, map, length, get_or, slice_get, drop, refl, sym, ap, ◌∙◌, Option, Some, None, is_some, option_and_then, arith}
use Rattle.std.specs.Option.{option_map_or}
use Rattle.oe_dims.specs.Names.{same_name}
use Rattle.oe_graph.specs.Catalogue.{Process, process_named}
use Rattle.oe_graph.specs.Plain.{plain_stored, plain_node, plain_named}
use Rattle.oe_graph.specs.Tree.{PlainStored}
use Rattle.oe_graph.specs.declared.stored.StoredProcess.{StoredProcess}
use Rattle.oe_calls.specs.Calls.{stored_named, callee, callback_parameters}

pub stored_named-found : (ss : List StoredProcess) (i : ℕ) (s : StoredProcess) (id : List ℕ)
    → i < length ss → s ≡ get_or ss i s → same_name s.id id ≡ true
    → slice_get (map plain_stored ss) i ≡ stored_named id (map plain_stored (drop i ss))
stored_named-found [] i s id more is same = absurd (omega arith)
stored_named-found (x ∷ ss) zero s id more is same =
    let here : same_name x.id id ≡ true = ap (λ (y : StoredProcess). same_name y.id id) (sym is) ∙ same in
    sym (ap (λ b. cond b (Some (plain_stored x)) (stored_named id (map plain_stored ss))) here)
stored_named-found (x ∷ ss) (suc i) s id more is same = stored_named-found ss i s id (omega arith) is same

there : {X : Type 0} (xs : List X) (i : ℕ) → i < length xs → true ≡ is_some (slice_get xs i)
there [] i more = absurd (omega arith)
there (x ∷ xs) zero more = refl
there (x ∷ xs) (suc i) more = there xs i (omega arith)

same_length : {X Y : Type 0} (f : X → Y) (xs : List X) → length (map f xs) ≡ length xs
same_length f [] = refl
same_length f (x ∷ xs) = ap suc (same_length f xs)

pub is_some-found : (ss : List StoredProcess) (o : Option ℕ) → IfSome o (λ i. i < length ss)
    → is_some o ≡ is_some (option_and_then (λ i. slice_get (map plain_stored ss) i) o)
is_some-found ss None within = refl
is_some-found ss (Some i) within =
    let same = same_length plain_stored ss in
    let below = within in
    there (map plain_stored ss) i (omega arith)
