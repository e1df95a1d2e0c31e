-- What the arguments of a node refer to, one by one.
use Rattle.std.proofs.Common.{◌≡◌, ℕ, ◌+◌, ◌<◌, List, [], ◌∷◌, ◌++◌, append_assoc, take, map, length, get_or, sym, ap, ◌∙◌}
use Rattle.std.proofs.lemmas.List.{map-append}
use Rattle.oe_memory.proofs.Lists.{append_none, take_next}
use Rattle.oe_graph.specs.Plain.{plain_arg, plain_args, plain_named, plain_pair}
use Rattle.oe_graph.specs.References.{references_in, references_each, references_named}
use Rattle.oe_graph.specs.Tree.{Argument, named_from_list, values_from_list}
use Rattle.oe_graph.specs.declared.tree.Arg.{Arg}

named_push : (ms : List (List ℕ × Argument)) (m : List ℕ × Argument)
    → references_named (named_from_list (ms ++ m ∷ [])) ≡ references_named (named_from_list ms) ++ references_in m.1
named_push [] m = append_none (references_in m.1)
named_push (x ∷ ms) m =
    ap (λ r. references_in x.1 ++ r) (named_push ms m)
    ∙ sym (append_assoc (references_in x.1) (references_named (named_from_list ms)) (references_in m.1))

each_push : (xs : List Argument) (x : Argument)
    → references_each (values_from_list (xs ++ x ∷ [])) ≡ references_each (values_from_list xs) ++ references_in x
each_push [] x = append_none (references_in x)
each_push (y ∷ xs) x =
    ap (λ r. references_in y ++ r) (each_push xs x)
    ∙ sym (append_assoc (references_in y) (references_each (values_from_list xs)) (references_in x))

pub named_next : (ms : List (List ℕ × Arg)) (i : ℕ) (m : List ℕ × Arg) → i < length ms → m ≡ get_or ms i m
    → references_named (plain_named (take (i + 1) ms)) ≡ references_named (plain_named (take i ms)) ++ references_in (plain_arg m.1)
named_next ms i m within is =
    ap (λ ys. references_named (plain_named ys)) (take_next ms i m within is)
    ∙ ap (λ zs. references_named (named_from_list zs)) (map-append plain_pair (take i ms) (m ∷ []))
    ∙ named_push (map plain_pair (take i ms)) (plain_pair m)

pub each_next : (xs : List Arg) (i : ℕ) (x : Arg) → i < length xs → x ≡ get_or xs i x
    → references_each (plain_args (take (i + 1) xs)) ≡ references_each (plain_args (take i xs)) ++ references_in (plain_arg x)
each_next xs i x within is =
    ap (λ ys. references_each (plain_args ys)) (take_next xs i x within is)
    ∙ ap (λ zs. references_each (values_from_list zs)) (map-append plain_arg (take i xs) (x ∷ []))
    ∙ each_push (map plain_arg (take i xs)) (plain_arg x)
