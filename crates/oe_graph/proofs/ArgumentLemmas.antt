-- The argument of a name among arguments, one by one.
use Rattle.std.proofs.Common.{◌≡◌, ℕ, ◌+◌, ◌<◌, true, false, if◌then◌else◌, List, length, drop, get_or, Some, ap, sym, ◌∙◌}
use Rattle.std.proofs.lemmas.List.{at_drop_more}
use Rattle.oe_dims.specs.Names.{same_name}
use Rattle.oe_graph.specs.Plain.{plain_arg, plain_named}
use Rattle.oe_graph.specs.References.{argument_named}
use Rattle.oe_graph.specs.declared.tree.Arg.{Arg}

abbrev Pair : Type 0
Pair = List ℕ × Arg

first_pair : (name : List ℕ) (xs : List Pair) (i : ℕ) (x : Pair) → i < length xs → x ≡ get_or xs i x
    → argument_named name (plain_named (drop i xs))
    ≡ (if same_name x.0 name then Some (plain_arg x.1) else argument_named name (plain_named (drop (i + 1) xs)))
first_pair name xs i x below is =
    at_drop_more (λ ys. argument_named name (plain_named ys)) xs i x below
    ∙ ap (λ (y : Pair). if same_name y.0 name then Some (plain_arg y.1) else argument_named name (plain_named (drop (i + 1) xs))) (sym is)

pub other_pair : (name : List ℕ) (xs : List Pair) (i : ℕ) (x : Pair) → i < length xs → x ≡ get_or xs i x → same_name x.0 name ≡ false
    → argument_named name (plain_named (drop i xs)) ≡ argument_named name (plain_named (drop (i + 1) xs))
other_pair name xs i x below is other =
    first_pair name xs i x below is
    ∙ ap (λ b. if b then Some (plain_arg x.1) else argument_named name (plain_named (drop (i + 1) xs))) other

pub this_pair : (name : List ℕ) (xs : List Pair) (i : ℕ) (x : Pair) → i < length xs → x ≡ get_or xs i x → same_name x.0 name ≡ true
    → argument_named name (plain_named (drop i xs)) ≡ Some (plain_arg x.1)
this_pair name xs i x below is same =
    first_pair name xs i x below is
    ∙ ap (λ b. if b then Some (plain_arg x.1) else argument_named name (plain_named (drop (i + 1) xs))) same
