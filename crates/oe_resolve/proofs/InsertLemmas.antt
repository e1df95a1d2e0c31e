-- An argument put at the index that its name has in byte order.
use Rattle.std.proofs.Common.{◌≡◌, ℕ, suc, Bool, true, false, if◌then◌else◌, List, [], ◌∷◌, refl, ap}
use Rattle.std.specs.List.{insert}
use Rattle.oe_dims.specs.Names.{is_name_before}
use Rattle.oe_graph.specs.Plain.{plain_arg, plain_named}
use Rattle.oe_graph.specs.Printed.{names_of}
use Rattle.oe_graph.specs.Tree.{named}
use Rattle.oe_graph.specs.declared.tree.Arg.{Arg}
use Rattle.oe_resolve.specs.Defaults.{put_argument}
use Rattle.oe_calls.specs.Rounds.{index_among}

argument_step : (before : Bool) (name : List ℕ) (a : Arg) (m : List ℕ × Arg) (ms : List (List ℕ × Arg)) (i : ℕ)
    → put_argument name (plain_arg a) (plain_named ms) ≡ plain_named (insert ms i (name, a))
    → (if before then named m.0 (plain_arg m.1) (put_argument name (plain_arg a) (plain_named ms))
    else named name (plain_arg a) (named m.0 (plain_arg m.1) (plain_named ms)))
    ≡ plain_named (insert (m ∷ ms) (if before then suc i else 0) (name, a))
argument_step true name a m ms i more = ap (named m.0 (plain_arg m.1)) more
argument_step false name a m ms i more = refl

pub put_argument-insert : (name : List ℕ) (a : Arg) (ms : List (List ℕ × Arg))
    → put_argument name (plain_arg a) (plain_named ms)
    ≡ plain_named (insert ms (index_among name (names_of (plain_named ms))) (name, a))
put_argument-insert name a [] = refl
put_argument-insert name a (m ∷ ms) =
    argument_step (is_name_before m.0 name) name a m ms (index_among name (names_of (plain_named ms)))
    (put_argument-insert name a ms)
