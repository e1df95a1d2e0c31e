use Rattle.std.proofs.Common.{◌≡◌, ℕ, List, sym, ap, ◌∙◌}
use Rattle.std.specs.List.{insert}
use Rattle.oe_graph.specs.Plain.{plain_named}
use Rattle.oe_graph.specs.Printed.{names_of}
use Rattle.oe_graph.specs.declared.tree.Arg.{Arg}
use Rattle.oe_calls.specs.Rounds.{index_among}
use Rattle.oe_resolve.proofs.InsertLemmas.{put_argument-insert}
use Rattle.oe_resolve.proofs.defaults.put_argument.Goals as goal

pub returns : goal.returns
returns c =
    let ms : List (List ℕ × Arg) = c.args.arguments.now.items in
    let name : List ℕ = c.args.name in
    let a : Arg = c.args.arg in
    let index : c.index_among-index.result ≡ index_among name (names_of (plain_named ms)) =
    c.index_among-index.ensures.is ∙ ap (λ n. index_among n (names_of (plain_named ms))) c.as_str.ensures in
    ap plain_named c.in_ok-insert.ensures.items
    ∙ (ap (λ i. plain_named (insert ms i (name, a))) index ∙ sym (put_argument-insert name a ms))
