use Rattle.std.proofs.Common.{◌∙◌, ℕ, List, ◌∷◌, [], ◌++◌, ap, map}
use Rattle.std.proofs.lemmas.List.{map-append}
use Rattle.oe_database.specs.Each.{PlainStatement, plain_statement}
use Rattle.oe_database.specs.Statements.{puts_entry}
use Rattle.oe_database.proofs.tables.renewal.Goals as goal

pub returns : goal.returns
returns c =
    let f : List ℕ × List ℕ → PlainStatement = λ e. puts_entry e.0 e.1 in
    let last = c.set_version.result in
    ap (map plain_statement) c.in_ok-push.ensures.items
    ∙ (map-append plain_statement c.in_ok-statements.statements.items (last ∷ [])
    ∙ (ap (λ (ss : List PlainStatement). ss ++ plain_statement last ∷ []) c.in_ok-statements.ensures
    ∙ ap (λ (s : PlainStatement). map f c.args.entries.now ++ s ∷ []) c.set_version.ensures))
