use Rattle.std.proofs.Common.{◌≡◌, ◌∙◌, ◌+◌, ℕ, List, ◌∷◌, [], ◌++◌, ap, arith, map, subst, sym, take}
use Rattle.std.proofs.lemmas.List.{map-append, take_more}
use Rattle.oe_database.specs.Each.{PlainStatement, plain_statement}
use Rattle.oe_database.specs.Statements.{puts_entry}
use Rattle.oe_database.proofs.tables.put_entries.Goals as goal

pub loop-entry-preserved : goal.loop-entry-preserved
loop-entry-preserved c =
    let xs = c.args.entries.now in
    let i = c.loop-entry.entry-index in
    let x = c.entry-item.result in
    let f : List ℕ × List ℕ → PlainStatement = λ e. puts_entry e.0 e.1 in
    let list = c.loop-entry.statements.items in
    let entries : map f (take (i + 1) xs) ≡ map f (take i xs) ++ f x ∷ [] =
    ap (map f) (take_more xs i x (omega (arith, c.loop-entry-test.true)) ∙ ap (λ y. take i xs ++ y ∷ []) (sym c.entry-item.is))
    ∙ map-append f (take i xs) (x ∷ []) in
    ap (map plain_statement) c.in_ok-push.ensures.items ∙ (map-append plain_statement list (c.in_ok-statement.statement ∷ [])
    ∙ (ap (λ (ss : List PlainStatement). ss ++ plain_statement c.in_ok-statement.statement ∷ []) c.loop-entry.invariant
    ∙ (ap (λ (s : PlainStatement). map f (take i xs) ++ s ∷ []) (c.in_ok-statement.ensures ∙ ap (λ (z : List ℕ). puts_entry x.0 z) (c.as_bytes.ensures.value ∙ c.as_str.ensures)) ∙ sym entries)))
