use Rattle.std.proofs.Common.{◌≡◌, ◌∙◌, ◌+◌, List, ◌∷◌, [], ◌++◌, ap, sym, subst, arith, map, take}
use Rattle.std.proofs.lemmas.List.{map-append, take_more}
use Rattle.sqlite.proofs.StateLemmas.{survives_then}
use Rattle.sqlite.specs.Held.{state}
use Rattle.oe_database.specs.Each.{PlainStatement, RanEach, plain_statement}
use Rattle.oe_database.proofs.Steps.{ran_more, keeps_both, kept_ok}
use Rattle.oe_database.proofs.run.run_each.Goals as goal

pub loop-statement-preserved : goal.loop-statement-preserved
loop-statement-preserved g c =
    let first = c.args.tx.now.conn.now in
    let mid = c.loop-statement.tx.conn.now in
    let new = c.execute.new.self.conn.now in
    let s = plain_statement c.statement-item.result in
    let i = c.loop-statement.statement-index in
    let xs = c.args.statements.now in
    record {
      same = c.execute.ensures.same_reference ∙ c.loop-statement.invariant.same;
      survives = survives_then (state g.S.Store first) (state g.S.Store mid) (state g.S.Store new) _ _ (λ _. ⊥) (λ _ db none. none)
          (λ _ db none. none) c.loop-statement.invariant.survives c.execute.ensures.survives;
      ran = λ clean inside.
          let was = c.loop-statement.invariant.ran (omega (arith, c.execute.ensures.survives.clean)) inside in
          let ran = rw c.deref.ensures.value at c.in_ok-execute.ensures.runs clean was.inside in
          let more : map plain_statement (take (i + 1) xs) ≡ map plain_statement (take i xs) ++ s ∷ [] =
          ap (map plain_statement) (take_more xs i c.statement-item.result (omega (arith, c.loop-statement-test.true))
          ∙ ap (λ y. take i xs ++ y ∷ []) (sym c.statement-item.is))
          ∙ map-append plain_statement (take i xs) (c.statement-item.result ∷ []) in
          record {
            each = subst (λ (ss : List PlainStatement). RanEach g.S.Store ss first new) (sym more)
                (ran_more g.S.Store (map plain_statement (take i xs)) s first mid new c.in_ok-execute.field-0 was.each ran.0);
            inside = ran.1.mode;
            kept = keeps_both _ _ _ was.kept (kept_ok s.text s.parameters (state g.S.Store mid) (state g.S.Store new) c.in_ok-execute.field-0 ran);
          };
    }
