use Rattle.std.proofs.Common.{List, ℕ, IfNone, subst, sym, arith}
use Rattle.oe_serve.specs.Words.{SpellsServe}
use Rattle.oe_serve.specs.declared.command.ServeCommand.{ServeCommand as Command}
use Rattle.oe_serve.proofs.Words.{seven_words}
use Rattle.oe_serve.proofs.command.read_serve.Goals as goal

pub returns-in-len7-clause-none : goal.returns-in-len7-clause-none
returns-in-len7-clause-none c =
    let words_are = seven_words c.args.words.now c.verb-item.result c.port-item.result c.cx-item.result c.cy-item.result
    c.ct-item.result c.workers-item.result c.turns-item.result (omega (arith, c.in-len7.len_at_least, c.in-len7.len_below))
    c.verb-item.is c.port-item.is c.cx-item.is c.cy-item.is c.ct-item.is c.workers-item.is c.turns-item.is in
    let P : List (List ℕ) → Type 0 = λ words.
    IfNone c.read_parts.result ((command : Command) → SpellsServe words command → ⊥) in
    subst P (sym words_are) c.read_parts.ensures.none
