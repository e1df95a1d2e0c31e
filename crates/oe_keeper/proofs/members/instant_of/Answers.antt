use Rattle.std.proofs.Common.{FitsSigned, w64, rules, sym, ◌∙◌, true≢false}
use Rattle.std.proofs.lemmas.Int.{to_z-of_z}
use Rattle.oe_keeper.proofs.members.instant_of.Goals as goal

pub returns-then-is_instant : goal.returns-then-is_instant
returns-then-is_instant c =
    let fits : FitsSigned w64 c.args.seconds = search rules in
    (to_z-of_z w64 c.args.seconds fits, c.is_instant.ensures.0 c.if-is_instant.true)

pub returns-else-is_instant : goal.returns-else-is_instant
returns-else-is_instant c = λ instant.
    let fits : FitsSigned w64 c.args.seconds = search rules in
    let is = rw (to_z-of_z w64 c.args.seconds fits) at c.is_instant.ensures in
    absurd (true≢false (sym (is.1 instant) ∙ c.if-is_instant.false))
