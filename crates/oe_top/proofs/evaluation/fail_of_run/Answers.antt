use Rattle.std.proofs.Common.{sym, ap, ◌∙◌}
use Rattle.std.specs.Option.{option_map}
use Rattle.oe_top.proofs.Namings.{named_damage}
use Rattle.oe_top.proofs.evaluation.fail_of_run.Goals as goal

pub returns-in-Some : goal.returns-in-Some
returns-in-Some c =
    named_damage c.args.checked.now c.args.fail c.in-SourceDamaged.load c.in-SourceDamaged.number c.in-Some.id.now c.of.result
    c.in-SourceDamaged.is (sym c.collection.ensures ∙ ap (option_map (λ id. id.now)) c.in-Some.is) c.of.ensures
