use Rattle.std.proofs.Common.{◌≡◌, ◌*◌, refl, arith}
use Rattle.oe_engine.proofs.RuleLemmas.{opens}
use Rattle.oe_engine.proofs.round_table.Crew.new.Goals as goal

pub vacant-requires : goal.vacant-requires
vacant-requires c =
    let slots = 2 * c.from-slots.result in
    opens (record { slots = slots }) slots refl (omega (arith, c.from-slots.ensures, c.requires.most))
