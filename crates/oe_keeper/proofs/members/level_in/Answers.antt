use Rattle.std.proofs.Common.{codes, refl, subst}
use Rattle.std.specs.Prelude.{Option}
use Rattle.serde_json.specs.Data.{Data}
use Rattle.serde_json.specs.Find.{get}
use Rattle.serde_json.specs.View.{view}
use Rattle.oe_jobs.specs.declared.level.Level.TheVariants as levels
use Rattle.oe_keeper.specs.Reading.{IsLevel}
use Rattle.oe_keeper.proofs.FindLemmas.{level_found}
use Rattle.oe_keeper.proofs.members.level_in.Goals as goal

pub returns-in-Some : goal.returns-in-Some
returns-in-Some c =
    level_found (get (codes "level") (view c.args.value.now)) (view c.in-Some.field-0.now) c.level_at.result c.in-Some.ensures
    c.level_at.ensures

pub returns-in-None : goal.returns-in-None
returns-in-None c = subst (λ (found : Option Data). IsLevel found levels.Info) c.in-None.ensures refl
