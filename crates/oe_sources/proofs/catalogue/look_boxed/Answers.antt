use Rattle.std.proofs.Common.{refl, sym, subst}
use borrow.Author.Rules.{by_part, of_a_part}
use Rattle.oe_sources.specs.Source.{Looks, answer_of}
use Rattle.oe_window.specs.Windows.{Holds, whole_window}
use Rattle.oe_sources.proofs.catalogue.look_boxed.Goals as goal

pub look-requires : goal.look-requires
look-requires g c κs =
    let inside = subst (λ z. Holds (whole_window ((goal.SharedSource-dyn g z).CubeSource.seen z.1).shape) c.args.window.now) (sym c.as_ref.ensures.1) c.requires.inside in
    (refl, λ within. (tt, (by_part within (search of_a_part), (inside, (c.requires.room, c.requires.bytes)))))

pub returns : goal.returns
returns g c =
    subst (λ z. Looks ((goal.SharedSource-dyn g z).CubeSource.seen z.1) c.args.window.now c.look.new.into (answer_of c.look.result)) c.as_ref.ensures.1 c.look.ensures
