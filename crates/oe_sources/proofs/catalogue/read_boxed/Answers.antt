use Rattle.std.proofs.Common.{refl, sym, subst}
use borrow.Author.Rules.{by_part, of_a_part}
use Rattle.oe_window.specs.Windows.{Holds, whole_window}
use Rattle.oe_sources.proofs.catalogue.read_boxed.Goals as goal

pub read-requires : goal.read-requires
read-requires g c κs =
    let inside = subst (λ z. Holds (whole_window ((goal.SharedSource-dyn g z).CubeSource.seen z.1).shape) c.args.window.now) (sym c.as_mut.ensures.value.1) c.requires.inside in
    (refl, λ within. (tt, (by_part within (search of_a_part), (inside, c.requires.room))))
