use Rattle.std.proofs.Common.{List, sym, subst}
use Rattle.oe_dims.specs.Dimensions.{Dimensions}
use Rattle.oe_mosaic.specs.MosaicLaws.{HasAllLabels}
use Rattle.oe_mosaic.specs.Mosaics.{parts_of}
use Rattle.oe_mosaic.specs.MosaicStates.{MosaicState, source_of}
use Rattle.oe_mosaic.specs.Readings.{IsAnswer}
use Rattle.oe_mosaic.proofs.LawLemmas.{have_all_labels}
use Rattle.oe_mosaic.proofs.MosaicLemmas.{looks_at}
use Rattle.oe_sources.specs.Source.{Looks, answer_of}
use Rattle.oe_window.specs.Windows.{Holds, whole_window}
use Rattle.oe_mosaic.proofs.mosaic.MosaicCubeSource.look.Goals as goal

pub look_any-requires-clause-inside : goal.look_any-requires-clause-inside
look_any-requires-clause-inside g c =
    let seen = g.S.CubeSource.seen in
    subst (λ (e : Dimensions). Holds (whole_window e) c.args.window.now) (sym c.self.invariant.1)
    (subst (λ (m : MosaicState _). Holds (whole_window (source_of seen m).shape) c.args.window.now) (sym c.self.view_is) c.requires.inside)

pub look_any-requires-clause-labels : goal.look_any-requires-clause-labels
look_any-requires-clause-labels g c =
    let seen = g.S.CubeSource.seen in
    let items = c.self.inside.items.items in
    subst (λ (l : List _). HasAllLabels (parts_of seen l) c.self.inside.shape) (sym c.as_slice.ensures.value)
    (subst (HasAllLabels (parts_of seen items)) (sym c.self.invariant.1)
    (have_all_labels (parts_of seen items) (λ part in_. (c.self.invariant.0.sound part in_).valid)))

pub returns : goal.returns
returns g c =
    let seen = g.S.CubeSource.seen in
    let items = c.self.inside.items.items in
    let w = c.args.window.now in
    let into = c.look_any.new.into in
    let result = answer_of c.look_any.result in
    let answer = subst (λ (l : List _). IsAnswer (parts_of seen l) c.self.inside.shape w into result) c.as_slice.ensures.value c.look_any.ensures in
    let holds = subst (λ (m : MosaicState _). Holds (whole_window (source_of seen m).shape) w) (sym c.self.view_is) c.requires.inside in
    subst (λ (m : MosaicState _). Looks (source_of seen m) w into result) c.self.view_is
    (looks_at seen items c.self.inside.shape w into c.self.inside.asked result c.self.invariant.1 holds answer)
