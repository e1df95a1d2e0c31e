use Rattle.std.proofs.Common.{◌≡◌, ◌∙◌, List, length, is_some, vec_len, sym, ap, subst, arith}
use Rattle.std.specs.Vec.{with_items}
use Rattle.std.proofs.lemmas.List.{with_items_is}
use Rattle.oe_mosaic.specs.Mosaics.{fault_counts, mosaic_source}
use Rattle.oe_mosaic.specs.MosaicStates.{MosaicState, source_of}
use Rattle.oe_mosaic.specs.PartFaults.{OnePartCounts, SomeRose}
use Rattle.oe_mosaic.specs.Readings.{OnlyReads}
use Rattle.oe_mosaic.proofs.MosaicLemmas.{counts}
use Rattle.oe_sources.specs.Source.{CountsRead}
use Rattle.oe_mosaic.proofs.mosaic.MosaicCubeSource.count.Goals as goal

pub returns-clause-counted : goal.returns-clause-counted
returns-clause-counted g c =
    let seen = g.S.CubeSource.seen in
    let items = c.self.inside.items.items in
    let after = c.count_looks.new.items in
    let then_asked = c.count_looks.new.asked in
    let only = subst (λ (l : List _). OnlyReads seen l after) c.as_mut_slice.ensures.value c.count_looks.ensures.only in
    let long : length after ≡ vec_len c.self.inside.items = omega (arith, c.count_looks.auto.items, ap length c.as_mut_slice.ensures.value, c.self.inside.items.ok.0) in
    let kept : (with_items c.self.inside.items after).items ≡ after = with_items_is c.self.inside.items after long in
    subst (λ (l : List _). CountsRead (source_of seen c.args.self.now) c.args.cells (is_some c.args.fault) (mosaic_source seen l then_asked)) (sym kept)
    (subst (λ (m : MosaicState _). CountsRead (source_of seen m) c.args.cells (is_some c.args.fault) (mosaic_source seen after then_asked)) c.self.view_is
    (counts seen items after c.self.inside.asked then_asked c.args.cells (is_some c.args.fault) c.count_looks.ensures.asked only
    (λ met. subst (λ (l : List _). SomeRose (fault_counts seen l) (fault_counts seen after)) c.as_mut_slice.ensures.value (c.count_looks.ensures.rose met))
    (λ none. c.count_looks.ensures.still none ∙ c.as_mut_slice.ensures.value)))

pub returns-clause-rose : goal.returns-clause-rose
returns-clause-rose g c = λ met.
    let seen = g.S.CubeSource.seen in
    let after = c.count_looks.new.items in
    let long : length after ≡ vec_len c.self.inside.items = omega (arith, c.count_looks.auto.items, ap length c.as_mut_slice.ensures.value, c.self.inside.items.ok.0) in
    let kept : (with_items c.self.inside.items after).items ≡ after = with_items_is c.self.inside.items after long in
    subst (λ (l : List _). SomeRose (fault_counts seen c.args.self.now.parts) (fault_counts seen l)) (sym kept)
    (subst (λ (m : MosaicState _). SomeRose (fault_counts seen m.parts) (fault_counts seen after)) c.self.view_is
    (subst (λ (l : List _). SomeRose (fault_counts seen l) (fault_counts seen after)) c.as_mut_slice.ensures.value (c.count_looks.ensures.rose met)))

pub returns-clause-one : goal.returns-clause-one
returns-clause-one g c = λ met.
    let seen = g.S.CubeSource.seen in
    let after = c.count_looks.new.items in
    let long : length after ≡ vec_len c.self.inside.items = omega (arith, c.count_looks.auto.items, ap length c.as_mut_slice.ensures.value, c.self.inside.items.ok.0) in
    let kept : (with_items c.self.inside.items after).items ≡ after = with_items_is c.self.inside.items after long in
    subst (λ (l : List _). OnePartCounts seen c.args.self.now.parts l) (sym kept)
    (subst (λ (m : MosaicState _). OnePartCounts seen m.parts after) c.self.view_is
    (subst (λ (l : List _). OnePartCounts seen l after) c.as_mut_slice.ensures.value (c.count_looks.ensures.one met)))

pub returns-clause-still : goal.returns-clause-still
returns-clause-still g c = λ none.
    let after = c.count_looks.new.items in
    let long : length after ≡ vec_len c.self.inside.items = omega (arith, c.count_looks.auto.items, ap length c.as_mut_slice.ensures.value, c.self.inside.items.ok.0) in
    let kept : (with_items c.self.inside.items after).items ≡ after = with_items_is c.self.inside.items after long in
    subst (λ (m : MosaicState _). (with_items c.self.inside.items after).items ≡ m.parts) c.self.view_is
    (kept ∙ c.count_looks.ensures.still none ∙ c.as_mut_slice.ensures.value)
