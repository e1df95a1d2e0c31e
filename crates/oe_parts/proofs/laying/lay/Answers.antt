use Rattle.std.proofs.Common.{◌≡◌, List, IfErr, IfOk, length, vec_len, sym, ap, ◌∙◌, subst, arith}
use Rattle.std.specs.Vec.{with_items}
use Rattle.std.proofs.lemmas.List.{with_items_is}
use Rattle.oe_parts.specs.Laid.{LayStops, Lays}
use Rattle.oe_parts.specs.Parts.{ArePartsRead, PartState, heads_of}
use Rattle.oe_parts.specs.Whole.{AreWhole}
use Rattle.oe_parts.proofs.laying.lay.Goals as goal

pub lay_all-requires-clause-whole : goal.lay_all-requires-clause-whole
lay_all-requires-clause-whole g c =
    let whole = c.requires.whole in
    let same = c.as_mut_slice.ensures.value ∙ c.parts.view_is in
    (whole.0, whole.1, subst (λ (ps : List PartState). AreWhole whole.0 (heads_of ps)) (sym same) whole.2)

pub invariant_of-parts : goal.invariant_of-parts
invariant_of-parts g c =
    let after = c.lay_all.new.parts in
    let long : length after ≡ vec_len c.parts.inside.items = omega (arith, c.lay_all.auto.parts, ap length c.as_mut_slice.ensures.value, c.parts.inside.items.ok.0) in
    let kept : (with_items c.parts.inside.items after).items ≡ after = with_items_is c.parts.inside.items after long in
    omega (arith, ap length kept, long, c.parts.inside.items.ok.0, c.parts.invariant)

pub returns-clause-laid : goal.returns-clause-laid
returns-clause-laid g c =
    let spool = g.P.Store.bytes c.lay_all.new.spool in
    let same = c.as_mut_slice.ensures.value ∙ c.parts.view_is in
    subst (λ (ps : List PartState). IfOk c.lay_all.result (Lays c.args.base c.args.shape.now ps spool)) same c.lay_all.ensures.laid

pub returns-clause-stops : goal.returns-clause-stops
returns-clause-stops g c =
    let after = c.lay_all.new.parts in
    let falls = g.P.Store.faults c.args.spool.now in
    let fallen = g.P.Store.faults c.lay_all.new.spool in
    let same = c.as_mut_slice.ensures.value ∙ c.parts.view_is in
    let long : length after ≡ vec_len c.parts.inside.items = omega (arith, c.lay_all.auto.parts, ap length c.as_mut_slice.ensures.value, c.parts.inside.items.ok.0) in
    let kept : (with_items c.parts.inside.items after).items ≡ after = with_items_is c.parts.inside.items after long in
    subst (λ (ps : List PartState). IfErr c.lay_all.result (LayStops c.args.parts.now ps falls fallen)) (sym kept)
    (subst (λ (ps : List PartState). IfErr c.lay_all.result (LayStops ps after falls fallen)) same c.lay_all.ensures.stops)

pub returns-clause-read : goal.returns-clause-read
returns-clause-read g c =
    let after = c.lay_all.new.parts in
    let same = c.as_mut_slice.ensures.value ∙ c.parts.view_is in
    let long : length after ≡ vec_len c.parts.inside.items = omega (arith, c.lay_all.auto.parts, ap length c.as_mut_slice.ensures.value, c.parts.inside.items.ok.0) in
    let kept : (with_items c.parts.inside.items after).items ≡ after = with_items_is c.parts.inside.items after long in
    subst (ArePartsRead c.args.parts.now) (sym kept) (subst (λ (ps : List PartState). ArePartsRead ps after) same c.lay_all.ensures.read)
