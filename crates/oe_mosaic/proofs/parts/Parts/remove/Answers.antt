use Rattle.std.proofs.Common.{◌<◌, length, Some, sym, ap, ◌∙◌, arith}
use Rattle.std.specs.List.{slice_get}
use Rattle.oe_mosaic.proofs.PartLemmas.{get_there, removed}
use Rattle.oe_mosaic.proofs.parts.Parts.remove.Goals as goal

pub invariant_of-self : goal.invariant_of-self
invariant_of-self g c = removed g.S.CubeSource.seen c.self.inside.items.items c.remove.new.self.items c.args.place c.remove.ensures.items c.self.invariant

pub returns-clause-handed : goal.returns-clause-handed
returns-clause-handed g c =
    let items = c.self.inside.items.items in
    let below : c.args.place < length items = omega (arith, c.len.ensures, c.if-place-len.false) in
    ap (λ l. slice_get l c.args.place) (sym c.self.view_is) ∙ get_there items c.args.place c.remove.result below ∙ ap Some (sym c.remove.ensures.value)
