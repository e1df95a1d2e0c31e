use Rattle.std.proofs.Common.{◌≡◌, ◌<◌, length, true, sym, ap, ◌∙◌, arith}
use Rattle.std.proofs.lemmas.Grind.{common_steps}
use Rattle.oe_mosaic.specs.Mosaics.{part_of, parts_of}
use Rattle.oe_mosaic.specs.Parts.{fits_dimensions, fits_kind}
use Rattle.oe_mosaic.proofs.PartLemmas.{pushed_or_not}
use Rattle.oe_mosaic.proofs.parts.Parts.push.Goals as goal

pub invariant_of-self : goal.invariant_of-self
invariant_of-self g c =
    let seen = g.S.CubeSource.seen in
    let items = c.self.inside.items.items in
    let kind : fits_kind (parts_of seen items) (part_of (seen c.args.part)) ≡ true =
    ap (λ l. fits_kind (parts_of seen l) (part_of (seen c.args.part))) (sym c.deref.ensures.value) ∙ sym c.fits_kind.ensures ∙ c.if-not-fits_kind.false in
    let dims : fits_dimensions (parts_of seen items) (part_of (seen c.args.part)) ≡ true =
    ap (λ l. fits_dimensions (parts_of seen l) (part_of (seen c.args.part))) (sym c.deref-2.ensures.value) ∙ sym c.fits_dimensions.ensures.value ∙ c.if-not-fits_dimensions.false in
    let few : length items < 16 = omega (arith, c.len.ensures, c.if-len-ge-MOST_PARTS.false) in
    pushed_or_not seen items c.push_item.new.items.items c.args.part c.push_item.result c.push_item.ensures.added c.push_item.ensures.kept c.self.invariant kind dims few c.fits_dimensions.ensures.sound

pub returns-clause-allowed : goal.returns-clause-allowed
returns-clause-allowed g c = grind (arith, common_steps) steps 2000000

pub returns-clause-refused : goal.returns-clause-refused
returns-clause-refused g c = grind (arith, common_steps) steps 2000000

pub returns-then-len-ge-MOST_PARTS-clause-refused : goal.returns-then-len-ge-MOST_PARTS-clause-refused
returns-then-len-ge-MOST_PARTS-clause-refused g c = grind (arith, common_steps) steps 2000000
