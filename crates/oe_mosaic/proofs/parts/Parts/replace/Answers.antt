use Rattle.std.proofs.Common.{◌≡◌, ◌<◌, length, set, true, Some, sym, ap, ◌∙◌, subst}
use Rattle.std.specs.List.{slice_get}
use Rattle.std.proofs.lemmas.List.{set_split}
use Rattle.oe_mosaic.specs.Mosaics.{part_of, parts_of}
use Rattle.oe_mosaic.specs.Parts.{may_replace, put_at}
use Rattle.oe_mosaic.proofs.PartLemmas.{get_there, replaced}
use Rattle.oe_mosaic.proofs.parts.Parts.replace.Goals as goal

pub invariant_of-self : goal.invariant_of-self
invariant_of-self g c =
    let seen = g.S.CubeSource.seen in
    let items = c.self.inside.items.items in
    let may : may_replace (parts_of seen items) c.args.place (part_of (seen c.args.part)) ≡ true =
    ap (λ l. may_replace (parts_of seen l) c.args.place (part_of (seen c.args.part))) (sym c.deref.ensures.value) ∙ sym c.may_replace.ensures.value ∙ c.if-not-may_replace.false in
    let below : c.args.place < length items = subst (λ l. c.args.place < length l) c.deref.ensures.value (c.may_replace.ensures.within c.if-not-may_replace.false) in
    replaced seen items (set items c.args.place c.replace.new.dest) c.args.place c.args.part (set_split items c.args.place c.replace.new.dest below ∙ ap (λ s. put_at c.args.place s items) c.replace.ensures.after) c.self.invariant may c.may_replace.ensures.sound

pub returns-clause-handed : goal.returns-clause-handed
returns-clause-handed g c =
    let items = c.self.inside.items.items in
    let below : c.args.place < length items = subst (λ l. c.args.place < length l) c.deref.ensures.value (c.may_replace.ensures.within c.if-not-may_replace.false) in
    ap (λ l. slice_get l c.args.place) (sym c.self.view_is) ∙ get_there items c.args.place c.index_mut.result.now below ∙ ap Some (sym c.index_mut.ensures.value ∙ sym c.replace.ensures.value)

pub returns-clause-replaced : goal.returns-clause-replaced
returns-clause-replaced g c =
    let items = c.self.inside.items.items in
    let below : c.args.place < length items = subst (λ l. c.args.place < length l) c.deref.ensures.value (c.may_replace.ensures.within c.if-not-may_replace.false) in
    set_split items c.args.place c.replace.new.dest below ∙ ap (λ s. put_at c.args.place s items) c.replace.ensures.after ∙ ap (put_at c.args.place c.args.part) c.self.view_is
