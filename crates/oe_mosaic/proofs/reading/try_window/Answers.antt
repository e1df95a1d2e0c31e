use Rattle.std.proofs.Common.{◌<◌, length, Err, sym, ap, ◌∙◌, subst, arith}
use Rattle.std.proofs.lemmas.List.{get_or_read}
use Rattle.std.proofs.lemmas.Grind.{common_steps}
use Rattle.oe_mosaic.specs.Mosaics.{parts_of}
use Rattle.oe_mosaic.specs.Readings.{IsDamagedThere}
use Rattle.oe_mosaic.proofs.ReadLemmas.{box_count, item_box, item_there, nowhere_read, part_damaged, part_ok}
use Rattle.oe_sources.specs.Source.{Looks, answer_of}
use Rattle.oe_mosaic.proofs.reading.try_window.Goals as goal

pub look-requires-clause-inside : goal.look-requires-clause-inside
look-requires-clause-inside g c =
    let seen = g.S.CubeSource.seen in
    let items = c.args.items.now in
    let d = c.args.shape.now in
    let w = c.args.window.now in
    let box = c.in-In.part in
    let k = c.in-In.index in
    let item = c.index-items-index.result in
    let below : k < length items = item_there seen items k c.in-In.ensures.0 in
    let is = get_or_read items k item below c.index-items-index.is item in
    (item_box seen items d w box k item below is c.in-In.ensures.2).within

pub look-requires-clause-room : goal.look-requires-clause-room
look-requires-clause-room g c =
    let seen = g.S.CubeSource.seen in
    let items = c.args.items.now in
    let d = c.args.shape.now in
    let w = c.args.window.now in
    let box = c.in-In.part in
    let k = c.in-In.index in
    let item = c.index-items-index.result in
    let below : k < length items = item_there seen items k c.in-In.ensures.0 in
    let is = get_or_read items k item below c.index-items-index.is item in
    c.requires.room ∙ sym (box_count d (seen item).shape w box (item_box seen items d w box k item below is c.in-In.ensures.2))

pub returns-in-Nowhere : goal.returns-in-Nowhere
returns-in-Nowhere g c =
    nowhere_read (parts_of g.S.CubeSource.seen c.args.items.now) c.args.shape.now c.args.window.now c.fill_null.new.into c.in-Nowhere.ensures c.requires.inside (c.fill_null.auto.into ∙ c.requires.room) c.fill_null.ensures

pub returns-in-Ok : goal.returns-in-Ok
returns-in-Ok g c =
    let seen = g.S.CubeSource.seen in
    let items = c.args.items.now in
    let d = c.args.shape.now in
    let w = c.args.window.now in
    let box = c.in-In.part in
    let k = c.in-In.index in
    let item = c.index-items-index.result in
    let below : k < length items = item_there seen items k c.in-In.ensures.0 in
    let is = get_or_read items k item below c.index-items-index.is item in
    part_ok seen items d w box k item c.look.new.into _ c.requires.parts below is c.in-In.ensures.1 c.in-In.ensures.2 c.requires.inside (c.look.auto.into ∙ c.requires.room) c.in-Ok.ensures

pub returns-then-is_single : goal.returns-then-is_single
returns-then-is_single g c =
    let seen = g.S.CubeSource.seen in
    let items = c.args.items.now in
    let d = c.args.shape.now in
    let w = c.args.window.now in
    let box = c.in-In.part in
    let k = c.in-In.index in
    let item = c.index-items-index.result in
    let below : k < length items = item_there seen items k c.in-In.ensures.0 in
    let is = get_or_read items k item below c.index-items-index.is item in
    subst (IsDamagedThere (parts_of seen items) d w) (sym c.first_number.ensures)
    (part_damaged seen items d w box k _ item c.look.new.into c.requires.parts below is c.in-In.ensures.1 c.in-In.ensures.2 (c.is_single.ensures.single c.if-is_single.true) c.requires.filled
    (subst (λ r. Looks (seen item) box c.look.new.into (answer_of r)) (c.in-Err-Damaged.is ∙ ap Err c.in-Err-Damaged.field-0-is) c.look.ensures))

pub bounds-items-index : goal.bounds-items-index
bounds-items-index g c = grind (arith, common_steps) steps 2000000

pub offset_bounds-items-index : goal.offset_bounds-items-index
offset_bounds-items-index g c = grind (arith, common_steps) steps 2000000
