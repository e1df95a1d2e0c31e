use Rattle.std.proofs.Common.{◌≡◌, length, ◌∙◌, arith}
use Rattle.std.proofs.lemmas.List.{length-take}
use Rattle.oe_outside.proofs.Stores.{StoreHolds-read}
use Rattle.oe_parts.proofs.JudgeLemmas.{all_judged}
use Rattle.oe_parts.proofs.ReadLemmas.{no_record}
use Rattle.oe_parts.proofs.read.read_cells.Goals as goal

pub returns-in-Ok-judge-clause-cells : goal.returns-in-Ok-judge-clause-cells
returns-in-Ok-judge-clause-cells g c =
    let long = c.read_at.auto.into ∙ c.requires in
    all_judged c.args.count c.in-Ok.given c.read_at.new.into c.in-Ok-judge.over long c.in-Ok-judge.ensures.cells.0 c.in-Ok-judge.ensures.cells.1

pub returns-in-Ok-judge-clause-held : goal.returns-in-Ok-judge-clause-held
returns-in-Ok-judge-clause-held g c =
    let buffer = c.read_at.new.into in
    let room = length c.args.bytes.now in
    let given = c.in-Ok.given in
    let kept : length buffer ≡ room = c.read_at.auto.into in
    let whole : given ≡ room = omega (arith, c.in-Ok.ensures.within, c.in-Ok-judge.ensures.cells.0, length-take given buffer, kept, c.requires) in
    StoreHolds-read (g.S.Store.bytes c.args.store.now) c.args.at room given buffer kept c.in-Ok.ensures.given whole

pub returns-in-Err-clause-damage : goal.returns-in-Err-clause-damage
returns-in-Err-clause-damage g c =
    let index = c.in-Err.index in
    let told = c.in-Err.ensures.none in (
      told.0,
      no_record (g.S.Store.bytes c.args.store.now) c.read_at.new.into c.args.at (length c.args.bytes.now) c.in-Ok.given index c.in-Ok.ensures.given (omega (arith, told.0, c.requires)) told.1,
    )
