use Rattle.std.proofs.Common.{◌≡◌, length, rules, ◌∙◌, arith}
use Rattle.oe_mosaic.specs.Mosaics.{parts_of}
use Rattle.oe_window.specs.Windows.{position_count}
use Rattle.oe_mosaic.proofs.ReadLemmas.{back_answers, back_holds, few_positions, front_fails, front_holds, half_counts}
use Rattle.oe_sources.specs.Source.{answer_of}
use Rattle.oe_mosaic.proofs.reading.+look_window.Goals as goal

pub size-requires : goal.size-requires
size-requires g t c =
    few_positions c.args.shape.now c.halves.result.0 c.epsg-epsg.ensures.valid (front_holds c.args.shape.now c.args.window.now c.halves.result.0 c.halves.result.1 c.halves.ensures c.requires.inside)

pub split_at_mut-first-requires : goal.split_at_mut-first-requires
split_at_mut-first-requires g t c =
    let count = half_counts c.args.window.now c.halves.result.0 c.halves.result.1 c.halves.ensures in
    omega (arith, count, c.size.ensures.value, c.try_window.auto.into, c.requires.room)

pub look_window-requires : goal.look_window-requires
look_window-requires g t c κs within =
    let d = c.args.shape.now in
    let w = c.args.window.now in
    let front = c.halves.result.0 in
    let back = c.halves.result.1 in
    let halves = c.halves.ensures in
    let less = halves.front_less in
    let inside = front_holds d w front back halves c.requires.inside in
    let filled = halves.front_filled in
    let room : length c.split_at_mut-first.result.0.now ≡ position_count front = omega (arith, c.split_at_mut-first.ensures.front_len, c.size.ensures.value) in
    let bytes : length c.try_window.new.bytes ≡ 65536 = c.try_window.auto.bytes ∙ c.requires.bytes in
    let parts = c.requires.parts in
    let labels = c.requires.labels in
    (omega arith, search (rules, within, inside, filled, room, bytes, parts, labels) depth 28)

pub look_window-requires-in-Ok : goal.look_window-requires-in-Ok
look_window-requires-in-Ok g t c κs within =
    let d = c.args.shape.now in
    let w = c.args.window.now in
    let front = c.halves.result.0 in
    let back = c.halves.result.1 in
    let halves = c.halves.ensures in
    let count = half_counts w front back halves in
    let less = halves.back_less in
    let inside = back_holds d w front back halves c.requires.inside in
    let filled = halves.back_filled in
    let room : length c.split_at_mut-first.result.1.now ≡ position_count back = omega (arith, c.split_at_mut-first.ensures.back_len, c.size.ensures.value, count, c.try_window.auto.into, c.requires.room) in
    let bytes : length c.look_window.new.bytes ≡ 65536 = c.look_window.auto.bytes ∙ (c.try_window.auto.bytes ∙ c.requires.bytes) in
    let parts = c.requires.parts in
    let labels = c.requires.labels in
    (omega arith, search (rules, within, inside, filled, room, bytes, parts, labels) depth 28)

pub returns-in-Ok : goal.returns-in-Ok
returns-in-Ok g t c =
    let d = c.args.shape.now in
    let w = c.args.window.now in
    let front = c.halves.result.0 in
    let back = c.halves.result.1 in
    let halves = c.halves.ensures in
    back_answers (parts_of g.S.CubeSource.seen c.args.items.now) d w front back c.look_window.new.into c.look_window-in-Ok.new.into (answer_of c.look_window-in-Ok.result) halves c.in-Ok.ensures c.look_window-in-Ok.ensures

pub returns-in-Err : goal.returns-in-Err
returns-in-Err g t c =
    let d = c.args.shape.now in
    let w = c.args.window.now in
    let front = c.halves.result.0 in
    let back = c.halves.result.1 in
    let halves = c.halves.ensures in
    front_fails (parts_of g.S.CubeSource.seen c.args.items.now) d w front back c.look_window.new.into _ c.in-Err.fail halves c.in-Err.ensures
