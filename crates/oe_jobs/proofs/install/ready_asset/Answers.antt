use Rattle.std.proofs.Common.{◌≡◌, ◌<◌, length, Some, sym, ap, ◌∙◌, arith}
use Rattle.std.specs.List.{slice_get}
use Rattle.oe_dims.specs.Indices.{index_where}
use Rattle.oe_jobs.specs.Plain.{plain_job}
use Rattle.oe_jobs.specs.Room.{has_id}
use Rattle.oe_jobs.proofs.ChangeLemmas.{get_within, set_shown}
use Rattle.oe_jobs.proofs.RoomLemmas.{on_ok, room_there}
use Rattle.oe_jobs.proofs.install.ready_asset.Goals as goal

pub returns-in-Some-clause-same : goal.returns-in-Some-clause-same
returns-in-Some-clause-same c =
    let old = c.index_mut.result.now in
    let items = c.args.jobs.now.items in
    let within : c.in-Some.index < length items = omega (arith, ap length c.deref.ensures.value, c.in-Some.ensures.within) in
    let at : slice_get items c.in-Some.index ≡ Some old = get_within items c.in-Some.index old within ∙ ap Some (sym c.index_mut.ensures.value) in
    set_shown plain_job items c.in-Some.index old c.make_room.new.job at c.make_room.ensures.same

pub returns-in-Some-clause-room : goal.returns-in-Some-clause-room
returns-in-Some-clause-room c =
    let old = c.index_mut.result.now in
    let items = c.args.jobs.now.items in
    let within : c.in-Some.index < length items = omega (arith, ap length c.deref.ensures.value, c.in-Some.ensures.within) in
    let at : slice_get items c.in-Some.index ≡ Some old = get_within items c.in-Some.index old within ∙ ap Some (sym c.index_mut.ensures.value) in
    let found : index_where (has_id c.args.id.now) items ≡ Some c.in-Some.index =
    ap (index_where (has_id c.args.id.now)) (sym c.deref.ensures.value) ∙ sym c.index_of_job.ensures.index ∙ c.in-Some.is in
    on_ok c.make_room.result _ _ (room_there items c.args.id.now c.in-Some.index old c.make_room.new.job found within at c.make_room.ensures.same) c.make_room.ensures.room
