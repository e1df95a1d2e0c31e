use Rattle.std.proofs.Common.{◌≡◌, ◌<◌, length, Some, sym, ap, ◌∙◌, arith, rules, FitsSigned, w64}
use Rattle.std.specs.List.{slice_get}
use Rattle.std.proofs.lemmas.Int.{to_z-of_z}
use Rattle.oe_dims.specs.Indices.{index_where}
use Rattle.oe_jobs.specs.Changes.{is_job, with_asset}
use Rattle.oe_jobs.specs.Plain.{plain_job}
use Rattle.oe_jobs.specs.Room.{has_id}
use Rattle.oe_jobs.proofs.ChangeLemmas.{change_at, change_none, get_within}
use Rattle.oe_jobs.proofs.install.add_asset.Goals as goal

pub gain-requires-clause-assets : goal.gain-requires-clause-assets
gain-requires-clause-assets c =
    let old = c.index_mut.result.now in
    let items = c.args.jobs.now.items in
    let within : c.in-Some.index < length items = omega (arith, ap length c.deref.ensures.value, c.in-Some.ensures.within) in
    let at : slice_get items c.in-Some.index ≡ Some old = get_within items c.in-Some.index old within ∙ ap Some (sym c.index_mut.ensures.value) in
    let found : index_where (has_id c.args.id.now) items ≡ Some c.in-Some.index =
    ap (index_where (has_id c.args.id.now)) (sym c.deref.ensures.value) ∙ sym c.index_of_job.ensures.index ∙ c.in-Some.is in
    (c.requires c.in-Some.index old found at).0

pub gain-requires-clause-logs : goal.gain-requires-clause-logs
gain-requires-clause-logs c =
    let old = c.index_mut.result.now in
    let items = c.args.jobs.now.items in
    let within : c.in-Some.index < length items = omega (arith, ap length c.deref.ensures.value, c.in-Some.ensures.within) in
    let at : slice_get items c.in-Some.index ≡ Some old = get_within items c.in-Some.index old within ∙ ap Some (sym c.index_mut.ensures.value) in
    let found : index_where (has_id c.args.id.now) items ≡ Some c.in-Some.index =
    ap (index_where (has_id c.args.id.now)) (sym c.deref.ensures.value) ∙ sym c.index_of_job.ensures.index ∙ c.in-Some.is in
    (c.requires c.in-Some.index old found at).1

pub returns-in-Some : goal.returns-in-Some
returns-in-Some c =
    let old = c.index_mut.result.now in
    let items = c.args.jobs.now.items in
    let within : c.in-Some.index < length items = omega (arith, ap length c.deref.ensures.value, c.in-Some.ensures.within) in
    let at : slice_get items c.in-Some.index ≡ Some old = get_within items c.in-Some.index old within ∙ ap Some (sym c.index_mut.ensures.value) in
    let found : index_where (has_id c.args.id.now) items ≡ Some c.in-Some.index =
    ap (index_where (has_id c.args.id.now)) (sym c.deref.ensures.value) ∙ sym c.index_of_job.ensures.index ∙ c.in-Some.is in
    let fits : FitsSigned w64 c.args.updated = search rules in
    let gained : plain_job c.gain.new.job ≡ with_asset c.args.asset c.args.log c.args.updated (plain_job old) =
    simp (to_z-of_z w64 c.args.updated fits) at c.gain.ensures in
    change_at plain_job (is_job c.args.id.now) (with_asset c.args.asset c.args.log c.args.updated) items c.in-Some.index old c.gain.new.job found at gained

pub returns-in-None : goal.returns-in-None
returns-in-None c =
    let none = ap (index_where (has_id c.args.id.now)) (sym c.deref.ensures.value) ∙ sym c.index_of_job.ensures.index ∙ c.in-None.is in
    change_none plain_job (is_job c.args.id.now) (with_asset c.args.asset c.args.log c.args.updated) c.args.jobs.now.items none
