-- Room for an asset at the job of an id.
use Rattle.std.proofs.Common.{◌≡◌, ℕ, ◌<◌, List, length, set, Some, Result, Ok, Err, OnOk, sym, ap, subst, ◌∙◌}
use Rattle.std.specs.List.{slice_get}
use Rattle.std.proofs.lemmas.Option.{same_Some}
use Rattle.oe_dims.specs.Indices.{index_where}
use Rattle.oe_jobs.specs.Changes.{is_job}
use Rattle.oe_jobs.specs.Plain.{plain_job}
use Rattle.oe_jobs.specs.Room.{HasAssetRoom, HasSpare, has_id}
use Rattle.oe_jobs.specs.declared.job.Job.{Job}
use Rattle.oe_jobs.proofs.ChangeLemmas.{get_set, index_shown, set_shown}

pub room_there : (jobs : List Job) (id : List ℕ) (i : ℕ) (old new : Job) → index_where (has_id id) jobs ≡ Some i → i < length jobs
    → slice_get jobs i ≡ Some old → plain_job new ≡ plain_job old → HasSpare new.assets × HasSpare new.logs
    → HasAssetRoom (set jobs i new) id
room_there jobs id i old new found within at same room = λ index job found_now at_now.
    let still : index_where (has_id id) (set jobs i new) ≡ Some i =
    index_shown plain_job (is_job id) (set jobs i new)
    ∙ ap (index_where (is_job id)) (set_shown plain_job jobs i old new at same)
    ∙ sym (index_shown plain_job (is_job id) jobs) ∙ found in
    let there : i ≡ index = same_Some _ _ (sym still ∙ found_now) in
    let is_new : new ≡ job =
    same_Some _ _ (sym (get_set jobs i new within) ∙ ap (slice_get (set jobs i new)) there ∙ at_now) in
    let P : Job → Type 0 = λ j. HasSpare j.assets × HasSpare j.logs in
    subst P is_new room

-- what holds after an Ok
pub on_ok : {T E : Type 0} (r : Result T E) (P Q : Type 0) → (P → Q) → OnOk r P → OnOk r Q
on_ok (Ok value) P Q f h = f h
on_ok (Err error) P Q f h = h
