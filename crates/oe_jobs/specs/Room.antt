-- The room that a book has for a change, so that installing it takes no memory.
use Rattle.std.specs.Prelude.{◌≡◌, ℕ, ◌<◌, Bool, List, Some, Vec, vec_len, vec_capacity, slice_get, ⊤}
use Rattle.oe_dims.specs.Indices.{index_where}
use Rattle.oe_dims.specs.Names.{same_name}
use Rattle.oe_jobs.specs.declared.book.Book.{Book}
use Rattle.oe_jobs.specs.declared.change.Change.{Change}
use Rattle.oe_jobs.specs.declared.change.Change.TheVariants.{PutJob, AddAsset, DropJob, PutProcess, DropProcess}
use Rattle.oe_jobs.specs.declared.job.Job.{Job}

-- a list has room for one more
abbrev pub HasSpare : {X Z : Type 0} → Vec X Z → Type 0
HasSpare v = vec_len v < vec_capacity v

abbrev pub has_id : List ℕ → Job → Bool
has_id id job = same_name job.id id

-- the job of an id has room for an asset and a log entry
abbrev pub HasAssetRoom : List Job → List ℕ → Type 0
HasAssetRoom jobs id =
    (index : ℕ) (job : Job) → index_where (has_id id) jobs ≡ Some index → slice_get jobs index ≡ Some job
    → HasSpare job.assets × HasSpare job.logs

abbrev pub HasRoom : Book → Change → Type 0
HasRoom book (PutJob job next) = HasSpare book.jobs
HasRoom book (AddAsset job asset log updated) = HasAssetRoom book.jobs.items job
HasRoom book (DropJob id) = ⊤
HasRoom book (PutProcess owned) = HasSpare book.processes
HasRoom book (DropProcess user id) = ⊤
