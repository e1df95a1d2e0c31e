-- Batch jobs, their results, and stored processes, as the openEO API sends them (openEO API, batch jobs and user-defined
-- processes; which members there are is this profile's own).
use Rattle.std.specs.Prelude.{ℕ, List, [], ◌∷◌, ◌++◌, map, filter, codes, unwrap_or}
use Rattle.std.specs.Option.{option_map}
use Rattle.serde_json.specs.Data.{Data, null, string, object, Members, no_members, member, put}
use Rattle.serde_json.specs.Read.{read}
use Rattle.oe_graph.specs.Tree.{PlainStored}
use Rattle.oe_jobs.specs.Plain.{PlainBook, PlainJob}
use Rattle.oe_jobs.specs.Texts.{level_text, status_text}
use Rattle.oe_jobs.specs.Verdicts.{is_job_of, stored_of}
use Rattle.oe_jobs.specs.declared.job.Asset.{Asset}
use Rattle.oe_replies.specs.Json.{listing_data, member_where, moment_data, no_links}

-- ---- jobs

-- the JSON value of the process of a job
abbrev pub process_data : List ℕ → Data
process_data text = unwrap_or (read text) null

-- a job by itself
abbrev pub job_data : PlainJob → Data
job_data job = object (
    member (codes "created") (moment_data job.created) (
    member_where (codes "description") (option_map string job.description) (
    member (codes "id") (string job.id) (
    member (codes "log_level") (string (level_text job.level)) (
    member (codes "process") (process_data job.process) (
    member (codes "status") (string (status_text job.status)) (
    member_where (codes "title") (option_map string job.title) (
    member (codes "updated") (moment_data job.updated) no_members))))))))

-- its members that every job has
abbrev pub job_members : PlainJob → Members
job_members job =
    member (codes "created") (moment_data job.created) (
    member (codes "id") (string job.id) (
    member (codes "log_level") (string (level_text job.level)) (
    member (codes "process") (process_data job.process) (
    member (codes "status") (string (status_text job.status)) (
    member (codes "updated") (moment_data job.updated) no_members)))))

-- a job in a list
abbrev pub job_row_data : PlainJob → Data
job_row_data job = object (
    member (codes "created") (moment_data job.created) (
    member (codes "id") (string job.id) (
    member (codes "status") (string (status_text job.status)) (
    member_where (codes "title") (option_map string job.title) (
    member (codes "updated") (moment_data job.updated) no_members)))))

-- the jobs of a user, in order of creation
abbrev pub jobs_data : PlainBook → List ℕ → Data
jobs_data book user = listing_data (codes "jobs") (map job_row_data (filter (is_job_of user) book.jobs))

-- ---- results

-- where a job is found, under the base of the service, and where one of its assets is
abbrev pub job_url : List ℕ → List ℕ → List ℕ
job_url base id = base ++ codes "jobs/" ++ id

abbrev pub asset_url : List ℕ → List ℕ → List ℕ → List ℕ
asset_url base id name = job_url base id ++ codes "/results/" ++ name

abbrev pub asset_data : List ℕ → List ℕ → List ℕ → Data
asset_data base id name = object (
    member (codes "href") (string (asset_url base id name)) (
    member (codes "type") (string (codes "application/json")) no_members))

-- the members with those of these assets, each at its place in byte order
abbrev pub with_assets : List ℕ → List ℕ → List Asset → Members → Members
with_assets base id [] members = members
with_assets base id (asset ∷ assets) members =
    with_assets base id assets (put asset.name (asset_data base id asset.name) members)

-- the results of a job, under its id
abbrev pub results_data : List ℕ → List ℕ → List Asset → Data
results_data base id assets = object (
    member (codes "assets") (object (with_assets base id assets no_members)) (
    member (codes "geometry") null (
    member (codes "id") (string id) (
    member (codes "links") no_links (
    member (codes "properties") (object (member (codes "datetime") null no_members)) (
    member (codes "stac_version") (string (codes "1.0.0")) (
    member (codes "type") (string (codes "Feature")) no_members)))))))

-- ---- stored processes

-- a stored process in a list
abbrev pub stored_row_data : PlainStored → Data
stored_row_data process = object (member (codes "id") (string process.id) no_members)

-- the stored processes of a user, which a book keeps in byte order of their ids
abbrev pub stored_list_data : PlainBook → List ℕ → Data
stored_list_data book user = listing_data (codes "processes") (map stored_row_data (stored_of user book))
