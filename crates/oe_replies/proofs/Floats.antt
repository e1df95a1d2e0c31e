-- No number of a body is a fraction, but those of a job's process may be.
use Rattle.std.proofs.Common.{◌≡◌, ℕ, ℤ, List, [], ◌∷◌, map, Bool, true, false, Option, Some, None, codes, refl}
use Rattle.std.specs.Prelude.{◌&&◌, int_le, if◌then◌else◌}
use Rattle.std.specs.Option.{option_map}
use Rattle.serde_json.specs.Data.{null, string, object, Members, no_members, put}
use Rattle.serde_json.specs.View.{items_of}
use Rattle.serde_json.specs.Written.{has_float, items_have_float, members_have_float}
use Rattle.oe_dims.specs.Dimensions.{Dimensions, band_names, first_instant, last_instant, label_count, number_labels}
use Rattle.oe_dims.specs.Instant.{instant_text}
use Rattle.oe_dims.specs.declared.dims.DimsRow.{DimsRow}
use Rattle.oe_dims.specs.declared.kind.Kind.{Kind}
use Rattle.oe_dims.specs.declared.kind.Kind.TheVariants.{Time, Bands, Y, X}
use Rattle.oe_graph.specs.Tree.{PlainStored}
use Rattle.oe_graph.specs.declared.fault.Fault.{Fault}
use Rattle.oe_jobs.specs.Plain.{PlainJob}
use Rattle.oe_jobs.specs.declared.job.Asset.{Asset}
use Rattle.oe_jobs.specs.declared.job.LogEntry.{LogEntry}
use Rattle.oe_jobs.proofs.Floats.{integer_whole, put_whole}
use Rattle.oe_replies.specs.Bodies.{PlainEndpoint, capabilities_data, endpoint_data, validation_data}
use Rattle.oe_replies.specs.Collections as collections
use Rattle.oe_replies.specs.Jobs as jobs
use Rattle.oe_replies.specs.Json.{member_where, moment_data, whole_data}
use Rattle.oe_replies.specs.Logs.{log_data}

-- ---- numbers, moments and texts

in_range_whole : (b : Bool) (text : List ℕ) → has_float (if b then string text else null) ≡ false
in_range_whole true text = refl
in_range_whole false text = refl

moment_whole : (z : ℤ) → has_float (moment_data z) ≡ false
moment_whole z = in_range_whole (int_le first_instant z && int_le z last_instant) (instant_text z)

pub texts_whole : (texts : List (List ℕ)) → items_have_float (items_of (map string texts)) ≡ false
texts_whole [] = refl
texts_whole (text ∷ texts) = texts_whole texts

-- ---- members

-- a text that need not be there, before the rest
words_whole : (name : List ℕ) (words : Option (List ℕ)) (rest : Members) → members_have_float rest ≡ false
    → members_have_float (member_where name (option_map string words) rest) ≡ false
words_whole name None rest whole = whole
words_whole name (Some text) rest whole = whole

-- ---- bodies

endpoints_whole : (endpoints : List PlainEndpoint) → items_have_float (items_of (map endpoint_data endpoints)) ≡ false
endpoints_whole [] = refl
endpoints_whole (e ∷ endpoints) = rw (texts_whole e.methods) (endpoints_whole endpoints)

pub capabilities_whole : (endpoints : List PlainEndpoint) → has_float (capabilities_data endpoints) ≡ false
capabilities_whole endpoints = rw (endpoints_whole endpoints) refl

pub validation_whole : (fault : Option Fault) → has_float (validation_data fault) ≡ false
validation_whole None = refl
validation_whole (Some fault) = refl

moment_end_whole : (label : Option ℤ) → has_float (collections.end_data moment_data label) ≡ false
moment_end_whole None = refl
moment_end_whole (Some label) = moment_whole label

whole_end_whole : (label : Option ℤ) → has_float (collections.end_data whole_data label) ≡ false
whole_end_whole None = refl
whole_end_whole (Some label) = integer_whole label

instants_whole : (labels : List ℤ) → has_float (collections.instants_extent labels) ≡ false
instants_whole labels =
    rw (moment_end_whole (collections.first_label labels), moment_end_whole (collections.last_label labels)) refl

members_whole : (row : DimsRow) → members_have_float (collections.collection_members row) ≡ false
members_whole row = rw (instants_whole (number_labels row.shape Time)) refl

rows_whole : (rows : List DimsRow)
    → items_have_float (items_of (map (λ row. object (collections.collection_members row)) rows)) ≡ false
rows_whole [] = refl
rows_whole (row ∷ rows) = rw (members_whole row) (rows_whole rows)

pub collections_whole : (rows : List DimsRow) → has_float (collections.collections_data rows) ≡ false
collections_whole rows = rw (rows_whole rows) refl

dimension_whole : (d : Dimensions) (kind : Kind) → has_float (collections.dimension_data d kind) ≡ false
dimension_whole d Time = rw (instants_whole (number_labels d Time)) refl
dimension_whole d Bands = rw (texts_whole (band_names d)) refl
dimension_whole d Y =
    let labels = number_labels d Y in
    rw (whole_end_whole (collections.first_label labels), whole_end_whole (collections.last_label labels)) refl
dimension_whole d X =
    let labels = number_labels d X in
    rw (whole_end_whole (collections.first_label labels), whole_end_whole (collections.last_label labels)) refl

-- a dimension that a cube need not have, before the rest
where_whole : (name : List ℕ) (d : Dimensions) (kind : Kind) (count : Option ℕ) (rest : Members)
    → members_have_float rest ≡ false
    → members_have_float (member_where name (option_map (λ _. collections.dimension_data d kind) count) rest) ≡ false
where_whole name d kind None rest whole = whole
where_whole name d kind (Some n) rest whole = rw (dimension_whole d kind) whole

dimensions_whole : (d : Dimensions) → has_float (collections.dimensions_data d) ≡ false
dimensions_whole d =
    where_whole (codes "bands") d Bands (label_count d Bands) _
    (where_whole (codes "t") d Time (label_count d Time) _
    (where_whole (codes "x") d X (label_count d X) _
    (where_whole (codes "y") d Y (label_count d Y) no_members refl)))

pub collection_whole : (row : DimsRow) → has_float (collections.collection_data row) ≡ false
collection_whole row = rw (dimensions_whole row.shape) (members_whole row)

log_whole : (numbered : ℕ × LogEntry) → has_float (log_data numbered) ≡ false
log_whole numbered = words_whole (codes "code") numbered.1.code _ refl

pub logs_whole : (logs : List (ℕ × LogEntry)) → items_have_float (items_of (map log_data logs)) ≡ false
logs_whole [] = refl
logs_whole (log ∷ logs) = rw (log_whole log) (logs_whole logs)

assets_whole : (base id : List ℕ) (assets : List Asset) (ms : Members) → members_have_float ms ≡ false
    → members_have_float (jobs.with_assets base id assets ms) ≡ false
assets_whole base id [] ms whole = whole
assets_whole base id (asset ∷ assets) ms whole =
    assets_whole base id assets (put asset.name (jobs.asset_data base id asset.name) ms)
    (put_whole asset.name (jobs.asset_data base id asset.name) ms refl whole)

pub results_whole : (base id : List ℕ) (assets : List Asset) → has_float (jobs.results_data base id assets) ≡ false
results_whole base id assets = rw (assets_whole base id assets no_members refl) refl

pub stored_whole : (stored : List PlainStored) → items_have_float (items_of (map jobs.stored_row_data stored)) ≡ false
stored_whole [] = refl
stored_whole (process ∷ stored) = stored_whole stored

row_whole : (job : PlainJob) → has_float (jobs.job_row_data job) ≡ false
row_whole job =
    rw (moment_whole job.created)
    (words_whole (codes "title") job.title _ (rw (moment_whole job.updated) refl))

pub jobs_whole : (list : List PlainJob) → items_have_float (items_of (map jobs.job_row_data list)) ≡ false
jobs_whole [] = refl
jobs_whole (job ∷ list) = rw (row_whole job) (jobs_whole list)

pub job_whole : (job : PlainJob) → has_float (jobs.process_data job.process) ≡ false → has_float (jobs.job_data job) ≡ false
job_whole job process =
    rw (moment_whole job.created)
    (words_whole (codes "description") job.description _
    (rw process (words_whole (codes "title") job.title _ (rw (moment_whole job.updated) refl))))
