-- No number of an estimate is a fraction, and none of a page, where none of the list is.
use Rattle.std.proofs.Common.{◌≡◌, ℕ, zero, suc, List, [], ◌∷◌, map, take, drop, false, Option, Some, None, codes, length, refl}
use Rattle.std.proofs.lemmas.Bool.{or_parts}
use Rattle.std.specs.Option.{option_map_or}
use Rattle.std.specs.Ordering.{match_ordering, nat_cmp}
use Rattle.std.specs.Cmp.Lexicographic.{slice_cmp}
use Rattle.std.specs.declared.cmp.Ordering.{Ordering}
use Rattle.std.specs.declared.cmp.Ordering.TheVariants.{Less, Equal, Greater}
use Rattle.oe_jobs.proofs.Floats.{put_whole}
use Rattle.serde_json.specs.Data.{Data, null, boolean, number, string, array, object, Items, no_items, item, Members, no_members, member, put}
use Rattle.serde_json.specs.Find.{get_member}
use Rattle.serde_json.specs.View.{items_of}
use Rattle.serde_json.specs.Written.{has_float, items_have_float, members_have_float}
use Rattle.oe_pages.specs.Estimates.{estimate_data, row_data}
use Rattle.oe_pages.specs.Pages.{items_at, items_in, links_to, next_of, page_of, page_where, page_items, item_list, with_part}
use Rattle.oe_pages.specs.declared.estimate.EstimateRow.{EstimateRow}
use Rattle.oe_pages.specs.declared.query.PageAsked.{PageAsked}

-- ---- estimates

rows_whole : (rows : List EstimateRow) → items_have_float (items_of (map row_data rows)) ≡ false
rows_whole [] = refl
rows_whole (row ∷ rows) = rows_whole rows

pub estimate_whole : (rows : List EstimateRow) → has_float (estimate_data rows) ≡ false
estimate_whole rows = rw (rows_whole rows) refl

-- ---- members

-- ---- the items of a list

abbrev AreWhole : List Data → Type 0
AreWhole ds = items_have_float (items_of ds) ≡ false

items_whole : (ds : Items) → items_have_float ds ≡ false → AreWhole (item_list ds)
items_whole no_items h = refl
items_whole (item d ds) h =
    let parts = or_parts (has_float d) (items_have_float ds) h in
    rw parts.0 (items_whole ds parts.1)

value_whole : (d : Data) → has_float d ≡ false → AreWhole (items_at d)
value_whole null h = refl
value_whole (boolean b) h = refl
value_whole (number n) h = refl
value_whole (string s) h = refl
value_whole (array ds) h = items_whole ds h
value_whole (object ms) h = refl

member_step : (name l : List ℕ) (e : Data) (ms : Members) (o : Ordering) → has_float e ≡ false
    → AreWhole (option_map_or items_at (get_member name ms) [])
    → AreWhole (option_map_or items_at (match_ordering o (get_member name ms) (Some e) (get_member name ms)) [])
member_step name l e ms Less here rest = rest
member_step name l e ms Equal here rest = value_whole e here
member_step name l e ms Greater here rest = rest

members_whole : (name : List ℕ) (ms : Members) → members_have_float ms ≡ false
    → AreWhole (option_map_or items_at (get_member name ms) [])
members_whole name no_members h = refl
members_whole name (member l e ms) h =
    let parts = or_parts (has_float e) (members_have_float ms) h in
    member_step name l e ms (slice_cmp nat_cmp name l) parts.0 (members_whole name ms parts.1)

items_in_whole : (name : List ℕ) (body : Data) → has_float body ≡ false → AreWhole (items_in name body)
items_in_whole name null h = refl
items_in_whole name (boolean b) h = refl
items_in_whole name (number n) h = refl
items_in_whole name (string s) h = refl
items_in_whole name (array ds) h = refl
items_in_whole name (object ms) h = members_whole name ms h

drop_whole : (n : ℕ) (ds : List Data) → AreWhole ds → AreWhole (drop n ds)
drop_whole zero ds h = h
drop_whole (suc n) [] h = refl
drop_whole (suc n) (d ∷ ds) h = drop_whole n ds (or_parts (has_float d) (items_have_float (items_of ds)) h).1

take_whole : (n : ℕ) (ds : List Data) → AreWhole ds → AreWhole (take n ds)
take_whole zero ds h = refl
take_whole (suc n) [] h = refl
take_whole (suc n) (d ∷ ds) h =
    let parts = or_parts (has_float d) (items_have_float (items_of ds)) h in
    rw parts.0 (take_whole n ds parts.1)

-- ---- pages

links_whole : (base path : List ℕ) (limit : ℕ) (next : Option ℕ) → has_float (links_to base path limit next) ≡ false
links_whole base path limit None = refl
links_whole base path limit (Some offset) = refl

with_part_whole : (name : List ℕ) (items : List Data) (links body : Data) → AreWhole items → has_float links ≡ false
    → has_float body ≡ false → has_float (with_part name items links body) ≡ false
with_part_whole name items links null i l h = refl
with_part_whole name items links (boolean b) i l h = refl
with_part_whole name items links (number n) i l h = h
with_part_whole name items links (string s) i l h = refl
with_part_whole name items links (array ds) i l h = h
with_part_whole name items links (object ms) i l h =
    put_whole (codes "links") links (put name (array (items_of items)) ms) l (put_whole name (array (items_of items)) ms i h)

page_whole : (name base path : List ℕ) (asked : PageAsked) (body : Data) → has_float body ≡ false
    → has_float (page_of name base path asked body) ≡ false
page_whole name base path asked body h =
    with_part_whole name (page_items asked.limit asked.offset (items_in name body))
    (links_to base path asked.limit (next_of asked.limit asked.offset (length (items_in name body)))) body
    (take_whole asked.limit (drop asked.offset (items_in name body))
    (drop_whole asked.offset (items_in name body) (items_in_whole name body h)))
    (links_whole base path asked.limit (next_of asked.limit asked.offset (length (items_in name body)))) h

pub part_whole : (name base path : List ℕ) (asked : Option PageAsked) (body : Data) → has_float body ≡ false
    → has_float (page_where name base path asked body) ≡ false
part_whole name base path None body h = h
part_whole name base path (Some asked) body h = page_whole name base path asked body h
