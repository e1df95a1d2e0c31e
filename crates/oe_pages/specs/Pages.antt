-- A page of a list: some of its items, in order, and a link to the next page where items are left (openEO API, pagination).
use Rattle.std.specs.Prelude.{◌≡◌, ℕ, ◌+◌, ◌==◌, nat_lt, if◌then◌else◌, Bool, bytes_eq, List, [], ◌∷◌, ◌++◌, length, take, drop, codes, decimal, Option, Some, None, Result, Ok, unwrap_or}
use Rattle.std.specs.List.{after_first}
use Rattle.std.specs.Option.{option_map_or}
use Rattle.serde_json.specs.Data.{Data, null, boolean, number, string, array, object, Items, no_items, item, no_members, member, put}
use Rattle.serde_json.specs.Find.{as_array, get}
use Rattle.serde_json.specs.View.{items_of}
use Rattle.serde_json.specs.Written.{compact_text}
use Rattle.oe_pages.specs.Queries.{◌>>=◌, page_asked}
use Rattle.oe_pages.specs.declared.query.PageAsked.{PageAsked}
use Rattle.oe_pages.specs.declared.query.QueryFail.{QueryFail}

-- ---- of any list

-- its items from an offset on, and at most so many
abbrev pub page_items : {A : Type 0} → ℕ → ℕ → List A → List A
page_items limit offset xs = take limit (drop offset xs)

-- where the next page begins: at the end of this one, where that is below the number of items
abbrev pub next_of : ℕ → ℕ → ℕ → Option ℕ
next_of limit offset count = if nat_lt (offset + limit) count then Some (offset + limit) else None

-- these are the pages of a list from an offset on, each but the last with a link to the one behind it
abbrev pub AreLinked : {A : Type 0} → ℕ → List A → ℕ → List (List A) → Type 0
AreLinked limit xs offset [] = ⊥
AreLinked limit xs offset (page ∷ []) =
    (page ≡ page_items limit offset xs) × (next_of limit offset (length xs) ≡ None)
AreLinked limit xs offset (page ∷ second ∷ pages) =
    (page ≡ page_items limit offset xs) × (next_of limit offset (length xs) ≡ Some (offset + limit))
    × AreLinked limit xs (offset + limit) (second ∷ pages)

-- ---- of the body of a list

-- the items of a JSON list
abbrev pub item_list : Items → List Data
item_list no_items = []
item_list (item d ds) = d ∷ item_list ds

-- those of a value, none of what is no list
abbrev pub items_at : Data → List Data
items_at d = item_list (unwrap_or (as_array d) no_items)

-- those that stand under a name of a body
abbrev pub items_in : List ℕ → Data → List Data
items_in name body = option_map_or items_at (get name body) []

-- the path without its slash
abbrev pub is_slash : ℕ → Bool
is_slash byte = byte == 47

abbrev pub path_behind : List ℕ → List ℕ
path_behind path = after_first is_slash path

-- the query that asks for a page
abbrev pub page_query : ℕ → ℕ → List ℕ
page_query limit offset = codes "limit=" ++ decimal limit ++ codes "&offset=" ++ decimal offset

-- the address of a page, under the base of the service
abbrev pub page_url : List ℕ → List ℕ → ℕ → ℕ → List ℕ
page_url base path limit offset = base ++ path_behind path ++ codes "?" ++ page_query limit offset

abbrev pub link_to : List ℕ → List ℕ → ℕ → ℕ → Data
link_to base path limit offset = object (
    member (codes "href") (string (page_url base path limit offset)) (
    member (codes "rel") (string (codes "next")) no_members))

-- the links of a page: one to the next page, where there is one
abbrev pub links_to : List ℕ → List ℕ → ℕ → Option ℕ → Data
links_to base path limit None = array no_items
links_to base path limit (Some offset) = array (item (link_to base path limit offset) no_items)

-- the body with these items under the name, and these links: its other members stay
abbrev pub with_part : List ℕ → List Data → Data → Data → Data
with_part name items links null = null
with_part name items links (boolean b) = boolean b
with_part name items links (number n) = number n
with_part name items links (string s) = string s
with_part name items links (array ds) = array ds
with_part name items links (object ms) = object (put (codes "links") links (put name (array (items_of items)) ms))

-- the page of a list that stands under a name of a body
abbrev pub page_of : List ℕ → List ℕ → List ℕ → PageAsked → Data → Data
page_of name base path asked body =
    with_part name (page_items asked.limit asked.offset (items_in name body))
    (links_to base path asked.limit (next_of asked.limit asked.offset (length (items_in name body)))) body

-- the whole body where no page is asked for
abbrev pub page_where : List ℕ → List ℕ → List ℕ → Option PageAsked → Data → Data
page_where name base path None body = body
page_where name base path (Some asked) body = page_of name base path asked body

-- the name under which a list stands in its body: that of its path, but for the processes that a user has stored
abbrev pub member_of : List ℕ → List ℕ
member_of list = if bytes_eq list (codes "process_graphs") then codes "processes" else list

abbrev pub list_name : List ℕ → List ℕ
list_name path = member_of (path_behind path)

-- what a query asks for of the body of the list of a path, and its text; invalid where the query is
abbrev pub paged : List ℕ → List ℕ → List ℕ → Data → Result Data QueryFail
paged base path query body = page_asked query >>= λ asked. Ok (page_where (list_name path) base path asked body)

abbrev pub paged_text : List ℕ → List ℕ → List ℕ → Data → Result (List ℕ) QueryFail
paged_text base path query body = paged base path query body >>= λ page. Ok (compact_text page)
