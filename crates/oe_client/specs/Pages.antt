-- The pages of a list that a back end answers, asked for one after the other (openEO API, pagination).
use Rattle.std.specs.Prelude.{◌≡◌, ℕ, ◌+◌, ◌==◌, ◌&&◌, nat_lt, Bool, false, bytes_eq, List, [], ◌∷◌, ◌++◌, codes, decimal, length, Option, Some, None, option_and_then, if◌then◌else◌, Result, Ok, Err}
use Rattle.std.specs.List.{list_any}
use Rattle.std.specs.Option.{option_map, option_map_or}
use Rattle.std.specs.Str.{IsUtf8}
use Rattle.serde_json.specs.Data.{Data}
use Rattle.serde_json.specs.Find.{as_array, as_str, get}
use Rattle.serde_json.specs.Read.{read}
use Rattle.oe_pages.specs.Pages.{item_list, member_of}
use Rattle.oe_client.specs.declared.pages.PageFail.{PageFail}
use Rattle.oe_client.specs.declared.pages.PageFail.TheVariants.{Invalid}

-- how many items a page is asked for, and the offset of the last page that is asked for
abbrev pub page_limit : ℕ
page_limit = 100

abbrev pub last_offset : ℕ
last_offset = 100000

-- the items of a value that is a list, and of the list under a name of a body, where there is one
abbrev pub items_of : Data → Option (List Data)
items_of value = option_map item_list (as_array value)

abbrev pub items_under : List ℕ → Data → Option (List Data)
items_under name body = option_and_then items_of (get name body)

-- a link leads to the next page: its relation is `next`
abbrev pub is_next : Data → Bool
is_next relation = option_map_or (λ text. bytes_eq text (codes "next")) (as_str relation) false

abbrev pub leads_on : Data → Bool
leads_on link = option_map_or is_next (get (codes "rel") link) false

-- Where the next page begins, by the number of items of a page at an offset and by whether a link of it leads on: 100
-- items behind it, or there is none. A page of another number of items, or at the last offset, is none where a link leads
-- on.
abbrev pub next_behind : ℕ → ℕ → Bool → Result (Option ℕ) PageFail
next_behind offset count leads =
    if leads
    then (if (count == page_limit) && nat_lt offset last_offset then Ok (Some (offset + page_limit)) else Err Invalid)
    else Ok None

abbrev pub next_by : ℕ → Option (List Data) → Option (List Data) → Result (Option ℕ) PageFail
next_by offset None links = Err Invalid
next_by offset (Some items) None = Err Invalid
next_by offset (Some items) (Some links) = next_behind offset (length items) (list_any leads_on links)

-- the same of a body, which has the items under the name of the list, and the links
abbrev pub next_in : List ℕ → ℕ → Data → Result (Option ℕ) PageFail
next_in list offset body = next_by offset (items_under (member_of list) body) (items_under (codes "links") body)

-- these bytes are a page of a list at an offset, behind which the next one begins there, or none does
pub record IsPage (list : List ℕ) (offset : ℕ) (bytes : List ℕ) (next : Option ℕ) : Type 0 where
  pub body : Data
  pub utf8 : IsUtf8 bytes
  pub is_read : read bytes ≡ Some body
  pub next_is : next_in list offset body ≡ Ok next
