-- What holds of the pages of every list.
use Rattle.std.specs.Prelude.{◌≡◌, ℕ, ◌*◌, ◌-◌, ◌≤◌, ◌<◌, ◌⊎◌, List, codes, length, flat_map, Some, Ok}
use Rattle.serde_json.specs.Data.{Data, Members, object}
use Rattle.serde_json.specs.Find.{get}
use Rattle.oe_pages.specs.Pages.{AreLinked, items_in, links_to, next_of, page_items, page_of, page_query}
use Rattle.oe_pages.specs.Queries.{most_limit, most_offset, page_asked}
use Rattle.oe_pages.specs.declared.query.PageAsked.{PageAsked}

-- so many pages of a limit hold a list of this length, and one less would not; an empty list has one
pub record IsCount (limit count pages : ℕ) : Type 0 where
  pub hold : count ≤ pages * limit
  pub needed : (pages ≡ 1) ⊎ ((pages - 1) * limit < count)

-- there are pages from the first item on, along their links
abbrev pub HasPages : Type 0
HasPages = (limit : ℕ) (xs : List Data) → 1 ≤ limit → (pages : List (List Data)) × AreLinked limit xs 0 pages

-- joined, they are the list, each item once, and there are so many as there must be
abbrev pub PagesJoin : Type 0
PagesJoin = (limit : ℕ) (xs : List Data) (pages : List (List Data)) → AreLinked limit xs 0 pages
    → (flat_map (λ page. page) pages ≡ xs) × IsCount limit (length xs) (length pages)

-- a page of a body has the asked part of the list under the name, the links of that page, and the body's other members
pub record IsPageOf (name base path : List ℕ) (asked : PageAsked) (body page : Data) : Type 0 where
  pub items : items_in name page ≡ page_items asked.limit asked.offset (items_in name body)
  pub links : get (codes "links") page
      ≡ Some (links_to base path asked.limit (next_of asked.limit asked.offset (length (items_in name body))))
  pub others : (other : List ℕ) → ¬ (other ≡ name) → ¬ (other ≡ codes "links") → get other page ≡ get other body

-- so it is with the page of every object, whose list does not stand among its links
abbrev pub PagesHaveParts : Type 0
PagesHaveParts = (name base path : List ℕ) (asked : PageAsked) (ms : Members) → ¬ (name ≡ codes "links")
    → IsPageOf name base path asked (object ms) (page_of name base path asked (object ms))

-- the query of a link asks for the page that the link names
abbrev pub LinksLead : Type 0
LinksLead = (limit offset : ℕ) → 1 ≤ limit → limit ≤ most_limit → offset ≤ most_offset
    → page_asked (page_query limit offset) ≡ Ok (Some (record { limit = limit; offset = offset }))
