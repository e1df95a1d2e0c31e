-- What holds of the pages of every list that a server of this kind answers.
use Rattle.std.specs.Prelude.{◌≡◌, ℕ, ◌+◌, ◌≤◌, List, codes, length, Ok}
use Rattle.serde_json.specs.Data.{Members, object}
use Rattle.oe_pages.specs.Pages.{items_in, member_of, next_of, page_of}
use Rattle.oe_client.specs.Pages.{last_offset, next_in, page_limit}

-- Behind a page of a list of at most 100100 items, which does not stand among its links, the next one begins where the
-- link of the page leads.
abbrev pub PagesAreFollowed : Type 0
PagesAreFollowed = (list base path : List ℕ) (offset : ℕ) (ms : Members) → ¬ (member_of list ≡ codes "links")
    → offset ≤ last_offset → length (items_in (member_of list) (object ms)) ≤ last_offset + page_limit
    → next_in list offset
    (page_of (member_of list) base path (record { limit = page_limit; offset = offset }) (object ms))
    ≡ Ok (next_of page_limit offset (length (items_in (member_of list) (object ms))))
