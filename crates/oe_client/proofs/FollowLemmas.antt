-- A page that a server answers, as the client reads it.
use Rattle.std.proofs.Common.{◌≡◌, ℕ, ◌+◌, ◌-◌, ◌<◌, ◌≤◌, ◌==◌, ◌&&◌, Bool, true, false, List, [], ◌∷◌, codes, drop, length, min, nat_lt, take, Option, Some, None, Ok, refl, sym, ap, ◌∙◌, subst, arith, inl, inr}
use Rattle.std.specs.Prelude.{if◌then◌else◌, option_and_then}
use Rattle.std.specs.List.{list_any}
use Rattle.std.proofs.lemmas.Bool.{and_from, cases_Bool}
use Rattle.std.proofs.lemmas.Bool.Decides.{nat_tests}
use Rattle.std.proofs.lemmas.List.{length-drop, length-take}
use Rattle.serde_json.specs.Data.{Data, Members, array, object, put}
use Rattle.serde_json.specs.Find.{get}
use Rattle.serde_json.specs.View.{items_of as made_items}
use Rattle.serde_json.proofs.Views.{get_member-put, get_member-put_other}
use Rattle.oe_pages.specs.Pages.{item_list, items_in, links_to, member_of, next_of, page_items, page_of}
use Rattle.oe_pages.proofs.PageLemmas.{values_back}
use Rattle.oe_client.specs.Laws.{PagesAreFollowed}
use Rattle.oe_client.specs.Pages.{items_of, items_under, last_offset, leads_on, next_behind, next_by, next_in, page_limit}

-- a page of 100 items is whole where items are left behind it
whole_page : (offset : ℕ) (xs : List Data) → offset + 100 < length xs → length (page_items 100 offset xs) ≡ 100
whole_page offset xs more =
    let dropped = length-drop offset xs in
    let taken = length-take 100 (drop offset xs) in
    omega (arith, more, dropped, taken)

-- the links of a page lead on exactly where there is a next one
by_next : (base path : List ℕ) (offset count : ℕ) (next : Option ℕ) (list : List Data)
    → items_of (links_to base path page_limit next) ≡ Some list
    → ((begins : ℕ) → next ≡ Some begins → (begins ≡ offset + 100) × (count ≡ 100) × (offset < last_offset))
    → next_behind offset count (list_any leads_on list) ≡ Ok next
by_next base path offset count None list is follows =
    let none : list ≡ [] = cc in
    ap (λ (l : List Data). next_behind offset count (list_any leads_on l)) none
by_next base path offset count (Some begins) list is follows =
    let h = follows begins refl in
    let same : Some list ≡ items_of (links_to base path page_limit (Some begins)) = sym is in
    let test : ((count == page_limit) && nat_lt offset last_offset) ≡ true =
    and_from (count == page_limit) (nat_lt offset last_offset)
    (grind (arith, nat_tests, h.1)) (grind (arith, nat_tests, h.2)) in
    let leads : list_any leads_on list ≡ true =
    ap (λ (o : Option (List Data)). any_in o) same in
    rw (leads, test, sym h.0) refl
  where
    any_in : Option (List Data) → Bool
    any_in None = false
    any_in (Some l) = list_any leads_on l

by_items : (offset : ℕ) (items links : Option (List Data)) (xs ls : List Data) → items ≡ Some xs → links ≡ Some ls
    → next_by offset items links ≡ next_behind offset (length xs) (list_any leads_on ls)
by_items offset items links xs ls items_are links_are = rw (items_are, links_are) refl

-- the list of the links of a page
link_list : (base path : List ℕ) (next : Option ℕ) → (list : List Data) × (items_of (links_to base path page_limit next) ≡ Some list)
link_list base path None = ([], refl)
link_list base path (Some begins) = (_, refl)

-- the next page begins behind a whole one
begins_behind : (offset : ℕ) (xs : List Data) (test : Bool) (begins : ℕ) → offset ≤ last_offset
    → length xs ≤ last_offset + page_limit → nat_lt (offset + page_limit) (length xs) ≡ test
    → (if test then Some (offset + page_limit) else None) ≡ Some begins
    → (begins ≡ offset + 100) × (length (page_items page_limit offset xs) ≡ 100) × (offset < last_offset)
begins_behind offset xs true begins within few is there =
    let more : offset + 100 < length xs = grind (arith, nat_tests, is) in
    let same : offset + 100 ≡ begins = cc in
    (sym same, whole_page offset xs more, omega (arith, more, few))
begins_behind offset xs false begins within few is there = absurd cc

pub pages_are_followed : PagesAreFollowed
pages_are_followed list base path offset ms apart within few =
    let name = member_of list in
    let xs = items_in name (object ms) in
    let part = page_items page_limit offset xs in
    let next = next_of page_limit offset (length xs) in
    let links = links_to base path page_limit next in
    let inner = put name (array (made_items part)) ms in
    let found : get name (object (put (codes "links") links inner)) ≡ Some (array (made_items part)) =
    get_member-put_other name (codes "links") links inner apart ∙ get_member-put name (array (made_items part)) ms in
    let items : items_under name (object (put (codes "links") links inner)) ≡ Some part =
    ap (λ (o : Option Data). option_and_then items_of o) found ∙ ap Some (values_back part) in
    let its_links = link_list base path next in
    let linked : items_under (codes "links") (object (put (codes "links") links inner)) ≡ Some its_links.0 =
    ap (λ (o : Option Data). option_and_then items_of o) (get_member-put (codes "links") links inner) ∙ its_links.1 in
    by_items offset _ _ part its_links.0 items linked
    ∙ by_next base path offset (length part) next its_links.0 its_links.1
    (λ begins there. begins_behind offset xs _ begins within few refl there)
