-- The pages of a list along their links.
use Rattle.std.proofs.Common.{◌≡◌, ℕ, zero, suc, ◌+◌, ◌*◌, ◌-◌, ◌≤◌, ◌<◌, ◌⊎◌, inl, inr, List, [], ◌∷◌, ◌++◌, length, map, take, drop, flat_map, Bool, true, false, Some, None, refl, sym, ap, ◌∙◌, arith, ⊎_elim, subst}
use Rattle.std.specs.Option.{option_map_or}
use Rattle.std.specs.Prelude.{codes, nat_lt, if◌then◌else◌}
use Rattle.std.proofs.lemmas.Bool.{cases_Bool}
use Rattle.std.proofs.lemmas.Bool.Decides.{nat_tests}
use Rattle.std.proofs.lemmas.List.{append-nil, drop-drop, length-drop, length-map, take_all, take-append-drop}
use Rattle.serde_json.specs.Data.{Data, array, object, put}
use Rattle.serde_json.specs.View.{items_of, view}
use Rattle.serde_json.proofs.Views.{get_member-put, get_member-put_other}
use Rattle.serde_json.specs.declared.value.Value.{Value}
use Rattle.oe_pages.specs.Laws.{HasPages, PagesHaveParts, PagesJoin}
use Rattle.oe_pages.specs.Pages.{AreLinked, items_at, items_in, links_to, next_of, page_of, page_items, item_list, with_part}
use Rattle.oe_pages.specs.declared.query.PageAsked.{PageAsked}

-- ---- as the code has it

pub values_back : (ds : List Data) → item_list (items_of ds) ≡ ds
values_back [] = refl
values_back (d ∷ ds) = ap (λ rest. d ∷ rest) (values_back ds)

map_take : (n : ℕ) (xs : List Value) → map view (take n xs) ≡ take n (map view xs)
map_take zero xs = refl
map_take (suc n) [] = refl
map_take (suc n) (x ∷ xs) = ap (λ rest. view x ∷ rest) (map_take n xs)

map_drop : (n : ℕ) (xs : List Value) → map view (drop n xs) ≡ drop n (map view xs)
map_drop zero xs = refl
map_drop (suc n) [] = refl
map_drop (suc n) (x ∷ xs) = map_drop n xs

map_part : (limit offset : ℕ) (xs : List Value) → map view (page_items limit offset xs) ≡ page_items limit offset (map view xs)
map_part limit offset xs = map_take limit (drop offset xs) ∙ ap (take limit) (map_drop offset xs)

pub page_seen : (name base path : List ℕ) (asked : PageAsked) (body links : Data) (xs chosen copied : List Value)
    → map view xs ≡ items_in name body → chosen ≡ page_items asked.limit asked.offset xs → map view copied ≡ map view chosen
    → links ≡ links_to base path asked.limit (next_of asked.limit asked.offset (length xs))
    → with_part name (map view copied) links body ≡ page_of name base path asked body
page_seen name base path asked body links xs chosen copied seen is_chosen copies is_links =
    let items = items_in name body in
    let of_part : map view copied ≡ page_items asked.limit asked.offset items =
    copies ∙ ap (map view) is_chosen ∙ map_part asked.limit asked.offset xs ∙ ap (page_items asked.limit asked.offset) seen in
    let count : length xs ≡ length items = sym (length-map xs view) ∙ ap length seen in
    let of_links : links ≡ links_to base path asked.limit (next_of asked.limit asked.offset (length items)) =
    is_links ∙ ap (λ n. links_to base path asked.limit (next_of asked.limit asked.offset n)) count in
    ap (λ i. with_part name i links body) of_part
    ∙ ap (λ l. with_part name (page_items asked.limit asked.offset items) l body) of_links

-- ---- links

link_here : (end count : ℕ) → end < count → (if nat_lt end count then Some end else None) ≡ Some end
link_here end count below = let e : nat_lt end count ≡ true = grind (arith, nat_tests, below) in rw e refl

no_link : (end count : ℕ) → count ≤ end → (if nat_lt end count then Some end else None) ≡ None
no_link end count past = let e : nat_lt end count ≡ false = grind (arith, nat_tests, past) in rw e refl

none_left : (end count : ℕ) (b : Bool) → nat_lt end count ≡ b → (if b then Some end else None) ≡ None → count ≤ end
none_left end count true is h = absurd cc
none_left end count false is h = grind (arith, nat_tests, is)

some_left : (end count : ℕ) (b : Bool) → nat_lt end count ≡ b → (if b then Some end else None) ≡ Some end → end < count
some_left end count true is h = grind (arith, nat_tests, is)
some_left end count false is h = absurd cc

-- ---- joined

last_part : (limit offset : ℕ) (xs : List Data) → length xs ≤ offset + limit → page_items limit offset xs ≡ drop offset xs
last_part limit offset xs past = take_all limit (drop offset xs) (grind (arith, length-drop, past))

parts_join : (limit offset : ℕ) (xs : List Data) → page_items limit offset xs ++ drop (offset + limit) xs ≡ drop offset xs
parts_join limit offset xs =
    ap (λ rest. take limit (drop offset xs) ++ rest) (sym (drop-drop limit offset xs)) ∙ take-append-drop limit (drop offset xs)

joined_from : (limit offset : ℕ) (xs : List Data) (pages : List (List Data)) → AreLinked limit xs offset pages
    → flat_map (λ page. page) pages ≡ drop offset xs
joined_from limit offset xs [] h = absurd h
joined_from limit offset xs (page ∷ []) h =
    append-nil page ∙ h.0 ∙ last_part limit offset xs (none_left (offset + limit) (length xs) (nat_lt (offset + limit) (length xs)) refl h.1)
joined_from limit offset xs (page ∷ second ∷ pages) h =
    ap (λ p. p ++ flat_map (λ page. page) (second ∷ pages)) h.0
    ∙ ap (λ rest. page_items limit offset xs ++ rest) (joined_from limit (offset + limit) xs (second ∷ pages) h.2)
    ∙ parts_join limit offset xs

-- ---- so many as there must be

hold_from : (limit offset : ℕ) (xs : List Data) (pages : List (List Data)) → AreLinked limit xs offset pages
    → length xs ≤ offset + length pages * limit
hold_from limit offset xs [] h = absurd h
hold_from limit offset xs (page ∷ []) h =
    let past = none_left (offset + limit) (length xs) (nat_lt (offset + limit) (length xs)) refl h.1 in
    omega (arith, past)
hold_from limit offset xs (page ∷ second ∷ pages) h =
    let more = hold_from limit (offset + limit) xs (second ∷ pages) h.2 in
    omega (arith, more)

needed_from : (limit offset : ℕ) (xs : List Data) (page second : List Data) (pages : List (List Data))
    → AreLinked limit xs offset (page ∷ second ∷ pages) → offset + length (second ∷ pages) * limit < length xs
needed_from limit offset xs page second [] h =
    let left = some_left (offset + limit) (length xs) (nat_lt (offset + limit) (length xs)) refl h.1 in
    omega (arith, left)
needed_from limit offset xs page second (third ∷ pages) h =
    let more = needed_from limit (offset + limit) xs second third pages h.2 in
    omega (arith, more)

count_from : (limit : ℕ) (xs : List Data) (pages : List (List Data)) → AreLinked limit xs 0 pages
    → (length pages ≡ 1) ⊎ ((length pages - 1) * limit < length xs)
count_from limit xs [] h = absurd h
count_from limit xs (page ∷ []) h = inl refl
count_from limit xs (page ∷ second ∷ pages) h =
    let more = needed_from limit 0 xs page second pages h in
    let needed : suc (length pages) * limit < length xs = omega (arith, more) in
    let less : suc (suc (length pages)) - 1 ≡ suc (length pages) = omega arith in
    inr (subst (λ k. k * limit < length xs) (sym less) needed)

pub pages_join : PagesJoin
pages_join limit xs pages h =
    let hold = hold_from limit 0 xs pages h in
    (joined_from limit 0 xs pages h, record { hold = omega (arith, hold); needed = count_from limit xs pages h })

-- ---- there are some

with_more : (limit offset : ℕ) (xs : List Data) → next_of limit offset (length xs) ≡ Some (offset + limit)
    → ((pages : List (List Data)) × AreLinked limit xs (offset + limit) pages)
    → (pages : List (List Data)) × AreLinked limit xs offset pages
with_more limit offset xs link ([], h) = absurd h
with_more limit offset xs link (second ∷ pages, h) = (page_items limit offset xs ∷ second ∷ pages, (refl, link, h))

pages_from : (most limit offset : ℕ) (xs : List Data) → 1 ≤ limit → length xs ≤ offset + most
    → (pages : List (List Data)) × AreLinked limit xs offset pages
pages_from zero limit offset xs above past =
    (page_items limit offset xs ∷ [], (refl, no_link (offset + limit) (length xs) (omega (arith, past))))
pages_from (suc most) limit offset xs above past =
    ⊎_elim
    (λ left. with_more limit offset xs (link_here (offset + limit) (length xs) (grind (arith, nat_tests, left)))
    (pages_from most limit (offset + limit) xs above (omega (arith, above, past))))
    (λ none. (page_items limit offset xs ∷ [], (refl, no_link (offset + limit) (length xs) (grind (arith, nat_tests, none)))))
    (cases_Bool (nat_lt (offset + limit) (length xs)))

pub has_pages : HasPages
has_pages limit xs above = pages_from (length xs) limit 0 xs above (omega arith)

-- ---- a page of a body

pub pages_have_parts : PagesHaveParts
pages_have_parts name base path asked ms apart =
    let items = page_items asked.limit asked.offset (items_in name (object ms)) in
    let links =
    links_to base path asked.limit (next_of asked.limit asked.offset (length (items_in name (object ms)))) in
    let inner = put name (array (items_of items)) ms in
    record {
      items =
          ap (λ d. option_map_or items_at d [])
          (get_member-put_other name (codes "links") links inner apart ∙ get_member-put name (array (items_of items)) ms)
          ∙ values_back items;
      links = get_member-put (codes "links") links inner;
      others = λ other not_name not_links.
          get_member-put_other other (codes "links") links inner not_links
          ∙ get_member-put_other other name (array (items_of items)) ms not_name;
    }
