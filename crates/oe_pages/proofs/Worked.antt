-- Worked values, from the openEO API and by hand.
use Rattle.std.proofs.Common.{◌≡◌, ℕ, List, ◌∷◌, [], codes, refl, Some, None, Result, Ok, Err}
use Rattle.std.specs.Fmt.{digits}
use Rattle.json.proofs.OnLiterals.{json_on_literals}
use Rattle.serde_json.specs.Data.{Data, string, array, object, no_items, item, no_members, member}
use Rattle.serde_json.specs.View.{items_of}
use Rattle.serde_json.specs.Written.{compact_text}
use Rattle.oe_pages.specs.Estimates.{estimate_data}
use Rattle.oe_pages.specs.Pages.{paged}
use Rattle.oe_pages.specs.Queries.{page_asked}
use Rattle.oe_pages.specs.declared.query.QueryFail.{QueryFail}
use Rattle.oe_pages.specs.declared.query.QueryFail.TheVariants.{Invalid}

-- ---- queries

no_limit : page_asked (codes "offset=x") ≡ Ok None
no_limit = refl

a_page : page_asked (codes "limit=2&offset=9") ≡ Ok (Some (record { limit = 2; offset = 9 }))
unfolding digits
a_page = refl

limit_of_zero : page_asked (codes "limit=0") ≡ Err Invalid
unfolding digits
limit_of_zero = refl

limit_twice : page_asked (codes "limit=2&limit=2") ≡ Err Invalid
unfolding digits
limit_twice = refl

limit_with_zero : page_asked (codes "limit=02") ≡ Err Invalid
unfolding digits
limit_with_zero = refl

offset_without_value : page_asked (codes "limit=2&offset") ≡ Err Invalid
unfolding digits
offset_without_value = refl

greatest_limit : page_asked (codes "limit=1000") ≡ Ok (Some (record { limit = 1000; offset = 0 }))
unfolding digits
greatest_limit = refl

-- ---- pages: of three collections, two and a link, then one and no link

abbrev of_three : List Data → Data → Data
of_three collections links = object (
    member (codes "collections") (array (items_of collections)) (
    member (codes "links") links no_members))

abbrev three : Data
three = of_three (string (codes "ONE") ∷ string (codes "SQ") ∷ string (codes "TWO") ∷ []) (array no_items)

abbrev asked : List ℕ → Result Data QueryFail
asked query = paged (codes "http://127.0.0.1:80/") (codes "/collections") query three

first_page : asked (codes "limit=2") ≡ Ok (of_three (string (codes "ONE") ∷ string (codes "SQ") ∷ []) (array (item (object (
    member (codes "href") (string (codes "http://127.0.0.1:80/collections?limit=2&offset=2")) (
    member (codes "rel") (string (codes "next")) no_members))) no_items)))
unfolding digits
first_page = refl

last_page : asked (codes "limit=2&offset=2") ≡ Ok (of_three (string (codes "TWO") ∷ []) (array no_items))
unfolding digits
last_page = refl

past_the_end : asked (codes "limit=2&offset=9") ≡ Ok (of_three [] (array no_items))
unfolding digits
past_the_end = refl

whole_list : asked (codes "offset=x") ≡ Ok three
whole_list = refl

-- ---- estimates

no_assets : compact_text (estimate_data []) ≡ codes "{\"assets\":[]}"
unfolding json_on_literals
no_assets = refl
