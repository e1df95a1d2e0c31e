-- The rows of a catalogue, put in the order of their ids.
use Rattle.std.proofs.Common.{◌≡◌, ℕ, zero, suc, ◌+◌, ◌<◌, ◌≤◌, Bool, true, false, cond, ◌||◌, List, [], ◌∷◌, map, length, drop, get_or, add-one, Option, Some, None, refl, sym, ap, ◌∙◌, arith, inl, inr}
use Rattle.std.specs.Cmp.Lexicographic.{slice_cmp}
use Rattle.std.specs.FinMap.{slice_cmp-IsAntisymmetric, nat_cmp-IsAntisymmetric}
use Rattle.std.specs.List.{find, list_any}
use Rattle.std.specs.Option.{option_map}
use Rattle.std.specs.Ordering.{nat_cmp}
use Rattle.std.proofs.Math.Seq.{drop-cons}
use Rattle.std.proofs.lemmas.Bool.{cases_Bool, and_parts, and_from, false≢true, not-true}
use Rattle.std.proofs.lemmas.Cmp.{nat_list_cmp_total}
use Rattle.std.proofs.lemmas.List.{drop_all, length-map}
use Rattle.oe_dims.proofs.OrderLemmas.{same_name_is, same_name_refl}
use Rattle.oe_dims.specs.Dimensions.{all_differ}
use Rattle.oe_dims.specs.Names.{is_name_before, names_rise, same_name}
use Rattle.oe_dims.specs.declared.dims.DimsRow.{DimsRow}
use Rattle.oe_dims.proofs.DistinctLemmas.{neither_less}
use Rattle.oe_sources.specs.Catalogue.{Row, mounted_ids, row_of, row_shown, rows_shown}
use Rattle.oe_sources.specs.Source.{Source}
use Rattle.oe_sources.specs.declared.catalogue.Mounted.{Mounted}
use Rattle.oe_sources.specs.CatalogueDims.{AreDimsOf, dims_of, dims_row, put_row, put_rows}

abbrev ids : List DimsRow → List (List ℕ)
ids rows = map (λ (row : DimsRow). row.id) rows

abbrev row_ids : List Row → List (List ℕ)
row_ids rows = map (λ (row : Row). row.id) rows

-- ---- a row put before the first whose id is greater

pub put_before : (row first : DimsRow) (rows : List DimsRow) → is_name_before row.id first.id ≡ true → put_row row (first ∷ rows) ≡ row ∷ first ∷ rows
put_before row first rows before = rw before refl

pub put_behind : (row first : DimsRow) (rows : List DimsRow) → is_name_before row.id first.id ≡ false → put_row row (first ∷ rows) ≡ first ∷ put_row row rows
put_behind row first rows before = rw before refl

-- from an index on, where the id there is greater
pub put_at : (row : DimsRow) (rows : List DimsRow) (n : ℕ) (x : DimsRow) → n < length rows → get_or rows n x ≡ x → is_name_before row.id x.id ≡ true
    → put_row row (drop n rows) ≡ row ∷ drop n rows
put_at row rows n x below is before =
    let from : drop n rows ≡ x ∷ drop (suc n) rows = drop-cons rows n x below ∙ ap (λ first. first ∷ drop (suc n) rows) is in
    rw from (put_before row x (drop (suc n) rows) before)

-- ---- ids that rise

-- of two names that differ one stands before the other
other_before : (a b : List ℕ) → is_name_before a b ≡ false → same_name b a ≡ false → is_name_before b a ≡ true
other_before a b h differ = elim (cases_Bool (is_name_before b a)) [
  | inl t ↦ t
  | inr f ↦
      let tied = neither_less (slice_cmp nat_cmp a b) (slice_cmp nat_cmp b a) (nat_list_cmp_total.antisymm a b) h f in
      let is : a ≡ b = slice_cmp-IsAntisymmetric nat_cmp-IsAntisymmetric a b tied in
      absurd (false≢true (sym differ ∙ ap (λ x. same_name x a) (sym is) ∙ same_name_refl a))
]

rest_rises : (first : List ℕ) (names : List (List ℕ)) → names_rise (first ∷ names) ≡ true → names_rise names ≡ true
rest_rises first [] rise = refl
rest_rises first (second ∷ names) rise = (and_parts _ _ rise).1

-- no row has the id
abbrev lacks : List DimsRow → List ℕ → Type 0
lacks rows id = list_any (λ (row : DimsRow). same_name row.id id) rows ≡ false

or_parts : (a b : Bool) → (a || b) ≡ false → (a ≡ false) × (b ≡ false)
or_parts false false e = (refl, refl)
or_parts false true e = cc
or_parts true b e = cc

after_first : (first : List ℕ) (row : DimsRow) (rows : List DimsRow) → names_rise (first ∷ ids rows) ≡ true → is_name_before first row.id ≡ true
    → names_rise (ids (put_row row rows)) ≡ true → names_rise (first ∷ ids (put_row row rows)) ≡ true
after_first first row [] rise before rest = and_from _ _ before refl
after_first first row (second ∷ rows) rise before rest = elim (cases_Bool (is_name_before row.id second.id)) [
  | inl t ↦ let is = put_before row second rows t in rw is (and_from _ _ before (rw is at rest))
  | inr f ↦ let is = put_behind row second rows f in rw is (and_from _ _ (and_parts _ _ rise).0 (rw is at rest))
]

pub put_rises : (row : DimsRow) (rows : List DimsRow) → names_rise (ids rows) ≡ true → lacks rows row.id → names_rise (ids (put_row row rows)) ≡ true
put_rises row [] rise none = refl
put_rises row (first ∷ rows) rise none = elim (cases_Bool (is_name_before row.id first.id)) [
  | inl t ↦ rw (put_before row first rows t) (and_from _ _ t rise)
  | inr f ↦
      let parts = or_parts (same_name first.id row.id) _ none in
      let before = other_before row.id first.id f parts.0 in
      rw (put_behind row first rows f) (after_first first.id row rows rise before (put_rises row rows (rest_rises first.id (ids rows) rise) parts.1))
]

-- ---- what is found by an id

-- a name that differs from another differs from all that are the same
names_differ : (x id other : List ℕ) → same_name x id ≡ true → same_name x other ≡ false → same_name other id ≡ false
names_differ x id other same differ = elim (cases_Bool (same_name other id)) [
  | inl t ↦
      let one : id ≡ x = same_name_is x id same in
      let two : id ≡ other = same_name_is other id t in
      absurd (false≢true (sym differ ∙ ap (same_name x) (sym two ∙ one) ∙ same_name_refl x))
  | inr f ↦ f
]

find_here : (row : DimsRow) (rows : List DimsRow) (id : List ℕ) → same_name row.id id ≡ true → find (λ (r : DimsRow). same_name r.id id) (row ∷ rows) ≡ Some row
find_here row rows id same = rw same refl

find_past : (row : DimsRow) (rows : List DimsRow) (id : List ℕ) → same_name row.id id ≡ false → find (λ (r : DimsRow). same_name r.id id) (row ∷ rows) ≡ find (λ (r : DimsRow). same_name r.id id) rows
find_past row rows id other = rw other refl

-- a row of an id that no other has is found by it
pub find_put : (row : DimsRow) (rows : List DimsRow) (id : List ℕ) → lacks rows row.id
    → find (λ (r : DimsRow). same_name r.id id) (put_row row rows) ≡ cond (same_name row.id id) (Some row) (find (λ (r : DimsRow). same_name r.id id) rows)
find_put row [] id none = refl
find_put row (first ∷ rows) id none = elim (cases_Bool (is_name_before row.id first.id)) [
  | inl t ↦ rw (put_before row first rows t) refl
  | inr f ↦
      let parts = or_parts (same_name first.id row.id) _ none in
      rw (put_behind row first rows f) (elim (cases_Bool (same_name first.id id)) [
        | inl same ↦
            let other : same_name row.id id ≡ false = names_differ first.id id row.id same parts.0 in
            rw (find_here first (put_row row rows) id same, other, find_here first rows id same) refl
        | inr differ ↦ rw (find_past first (put_row row rows) id differ, find_past first rows id differ) (find_put row rows id parts.1)
      ])
]

-- ---- one row after the other

-- an id has no row among the first where it has one among the others
abbrev pub AreApart : List DimsRow → List Row → Type 0
AreApart done rows = (id : List ℕ) → list_any (λ (row : Row). same_name row.id id) rows ≡ true → lacks done id

or_from : (a b : Bool) → a ≡ false → b ≡ false → (a || b) ≡ false
or_from a b ea eb = rw (ea, eb) refl

or_true : (a b : Bool) → b ≡ true → (a || b) ≡ true
or_true false b e = e
or_true true b e = refl

lacks_put : (row : DimsRow) (rows : List DimsRow) (id : List ℕ) → same_name row.id id ≡ false → lacks rows id → lacks (put_row row rows) id
lacks_put row [] id other none = or_from _ _ other refl
lacks_put row (first ∷ rows) id other none = elim (cases_Bool (is_name_before row.id first.id)) [
  | inl t ↦ rw (put_before row first rows t) (or_from _ _ other none)
  | inr f ↦ let parts = or_parts (same_name first.id id) _ none in rw (put_behind row first rows f) (or_from _ _ parts.0 (lacks_put row rows id other parts.1))
]

-- where no row has the name, none has another spelling of it
none_among : (x id : List ℕ) (rows : List Row) → list_any (same_name x) (row_ids rows) ≡ false → same_name x id ≡ true → list_any (λ (row : Row). same_name row.id id) rows ≡ false
none_among x id [] none same = refl
none_among x id (row ∷ rows) none same =
    let parts = or_parts (same_name x row.id) _ none in
    or_from _ _ (names_differ x id row.id same parts.0) (none_among x id rows parts.1 same)

find_lacks : (rows : List Row) (id : List ℕ) → list_any (λ (row : Row). same_name row.id id) rows ≡ false → row_of rows id ≡ None
find_lacks [] id none = refl
find_lacks (row ∷ rows) id none = let parts = or_parts (same_name row.id id) _ none in rw (parts.0) (find_lacks rows id parts.1)

here : (row : Row) (rows : List Row) → list_any (λ (r : Row). same_name r.id row.id) (row ∷ rows) ≡ true
here row rows = ap (λ b. b || list_any (λ (r : Row). same_name r.id row.id) rows) (same_name_refl row.id)

still_apart : (row : Row) (done : List DimsRow) (rows : List Row) → all_differ (row_ids (row ∷ rows)) ≡ true → AreApart done (row ∷ rows) → AreApart (put_row (dims_row row) done) rows
still_apart row done rows differ apart id among =
    let differs : same_name row.id id ≡ false = elim (cases_Bool (same_name row.id id)) [
      | inl t ↦ absurd (false≢true (sym (none_among row.id id rows (not-true _ (and_parts _ _ differ).0) t) ∙ among))
      | inr f ↦ f
    ] in
    lacks_put (dims_row row) done id differs (apart id (or_true _ _ among))

abbrev first_of : Option DimsRow → Option DimsRow → Option DimsRow
first_of (Some row) other = Some row
first_of None other = other

first_of_none : (o : Option DimsRow) → first_of o None ≡ o
first_of_none None = refl
first_of_none (Some row) = refl

step : (row : Row) (done : List DimsRow) (rows : List Row) (id : List ℕ) → lacks done row.id → all_differ (row_ids (row ∷ rows)) ≡ true
    → first_of (option_map dims_row (row_of rows id)) (find (λ (r : DimsRow). same_name r.id id) (put_row (dims_row row) done))
    ≡ first_of (option_map dims_row (row_of (row ∷ rows) id)) (find (λ (r : DimsRow). same_name r.id id) done)
step row done rows id none differ = elim (cases_Bool (same_name row.id id)) [
  | inl t ↦
      let missing = find_lacks rows id (none_among row.id id rows (not-true _ (and_parts _ _ differ).0) t) in
      rw (find_put (dims_row row) done id none, missing, t) refl
  | inr f ↦ rw (find_put (dims_row row) done id none, f) refl
]

-- the rows rise, and each id has its row
put_all : (done : List DimsRow) (rows : List Row) → names_rise (ids done) ≡ true → all_differ (row_ids rows) ≡ true → AreApart done rows
    → (names_rise (ids (put_rows done rows)) ≡ true)
    × ((id : List ℕ) → find (λ (r : DimsRow). same_name r.id id) (put_rows done rows) ≡ first_of (option_map dims_row (row_of rows id)) (find (λ (r : DimsRow). same_name r.id id) done))
put_all done [] rise differ apart = (rise, λ id. refl)
put_all done (row ∷ rows) rise differ apart =
    let none : lacks done row.id = apart row.id (here row rows) in
    let rest = put_all (put_row (dims_row row) done) rows (put_rises (dims_row row) done rise none) (and_parts _ _ differ).1 (still_apart row done rows differ apart) in
    (rest.0, λ id. rest.1 id ∙ step row done rows id none differ)

pub dims_rise : (rows : List Row) → all_differ (row_ids rows) ≡ true → names_rise (ids (dims_of rows)) ≡ true
dims_rise rows differ = (put_all [] rows refl differ (λ id among. refl)).0

pub dims_found : (rows : List Row) → all_differ (row_ids rows) ≡ true → AreDimsOf rows (dims_of rows)
dims_found rows differ id = (put_all [] rows refl differ (λ id among. refl)).1 id ∙ first_of_none (option_map dims_row (row_of rows id))

pub ids_shown : {B : Type 0} (seen : B → Source) (seal : ℕ) (items : List (Mounted B)) → row_ids (rows_shown seen seal items) ≡ mounted_ids items
ids_shown seen seal [] = refl
ids_shown seen seal (x ∷ items) = ap (λ rest. x.id ∷ rest) (ids_shown seen seal items)

-- the item of an index is put, and then the later ones
put_step : {B : Type 0} (seen : B → Source) (seal : ℕ) (done : List DimsRow) (items : List (Mounted B)) (n : ℕ) (m : Mounted B) → n < length items → m ≡ get_or items n m
    → put_rows done (drop n (rows_shown seen seal items)) ≡ put_rows (put_row (dims_row (row_shown seen seal m)) done) (drop (suc n) (rows_shown seen seal items))
put_step seen seal done [] n m below is = absurd (omega arith)
put_step seen seal done (x ∷ items) zero m below is = ap (λ (y : Mounted _). put_rows (put_row (dims_row (row_shown seen seal y)) done) (rows_shown seen seal items)) (sym is)
put_step seen seal done (x ∷ items) (suc n) m below is = put_step seen seal done items n m (omega arith) is

pub put_rows_step : {B : Type 0} (seen : B → Source) (seal : ℕ) (done new all : List DimsRow) (items : List (Mounted B)) (n : ℕ) (m : Mounted B) → n < length items → m ≡ get_or items n m
    → new ≡ put_row (dims_row (row_shown seen seal m)) done → put_rows done (drop n (rows_shown seen seal items)) ≡ all → put_rows new (drop (n + 1) (rows_shown seen seal items)) ≡ all
put_rows_step seen seal done new all items n m below is added so_far =
    rw (added, add-one) (sym (put_step seen seal done items n m below is) ∙ so_far)

-- at the end all are put
pub put_rows_end : (done all : List DimsRow) (rows : List Row) (n : ℕ) → length rows ≤ n → put_rows done (drop n rows) ≡ all → done ≡ all
put_rows_end done all rows n end so_far = ap (put_rows done) (sym (drop_all n rows end)) ∙ so_far

-- where all items of a catalogue are put, the ids rise, and the rows are those of the catalogue
pub dims_rise_in : {B : Type 0} (seen : B → Source) (seal : ℕ) (done : List DimsRow) (put items : List (Mounted B)) (n : ℕ) → length put ≤ n → put ≡ items → all_differ (mounted_ids items) ≡ true
    → put_rows done (drop n (rows_shown seen seal put)) ≡ put_rows [] (rows_shown seen seal put) → names_rise (ids done) ≡ true
dims_rise_in seen seal done put items n end same differ so_far =
    let all : done ≡ dims_of (rows_shown seen seal put) = put_rows_end done _ (rows_shown seen seal put) n (omega (arith, length-map put (row_shown seen seal), end)) so_far in
    rw (all, same) (dims_rise (rows_shown seen seal items) (ap all_differ (ids_shown seen seal items) ∙ differ))

pub dims_found_in : {B : Type 0} (seen : B → Source) (seal : ℕ) (done : List DimsRow) (put items : List (Mounted B)) (n : ℕ) → length put ≤ n → put ≡ items → all_differ (mounted_ids items) ≡ true
    → put_rows done (drop n (rows_shown seen seal put)) ≡ put_rows [] (rows_shown seen seal put) → AreDimsOf (rows_shown seen seal items) done
dims_found_in seen seal done put items n end same differ so_far =
    let all : done ≡ dims_of (rows_shown seen seal put) = put_rows_end done _ (rows_shown seen seal put) n (omega (arith, length-map put (row_shown seen seal), end)) so_far in
    rw (all, same) (dims_found (rows_shown seen seal items) (ap all_differ (ids_shown seen seal items) ∙ differ))
