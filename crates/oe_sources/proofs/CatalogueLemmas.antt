-- Rows of a catalogue: the row of an id, and what mounting, detaching, replacing and reading leave.
use Rattle.std.proofs.Common.{◌≡◌, ℕ, zero, suc, ◌+◌, ◌<◌, ◌≤◌, Bool, true, false, ◌||◌, not, List, [], ◌∷◌, ◌++◌, map, length, get_or, set, slice_get, is_some, nat_le, Option, Some, None, Result, Ok, Err, OnOk, OnErr, refl, sym, ap, ◌∙◌, subst, arith, inl, inr, IfSome, IsErrOf}
use Rattle.std.specs.Prelude.{if◌then◌else◌}
use Rattle.std.specs.List.{find, list_all, list_any, remove}
use Rattle.std.specs.Option.{option_map, option_map_or}
use Rattle.std.proofs.lemmas.Bool.{and_from, and_parts, cases_Bool, false≢true, not-true}
use Rattle.std.proofs.lemmas.List.{length-map}
use Rattle.std.proofs.lemmas.Option.{same_Some, slice_get-get_or}
use Rattle.oe_dims.proofs.OrderLemmas.{same_name_is, same_name_refl}
use Rattle.oe_dims.proofs.IndexLemmas.{later_index}
use Rattle.oe_dims.specs.Dimensions.{all_differ}
use Rattle.oe_dims.specs.Indices.{index_where}
use Rattle.oe_dims.specs.Names.{is_name, same_name}
use Rattle.oe_cell.specs.declared.cell.Cell.{Cell}
use Rattle.oe_sources.specs.Catalogue.{id_taken, is_full, mount_refusal, CountsRow, IsFaultAt, ReadsRow, Row, box_row, has_box, is_boxed, is_mounted, kept_source, mounted_ids, mounted_index, row_index, row_of, row_sealed, row_shown, rows_at, rows_replaced, rows_sealed, rows_shown, rows_without, source_at}
use Rattle.oe_sources.specs.CatalogueLaws.{NeverFailed}
use Rattle.oe_sources.specs.Source.{CountsRead, Looks, Reads, Source, answer_of, fault_of, is_failed}
use Rattle.oe_sources.proofs.SourceLemmas.{counted_read}
use Rattle.oe_sources.specs.declared.catalogue.Kept.{Kept}
use Rattle.oe_sources.specs.declared.catalogue.Kept.TheVariants.{Boxed, Generated}
use Rattle.oe_sources.specs.declared.catalogue.Mounted.{Mounted}
use Rattle.oe_sources.specs.declared.source.LookFail.{LookFail}
use Rattle.oe_sources.specs.declared.source.LookFail.TheVariants as look
use Rattle.oe_sources.specs.declared.source.ReadFault.{ReadFault}
use Rattle.oe_sources.specs.declared.source.SourceFail.{SourceFail}
use Rattle.oe_sources.specs.declared.source.SourceFail.TheVariants.{Failed}
use Rattle.oe_window.specs.Windows.{position_count}
use Rattle.oe_window.specs.declared.window.Window.{Window}

-- ---- the first index that passes, and what stands there

pub index_where-map : {A B : Type 0} (f : A → B) (test : B → Bool) (xs : List A) → index_where test (map f xs) ≡ index_where (λ x. test (f x)) xs
index_where-map f test [] = refl
index_where-map f test (x ∷ xs) = rw (index_where-map f test xs) refl

no_later_index : (index : Option ℕ) → option_map (λ n. n + 1) index ≡ None → index ≡ None
no_later_index None e = refl
no_later_index (Some n) e = cc

pub find_at_index : {A : Type 0} (test : A → Bool) (xs : List A) (k : ℕ) → index_where test xs ≡ Some k → slice_get xs k ≡ find test xs
find_at_index test [] k e = cc
find_at_index test (x ∷ xs) k e = elim (cases_Bool (test x)) [
  | inl t ↦ let first : 0 ≡ k = same_Some _ _ (rw t at e) in rw (← first, t) refl
  | inr f ↦ let later = later_index (index_where test xs) k (rw f at e) in rw (later.2, f) (find_at_index test xs later.0 later.1)
]

some_is_none : (n : ℕ) → Some n ≡ None → ⊥
some_is_none n e = cc

pub find_none : {A : Type 0} (test : A → Bool) (xs : List A) → index_where test xs ≡ None → find test xs ≡ None
find_none test [] e = refl
find_none test (x ∷ xs) e = elim (cases_Bool (test x)) [
  | inl t ↦ absurd (some_is_none 0 (rw t at e))
  | inr f ↦ rw f (find_none test xs (no_later_index (index_where test xs) (rw f at e)))
]

pub find-map : {A B : Type 0} (f : A → B) (test : B → Bool) (xs : List A) → find test (map f xs) ≡ option_map f (find (λ x. test (f x)) xs)
find-map f test [] = refl
find-map f test (x ∷ xs) = elim (cases_Bool (test (f x))) [
  | inl t ↦ rw t refl
  | inr other ↦ rw other (find-map f test xs)
]

-- ---- the row of an id

pub row_index_shown : {B : Type 0} (seen : B → Source) (seal : ℕ) (items : List (Mounted B)) (id : List ℕ) → row_index (rows_shown seen seal items) id ≡ mounted_index items id
row_index_shown seen seal items id = index_where-map (row_shown seen seal) (λ row. same_name row.id id) items

pub row_at_index : {B : Type 0} (seen : B → Source) (seal : ℕ) (items : List (Mounted B)) (id : List ℕ) (k : ℕ) → mounted_index items id ≡ Some k
    → slice_get (rows_shown seen seal items) k ≡ row_of (rows_shown seen seal items) id
row_at_index seen seal items id k e = find_at_index (λ row. same_name row.id id) (rows_shown seen seal items) k (row_index_shown seen seal items id ∙ e)

pub row_missing : {B : Type 0} (seen : B → Source) (seal : ℕ) (items : List (Mounted B)) (id : List ℕ) → mounted_index items id ≡ None → row_of (rows_shown seen seal items) id ≡ None
row_missing seen seal items id e = find_none (λ row. same_name row.id id) (rows_shown seen seal items) (row_index_shown seen seal items id ∙ e)

-- the id of the row at the index of an id is that id
pub id_at_index : {B : Type 0} (items : List (Mounted B)) (id : List ℕ) (k : ℕ) (m : Mounted B) → mounted_index items id ≡ Some k → get_or items k m ≡ m → m.id ≡ id
id_at_index [] id k m e is = cc
id_at_index (x ∷ items) id k m e is = elim (cases_Bool (same_name x.id id)) [
  | inl t ↦ let first : 0 ≡ k = same_Some _ _ (rw t at e) in let same : x ≡ m = rw (← first) at is in rw (← same) (sym (same_name_is x.id id t))
  | inr f ↦ let later = later_index (mounted_index items id) k (rw f at e) in id_at_index items id later.0 m later.1 (rw later.2 at is)
]

pub index_within : {B : Type 0} (items : List (Mounted B)) (id : List ℕ) (k : ℕ) → mounted_index items id ≡ Some k → k < length items
index_within [] id k e = cc
index_within (x ∷ items) id k e = elim (cases_Bool (same_name x.id id)) [
  | inl t ↦ let first : 0 ≡ k = same_Some _ _ (rw t at e) in omega (arith, first)
  | inr f ↦ let later = later_index (mounted_index items id) k (rw f at e) in omega (arith, later.2, index_within items id later.0 later.1)
]

pub index_shown_within : {B : Type 0} (seen : B → Source) (seal : ℕ) (items : List (Mounted B)) (id : List ℕ) (k : ℕ) → mounted_index items id ≡ Some k → k < length (rows_shown seen seal items)
index_shown_within seen seal items id k e = rw (length-map items (row_shown seen seal)) (index_within items id k e)

-- the row of an id, by the item at its index
pub row_of_item : {B : Type 0} (seen : B → Source) (seal : ℕ) (items : List (Mounted B)) (id : List ℕ) (k : ℕ) (m : Mounted B) → mounted_index items id ≡ Some k → get_or items k m ≡ m
    → row_of (rows_shown seen seal items) id ≡ Some (row_shown seen seal m)
row_of_item seen seal [] id k m e is = cc
row_of_item seen seal (x ∷ items) id k m e is = elim (cases_Bool (same_name x.id id)) [
  | inl t ↦ let first : 0 ≡ k = same_Some _ _ (rw t at e) in let same : x ≡ m = rw (← first) at is in rw t (ap (λ y. Some (row_shown seen seal y)) same)
  | inr f ↦ let later = later_index (mounted_index items id) k (rw f at e) in rw f (row_of_item seen seal items id later.0 m later.1 (rw later.2 at is))
]

-- no box under an id
pub no_box_missing : {B : Type 0} (seen : B → Source) (seal : ℕ) (items : List (Mounted B)) (id : List ℕ) → mounted_index items id ≡ None → has_box (rows_shown seen seal items) id ≡ false
no_box_missing seen seal items id e = ap (λ (row : Option Row). option_map_or (λ (r : Row). is_some r.seal) row false) (row_missing seen seal items id e)

pub no_box_here : {B : Type 0} (seen : B → Source) (seal : ℕ) (items : List (Mounted B)) (id : List ℕ) (k : ℕ) (m : Mounted B) → mounted_index items id ≡ Some k → get_or items k m ≡ m
    → is_boxed m.cube ≡ false → has_box (rows_shown seen seal items) id ≡ false
no_box_here seen seal items id k m e is boxed =
    ap (λ (row : Option Row). option_map_or (λ (r : Row). is_some r.seal) row false) (row_of_item seen seal items id k m e is)
    ∙ ap (λ (b : Bool). is_some (if b then Some seal else None)) boxed

-- the box at the index of an id
pub box_at_index : {B : Type 0} (seen : B → Source) (seal : ℕ) (items : List (Mounted B)) (id : List ℕ) (k : ℕ) (m : Mounted B) (cube : B) → mounted_index items id ≡ Some k → m ≡ get_or items k m → m.cube ≡ Boxed cube
    → row_of (rows_shown seen seal items) id ≡ Some (box_row seal id (seen cube))
box_at_index seen seal items id k m cube e is kept =
    row_of_item seen seal items id k m e (sym is)
    ∙ ap Some (rw (id_at_index items id k m e (sym is), kept) refl)

-- what is known of an item by its index
pub at_item : {B : Type 0} (P : Mounted B → Type 0) (items : List (Mounted B)) (k : ℕ) (m : Mounted B) → k < length items → m ≡ get_or items k m → P m → IfSome (slice_get items k) P
at_item P items k m below is here = subst (λ o. IfSome o P) (sym (slice_get-get_or items k m below ∙ ap Some (sym is))) here

pub of_item : {B : Type 0} (P : Mounted B → Type 0) (items : List (Mounted B)) (k : ℕ) (m : Mounted B) → k < length items → m ≡ get_or items k m → IfSome (slice_get items k) P → P m
of_item P items k m below is here = subst (λ o. IfSome o P) (slice_get-get_or items k m below ∙ ap Some (sym is)) here

generated_no_box : {B : Type 0} (kept : Kept B) (cube : Source) → kept ≡ Generated cube → is_boxed kept ≡ true → ⊥
generated_no_box kept cube is boxed = false≢true (sym (ap is_boxed is) ∙ boxed)

-- where a box stands, no generated cube does
pub no_generated : {B : Type 0} (items : List (Mounted B)) (k : ℕ) (m : Mounted B) (cube : Source) → k < length items → m ≡ get_or items k m → IfSome (slice_get items k) (λ (x : Mounted B). is_boxed x.cube ≡ true)
    → m.cube ≡ Generated cube → ⊥
no_generated items k m cube below is boxed kept = generated_no_box m.cube cube kept (of_item (λ (x : Mounted _). is_boxed x.cube ≡ true) items k m below is boxed)

pub item_within : {B : Type 0} (seen : B → Source) (seal : ℕ) (items : List (Mounted B)) (k : ℕ) → k < length (rows_shown seen seal items) → k < length items
item_within seen seal items k below = omega (arith, length-map items (row_shown seen seal), below)

-- ---- the source of the row of an index

pub source_shown : {B : Type 0} (seen : B → Source) (seal : ℕ) (items : List (Mounted B)) (k : ℕ) (m : Mounted B) → k < length (rows_shown seen seal items) → m ≡ get_or items k m
    → source_at (rows_shown seen seal items) k ≡ kept_source seen m.cube
source_shown seen seal [] k m below is = absurd (omega arith)
source_shown seen seal (x ∷ items) zero m below is = ap (λ (y : Mounted _). kept_source seen y.cube) (sym is)
source_shown seen seal (x ∷ items) (suc k) m below is = source_shown seen seal items k m (omega arith) is

unsealed : (b : Bool) (seal : ℕ) → (if b then Some seal else None) ≡ None → b ≡ false
unsealed true seal e = cc
unsealed false seal e = refl

-- what holds of a generated cube holds of the row of its index
pub never_failed_shown : {B : Type 0} (seen : B → Source) (seal : ℕ) (items : List (Mounted B)) (k : ℕ) (m : Mounted B) → k < length (rows_shown seen seal items) → m ≡ get_or items k m
    → (is_boxed m.cube ≡ false → (kept_source seen m.cube).faults ≡ 0) → NeverFailed (rows_shown seen seal items) k
never_failed_shown seen seal [] k m below is none = absurd (omega arith)
never_failed_shown seen seal (x ∷ items) zero m below is none = λ e.
    subst (λ (y : Mounted _). is_boxed y.cube ≡ false → (kept_source seen y.cube).faults ≡ 0) is none (unsealed (is_boxed x.cube) seal e)
never_failed_shown seen seal (x ∷ items) (suc k) m below is none = never_failed_shown seen seal items k m (omega arith) is none

pub source_at-rows_at : (rows : List Row) (k : ℕ) (s : Source) → k < length rows → source_at (rows_at rows k s) k ≡ s
source_at-rows_at [] k s below = absurd (omega arith)
source_at-rows_at (row ∷ rows) zero s below = refl
source_at-rows_at (row ∷ rows) (suc k) s below = source_at-rows_at rows k s (omega arith)

-- an item with another cube of its kind in its place
pub rows_set : {B : Type 0} (seen : B → Source) (seal : ℕ) (items : List (Mounted B)) (k : ℕ) (old new : Mounted B) → k < length (rows_shown seen seal items) → old ≡ get_or items k old
    → new.id ≡ old.id → is_boxed new.cube ≡ is_boxed old.cube
    → rows_shown seen seal (set items k new) ≡ rows_at (rows_shown seen seal items) k (kept_source seen new.cube)
rows_set seen seal [] k old new below is id boxed = absurd (omega arith)
rows_set seen seal (x ∷ items) zero old new below is id boxed =
    let same : (new.id ≡ x.id) × (is_boxed new.cube ≡ is_boxed x.cube) = subst (λ (y : Mounted _). (new.id ≡ y.id) × (is_boxed new.cube ≡ is_boxed y.cube)) is (id, boxed) in
    rw (same.0, same.1) refl
rows_set seen seal (x ∷ items) (suc k) old new below is id boxed = ap (λ rest. row_shown seen seal x ∷ rest) (rows_set seen seal items k old new (omega arith) is id boxed)

pub ids_set : {B : Type 0} (items : List (Mounted B)) (k : ℕ) (old new : Mounted B) → k < length items → old ≡ get_or items k old → new.id ≡ old.id
    → mounted_ids (set items k new) ≡ mounted_ids items
ids_set [] k old new below is id = absurd (omega arith)
ids_set (x ∷ items) zero old new below is id = ap (λ first. first ∷ mounted_ids items) (id ∙ ap (λ (y : Mounted _). y.id) is)
ids_set (x ∷ items) (suc k) old new below is id = ap (λ rest. x.id ∷ rest) (ids_set items k old new (omega arith) is id)

-- ---- ids that differ

none_has : (id : List ℕ) (ids : List (List ℕ)) → Type 0
none_has id ids = list_any (same_name id) ids ≡ false

or_parts : (a b : Bool) → (a || b) ≡ false → (a ≡ false) × (b ≡ false)
or_parts false false e = (refl, refl)
or_parts false true e = cc
or_parts true b e = cc

or_from : (a b : Bool) → a ≡ false → b ≡ false → (a || b) ≡ false
or_from a b ea eb = rw (ea, eb) refl

head_differs : (id : List ℕ) (ids : List (List ℕ)) → all_differ (id ∷ ids) ≡ true → list_any (same_name id) ids ≡ false
head_differs id ids e = not-true _ (and_parts _ _ e).0

-- where no id of the items is this one, each row passes by
others_differ : (x id other : List ℕ) → same_name x id ≡ true → same_name x other ≡ false → same_name other id ≡ false
others_differ x id other same differ = elim (cases_Bool (same_name other id)) [
  | inl t ↦
      let one : id ≡ x = same_name_is x id same in
      let two : id ≡ other = same_name_is other id t in
      absurd (false≢true (sym differ ∙ ap (same_name x) (sym two ∙ one) ∙ same_name_refl x))
  | inr f ↦ f
]

-- ---- detaching

filter_all : {B : Type 0} (seen : B → Source) (seal : ℕ) (items : List (Mounted B)) (x id : List ℕ) → same_name x id ≡ true → list_any (same_name x) (mounted_ids items) ≡ false
    → rows_without (rows_shown seen seal items) id ≡ rows_shown seen seal items
filter_all seen seal [] x id same none = refl
filter_all seen seal (y ∷ items) x id same none =
    let parts = or_parts (same_name x y.id) _ none in
    rw (others_differ x id y.id same parts.0) (ap (λ rest. row_shown seen seal y ∷ rest) (filter_all seen seal items x id same parts.1))

rows_detached : {B : Type 0} (seen : B → Source) (seal : ℕ) (items : List (Mounted B)) (id : List ℕ) (k : ℕ) → mounted_index items id ≡ Some k → all_differ (mounted_ids items) ≡ true
    → rows_shown seen seal (remove items k) ≡ rows_without (rows_shown seen seal items) id
rows_detached seen seal [] id k e differ = cc
rows_detached seen seal (x ∷ items) id k e differ = elim (cases_Bool (same_name x.id id)) [
  | inl t ↦
      let first : 0 ≡ k = same_Some _ _ (rw t at e) in
      rw (← first, t) (sym (filter_all seen seal items x.id id t (head_differs x.id (mounted_ids items) differ)))
  | inr f ↦
      let later = later_index (mounted_index items id) k (rw f at e) in
      rw (later.2, f) (ap (λ rest. row_shown seen seal x ∷ rest) (rows_detached seen seal items id later.0 later.1 (and_parts _ _ differ).1))
]

-- ---- replacing

replace_none : {B : Type 0} (seen : B → Source) (seal : ℕ) (items : List (Mounted B)) (x id : List ℕ) (s : Source) → same_name x id ≡ true → list_any (same_name x) (mounted_ids items) ≡ false
    → rows_replaced (rows_shown seen seal items) id s ≡ rows_shown seen seal items
replace_none seen seal [] x id s same none = refl
replace_none seen seal (y ∷ items) x id s same none =
    let parts = or_parts (same_name x y.id) _ none in
    rw (others_differ x id y.id same parts.0) (ap (λ rest. row_shown seen seal y ∷ rest) (replace_none seen seal items x id s same parts.1))

rows_changed : {B : Type 0} (seen : B → Source) (seal : ℕ) (items : List (Mounted B)) (id : List ℕ) (k : ℕ) (old new : Mounted B) → mounted_index items id ≡ Some k → all_differ (mounted_ids items) ≡ true
    → old ≡ get_or items k old → new.id ≡ old.id → is_boxed new.cube ≡ is_boxed old.cube
    → rows_shown seen seal (set items k new) ≡ rows_replaced (rows_shown seen seal items) id (kept_source seen new.cube)
rows_changed seen seal [] id k old new e differ is same boxed = cc
rows_changed seen seal (x ∷ items) id k old new e differ is same boxed = elim (cases_Bool (same_name x.id id)) [
  | inl t ↦
      let first : 0 ≡ k = same_Some _ _ (rw t at e) in
      let there : old ≡ x = rw (← first) at is in
      let ids : new.id ≡ x.id = same ∙ ap (λ (y : Mounted _). y.id) there in
      let same_box : is_boxed new.cube ≡ is_boxed x.cube = boxed ∙ ap (λ (y : Mounted _). is_boxed y.cube) there in
      rw (← first, t, ids, same_box) (ap (λ (rest : List Row). (record (row_shown seen seal x) { source = kept_source seen new.cube }) ∷ rest)
      (sym (replace_none seen seal items x.id id (kept_source seen new.cube) t (head_differs x.id (mounted_ids items) differ))))
  | inr f ↦
      let later = later_index (mounted_index items id) k (rw f at e) in
      rw (later.2, f) (ap (λ rest. row_shown seen seal x ∷ rest)
      (rows_changed seen seal items id later.0 old new later.1 (and_parts _ _ differ).1 (rw later.2 at is) same boxed))
]

box_replaced : {B : Type 0} (seen : B → Source) (seal : ℕ) (items : List (Mounted B)) (id : List ℕ) (k : ℕ) (old new : Mounted B) (cube : B) → mounted_index items id ≡ Some k → all_differ (mounted_ids items) ≡ true
    → old ≡ get_or items k old → new.id ≡ old.id → new.cube ≡ Boxed cube → is_boxed old.cube ≡ true
    → rows_shown seen seal (set items k new) ≡ rows_replaced (rows_shown seen seal items) id (seen cube)
box_replaced seen seal items id k old new cube e differ is same kept boxed =
    rows_changed seen seal items id k old new e differ is same (ap is_boxed kept ∙ sym boxed)
    ∙ ap (λ k. rows_replaced (rows_shown seen seal items) id (kept_source seen k)) kept

-- ---- what the ids keep

pub all_remove : {A : Type 0} (test : List ℕ → Bool) (f : A → List ℕ) (xs : List A) (k : ℕ) → list_all test (map f xs) ≡ true → list_all test (map f (remove xs k)) ≡ true
all_remove test f [] zero all = refl
all_remove test f [] (suc k) all = refl
all_remove test f (x ∷ xs) zero all = (and_parts _ _ all).1
all_remove test f (x ∷ xs) (suc k) all = and_from _ _ (and_parts _ _ all).0 (all_remove test f xs k (and_parts _ _ all).1)

none_remove : {A : Type 0} (test : List ℕ → Bool) (f : A → List ℕ) (xs : List A) (k : ℕ) → list_any test (map f xs) ≡ false → list_any test (map f (remove xs k)) ≡ false
none_remove test f [] zero none = refl
none_remove test f [] (suc k) none = refl
none_remove test f (x ∷ xs) zero none = (or_parts _ _ none).1
none_remove test f (x ∷ xs) (suc k) none = or_from _ _ (or_parts _ _ none).0 (none_remove test f xs k (or_parts _ _ none).1)

pub differ_remove : {A : Type 0} (f : A → List ℕ) (xs : List A) (k : ℕ) → all_differ (map f xs) ≡ true → all_differ (map f (remove xs k)) ≡ true
differ_remove f [] zero differ = refl
differ_remove f [] (suc k) differ = refl
differ_remove f (x ∷ xs) zero differ = (and_parts _ _ differ).1
differ_remove f (x ∷ xs) (suc k) differ =
    and_from _ _ (ap not (none_remove (same_name (f x)) f xs k (head_differs (f x) (map f xs) differ))) (differ_remove f xs k (and_parts _ _ differ).1)

pub all_append : {A : Type 0} (test : List ℕ → Bool) (f : A → List ℕ) (xs : List A) (x : A) → list_all test (map f xs) ≡ true → test (f x) ≡ true → list_all test (map f (xs ++ x ∷ [])) ≡ true
all_append test f [] x all here = and_from _ _ here refl
all_append test f (y ∷ xs) x all here = and_from _ _ (and_parts _ _ all).0 (all_append test f xs x (and_parts _ _ all).1 here)

none_append : {A : Type 0} (test : List ℕ → Bool) (f : A → List ℕ) (xs : List A) (x : A) → list_any test (map f xs) ≡ false → test (f x) ≡ false → list_any test (map f (xs ++ x ∷ [])) ≡ false
none_append test f [] x none here = or_from _ _ here refl
none_append test f (y ∷ xs) x none here = or_from _ _ (or_parts _ _ none).0 (none_append test f xs x (or_parts _ _ none).1 here)

-- an id that no item has, added at the end
pub differ_append : {B : Type 0} (items : List (Mounted B)) (m : Mounted B) → all_differ (mounted_ids items) ≡ true → mounted_index items m.id ≡ None → all_differ (mounted_ids (items ++ m ∷ [])) ≡ true
differ_append [] m differ none = refl
differ_append (x ∷ items) m differ none = elim (cases_Bool (same_name x.id m.id)) [
  | inl t ↦ absurd (some_is_none 0 (rw t at none))
  | inr f ↦
      let rest = no_later_index (mounted_index items m.id) (rw f at none) in
      and_from _ _ (ap not (none_append (same_name x.id) (λ (y : Mounted _). y.id) items m (head_differs x.id (mounted_ids items) differ) f)) (differ_append items m (and_parts _ _ differ).1 rest)
]

pub rows_added : {B : Type 0} (seen : B → Source) (seal : ℕ) (items : List (Mounted B)) (m : Mounted B) → rows_shown seen seal (items ++ m ∷ []) ≡ rows_shown seen seal items ++ row_shown seen seal m ∷ []
rows_added seen seal [] m = refl
rows_added seen seal (x ∷ items) m = ap (λ rest. row_shown seen seal x ∷ rest) (rows_added seen seal items m)

-- ---- reading

-- a read of what an item keeps is a read of its row
pub reads_row : {B : Type 0} (seen : B → Source) (seal : ℕ) (items : List (Mounted B)) (k : ℕ) (old new : Mounted B) (window : Window) (cells : List Cell) (result : Result (Unit {0}) SourceFail)
    → k < length (rows_shown seen seal items) → old ≡ get_or items k old → new.id ≡ old.id → is_boxed new.cube ≡ is_boxed old.cube
    → Reads (kept_source seen old.cube) window cells (kept_source seen new.cube) result
    → ReadsRow (rows_shown seen seal items) k window cells (rows_shown seen seal (set items k new)) result
reads_row seen seal items k old new window cells result below is id boxed reads =
    let before = source_shown seen seal items k old below is in
    let rows = rows_set seen seal items k old new below is id boxed in
    let after : source_at (rows_shown seen seal (set items k new)) k ≡ kept_source seen new.cube =
    ap (λ rs. source_at rs k) rows ∙ source_at-rows_at (rows_shown seen seal items) k (kept_source seen new.cube) below in
    record {
      read = rw (before, after) reads;
      others = rows ∙ ap (rows_at (rows_shown seen seal items) k) (sym after);
    }

-- the same of a count
pub counts_row : {B : Type 0} (seen : B → Source) (seal : ℕ) (items : List (Mounted B)) (k : ℕ) (old new : Mounted B) (cells : ℕ) (failed : Bool)
    → k < length (rows_shown seen seal items) → old ≡ get_or items k old → new.id ≡ old.id → is_boxed new.cube ≡ is_boxed old.cube
    → CountsRead (kept_source seen old.cube) cells failed (kept_source seen new.cube)
    → CountsRow (rows_shown seen seal items) k cells failed (rows_shown seen seal (set items k new))
counts_row seen seal items k old new cells failed below is id boxed counts =
    let before = source_shown seen seal items k old below is in
    let rows = rows_set seen seal items k old new below is id boxed in
    let after : source_at (rows_shown seen seal (set items k new)) k ≡ kept_source seen new.cube =
    ap (λ rs. source_at rs k) rows ∙ source_at-rows_at (rows_shown seen seal items) k (kept_source seen new.cube) below in
    record {
      count = rw (before, after) counts;
      others = rows ∙ ap (rows_at (rows_shown seen seal items) k) (sym after);
    }

-- a look at what an item keeps is a look at its row
pub looks_shown : {B : Type 0} (seen : B → Source) (seal : ℕ) (items : List (Mounted B)) (k : ℕ) (m : Mounted B) (window : Window) (cells : List Cell) (a b : Result (Unit {0}) SourceFail)
    → k < length (rows_shown seen seal items) → m ≡ get_or items k m → b ≡ a → Looks (kept_source seen m.cube) window cells a → Looks (source_at (rows_shown seen seal items) k) window cells b
looks_shown seen seal items k m window cells a b below is same looks = rw (source_shown seen seal items k m below is, same) looks

-- a look at a row that is counted is a read of it
pub counted_row : {before after : List Row} {k : ℕ} {window : Window} {cells : List Cell} (result : Result (Unit {0}) SourceFail)
    → Looks (source_at before k) window cells result → CountsRow before k (position_count window) (is_failed result) after → ReadsRow before k window cells after result
counted_row result looks counts = record { read = counted_read result looks counts.count; others = counts.others }

-- ---- faults

-- the seal of a box in its row, which a fault of it has, and back
fault_shown : {B : Type 0} (seen : B → Source) (seal : ℕ) (items : List (Mounted B)) (k : ℕ) (m : Mounted B) (n : ℕ) → k < length (rows_shown seen seal items) → m ≡ get_or items k m
    → is_boxed m.cube ≡ true → n ≡ seal → IfSome (slice_get (rows_shown seen seal items) k) (λ (row : Row). row.seal ≡ Some n)
fault_shown seen seal [] k m n below is boxed own = absurd (omega arith)
fault_shown seen seal (x ∷ items) zero m n below is boxed own =
    ap (λ (y : Mounted _). if is_boxed y.cube then Some seal else None) (sym is) ∙ (ap (λ (b : Bool). if b then Some seal else None) boxed ∙ ap Some (sym own))
fault_shown seen seal (x ∷ items) (suc k) m n below is boxed own = fault_shown seen seal items k m n (omega arith) is boxed own

sealed_box : (b : Bool) (seal n : ℕ) → (if b then Some seal else None) ≡ Some n → b ≡ true
sealed_box true seal n e = refl
sealed_box false seal n e = cc

boxed_item : {B : Type 0} (seen : B → Source) (seal : ℕ) (items : List (Mounted B)) (k : ℕ) (m : Mounted B) (n : ℕ) → k < length (rows_shown seen seal items) → m ≡ get_or items k m
    → IfSome (slice_get (rows_shown seen seal items) k) (λ (row : Row). row.seal ≡ Some n) → is_boxed m.cube ≡ true
boxed_item seen seal [] k m n below is has = absurd (omega arith)
boxed_item seen seal (x ∷ items) zero m n below is has = ap (λ (y : Mounted _). is_boxed y.cube) is ∙ sealed_box (is_boxed x.cube) seal n has
boxed_item seen seal (x ∷ items) (suc k) m n below is has = boxed_item seen seal items k m n (omega arith) is has

-- what a look at a box met is a fault at its row, once it has the seal and the place
pub fault_met : {B : Type 0} (seen : B → Source) (seal : ℕ) (items : List (Mounted B)) (k : ℕ) (m : Mounted B) (looked result : Result (Unit {0}) LookFail)
    → k < length (rows_shown seen seal items) → m ≡ get_or items k m → answer_of result ≡ answer_of looked
    → IfSome (fault_of result) (λ (f : ReadFault). f.place ≡ k) → IfSome (fault_of result) (λ (f : ReadFault). f.seal ≡ seal)
    → (IsErrOf (answer_of looked) Failed → is_boxed m.cube ≡ true) → IfSome (fault_of result) (IsFaultAt (rows_shown seen seal items) k)
fault_met seen seal items k m looked (Ok u) below is same place own boxed = tt
fault_met seen seal items k m looked (Err (look.Failed fault)) below is same place own boxed = record {
  place = place;
  seal = fault_shown seen seal items k m fault.seal below is (boxed (subst (λ (a : Result (Unit {0}) SourceFail). IsErrOf a Failed) same refl)) own;
}
fault_met seen seal items k m looked (Err (look.Damaged number)) below is same place own boxed = tt

-- where a fault was met at a row, a box stands
pub fault_boxed : {B : Type 0} (seen : B → Source) (seal : ℕ) (items : List (Mounted B)) (k : ℕ) (m : Mounted B) (fault : Option ReadFault)
    → k < length (rows_shown seen seal items) → m ≡ get_or items k m → IfSome fault (IsFaultAt (rows_shown seen seal items) k)
    → is_some fault ≡ true → is_boxed m.cube ≡ true
fault_boxed seen seal items k m None below is met some = absurd (false≢true some)
fault_boxed seen seal items k m (Some fault) below is met some = boxed_item seen seal items k m fault.seal below is met.seal

-- ---- another seal

resealed : (b : Bool) (old new : ℕ) → (if b then Some new else None) ≡ option_map (λ (s : ℕ). new) (if b then Some old else None)
resealed true old new = refl
resealed false old new = refl

row_resealed : {B : Type 0} (seen : B → Source) (old new : ℕ) (m : Mounted B) → row_shown seen new m ≡ row_sealed new (row_shown seen old m)
row_resealed seen old new m = ap (λ (s : Option ℕ). record (row_shown seen old m) { seal = s }) (resealed (is_boxed m.cube) old new)

rows_resealed : {B : Type 0} (seen : B → Source) (old new : ℕ) (items : List (Mounted B)) → rows_shown seen new items ≡ rows_sealed new (rows_shown seen old items)
rows_resealed seen old new [] = refl
rows_resealed seen old new (x ∷ items) =
    ap (λ (row : Row). row ∷ rows_shown seen new items) (row_resealed seen old new x)
    ∙ ap (λ (rest : List Row). row_sealed new (row_shown seen old x) ∷ rest) (rows_resealed seen old new items)

-- what detaching and replacing leave, under the seal afterwards
pub detached_sealed : {B : Type 0} (seen : B → Source) (old new : ℕ) (items after : List (Mounted B)) (id : List ℕ) (k : ℕ) → mounted_index items id ≡ Some k → all_differ (mounted_ids items) ≡ true
    → after ≡ remove items k → rows_shown seen new after ≡ rows_sealed new (rows_without (rows_shown seen old items) id)
detached_sealed seen old new items after id k e differ is =
    rows_resealed seen old new after ∙ ap (rows_sealed new) (ap (rows_shown seen old) is ∙ rows_detached seen old items id k e differ)

pub replaced_sealed : {B : Type 0} (seen : B → Source) (old new : ℕ) (items : List (Mounted B)) (id : List ℕ) (k : ℕ) (before after : Mounted B) (cube : B) → mounted_index items id ≡ Some k
    → all_differ (mounted_ids items) ≡ true → before ≡ get_or items k before → after.id ≡ before.id → after.cube ≡ Boxed cube
    → IfSome (slice_get items k) (λ (m : Mounted B). is_boxed m.cube ≡ true)
    → rows_shown seen new (set items k after) ≡ rows_sealed new (rows_replaced (rows_shown seen old items) id (seen cube))
replaced_sealed seen old new items id k before after cube e differ is same kept boxed =
    rows_resealed seen old new (set items k after)
    ∙ ap (rows_sealed new) (box_replaced seen old items id k before after cube e differ is same kept
    (of_item (λ (m : Mounted _). is_boxed m.cube ≡ true) items k before (index_within items id k e) is boxed))

-- ---- mounting

pub is_mounted_shown : {B : Type 0} (seen : B → Source) (seal : ℕ) (items : List (Mounted B)) (id : List ℕ) → is_mounted (rows_shown seen seal items) id ≡ is_some (mounted_index items id)
is_mounted_shown seen seal [] id = refl
is_mounted_shown seen seal (x ∷ items) id = elim (cases_Bool (same_name x.id id)) [
  | inl t ↦ rw t refl
  | inr f ↦ rw f (is_mounted_shown seen seal items id ∙ later_some (mounted_index items id))
]
  where
    later_some : (index : Option ℕ) → is_some index ≡ is_some (option_map (λ n. n + 1) index)
    later_some None = refl
    later_some (Some n) = refl

pub refused_taken : (rows : List Row) (id : List ℕ) → is_name id ≡ true → is_mounted rows id ≡ true → Some id_taken ≡ mount_refusal rows id
refused_taken rows id name taken = rw (name, taken) refl

pub refused_full : {B : Type 0} (seen : B → Source) (seal : ℕ) (items : List (Mounted B)) (id : List ℕ) → is_name id ≡ true → is_some (mounted_index items id) ≡ false → 64 ≤ length items
    → Some is_full ≡ mount_refusal (rows_shown seen seal items) id
refused_full seen seal items id name free full =
    let most : nat_le 64 (length (rows_shown seen seal items)) ≡ true = grind (arith, length-map items (row_shown seen seal), full) in
    let mounted : is_mounted (rows_shown seen seal items) id ≡ false = is_mounted_shown seen seal items id ∙ free in
    rw (name, mounted, most) refl

pub refused_nowhere : {B : Type 0} (seen : B → Source) (seal : ℕ) (items : List (Mounted B)) (id : List ℕ) → is_name id ≡ true → is_some (mounted_index items id) ≡ false → length items < 64
    → None ≡ mount_refusal (rows_shown seen seal items) id
refused_nowhere seen seal items id name free few =
    let most : nat_le 64 (length (rows_shown seen seal items)) ≡ false = grind (arith, length-map items (row_shown seen seal), few) in
    let mounted : is_mounted (rows_shown seen seal items) id ≡ false = is_mounted_shown seen seal items id ∙ free in
    rw (name, mounted, most) refl

pub not_found : (found : Option ℕ) → is_some found ≡ false → found ≡ None
not_found None e = refl
not_found (Some k) e = cc

-- what holds with and without a new item holds after a call that may have added it
pub after_push : {B E : Type 0} (P : List (Mounted B) → Type 0) (before after : List (Mounted B)) (m : Mounted B) (result : Result (Unit {0}) E)
    → OnOk result (after ≡ before ++ m ∷ []) → OnErr result (after ≡ before) → P (before ++ m ∷ []) → P before → P after
after_push P before after m (Ok u) added kept new old = subst P (sym added) new
after_push P before after m (Err e) added kept new old = subst P (sym kept) old
