-- Positions, tuples of labels and row-major numbers correspond one to one, and a cube is what it is at each tuple.
use Rattle.std.proofs.Common.{◌≡◌, ◌↔◌, IsTrue, nat_eq, eq-eqb, ℕ, zero, suc, ◌+◌, ◌*◌, ◌/◌, ◌%◌, ◌<◌, Bool, true, List, [], ◌∷◌, length, map, get_or, refl, sym, ap, ◌∙◌, subst, arith, Option, Some, None, unwrap_or, ℤ, inl, inr}
use Rattle.std.specs.List.{slice_get, flat_map, Contains}
use Rattle.std.specs.Option.{option_map, option_and_then}
use Rattle.std.proofs.Math.Arith.{digits_div, digits_mod}
use Rattle.std.proofs.lemmas.Bool.{eqb-true, cases_lt}
use Rattle.std.proofs.lemmas.List.{length-map}
use Rattle.std.proofs.lemmas.List.Elements.{Contains-get_or}
use Rattle.std.proofs.lemmas.Option.{same_Some, slice_get-map, slice_get_within, slice_get_past, get_or_from_slice_get, slice_get-get_or, option_and_then_some}
use Rattle.oe_dims.specs.Names.{same_name}
use Rattle.oe_dims.specs.Dimensions.{Dimensions, IsShape, extent, cell_count}
use Rattle.oe_dims.specs.Indices.{same_number}
use Rattle.oe_dims.specs.Cube.{Tuple, IsLabelOf, IsTuple, Cube, choices, tuples, index_along, row_major, at, tabulate, IsCube, cell_or}
use Rattle.oe_dims.specs.Positions.{Position, IsPosition, label_of, tuple_of, number_of, IsNumberedBy, MatchOneToOne, AreTabulations}
use Rattle.oe_dims.proofs.FlatMapLemmas.{length-flat_map, slice_get-flat_map, from_part, below_product, value_inside, value_at, same_gets}
use Rattle.oe_dims.proofs.OrderLemmas.{same_name_is, same_name_refl}
use Rattle.oe_dims.proofs.IndexLemmas.{index_where_passes, same_number_refl, same_number_is}
use Rattle.oe_dims.proofs.ReaderLemmas.{IsUnrepeated, IsUnrepeated-rising, IsUnrepeated-falling, IsUnrepeated-names, found_there}
use Rattle.oe_dims.proofs.RuleLemmas.{IsRising-rises, IsFalling-falls}
use Rattle.oe_dims.proofs.ShapeLemmas.{t_rises, y_falls, x_rises, bands_differ}

-- ---- a dimension: its choices, and the index of a label among them

-- each label has the index at which it stands among the choices
abbrev HasIndices : {L : Type 0} → (L → L → Bool) → Option (List L) → Type 0
HasIndices {L} same labels = (p : ℕ) (l : Option L) → slice_get (choices labels) p ≡ Some l → index_along same labels l ≡ Some p

length-choices : {L : Type 0} (labels : Option (List L)) → length (choices labels) ≡ extent labels
length-choices None = refl
length-choices (Some labels) = length-map labels Some

some_inside : {L : Type 0} (o : Option L) (l : Option L) → option_map Some o ≡ Some l → (x : L) × (o ≡ Some x) × (l ≡ Some x)
some_inside None l e = cc
some_inside (Some x) l e = (x, refl, sym (same_Some (Some x) l e))

has_indices_none : {L : Type 0} (same : L → L → Bool) → HasIndices same None
has_indices_none same zero l e = let none : None ≡ l = same_Some None l e in rw (← none) refl
has_indices_none same (suc p) l e = cc

has_indices_some : {L : Type 0} (same : L → L → Bool) (itself : (a : L) → same a a ≡ true) (is : (a b : L) → same a b ≡ true → b ≡ a) (labels : List L) → IsUnrepeated labels → HasIndices same (Some labels)
has_indices_some same itself is labels alone p l e =
    let at_p = some_inside (slice_get labels p) l (sym (slice_get-map Some labels p) ∙ e) in
    rw at_p.2 (found_there same itself is labels alone at_p.0 p _ refl at_p.1)

-- what has an index is a choice
choice_at : {L : Type 0} (same : L → L → Bool) (is : (a b : L) → same a b ≡ true → b ≡ a) (labels : Option (List L)) (l : Option L) (p : ℕ) → index_along same labels l ≡ Some p → slice_get (choices labels) p ≡ Some l
choice_at same is None None p e = let zero_is : 0 ≡ p = same_Some 0 p e in rw (← zero_is) refl
choice_at same is None (Some l) p e = cc
choice_at same is (Some labels) None p e = cc
choice_at same is (Some labels) (Some l) p e =
    let found = index_where_passes (same l) labels p e in
    slice_get-map Some labels p ∙ ap (option_map Some) (found.1 ∙ ap Some (is l found.0 found.2))

numbers_have_indices : (labels : Option (List ℤ)) → ((list : List ℤ) → labels ≡ Some list → IsUnrepeated list) → HasIndices same_number labels
numbers_have_indices None h = has_indices_none same_number
numbers_have_indices (Some labels) h = has_indices_some same_number same_number_refl same_number_is labels (h labels refl)

names_have_indices : (labels : Option (List (List ℕ))) → ((list : List (List ℕ)) → labels ≡ Some list → IsUnrepeated list) → HasIndices same_name labels
names_have_indices None h = has_indices_none same_name
names_have_indices (Some labels) h = has_indices_some same_name same_name_refl same_name_is labels (h labels refl)

-- ---- tuples and row-major numbers

abbrev row_of : Dimensions → Option ℤ → Option (List ℕ) → Option ℤ → List Tuple
row_of d t band y = map (λ x. record { t = t; band = band; y = y; x = x }) (choices d.x)

abbrev rows_of : Dimensions → Option ℤ → Option (List ℕ) → List Tuple
rows_of d t band = flat_map (λ y. row_of d t band y) (choices d.y)

abbrev bands_of : Dimensions → Option ℤ → List Tuple
bands_of d t = flat_map (λ band. rows_of d t band) (choices d.bands)

length-row_of : (d : Dimensions) (t : Option ℤ) (band : Option (List ℕ)) (y : Option ℤ) → length (row_of d t band y) ≡ extent d.x
length-row_of d t band y = length-map (choices d.x) _ ∙ length-choices d.x

length-rows_of : (d : Dimensions) (t : Option ℤ) (band : Option (List ℕ)) → length (rows_of d t band) ≡ extent d.y * extent d.x
length-rows_of d t band =
    length-flat_map (λ y. row_of d t band y) (extent d.x) (length-row_of d t band) (choices d.y) ∙ ap (λ n. n * extent d.x) (length-choices d.y)

length-bands_of : (d : Dimensions) (t : Option ℤ) → length (bands_of d t) ≡ extent d.bands * (extent d.y * extent d.x)
length-bands_of d t =
    length-flat_map (λ band. rows_of d t band) (extent d.y * extent d.x) (length-rows_of d t) (choices d.bands) ∙ ap (λ n. n * (extent d.y * extent d.x)) (length-choices d.bands)

-- there are as many tuples as cells
pub length-tuples : (d : Dimensions) → length (tuples d) ≡ cell_count d
length-tuples d =
    length-flat_map (λ t. bands_of d t) (extent d.bands * (extent d.y * extent d.x)) (length-bands_of d) (choices d.t)
    ∙ ap (λ n. n * (extent d.bands * (extent d.y * extent d.x))) (length-choices d.t) ∙ omega arith

choice_within : {L : Type 0} (labels : Option (List L)) (i : ℕ) (l : Option L) → slice_get (choices labels) i ≡ Some l → i < extent labels
choice_within labels i l e = let long = length-choices labels in omega (arith, slice_get_within (choices labels) i l e)

-- at an index stands its label among the choices, and only its label
choice_of : {L : Type 0} (labels : Option (List L)) (i : ℕ) → i < extent labels → slice_get (choices labels) i ≡ Some (label_of labels i)
choice_of None i h = let first : i ≡ 0 = omega arith in rw first refl
choice_of (Some []) i h = absurd (omega arith)
choice_of (Some (l ∷ labels)) i h =
    let e = slice_get-get_or (l ∷ labels) i l h in
    slice_get-map Some (l ∷ labels) i ∙ ap (option_map Some) e ∙ ap Some (sym e)

label_there : {L : Type 0} (labels : Option (List L)) (i : ℕ) (l : Option L) → slice_get (choices labels) i ≡ Some l → label_of labels i ≡ l
label_there labels i l e = same_Some _ l (sym (choice_of labels i (choice_within labels i l e)) ∙ e)

-- at the number of a position stands its tuple
pub slice_get-tuples : (d : Dimensions) (p : Position) → IsPosition d p → slice_get (tuples d) (number_of d p) ≡ Some (tuple_of d p)
slice_get-tuples d p h =
    let nx = extent d.x in
    let ny = extent d.y in
    let nb = extent d.bands in
    let tuple = tuple_of d p in
    let hb : p.band < nb = h.band in
    let hy : p.y < ny = h.y in
    let hx : p.x < nx = h.x in
    let lx = below_product p.y ny p.x nx hy hx in
    let lb = below_product p.band nb (p.y * nx + p.x) (ny * nx) hb lx in
    let number : number_of d p ≡ p.t * (nb * (ny * nx)) + (p.band * (ny * nx) + (p.y * nx + p.x)) = omega arith in
    ap (slice_get (tuples d)) number
    ∙ slice_get-flat_map (λ l. bands_of d l) (nb * (ny * nx)) (length-bands_of d) (choices d.t) p.t (p.band * (ny * nx) + (p.y * nx + p.x)) tuple.t (choice_of d.t p.t h.t) lb
    ∙ slice_get-flat_map (λ l. rows_of d tuple.t l) (ny * nx) (length-rows_of d tuple.t) (choices d.bands) p.band (p.y * nx + p.x) tuple.band (choice_of d.bands p.band hb) lx
    ∙ slice_get-flat_map (λ l. row_of d tuple.t tuple.band l) nx (length-row_of d tuple.t tuple.band) (choices d.y) p.y p.x tuple.y (choice_of d.y p.y hy) hx
    ∙ slice_get-map _ (choices d.x) p.x ∙ ap (option_map (λ l. record { t = tuple.t; band = tuple.band; y = tuple.y; x = l })) (choice_of d.x p.x hx)

same_tuple : (t t' : Option ℤ) (b b' : Option (List ℕ)) (y y' x x' : Option ℤ) → t ≡ t' → b ≡ b' → y ≡ y' → x ≡ x' → ◌≡◌ {A = Tuple} (record { t = t; band = b; y = y; x = x }) (record { t = t'; band = b'; y = y'; x = x' })
same_tuple t t' b b' y y' x x' et eb ey ex = rw (et, eb, ey, ex) refl

same_position : (t t' b b' y y' x x' : ℕ) → t ≡ t' → b ≡ b' → y ≡ y' → x ≡ x' → ◌≡◌ {A = Position} (record { t = t; band = b; y = y; x = x }) (record { t = t'; band = b'; y = y'; x = x' })
same_position t t' b b' y y' x x' et eb ey ex = rw (et, eb, ey, ex) refl

-- the position at which a tuple of the dimensions stands
pub record StandsAt (d : Dimensions) (tuple : Tuple) (k : ℕ) : Type 0 where
  pub position : Position
  pub inside : IsPosition d position
  pub labels : tuple_of d position ≡ tuple
  pub number : number_of d position ≡ k

-- choices at four indices make a tuple that stands at that position
stands_at : (d : Dimensions) (tuple : Tuple) (p : Position) → slice_get (choices d.t) p.t ≡ Some tuple.t → slice_get (choices d.bands) p.band ≡ Some tuple.band → slice_get (choices d.y) p.y ≡ Some tuple.y → slice_get (choices d.x) p.x ≡ Some tuple.x → StandsAt d tuple (number_of d p)
stands_at d tuple p et eb ey ex = record {
  position = p;
  inside = record {
    t = choice_within d.t p.t tuple.t et;
    band = choice_within d.bands p.band tuple.band eb;
    y = choice_within d.y p.y tuple.y ey;
    x = choice_within d.x p.x tuple.x ex;
  };
  labels = same_tuple _ tuple.t _ tuple.band _ tuple.y _ tuple.x (label_there d.t p.t tuple.t et) (label_there d.bands p.band tuple.band eb) (label_there d.y p.y tuple.y ey) (label_there d.x p.x tuple.x ex);
  number = refl;
}

stands_at_parts : (d : Dimensions) (tuple : Tuple) (k : ℕ) (p : Position) (lt : Option ℤ) (lb : Option (List ℕ)) (ly lx : Option ℤ) → slice_get (choices d.t) p.t ≡ Some lt → slice_get (choices d.bands) p.band ≡ Some lb → slice_get (choices d.y) p.y ≡ Some ly → slice_get (choices d.x) p.x ≡ Some lx → ◌≡◌ {A = Tuple} (record { t = lt; band = lb; y = ly; x = lx }) tuple → number_of d p ≡ k → StandsAt d tuple k
stands_at_parts d tuple k p lt lb ly lx et eb ey ex same number =
    subst (λ n. StandsAt d tuple n) number
    (subst (λ v. StandsAt d v (number_of d p)) same (stands_at d (record { t = lt; band = lb; y = ly; x = lx }) p et eb ey ex))

pub position_of_tuple : (d : Dimensions) (tuple : Tuple) (k : ℕ) → slice_get (tuples d) k ≡ Some tuple → StandsAt d tuple k
position_of_tuple d tuple k e =
    let nx = extent d.x in
    let ny = extent d.y in
    let nb = extent d.bands in
    let t = from_part (λ l. bands_of d l) (nb * (ny * nx)) (length-bands_of d) (choices d.t) k tuple e in
    let b = from_part (λ l. rows_of d t.item l) (ny * nx) (length-rows_of d t.item) (choices d.bands) t.index tuple t.at_index in
    let y = from_part (λ l. row_of d t.item b.item l) nx (length-row_of d t.item b.item) (choices d.y) b.index tuple b.at_index in
    let make : Option ℤ → Tuple = λ l. record { t = t.item; band = b.item; y = y.item; x = l } in
    let x = value_at make (choices d.x) y.index tuple y.at_index in
    let kt = t.number in
    let kb = b.number in
    let ky = y.number in
    let p : Position = record { t = t.part; band = b.part; y = y.part; x = y.index } in
    let number : number_of d p ≡ k = omega arith in
    stands_at_parts d tuple k p t.item b.item y.item x.0 t.at_part b.at_part y.at_part x.1 x.2 number

-- labels that have indices give the tuple its number
row_major_at : (d : Dimensions) (tuple : Tuple) (p : Position) → index_along same_number d.t tuple.t ≡ Some p.t → index_along same_name d.bands tuple.band ≡ Some p.band → index_along same_number d.y tuple.y ≡ Some p.y → index_along same_number d.x tuple.x ≡ Some p.x → row_major d tuple ≡ Some (number_of d p)
row_major_at d tuple p et eb ey ex = rw (et, eb, ey, ex) refl

-- the labels of a position give its tuple the position's number
pub row_major-tuple_of : (d : Dimensions) (p : Position) → IsShape d → IsPosition d p → row_major d (tuple_of d p) ≡ Some (number_of d p)
row_major-tuple_of d p h inside =
    let t = numbers_have_indices d.t (λ list is. IsUnrepeated-rising list (IsRising-rises list (rw is at (t_rises d h)))) p.t _ (choice_of d.t p.t inside.t) in
    let b = names_have_indices d.bands (λ list is. IsUnrepeated-names list (rw is at (bands_differ d h))) p.band _ (choice_of d.bands p.band inside.band) in
    let y = numbers_have_indices d.y (λ list is. IsUnrepeated-falling list (IsFalling-falls list (rw is at (y_falls d h)))) p.y _ (choice_of d.y p.y inside.y) in
    let x = numbers_have_indices d.x (λ list is. IsUnrepeated-rising list (IsRising-rises list (rw is at (x_rises d h)))) p.x _ (choice_of d.x p.x inside.x) in
    row_major_at d (tuple_of d p) p t b y x

-- each tuple of a shape has the row-major number at which it stands among the tuples
pub row_major-tuple : (d : Dimensions) (k : ℕ) (tuple : Tuple) → IsShape d → slice_get (tuples d) k ≡ Some tuple → row_major d tuple ≡ Some k
row_major-tuple d k tuple h e =
    let s = position_of_tuple d tuple k e in
    ap (row_major d) (sym s.labels) ∙ row_major-tuple_of d s.position h s.inside ∙ ap Some s.number

-- and a tuple with a row-major number stands at that number among the tuples
pub tuple-row_major : (d : Dimensions) (k : ℕ) (tuple : Tuple) → row_major d tuple ≡ Some k → slice_get (tuples d) k ≡ Some tuple
tuple-row_major d k tuple e =
    option_and_then_some _ (index_along same_number d.t tuple.t) k e (λ t et et'.
    option_and_then_some _ (index_along same_name d.bands tuple.band) k et' (λ b eb eb'.
    option_and_then_some _ (index_along same_number d.y tuple.y) k eb' (λ y ey ey'.
    let x = value_inside _ (index_along same_number d.x tuple.x) k ey' in
    let p : Position = record { t = t; band = b; y = y; x = x.0 } in
    let stand : StandsAt d tuple (number_of d p) =
    stands_at d tuple p (choice_at same_number same_number_is d.t tuple.t t et) (choice_at same_name same_name_is d.bands tuple.band b eb) (choice_at same_number same_number_is d.y tuple.y y ey) (choice_at same_number same_number_is d.x tuple.x x.0 x.1)
    in
    ap (slice_get (tuples d)) (sym x.2 ∙ sym stand.number) ∙ slice_get-tuples d stand.position stand.inside ∙ ap Some stand.labels)))

-- a row-major number is below the count of cells, and each number below it is one
pub row_major_within : (d : Dimensions) (k : ℕ) (tuple : Tuple) → row_major d tuple ≡ Some k → k < cell_count d
row_major_within d k tuple e =
    let long = length-tuples d in omega (arith, slice_get_within (tuples d) k tuple (tuple-row_major d k tuple e))

pub tuple_at : (d : Dimensions) (k : ℕ) → k < cell_count d → (tuple : Tuple) × (slice_get (tuples d) k ≡ Some tuple)
tuple_at d k h =
    let none : Tuple = record { t = None; band = None; y = None; x = None } in
    let long = length-tuples d in
    (get_or (tuples d) k none, slice_get-get_or (tuples d) k none (omega arith))

-- ---- positions, one for each number

pub number_below : (d : Dimensions) (p : Position) → IsPosition d p → number_of d p < cell_count d
number_below d p h =
    let long = length-tuples d in
    omega (arith, slice_get_within (tuples d) (number_of d p) (tuple_of d p) (slice_get-tuples d p h))

pub position_there : (d : Dimensions) (k : ℕ) → k < cell_count d → (p : Position) × IsNumberedBy d k p
position_there d k h =
    let tuple = tuple_at d k h in
    let s = position_of_tuple d tuple.0 k tuple.1 in
    (s.position, record { inside = s.inside; number_is = s.number })

same_digits : (a b a' b' n : ℕ) → b < n → b' < n → a * n + b ≡ a' * n + b' → (a ≡ a') × (b ≡ b')
same_digits a b a' b' n h h' e = (
  sym (digits_div a h) ∙ ap (λ k. k / n) e ∙ digits_div a' h',
  sym (digits_mod a h) ∙ ap (λ k. k % n) e ∙ digits_mod a' h',
)

pub position_alone : (d : Dimensions) (p q : Position) → IsPosition d p → IsPosition d q → number_of d p ≡ number_of d q → p ≡ q
position_alone d p q hp hq e =
    let x = same_digits ((p.t * extent d.bands + p.band) * extent d.y + p.y) p.x ((q.t * extent d.bands + q.band) * extent d.y + q.y) q.x (extent d.x) hp.x hq.x e in
    let y = same_digits (p.t * extent d.bands + p.band) p.y (q.t * extent d.bands + q.band) q.y (extent d.y) hp.y hq.y x.0 in
    let b = same_digits p.t p.band q.t q.band (extent d.bands) hp.band hq.band y.0 in
    same_position p.t q.t p.band q.band p.y q.y p.x q.x b.0 b.1 y.1 x.1

-- ---- the tuples of the dimensions are those that have a label of each

label_is_of : {L : Type 0} (labels : Option (List L)) (i : ℕ) → i < extent labels → IsLabelOf labels (label_of labels i)
label_is_of None i h = tt
label_is_of (Some []) i h = absurd (omega arith)
label_is_of (Some (l ∷ labels)) i h =
    let e = slice_get-get_or (l ∷ labels) i l h in
    let there = Contains-get_or (l ∷ labels) i l h in
    subst (IsLabelOf (Some (l ∷ labels))) (sym e) there

index_of_label : {L : Type 0} (labels : Option (List L)) (l : Option L) → IsLabelOf labels l → (i : ℕ) × (i < extent labels) × (label_of labels i ≡ l)
index_of_label None None h = (0, omega arith, refl)
index_of_label None (Some l) h = absurd h
index_of_label (Some labels) None h = absurd h
index_of_label (Some labels) (Some l) h = (h.0, h.1, slice_get-get_or labels h.0 l h.1 ∙ ap Some h.2)

pub IsTuple-tuple_of : (d : Dimensions) (p : Position) → IsPosition d p → IsTuple d (tuple_of d p)
IsTuple-tuple_of d p h =
    record { t = label_is_of d.t p.t h.t; band = label_is_of d.bands p.band h.band; y = label_is_of d.y p.y h.y; x = label_is_of d.x p.x h.x }

-- the position whose labels a tuple has
pub position_with_labels : (d : Dimensions) (tuple : Tuple) → IsTuple d tuple → (p : Position) × IsPosition d p × (tuple_of d p ≡ tuple)
position_with_labels d tuple h =
    let t = index_of_label d.t tuple.t h.t in
    let b = index_of_label d.bands tuple.band h.band in
    let y = index_of_label d.y tuple.y h.y in
    let x = index_of_label d.x tuple.x h.x in (
      record { t = t.0; band = b.0; y = y.0; x = x.0 },
      record { t = t.1; band = b.1; y = y.1; x = x.1 },
      same_tuple _ tuple.t _ tuple.band _ tuple.y _ tuple.x t.2 b.2 y.2 x.2,
    )

pub IsTuple-from_get : (d : Dimensions) (k : ℕ) (tuple : Tuple) → slice_get (tuples d) k ≡ Some tuple → IsTuple d tuple
IsTuple-from_get d k tuple e =
    let s = position_of_tuple d tuple k e in
    subst (IsTuple d) s.labels (IsTuple-tuple_of d s.position s.inside)

pub tuples_are : (d : Dimensions) (tuple : Tuple) → Contains (tuples d) tuple ↔ IsTuple d tuple
tuples_are d tuple = (
  (λ there. IsTuple-from_get d there.0 tuple (slice_get-get_or (tuples d) there.0 tuple there.1 ∙ ap Some there.2)),
  (λ h.
      let p = position_with_labels d tuple h in
      let e = slice_get-tuples d p.0 p.1 ∙ ap Some p.2 in
      let within = slice_get_within (tuples d) (number_of d p.0) tuple e in
      (number_of d p.0, within, get_or_from_slice_get (tuples d) (number_of d p.0) tuple tuple e)),
)

pub MatchOneToOne-shape : (d : Dimensions) → IsShape d → MatchOneToOne d
MatchOneToOne-shape d h = record {
  number_below = number_below d;
  tuple_there = slice_get-tuples d;
  tuple_number = λ p inside. row_major-tuple_of d p h inside;
  position_there = position_there d;
  position_alone = position_alone d;
  tuples_are = tuples_are d;
}

-- ---- the two laws of cubes

-- the cell of a tuple of the shape is what the cube was made of there
pub at-tabulate : {C : Type 0} (d : Dimensions) (f : Tuple → C) (k : ℕ) (tuple : Tuple) → IsShape d → slice_get (tuples d) k ≡ Some tuple → at (tabulate d f) tuple ≡ Some (f tuple)
at-tabulate d f k tuple h e =
    ap (option_and_then (slice_get (map f (tuples d)))) (row_major-tuple d k tuple h e)
    ∙ slice_get-map f (tuples d) k ∙ ap (option_map f) e

pub IsCube-tabulate : {C : Type 0} (d : Dimensions) (f : Tuple → C) → IsCube (tabulate d f)
IsCube-tabulate d f = length-map (tuples d) f

at-tuple : {C : Type 0} (cube : Cube C) (k : ℕ) (tuple : Tuple) → IsShape cube.shape → slice_get (tuples cube.shape) k ≡ Some tuple → at cube tuple ≡ slice_get cube.cells k
at-tuple cube k tuple h e = ap (option_and_then (slice_get cube.cells)) (row_major-tuple cube.shape k tuple h e)

-- two cubes of one shape with the same cell at each tuple are one
pub same_cubes : {C : Type 0} (d : Dimensions) (a b : List C) → IsShape d → IsCube (record { shape = d; cells = a }) → IsCube (record { shape = d; cells = b }) → ((k : ℕ) (tuple : Tuple) → slice_get (tuples d) k ≡ Some tuple → at (record { shape = d; cells = a }) tuple ≡ at (record { shape = d; cells = b }) tuple) → a ≡ b
same_cubes {C} d a b h whole_a whole_b agree =
    let cube : List C → Cube C = λ cells. record { shape = d; cells = cells } in
    same_gets a b (λ k. elim (cases_lt k (length (tuples d))) [
      | inl lt ↦ let none : Tuple = record { t = None; band = None; y = None; x = None } in
          let tuple = get_or (tuples d) k none in
          let e = slice_get-get_or (tuples d) k none lt in
          sym (at-tuple (cube a) k tuple h e) ∙ agree k tuple e ∙ at-tuple (cube b) k tuple h e
      | inr ge ↦ slice_get_past a k (omega arith) ∙ sym (slice_get_past b k (omega arith))
    ])

-- ---- the laws of cubes, said of tuples

get_tuple : (d : Dimensions) (tuple : Tuple) → IsTuple d tuple → (k : ℕ) × (slice_get (tuples d) k ≡ Some tuple)
get_tuple d tuple h =
    let p = position_with_labels d tuple h in
    (number_of d p.0, slice_get-tuples d p.0 p.1 ∙ ap Some p.2)

pub at-tabulate_IsTuple : {C : Type 0} (d : Dimensions) (f : Tuple → C) (tuple : Tuple) → IsShape d → IsTuple d tuple → at (tabulate d f) tuple ≡ Some (f tuple)
at-tabulate_IsTuple d f tuple shape h =
    let k = get_tuple d tuple h in at-tabulate d f k.0 tuple shape k.1

-- at the number of a position stands the cell of its tuple
pub at-tuple_of : {C : Type 0} (cube : Cube C) (p : Position) → IsShape cube.shape → IsPosition cube.shape p → at cube (tuple_of cube.shape p) ≡ slice_get cube.cells (number_of cube.shape p)
at-tuple_of cube p shape h =
    at-tuple cube (number_of cube.shape p) (tuple_of cube.shape p) shape (slice_get-tuples cube.shape p h)

-- a cube is the tabulation of its own cells
own_cell : {C : Type 0} (cube : Cube C) (other : C) (k : ℕ) → IsShape cube.shape → IsCube cube → slice_get (map (cell_or cube other) (tuples cube.shape)) k ≡ slice_get cube.cells k
own_cell cube other k shape whole =
    let d = cube.shape in
    let none : Tuple = record { t = None; band = None; y = None; x = None } in
    elim (cases_lt k (length (tuples d))) [
      | inl lt ↦ let tuple = get_or (tuples d) k none in
          let e = slice_get-get_or (tuples d) k none lt in
          let cell = slice_get-get_or cube.cells k other (omega arith) in
          slice_get-map (cell_or cube other) (tuples d) k
          ∙ ap (option_map (cell_or cube other)) e
          ∙ ap (λ c. Some (unwrap_or c other)) (at-tuple cube k tuple shape e ∙ cell)
          ∙ sym cell
      | inr ge ↦ let long = length-map (tuples d) (cell_or cube other) in
          slice_get_past _ k (omega arith) ∙ sym (slice_get_past cube.cells k (omega arith))
    ]

pub tabulate-cell_or : {C : Type 0} (cube : Cube C) (other : C) → IsShape cube.shape → IsCube cube → tabulate cube.shape (cell_or cube other) ≡ cube
tabulate-cell_or cube other shape whole =
    let same = same_gets _ cube.cells (λ k. own_cell cube other k shape whole) in
    ap (λ cells. record { shape = cube.shape; cells = cells }) same

-- and two cubes of one shape that agree at each tuple are one
pub same_cubes_by_tuples : {C : Type 0} (d : Dimensions) (a b : List C) → IsShape d → IsCube (record { shape = d; cells = a }) → IsCube (record { shape = d; cells = b }) → ((tuple : Tuple) → IsTuple d tuple → at (record { shape = d; cells = a }) tuple ≡ at (record { shape = d; cells = b }) tuple) → a ≡ b
same_cubes_by_tuples d a b shape whole_a whole_b agree =
    same_cubes d a b shape whole_a whole_b (λ k tuple e. agree tuple (IsTuple-from_get d k tuple e))

same_shapes : {C : Type 0} (d : Dimensions) (a b : Cube C) → IsShape d → a.shape ≡ d → b.shape ≡ d → IsCube a → IsCube b → ((tuple : Tuple) → IsTuple d tuple → at a tuple ≡ at b tuple) → a ≡ b
same_shapes {C} d a b shape ea eb whole_a whole_b agree =
    let cube : List C → Cube C = λ cells. record { shape = d; cells = cells } in
    let here : a ≡ cube a.cells = ap (λ s. record { shape = s; cells = a.cells }) ea in
    let there : b ≡ cube b.cells = ap (λ s. record { shape = s; cells = b.cells }) eb in
    let cells = same_cubes_by_tuples d a.cells b.cells shape (subst IsCube here whole_a) (subst IsCube there whole_b) (λ tuple h. ap (λ c. at c tuple) (sym here) ∙ agree tuple h ∙ ap (λ c. at c tuple) there) in
    here ∙ ap cube cells ∙ sym there

of_shape : {C : Type 0} (d : Dimensions) (P : Cube C → Dimensions → Type 0) (cube : Cube C) → cube.shape ≡ d → P cube cube.shape → P cube d
of_shape d P cube e h = subst (P cube) e h

pub AreTabulations-shape : (C : Type 0) (d : Dimensions) → IsShape d → AreTabulations C d
AreTabulations-shape C d shape = record {
  cell_made = λ f tuple h. at-tabulate_IsTuple d f tuple shape h;
  own_cells = λ cube other e whole. of_shape d (λ c v. tabulate v (cell_or c other) ≡ c) cube e (tabulate-cell_or cube other (subst IsShape (sym e) shape) whole);
  same_cube = λ a b ea eb whole_a whole_b agree. same_shapes d a b shape ea eb whole_a whole_b agree;
  cell_there = λ cube p e. of_shape d (λ c v. IsPosition v p → at c (tuple_of v p) ≡ slice_get c.cells (number_of v p)) cube e (λ h. at-tuple_of cube p (subst IsShape (sym e) shape) h);
}

-- so many cells as the shape counts are those of a cube
pub IsCube-counted : {C : Type 0} (d : Dimensions) (cells : List C) (count : ℕ) → count ≡ cell_count d → IsTrue (nat_eq count (length cells)) ↔ IsCube (record { shape = d; cells = cells })
IsCube-counted d cells count e =
    let long = length-tuples d in (
      (λ t. let same = eqb-true count (length cells) t in omega arith),
      (λ whole. eq-eqb count (length cells) (omega arith)),
    )
