-- Parts that may stand in one mosaic, and what pushing, replacing and removing one keeps.
use Rattle.std.proofs.Common.{◌≡◌, ℕ, zero, suc, ◌+◌, ◌<◌, ◌≤◌, ◌⊎◌, ◌==◌, ◌&&◌, Bool, true, false, List, [], ◌∷◌, ◌++◌, length, length-append, take, drop, get_or, is_some, Option, Some, None, OnErr, OnOk, Result, Ok, Err, refl, sym, ap, ◌∙◌, subst, arith, inl, inr, not, nat_le}
use Rattle.std.specs.List.{Contains, list_all, slice_get}
use Rattle.std.specs.Option.{option_map}
use Rattle.std.proofs.lemmas.Bool.Decides.{nat_tests}
use Rattle.std.proofs.lemmas.Bool.{and_parts}
use Rattle.std.proofs.lemmas.List.{length-drop, length-map, length-take, map-append}
use Rattle.std.proofs.lemmas.List.Elements.{Contains-append_cases, Contains-append_left, Contains-append_right, Contains-push_cases}
use Rattle.oe_dims.specs.Dimensions.{label_count}
use Rattle.oe_dims.specs.declared.kind.CellKind.{CellKind}
use Rattle.oe_dims.specs.declared.kind.CellKind.TheVariants.{Numbers, Flags}
use Rattle.oe_dims.specs.declared.kind.Kind.TheVariants.{Time, Bands, Y, X}
use Rattle.oe_mosaic.specs.Mosaics.{Part, part_of, parts_of}
use Rattle.oe_mosaic.specs.Parts.{ArePartsOfOne, IsAlike, IsSound, fits_dimensions, fits_kind, is_alike, may_replace, put_at, same_dimensions, same_kind, same_presence, without}
use Rattle.oe_sources.specs.Source.{Source}

-- ---- alike

same_kind_is : (a b : CellKind) → same_kind a b ≡ true → a ≡ b
same_kind_is Numbers Numbers h = refl
same_kind_is Flags Flags h = refl
same_kind_is Numbers Flags h = cc
same_kind_is Flags Numbers h = cc

presence_is : {L M : Type 0} (a : Option (List L)) (b : Option (List M)) → same_presence (option_map length a) (option_map length b) ≡ true → is_some a ≡ is_some b
presence_is (Some l) (Some m) h = refl
presence_is None None h = refl
presence_is (Some l) None h = cc
presence_is None (Some m) h = cc

number_is : (m n : ℕ) → (m == n) ≡ true → m ≡ n
number_is m n h = grind (arith, nat_tests, h)

pub alike_from : (a b : Part) → same_kind a.kind b.kind ≡ true → same_dimensions a.shape b.shape ≡ true → IsAlike a b
alike_from a b kind dims =
    let e = a.shape.epsg == b.shape.epsg in
    let t = same_presence (label_count a.shape Time) (label_count b.shape Time) in
    let l = same_presence (label_count a.shape Bands) (label_count b.shape Bands) in
    let y = same_presence (label_count a.shape Y) (label_count b.shape Y) in
    let x = same_presence (label_count a.shape X) (label_count b.shape X) in
    let p1 = and_parts (e && t && l && y) x dims in
    let p2 = and_parts (e && t && l) y p1.0 in
    let p3 = and_parts (e && t) l p2.0 in
    let p4 = and_parts e t p3.0 in
    record {
      kind = same_kind_is a.kind b.kind kind;
      epsg = number_is a.shape.epsg b.shape.epsg p4.0;
      t = presence_is a.shape.t b.shape.t p4.1;
      bands = presence_is a.shape.bands b.shape.bands p3.1;
      y = presence_is a.shape.y b.shape.y p2.1;
      x = presence_is a.shape.x b.shape.x p1.1;
    }

alike_refl : (a : Part) → IsAlike a a
alike_refl a = record { kind = refl; epsg = refl; t = refl; bands = refl; y = refl; x = refl }

alike_sym : (a b : Part) → IsAlike a b → IsAlike b a
alike_sym a b h = record { kind = sym h.kind; epsg = sym h.epsg; t = sym h.t; bands = sym h.bands; y = sym h.y; x = sym h.x }

alike_trans : (a b c : Part) → IsAlike a b → IsAlike b c → IsAlike a c
alike_trans a b c h k = record { kind = h.kind ∙ k.kind; epsg = h.epsg ∙ k.epsg; t = h.t ∙ k.t; bands = h.bands ∙ k.bands; y = h.y ∙ k.y; x = h.x ∙ k.x }

first_in : (part : Part) (parts : List Part) → Contains (part ∷ parts) part
first_in part parts = (0, omega arith, refl)

-- ---- none

pub no_parts : ArePartsOfOne []
no_parts = record {
  few = omega arith;
  alike = λ a b in_a in_b. absurd (omega (arith, in_a.1));
  sound = λ part in_. absurd (omega (arith, in_.1));
}

-- ---- a part more

fits_each : (parts : List Part) (part a : Part) → ArePartsOfOne parts → fits_kind parts part ≡ true → fits_dimensions parts part ≡ true → Contains parts a → IsAlike a part
fits_each [] part a h kind dims in_ = absurd (omega (arith, in_.1))
fits_each (first ∷ parts) part a h kind dims in_ =
    alike_trans a first part (h.alike a first in_ (first_in first parts)) (alike_from first part kind dims)

pub one_more : (parts : List Part) (part : Part) → ArePartsOfOne parts → fits_kind parts part ≡ true → fits_dimensions parts part ≡ true
    → length parts < 16 → IsSound part → ArePartsOfOne (parts ++ part ∷ [])
one_more parts part h kind dims few sound = record {
  few = omega (arith, length-append parts (part ∷ []), few);
  alike = λ a b in_a in_b. elim (Contains-push_cases parts part a in_a) [
    | inl old_a ↦ elim (Contains-push_cases parts part b in_b) [
      | inl old_b ↦ h.alike a b old_a old_b
      | inr new_b ↦ subst (λ (p : Part). IsAlike a p) new_b (fits_each parts part a h kind dims old_a)
    ]
    | inr new_a ↦ elim (Contains-push_cases parts part b in_b) [
      | inl old_b ↦ subst (λ (p : Part). IsAlike p b) new_a (alike_sym b part (fits_each parts part b h kind dims old_b))
      | inr new_b ↦ subst (λ (p : Part). IsAlike p b) new_a (subst (λ (p : Part). IsAlike part p) new_b (alike_refl part))
    ]
  ];
  sound = λ p in_. elim (Contains-push_cases parts part p in_) [
    | inl old ↦ h.sound p old
    | inr new ↦ subst IsSound new sound
  ];
}

pub parts_push : {S : Type 0} (seen : S → Source) (items : List S) (item : S) → parts_of seen (items ++ item ∷ []) ≡ parts_of seen items ++ part_of (seen item) ∷ []
parts_push seen items item = map-append (λ s. part_of (seen s)) items (item ∷ [])

pub pushed : {S : Type 0} (seen : S → Source) (items after : List S) (item : S) → after ≡ items ++ item ∷ [] → ArePartsOfOne (parts_of seen items)
    → fits_kind (parts_of seen items) (part_of (seen item)) ≡ true → fits_dimensions (parts_of seen items) (part_of (seen item)) ≡ true
    → length items < 16 → IsSound (part_of (seen item)) → ArePartsOfOne (parts_of seen after)
pushed seen items after item is h kind dims few sound =
    let long = length-map items (λ s. part_of (seen s)) in
    subst ArePartsOfOne (sym (ap (parts_of seen) is ∙ parts_push seen items item))
    (one_more (parts_of seen items) (part_of (seen item)) h kind dims (omega (arith, few, long)) sound)

-- ---- a part less

in_take : {X : Type 0} (xs : List X) (n : ℕ) (x : X) → Contains (take n xs) x → Contains xs x
in_take xs zero x in_ = absurd (omega (arith, in_.1))
in_take [] (suc n) x in_ = in_
in_take (y ∷ xs) (suc n) x (zero, below, here) = (0, omega arith, here)
in_take (y ∷ xs) (suc n) x (suc k, below, here) =
    let rest = in_take xs n x (k, omega (arith, below), here) in
    (suc rest.0, omega (arith, rest.1), rest.2)

in_drop : {X : Type 0} (xs : List X) (n : ℕ) (x : X) → Contains (drop n xs) x → Contains xs x
in_drop xs zero x in_ = in_
in_drop [] (suc n) x in_ = in_
in_drop (y ∷ xs) (suc n) x in_ =
    let rest = in_drop xs n x in_ in
    (suc rest.0, omega (arith, rest.1), rest.2)

in_without : (parts : List Part) (place : ℕ) (part : Part) → Contains (without place parts) part → Contains parts part
in_without parts place part in_ = elim (Contains-append_cases (take place parts) (drop (suc place) parts) part in_) [
  | inl front ↦ in_take parts place part front
  | inr back ↦ in_drop parts (suc place) part back
]

pub one_less : (parts : List Part) (place : ℕ) → ArePartsOfOne parts → ArePartsOfOne (without place parts)
one_less parts place h = record {
  few = omega (arith, length-append (take place parts) (drop (suc place) parts), length-take place parts, length-drop (suc place) parts, h.few);
  alike = λ a b in_a in_b. h.alike a b (in_without parts place a in_a) (in_without parts place b in_b);
  sound = λ part in_. h.sound part (in_without parts place part in_);
}

parts_take : {S : Type 0} (seen : S → Source) (items : List S) (n : ℕ) → take n (parts_of seen items) ≡ parts_of seen (take n items)
parts_take seen items zero = refl
parts_take seen [] (suc n) = refl
parts_take seen (item ∷ items) (suc n) = ap (λ ps. part_of (seen item) ∷ ps) (parts_take seen items n)

parts_drop : {S : Type 0} (seen : S → Source) (items : List S) (n : ℕ) → drop n (parts_of seen items) ≡ parts_of seen (drop n items)
parts_drop seen items zero = refl
parts_drop seen [] (suc n) = refl
parts_drop seen (item ∷ items) (suc n) = parts_drop seen items n

pub removed : {S : Type 0} (seen : S → Source) (items after : List S) (place : ℕ) → after ≡ without place items → ArePartsOfOne (parts_of seen items) → ArePartsOfOne (parts_of seen after)
removed seen items after place is h =
    let same : without place (parts_of seen items) ≡ parts_of seen (without place items) =
    ap (λ ps. ps ++ drop (suc place) (parts_of seen items)) (parts_take seen items place)
    ∙ ap (λ ps. parts_of seen (take place items) ++ ps) (parts_drop seen items (suc place))
    ∙ sym (map-append (λ s. part_of (seen s)) (take place items) (drop (suc place) items)) in
    subst ArePartsOfOne (same ∙ ap (parts_of seen) (sym is)) (one_less (parts_of seen items) place h)

-- ---- another part in a place

passes : (test : Part → Bool) (parts : List Part) (part : Part) → list_all test parts ≡ true → Contains parts part → test part ≡ true
passes test [] part all in_ = absurd (omega (arith, in_.1))
passes test (first ∷ parts) part all (zero, below, here) = ap test (sym here) ∙ (and_parts (test first) (list_all test parts) all).0
passes test (first ∷ parts) part all (suc k, below, here) =
    passes test parts part (and_parts (test first) (list_all test parts) all).1 (k, omega (arith, below), here)

alike_passed : (a b : Part) → is_alike a b ≡ true → IsAlike a b
alike_passed a b h =
    let parts = and_parts (same_kind a.kind b.kind) (same_dimensions a.shape b.shape) h in
    alike_from a b parts.0 parts.1

put_cases : (parts : List Part) (place : ℕ) (part a : Part) → Contains (put_at place part parts) a → Contains (without place parts) a ⊎ (part ≡ a)
put_cases parts place part a in_ = elim (Contains-append_cases (take place parts) (part ∷ drop (suc place) parts) a in_) [
  | inl front ↦ inl (Contains-append_left (take place parts) (drop (suc place) parts) a front)
  | inr back ↦ behind back
]
  where
    behind : Contains (part ∷ drop (suc place) parts) a → Contains (without place parts) a ⊎ (part ≡ a)
    behind (zero, below, here) = inr here
    behind (suc k, below, here) = inl (Contains-append_right (take place parts) (drop (suc place) parts) a (k, omega (arith, below), here))

pub one_put : (parts : List Part) (place : ℕ) (part : Part) → ArePartsOfOne parts → may_replace parts place part ≡ true → IsSound part → ArePartsOfOne (put_at place part parts)
one_put parts place part h may sound =
    let front = list_all (is_alike part) (take place parts) in
    let back = list_all (is_alike part) (drop (suc place) parts) in
    let one = and_parts (not (nat_le (length parts) place) && front) back may in
    let two = and_parts (not (nat_le (length parts) place)) front one.0 in
    let below : place < length parts = grind (arith, nat_tests, two.0) in
    let each : (a : Part) → Contains (without place parts) a → IsAlike part a = λ a in_. elim (Contains-append_cases (take place parts) (drop (suc place) parts) a in_) [
      | inl there ↦ alike_passed part a (passes (is_alike part) (take place parts) a two.1 there)
      | inr there ↦ alike_passed part a (passes (is_alike part) (drop (suc place) parts) a one.1 there)
    ] in
    record {
      few = omega (arith, length-append (take place parts) (part ∷ drop (suc place) parts), length-take place parts, length-drop (suc place) parts, h.few, below);
      alike = λ a b in_a in_b. elim (put_cases parts place part a in_a) [
        | inl old_a ↦ elim (put_cases parts place part b in_b) [
          | inl old_b ↦ h.alike a b (in_without parts place a old_a) (in_without parts place b old_b)
          | inr new_b ↦ subst (λ (p : Part). IsAlike a p) new_b (alike_sym part a (each a old_a))
        ]
        | inr new_a ↦ elim (put_cases parts place part b in_b) [
          | inl old_b ↦ subst (λ (p : Part). IsAlike p b) new_a (each b old_b)
          | inr new_b ↦ subst (λ (p : Part). IsAlike p b) new_a (subst (λ (p : Part). IsAlike part p) new_b (alike_refl part))
        ]
      ];
      sound = λ p in_. elim (put_cases parts place part p in_) [
        | inl old ↦ h.sound p (in_without parts place p old)
        | inr new ↦ subst IsSound new sound
      ];
    }

pub replaced : {S : Type 0} (seen : S → Source) (items after : List S) (place : ℕ) (item : S) → after ≡ put_at place item items
    → ArePartsOfOne (parts_of seen items) → may_replace (parts_of seen items) place (part_of (seen item)) ≡ true → IsSound (part_of (seen item))
    → ArePartsOfOne (parts_of seen after)
replaced seen items after place item is h may sound =
    let same : put_at place (part_of (seen item)) (parts_of seen items) ≡ parts_of seen (put_at place item items) =
    ap (λ ps. ps ++ part_of (seen item) ∷ drop (suc place) (parts_of seen items)) (parts_take seen items place)
    ∙ ap (λ ps. parts_of seen (take place items) ++ part_of (seen item) ∷ ps) (parts_drop seen items (suc place))
    ∙ sym (map-append (λ s. part_of (seen s)) (take place items) (item ∷ drop (suc place) items)) in
    subst ArePartsOfOne (same ∙ ap (parts_of seen) (sym is)) (one_put (parts_of seen items) place (part_of (seen item)) h may sound)

-- ---- whether a part may stand in the place of another

pub may_not : {S : Type 0} (seen : S → Source) (items : List S) (place : ℕ) (part : Part) → length items ≤ place → false ≡ may_replace (parts_of seen items) place part
may_not seen items place part past =
    let long = length-map items (λ s. part_of (seen s)) in
    let no_place : not (nat_le (length (parts_of seen items)) place) ≡ false = grind (arith, nat_tests, long, past) in
    ap (λ (b : Bool). b && list_all (is_alike part) (take place (parts_of seen items)) && list_all (is_alike part) (drop (suc place) (parts_of seen items))) (sym no_place)

pub may_is : {S : Type 0} (seen : S → Source) (items front back : List S) (place : ℕ) (part : Part) (a b : Bool) → place < length items
    → front ≡ take place items → back ≡ drop (place + 1) items
    → a ≡ list_all (is_alike part) (parts_of seen front) → b ≡ list_all (is_alike part) (parts_of seen back)
    → (a && b) ≡ may_replace (parts_of seen items) place part
may_is seen items front back place part a b below is_front is_back all_front all_back =
    let long = length-map items (λ s. part_of (seen s)) in
    let there : not (nat_le (length (parts_of seen items)) place) ≡ true = grind (arith, nat_tests, long, below) in
    let first : a ≡ list_all (is_alike part) (take place (parts_of seen items)) =
    all_front ∙ ap (λ (l : List _). list_all (is_alike part) (parts_of seen l)) is_front ∙ ap (list_all (is_alike part)) (sym (parts_take seen items place)) in
    let next : place + 1 ≡ suc place = omega arith in
    let second : b ≡ list_all (is_alike part) (drop (suc place) (parts_of seen items)) =
    all_back ∙ ap (λ (l : List _). list_all (is_alike part) (parts_of seen l)) (is_back ∙ ap (λ (n : ℕ). drop n items) next) ∙ ap (list_all (is_alike part)) (sym (parts_drop seen items (suc place))) in
    ap (λ (l : Bool). l && b) first ∙ ap (λ (r : Bool). list_all (is_alike part) (take place (parts_of seen items)) && r) second
    ∙ ap (λ (t : Bool). t && list_all (is_alike part) (take place (parts_of seen items)) && list_all (is_alike part) (drop (suc place) (parts_of seen items))) (sym there)

pub get_there : {S : Type 0} (items : List S) (place : ℕ) (d : S) → place < length items → slice_get items place ≡ Some (get_or items place d)
get_there [] place d below = absurd (omega (arith, below))
get_there (item ∷ items) zero d below = refl
get_there (item ∷ items) (suc place) d below = get_there items place d (omega (arith, below))

-- whether the part was pushed or not
pub pushed_or_not : {S E : Type 0} (seen : S → Source) (items after : List S) (item : S) (result : Result (Unit {0}) E) → OnOk result (after ≡ items ++ item ∷ []) → OnErr result (after ≡ items)
    → ArePartsOfOne (parts_of seen items) → fits_kind (parts_of seen items) (part_of (seen item)) ≡ true → fits_dimensions (parts_of seen items) (part_of (seen item)) ≡ true
    → length items < 16 → IsSound (part_of (seen item)) → ArePartsOfOne (parts_of seen after)
pushed_or_not seen items after item (Ok done) added kept h kind dims few sound = pushed seen items after item added h kind dims few sound
pushed_or_not seen items after item (Err e) added kept h kind dims few sound = subst ArePartsOfOne (sym (ap (parts_of seen) kept)) h
