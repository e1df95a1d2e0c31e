-- A rule of shapes that a mosaic breaks is one of the limits, since its labels are those of parts whose shapes are valid.
use Rattle.std.proofs.Common.{◌≡◌, ℕ, suc, ◌<◌, ◌||◌, ◌==◌, ◌&&◌, Bool, true, false, if◌then◌else◌, nat_le, List, [], ◌∷◌, length, is_some, MatchOption, Option, None, Some, refl, sym, ap, ◌∙◌, arith, inl, inr}
use Rattle.std.specs.List.{Contains, list_any, slice_get}
use Rattle.std.proofs.lemmas.List.{length-map}
use Rattle.oe_dims.specs.Dimensions.{Dimensions, IsShape, band_names, has_fitting_epsg, label_count, number_labels, shape_fault}
use Rattle.oe_dims.specs.Rules.{KeepsRule}
use Rattle.oe_dims.specs.declared.kind.Kind.{Kind}
use Rattle.oe_dims.specs.declared.kind.Kind.TheVariants.{Time, Bands, Y, X}
use Rattle.oe_dims.specs.declared.shape.ShapeFault.{ShapeFault}
use Rattle.oe_dims.specs.declared.shape.ShapeFault.TheVariants.{OrderWrong, OutOfRange, TooMany, EpsgWrong, TooManyCells}
use Rattle.oe_dims.proofs.RuleLemmas.{IsFirstFault-shape_fault, KeepsEveryRule-IsShape}
use Rattle.oe_mosaic.specs.MosaicStates.{PassesLimit}
use Rattle.oe_mosaic.specs.Mosaics.{Part, mosaic_shape, part_of, parts_of}
use Rattle.oe_mosaic.specs.Parts.{ArePartsOfOne}
use Rattle.oe_sources.specs.Source.{Source}
use Rattle.oe_mosaic.proofs.LawLemmas.{at_has, contains, counted, has, has_at, have_all_labels}

-- ---- labels

-- what is said of each label of each part is said of each label of the mosaic
of_each : {L : Type 0} (say : L → Type 0) (all : List L) (own : Part → List L) (parts : List Part)
    → ((x : L) → Contains all x → (part : Part) × Contains parts part × Contains (own part) x)
    → ((part : Part) → Contains parts part → (i : ℕ) (x : L) → slice_get (own part) i ≡ Some x → say x)
    → (i : ℕ) (x : L) → slice_get all i ≡ Some x → say x
of_each say all own parts where_ each i x e =
    let part = where_ x (contains all x (has_at all i x e)) in
    let at = at_has (own part.0) x (has (own part.0) x part.2) in
    each part.0 part.1 at.0 x at.1

in_range : (parts : List Part) → ((part : Part) → Contains parts part → IsShape part.shape) → (kind : Kind) → KeepsRule (mosaic_shape parts) (OutOfRange kind)
in_range parts valid Time =
    of_each _ (number_labels (mosaic_shape parts) Time) (λ part. number_labels part.shape Time) parts (λ x. ((have_all_labels parts valid).labels Time x).0)
    (λ part there. KeepsEveryRule-IsShape part.shape (valid part there) (OutOfRange Time))
in_range parts valid Bands =
    of_each _ (band_names (mosaic_shape parts)) (λ part. band_names part.shape) parts (λ x. ((have_all_labels parts valid).bands x).0)
    (λ part there. KeepsEveryRule-IsShape part.shape (valid part there) (OutOfRange Bands))
in_range parts valid Y =
    of_each _ (number_labels (mosaic_shape parts) Y) (λ part. number_labels part.shape Y) parts (λ x. ((have_all_labels parts valid).labels Y x).0)
    (λ part there. KeepsEveryRule-IsShape part.shape (valid part there) (OutOfRange Y))
in_range parts valid X =
    of_each _ (number_labels (mosaic_shape parts) X) (λ part. number_labels part.shape X) parts (λ x. ((have_all_labels parts valid).labels X x).0)
    (λ part there. KeepsEveryRule-IsShape part.shape (valid part there) (OutOfRange X))

-- ---- the reference system

any_same : (test : Part → Bool) (b : Bool) (first : Part) (parts : List Part) → ((part : Part) → Contains (first ∷ parts) part → test part ≡ b) → list_any test (first ∷ parts) ≡ b
any_same test true first parts h = rw (h first (0, omega arith, refl)) refl
any_same test false first [] h = rw (h first (0, omega arith, refl)) refl
any_same test false first (next ∷ parts) h =
    rw (h first (0, omega arith, refl)) (any_same test false next parts (λ part there. h part (suc there.0, omega (arith, there.1), there.2)))

fits_epsg : (y x : Bool) (epsg : ℕ) → Bool
fits_epsg y x epsg = if y || x then nat_le 1 epsg && nat_le epsg 999999 else epsg == 0

fitting_epsg : (parts : List Part) → ArePartsOfOne parts → 0 < length parts → has_fitting_epsg (mosaic_shape parts) ≡ true
unfolding fits_epsg
fitting_epsg [] h some = absurd (omega (arith, some))
fitting_epsg (first ∷ rest) h some =
    let parts = first ∷ rest in
    let d = mosaic_shape parts in
    let valid : (part : Part) → Contains parts part → IsShape part.shape = λ part there. (h.sound part there).valid in
    let in_ : Contains parts first = (0, omega arith, refl) in
    let y : is_some d.y ≡ is_some first.shape.y =
    sym (counted d.y) ∙ (have_all_labels parts valid).present Y
    ∙ any_same (λ part. is_some (label_count part.shape Y)) (is_some first.shape.y) first rest (λ part there. counted part.shape.y ∙ (h.alike part first there in_).y) in
    let x : is_some d.x ≡ is_some first.shape.x =
    sym (counted d.x) ∙ (have_all_labels parts valid).present X
    ∙ any_same (λ part. is_some (label_count part.shape X)) (is_some first.shape.x) first rest (λ part there. counted part.shape.x ∙ (h.alike part first there in_).x) in
    ap (λ b. fits_epsg b (is_some d.x) d.epsg) y ∙ ap (λ b. fits_epsg (is_some first.shape.y) b d.epsg) x
    ∙ KeepsEveryRule-IsShape first.shape (valid first in_) EpsgWrong

-- ---- what is left are the limits

pub limit_passed : (parts : List Part) (fault : ShapeFault) → ArePartsOfOne parts → 0 < length parts → ¬ KeepsRule (mosaic_shape parts) fault → PassesLimit (mosaic_shape parts)
limit_passed parts (OrderWrong kind) h some broken = absurd (broken ((have_all_labels parts (λ part there. (h.sound part there).valid)).in_order kind))
limit_passed parts (OutOfRange kind) h some broken = absurd (broken (in_range parts (λ part there. (h.sound part there).valid) kind))
limit_passed parts (TooMany kind) h some broken = inl (kind, broken)
limit_passed parts EpsgWrong h some broken = absurd (broken (fitting_epsg parts h some))
limit_passed parts TooManyCells h some broken = inr broken

-- ---- the same of dimensions that are no shape

breaks_rule : (d : Dimensions) → ¬ IsShape d → (fault : ShapeFault) × ¬ KeepsRule d fault
breaks_rule d no_shape = each (shape_fault d) refl
  where
    each : (o : Option ShapeFault) → shape_fault d ≡ o → (fault : ShapeFault) × ¬ KeepsRule d fault
    each None e = absurd (no_shape e)
    each (Some fault) e = (fault, (IsFirstFault-shape_fault d fault e).stands)

-- what holds where there is no value
pub when_none : {A : Type 0} {P : Type 0} (Q : A → Type 0) (o : Option A) → o ≡ None → MatchOption o P Q → P
when_none Q None e h = h
when_none Q (Some a) e h = cc

pub limits_passed : {S : Type 0} (seen : S → Source) (items : List S) → ArePartsOfOne (parts_of seen items) → 0 < length items → ¬ IsShape (mosaic_shape (parts_of seen items))
    → PassesLimit (mosaic_shape (parts_of seen items))
limits_passed seen items h some no_shape =
    let broken = breaks_rule (mosaic_shape (parts_of seen items)) no_shape in
    limit_passed (parts_of seen items) broken.0 h (omega (arith, some, length-map items (λ s. part_of (seen s)))) broken.1
