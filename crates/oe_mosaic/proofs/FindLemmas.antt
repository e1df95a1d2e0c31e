-- The part that decides, looked for part by part.
use Rattle.std.proofs.Common.{◌≡◌, ℕ, zero, suc, ◌+◌, ◌<◌, List, [], ◌∷◌, length, get_or, Option, Some, IfSome, sym, ap, ◌∙◌, subst, arith, inl, inr}
use Rattle.std.specs.List.{slice_get}
use Rattle.std.proofs.lemmas.Bool.{cases_lt}
use Rattle.std.proofs.lemmas.List.{length-map}
use Rattle.oe_dims.specs.Dimensions.{Dimensions}
use Rattle.oe_mosaic.specs.MosaicLaws.{HasAllLabels}
use Rattle.oe_mosaic.specs.Mosaics.{Part, part_of, parts_of}
use Rattle.oe_mosaic.specs.Places.{HasBox, HasNoTupleOf, HasNumbersOf}
use Rattle.oe_mosaic.specs.Readings.{AreApart, IsFoundIn}
use Rattle.oe_mosaic.proofs.LawLemmas.{contains, has_at}
use Rattle.oe_sources.specs.Source.{Source}
use Rattle.oe_window.specs.declared.window.Window.{Window}

pub part_at : {S : Type 0} (seen : S → Source) (items : List S) (k : ℕ) (item : S) → k < length items → item ≡ get_or items k item → slice_get (parts_of seen items) k ≡ Some (part_of (seen item))
part_at seen [] k item below is = absurd (omega (arith, below))
part_at seen (first ∷ items) zero item below is = ap (λ (s : _). Some (part_of (seen s))) (sym is)
part_at seen (first ∷ items) (suc k) item below is = part_at seen items k item (omega (arith, below)) is

pub none_apart : (parts : List Part) (d : Dimensions) (window : Window) → AreApart parts d window 0
none_apart parts d window k below = absurd (omega (arith, below))

pub apart_more : {S : Type 0} (seen : S → Source) (items : List S) (d : Dimensions) (window : Window) (k : ℕ) (item : S) → k < length items → item ≡ get_or items k item
    → AreApart (parts_of seen items) d window k → HasNoTupleOf d (seen item).shape window → AreApart (parts_of seen items) d window (k + 1)
apart_more seen items d window k item below is apart here j more = elim (cases_lt j k) [
  | inl earlier ↦ apart j earlier
  | inr past ↦
      let same : j ≡ k = omega (arith, more, past) in
      subst (λ (o : Option Part). IfSome o (λ (part : Part). HasNoTupleOf d part.shape window)) (sym (ap (slice_get (parts_of seen items)) same ∙ part_at seen items k item below is)) here
]

pub found_in : {S : Type 0} (seen : S → Source) (items : List S) (d : Dimensions) (window box : Window) (k : ℕ) (item : S) → k < length items → item ≡ get_or items k item
    → HasBox d (seen item).shape window box → IsFoundIn (parts_of seen items) d window k box
found_in seen items d window box k item below is has =
    subst (λ (o : Option Part). IfSome o (λ (part : Part). HasBox d part.shape window box)) (sym (part_at seen items k item below is)) has

pub all_apart : {S : Type 0} (seen : S → Source) (items : List S) (d : Dimensions) (window : Window) (n : ℕ) → n ≡ length items → AreApart (parts_of seen items) d window n
    → AreApart (parts_of seen items) d window (length (parts_of seen items))
all_apart seen items d window n is apart =
    subst (AreApart (parts_of seen items) d window) (is ∙ sym (length-map items (λ s. part_of (seen s)))) apart

pub place_within : {S : Type 0} (seen : S → Source) (items : List S) (k : ℕ) → k < length items → k < length (parts_of seen items)
place_within seen items k below = omega (arith, below, length-map items (λ s. part_of (seen s)))

-- dimensions that have all labels of the parts have those of each
pub numbers_of_part : {S : Type 0} (seen : S → Source) (items : List S) (d : Dimensions) (k : ℕ) (item : S) → k < length items → item ≡ get_or items k item
    → HasAllLabels (parts_of seen items) d → HasNumbersOf d (seen item).shape
numbers_of_part seen items d k item below is all kind label in_ =
    let part = part_of (seen item) in
    let there = contains (parts_of seen items) part (has_at (parts_of seen items) k part (part_at seen items k item below is)) in
    (all.labels kind label).1 (part, there, in_)
