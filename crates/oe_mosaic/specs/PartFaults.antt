-- The fault counters of several parts, over some calls.
use Rattle.std.specs.Prelude.{◌≡◌, ℕ, true, List, [], ◌∷◌, slice_get, Some, ◌⊎◌}
use Rattle.oe_mosaic.specs.Parts.{put_at}
use Rattle.oe_outside.specs.Faults.{NeverFalls, Rose}
use Rattle.oe_sources.specs.Source.{CountsRead, Source}

-- one of the counters rose, each beside what it was
abbrev pub SomeRose : List ℕ → List ℕ → Type 0
SomeRose [] after = ⊥
SomeRose (count ∷ before) [] = ⊥
SomeRose (count ∷ before) (then ∷ after) = Rose count then ⊎ SomeRose before after

-- none of them fell, and there are as many
abbrev pub NoneFalls : List ℕ → List ℕ → Type 0
NoneFalls [] [] = Unit {0}
NoneFalls [] (then ∷ after) = ⊥
NoneFalls (count ∷ before) [] = ⊥
NoneFalls (count ∷ before) (then ∷ after) = NeverFalls count then × NoneFalls before after

-- One part counted a fault, and no cells. It stays in its place, and each other part is as it was.
pub record OnePartCounts {S : Type 0} (seen : S → Source) (before after : List S) : Type 0 where
  pub place : ℕ
  pub part : S
  pub counted : S
  pub there : slice_get before place ≡ Some part
  pub counts : CountsRead (seen part) 0 true (seen counted)
  pub others : after ≡ put_at place counted before
