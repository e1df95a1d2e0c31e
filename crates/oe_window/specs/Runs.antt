-- The row-major numbers of a window's positions, and runs of numbers.
use Rattle.std.specs.Prelude.{ℕ, ◌+◌, ◌<◌, ◌≤◌, List, [], ◌∷◌, map}
use Rattle.std.specs.List.{flat_map, range_with_len, slice_range}
use Rattle.oe_dims.specs.Dimensions.{Dimensions}
use Rattle.oe_dims.specs.Positions.{number_of}
use Rattle.oe_window.specs.Windows.{positions}
use Rattle.oe_window.specs.declared.window.Window.{Window}

-- the numbers of a window's positions, in their order
abbrev pub window_numbers : Dimensions → Window → List ℕ
window_numbers d window = map (number_of d) (positions window)

-- the numbers of runs, each a first number and a length, laid end to end
abbrev pub laid : List (ℕ × ℕ) → List ℕ
laid runs = flat_map (λ run. range_with_len run.0 run.1) runs

-- the parts of a cube's cells that runs take up, laid end to end
abbrev pub cells_of_runs : {C : Type 0} → List C → List (ℕ × ℕ) → List C
cells_of_runs cells runs = flat_map (λ run. slice_range cells run.0 (run.0 + run.1)) runs

-- no run is empty
abbrev pub AreFilled : List (ℕ × ℕ) → Type 0
AreFilled [] = Unit {0}
AreFilled (run ∷ runs) = (0 < run.1) × AreFilled runs

-- each run ends within so many numbers
abbrev pub EndWithin : ℕ → List (ℕ × ℕ) → Type 0
EndWithin end [] = Unit {0}
EndWithin end (run ∷ runs) = (run.0 + run.1 ≤ end) × EndWithin end runs

-- each run ends before a number that stands before the next run
abbrev pub AreApart : List (ℕ × ℕ) → Type 0
AreApart [] = Unit {0}
AreApart (run ∷ []) = Unit {0}
AreApart (run ∷ next ∷ runs) = (run.0 + run.1 < next.0) × AreApart (next ∷ runs)

-- each number is above the one before, so that none occurs twice
abbrev pub AreRising : List ℕ → Type 0
AreRising [] = Unit {0}
AreRising (number ∷ []) = Unit {0}
AreRising (number ∷ next ∷ numbers) = (number < next) × AreRising (next ∷ numbers)
