-- For private functions. Slots that are held and slots that are free.
use Rattle.std.specs.Prelude.{◌≡◌, ◌≢◌, ◌<◌, ◌+◌, ◌==◌, ℕ, Bool, true, false, List, length, slice_index, slice_index_or, count_by}
use Rattle.std.specs.List.{list_any}

-- the steps that hold a slot hold one each, the other slots are free, and there are no more
pub record IsPool (held : List Bool) (slots free : List ℕ) (count : ℕ) : Type 0 where
  pub each : length slots ≡ length held
  pub below : (i : ℕ) → slice_index_or held i false ≡ true → slice_index slots i < count
  pub apart : (i j : ℕ) → slice_index_or held i false ≡ true → slice_index_or held j false ≡ true → i ≢ j →
      slice_index slots i ≢ slice_index slots j
  pub free_below : (k : ℕ) → k < length free → slice_index free k < count
  pub free_apart : (k m : ℕ) → k < m → m < length free → slice_index free k ≢ slice_index free m
  pub unused : (k i : ℕ) → k < length free → slice_index_or held i false ≡ true
      → slice_index free k ≢ slice_index slots i
  pub all : length free + count_by (λ b. b) held ≡ count

-- whether step i is the step of one of these nodes
abbrev pub is_step_of : List ℕ → List ℕ → ℕ → Bool
is_step_of nodes by_node i = list_any (λ n. slice_index by_node n == i) nodes
