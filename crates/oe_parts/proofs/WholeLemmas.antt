-- Whether parts are those of one run, whose ranges have each of its chunks once.
use Rattle.std.proofs.Common.{◌≡◌, ℕ, ◌+◌, ◌<◌, ◌≤◌, ◌⊎◌, inl, inr, max, nat_lt, lt-ltb, IsTrue, List, length, get_or, Some, sym, ap, ◌∙◌, subst, arith}
use Rattle.std.specs.List.{slice_get}
use Rattle.std.specs.Option.{option_map}
use Rattle.std.proofs.lemmas.Bool.{cases_lt, ltb-true}
use Rattle.std.proofs.lemmas.List.{length-map}
use Rattle.std.proofs.lemmas.Option.{same_Some, slice_get-map, slice_get-get_or, slice_get_within}
use Rattle.oe_dims.specs.Dimensions.{Dimensions}
use Rattle.oe_window.specs.Chunks.{chunk_count, tiling_of}
use Rattle.oe_window.specs.declared.grid.ChunkSize.{ChunkSize}
use Rattle.oe_parts.specs.Head.{PartHead, chunk_total}
use Rattle.oe_parts.specs.Parts.{PartState, heads_of}
use Rattle.oe_parts.specs.Whole.{AreHeads, AreOfRun, AreWhole, HasChunk, HasChunkAt, IsCovered, IsFirstStranger, Overlaps, RunOutline, SaysMisfit, misfit_of, run_chunks}
use Rattle.oe_parts.specs.declared.whole.Difference.{Difference}
use Rattle.oe_parts.specs.declared.whole.Difference.TheVariants.{Graph, Shape, Sides}

-- ---- the head at an index

pub head_at : (parts : List PartState) (k : ℕ) (p : PartState) → k < length parts → p ≡ get_or parts k p → slice_get (heads_of parts) k ≡ Some p.head
head_at parts k p below is =
    let f : PartState → PartHead = λ part. part.head in
    slice_get-map f parts k ∙ ap (option_map f) (slice_get-get_or parts k p below ∙ ap Some (sym is))

-- a head that stands at an index stands below the number of parts
pub head_within : (parts : List PartState) (k : ℕ) (h : PartHead) → slice_get (heads_of parts) k ≡ Some h → k < length parts
head_within parts k h at =
    let f : PartState → PartHead = λ part. part.head in
    let within = slice_get_within (heads_of parts) k h at in
    omega (arith, within, length-map parts f)

same_head : (heads : List PartHead) (k : ℕ) (g h : PartHead) → slice_get heads k ≡ Some g → slice_get heads k ≡ Some h → g ≡ h
same_head heads k g h a b = same_Some g h (sym a ∙ b)

-- what holds of the heads before an index, and of the one there, holds of those before the next
pub heads_more : (P : PartHead → Type 0) (heads : List PartHead) (k : ℕ) (h : PartHead) → slice_get heads k ≡ Some h → P h
    → ((j : ℕ) (other : PartHead) → j < k → slice_get heads j ≡ Some other → P other) → (j : ℕ) (other : PartHead) → j < k + 1 → slice_get heads j ≡ Some other → P other
heads_more P heads k h here p before j other below at = elim (cases_lt j k) [
  | inl lt ↦ before j other lt at
  | inr ge ↦ (let same : j ≡ k = omega arith in subst P (same_head heads k h other here (ap (slice_get heads) (sym same) ∙ at)) p)
]

-- ---- strangers

pub says_stranger : (run : RunOutline) (heads : List PartHead) (index : ℕ) (difference : Difference) → IsFirstStranger run heads index difference → SaysMisfit run heads (misfit_of difference index)
says_stranger run heads index Graph h = h
says_stranger run heads index Shape h = h
says_stranger run heads index Sides h = h

-- ---- chunks of two parts

-- what no part before an index has, and the part there has not, none before the next has
pub none_more : (P : ℕ → Type 0) (k : ℕ) → ((j : ℕ) → j < k → ¬ P j) → ¬ P k → (j : ℕ) → j < k + 1 → ¬ P j
none_more P k before here j below p = elim (cases_lt j k) [
  | inl lt ↦ before j lt p
  | inr ge ↦ (let same : j ≡ k = omega arith in here (subst P same p))
]

pub no_overlap : (parts : List PartState) → ((index : ℕ) → index < length parts → ¬ Overlaps (heads_of parts) index) → (index : ℕ) → ¬ Overlaps (heads_of parts) index
no_overlap parts none index o = none index (head_within parts index o.4.0 o.4.1) o

-- the part at an index has a chunk that it has at all
pub chunk_of : (heads : List PartHead) (j k : ℕ) (h : PartHead) → slice_get heads j ≡ Some h → HasChunkAt heads j k → HasChunk h k
chunk_of heads j k h at has = subst (λ (g : PartHead). HasChunk g k) (same_head heads j has.0 h has.1 at) has.2

pub not_here : (heads : List PartHead) (j chunk first end : ℕ) (h : PartHead) → slice_get heads j ≡ Some h → first ≡ h.first → end ≡ h.end → (chunk < first) ⊎ (end ≤ chunk) → ¬ HasChunkAt heads j chunk
not_here heads j chunk first end h at first_is end_is (inl low) has =
    let here = chunk_of heads j chunk h at has in
    omega (arith, here.0, low, first_is)
not_here heads j chunk first end h at first_is end_is (inr high) has =
    let here = chunk_of heads j chunk h at has in
    omega (arith, here.1, high, end_is)

-- two ranges meet exactly where each begins before the other ends
pub common_chunk : (a b : PartHead) → a.first < a.end → b.first < b.end → a.first < b.end → b.first < a.end → (k : ℕ) × HasChunk a k × HasChunk b k
common_chunk a b ha hb x y = (max a.first b.first, (omega arith, omega arith), (omega arith, omega arith))

pub meets : (a b : PartHead) (end first : ℕ) → end ≡ a.end → first ≡ b.first → a.first < a.end → b.first < b.end → a.first < b.end
    → (IsTrue (nat_lt first end) → (k : ℕ) × HasChunk a k × HasChunk b k) × (((k : ℕ) × HasChunk a k × HasChunk b k) → IsTrue (nat_lt first end))
meets a b end first end_is first_is some_a some_b before = (
  λ yes. common_chunk a b some_a some_b before (omega (arith, ltb-true first end yes, end_is, first_is)),
  λ both. lt-ltb first end (omega (arith, both.1.1, both.2.0, end_is, first_is)),
)

-- ---- the whole

once : (heads : List PartHead) → ((index : ℕ) → ¬ Overlaps heads index) → (k a b : ℕ) → HasChunkAt heads a k → HasChunkAt heads b k → a ≡ b
once heads none k a b x y = elim (cases_lt a b) [
  | inl lt ↦ absurd (none b (a, k, lt, x, y))
  | inr ge ↦ elim (cases_lt b a) [
    | inl lt ↦ absurd (none a (b, k, lt, y, x))
    | inr le ↦ omega arith
  ]
]

within : (run : RunOutline) (sides : ChunkSize) (heads : List PartHead) → AreOfRun run sides heads → AreHeads heads → (k index : ℕ) → HasChunkAt heads index k → k < run_chunks run sides
within run sides heads of_run valid k index x =
    let h = x.0 in
    let of_this = of_run.each index h x.1 in
    let end = (valid index h x.1).within in
    let has = x.2.1 in
    let same : chunk_total h ≡ run_chunks run sides = ap (λ (d : Dimensions). chunk_count (tiling_of d h.sides)) of_this.shape ∙ ap (λ (s : ChunkSize). chunk_count (tiling_of run.shape s)) of_this.sides_are in
    omega (arith, end, has, same)

pub are_whole : (run : RunOutline) (sides : ChunkSize) (heads : List PartHead) (total : ℕ) → total ≡ run_chunks run sides → AreOfRun run sides heads → AreHeads heads → ((index : ℕ) → ¬ Overlaps heads index) → ((k : ℕ) → k < total → IsCovered heads k) → AreWhole run heads
are_whole run sides heads total counted of_run valid apart covered = record {
  sides = sides;
  of_run = of_run;
  tile = record {
    covered = λ k below. covered k (omega (arith, below, counted));
    once = once heads apart;
    within = within run sides heads of_run valid;
  };
}
