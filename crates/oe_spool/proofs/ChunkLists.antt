-- The windows of chunks, one after another: they lie in the shape, and each position of it lies in exactly one.
use Rattle.std.proofs.Common.{◌≡◌, ℕ, zero, suc, ◌+◌, ◌<◌, ◌≤◌, List, [], ◌∷◌, ◌++◌, map, inl, inr, refl, sym, ◌∙◌, ap, subst, arith}
use Rattle.std.specs.List.{range_with_len}
use Rattle.std.proofs.lemmas.Bool.{cases_eq}
use Rattle.std.proofs.lemmas.List.{map-append}
use Rattle.oe_dims.specs.Dimensions.{Dimensions}
use Rattle.oe_dims.specs.Positions.{IsPosition, Position}
use Rattle.oe_spool.specs.Spooled.{AreDisjoint, IsInSome}
use Rattle.oe_window.specs.Chunks.{Tiling, chunk_count, chunk_number, chunk_window, tiling_of}
use Rattle.oe_window.specs.Windows.{IsIn}
use Rattle.oe_window.specs.declared.grid.ChunkSize.{ChunkSize}
use Rattle.oe_window.specs.declared.window.Window.{Window}
use Rattle.oe_window.proofs.ChunkLemmas.{HasSides, positions_by_sides}
use Rattle.oe_window.proofs.RunLemmas.{range-append}
use Rattle.oe_window.proofs.TilingLemmas.{chunk_by_sides, inside_position, position_inside}

-- so many chunks from one on
abbrev pub windows_from : Tiling → ℕ → ℕ → List Window
windows_from g first count = map (chunk_window g) (range_with_len first count)

-- ---- lists of chunks

pub chunks_both : (g : Tiling) (first m n : ℕ) → windows_from g first (m + n) ≡ windows_from g first m ++ windows_from g (first + m) n
chunks_both g first m n =
    ap (map (chunk_window g)) (range-append first m n)
    ∙ map-append (chunk_window g) (range_with_len first m) (range_with_len (first + m) n)

pub chunks_more : (g : Tiling) (first n : ℕ) → windows_from g first (n + 1) ≡ windows_from g first n ++ chunk_window g (first + n) ∷ []
chunks_more g first n = chunks_both g first n 1

-- a position of some of the chunks lies in one of them
pub record IsInOne (g : Tiling) (first n : ℕ) (q : Position) : Type 0 where
  pub chunk : ℕ
  pub least : first ≤ chunk
  pub most : chunk < first + n
  pub inside : IsIn (chunk_window g chunk) q

pub in_one : (g : Tiling) (first n : ℕ) (q : Position) → IsInSome (windows_from g first n) q → IsInOne g first n q
in_one g first zero q h = absurd h
in_one g first (suc n) q (inl h) = record { chunk = first; least = omega arith; most = omega arith; inside = h }
in_one g first (suc n) q (inr h) =
    let later = in_one g (first + 1) n q h in
    let least = later.least in
    let most = later.most in
    record { chunk = later.chunk; least = omega arith; most = omega arith; inside = later.inside }

pub in_some : (g : Tiling) (first n : ℕ) (q : Position) → IsInOne g first n q → IsInSome (windows_from g first n) q
in_some g first zero q h = let least = h.least in let most = h.most in absurd (omega arith)
in_some g first (suc n) q h =
    let least = h.least in
    let most = h.most in
    elim (cases_eq h.chunk first) [
      | inl same ↦ inl (subst (λ k. IsIn (chunk_window g k) q) same h.inside)
      | inr other ↦ inr (in_some g (first + 1) n q (record { chunk = h.chunk; least = omega arith; most = omega arith; inside = h.inside }))
    ]

none_more : (n : ℕ) → 0 + n ≡ n
none_more n = omega arith

-- ---- their positions

module _ (d : Dimensions) (size : ChunkSize) (sides : HasSides (tiling_of d size)) where
  abbrev g : Tiling
  g = tiling_of d size

  in_chunk : (k : ℕ) (q : Position) → IsIn (chunk_window g k) q → IsPosition d q × (chunk_number g q ≡ k)
  in_chunk k q h =
      let found = (positions_by_sides g k sides q).0 h in
      (inside_position d size q found.0, found.1)

  pub chunk_inside : (k : ℕ) (q : Position) → IsIn (chunk_window g k) q → IsPosition d q
  chunk_inside k q h = (in_chunk k q h).0

  pub one_chunk : (a b : ℕ) (q : Position) → IsIn (chunk_window g a) q → IsIn (chunk_window g b) q → a ≡ b
  one_chunk a b q h k = sym (in_chunk a q h).1 ∙ (in_chunk b q k).1

  pub chunk_there : (q : Position) → IsPosition d q → IsInOne g 0 (chunk_count g) q
  chunk_there q h =
      let inside = position_inside d size q h in
      let below = chunk_by_sides g q sides inside in
      record {
        chunk = chunk_number g q;
        least = omega arith;
        most = subst (λ n. chunk_number g q < n) (sym (none_more (chunk_count g))) below;
        inside = (positions_by_sides g (chunk_number g q) sides q).1 (inside, refl);
      }

  pub chunks_inside : (first n : ℕ) (q : Position) → IsInSome (windows_from g first n) q → IsPosition d q
  chunks_inside first n q h = let one = in_one g first n q h in chunk_inside one.chunk q one.inside

  -- earlier chunks and later ones have no position in common
  pub chunks_apart : (first m from n : ℕ) → first + m ≤ from
      → AreDisjoint (IsInSome (windows_from g first m)) (IsInSome (windows_from g from n))
  chunks_apart first m from n before q h k =
      let a = in_one g first m q h in
      let b = in_one g from n q k in
      let most = a.most in
      let least = b.least in
      let same = one_chunk a.chunk b.chunk q a.inside b.inside in
      omega arith

  pub chunk_apart : (a b : ℕ) → a < b → AreDisjoint (IsIn (chunk_window g a)) (IsIn (chunk_window g b))
  chunk_apart a b less q h k = let same = one_chunk a b q h k in omega arith

  -- all chunks have all positions
  pub all_inside : (q : Position) → IsPosition d q → IsInSome (windows_from g 0 (chunk_count g)) q
  all_inside q h = in_some g 0 (chunk_count g) q (chunk_there q h)
