-- Of two headers that differ in one byte at most and name one result the heads are the same.
use Rattle.std.proofs.Common.{◌≡◌, ℕ, zero, suc, ◌+◌, ◌-◌, ◌<◌, ◌≤◌, ◌^◌, List, [], ◌∷◌, ◌++◌, length, map, codes, decimal, inl, inr, ◌⊎◌, sym, ap, ◌∙◌, subst, append_assoc, arith}
use Rattle.std.specs.List.{filter_map, range_with_len, sum_by}
use Rattle.std.proofs.lemmas.Bool.{cases_lt}
use Rattle.std.proofs.lemmas.Fmt.{decimal_injective}
use Rattle.std.proofs.lemmas.List.{length-append}
use Rattle.std.proofs.lemmas.List.Sums.{sum_by-cons}
use Rattle.json.specs.Print.{quoted}
use Rattle.oe_dims.specs.Dimensions.{Dimensions, all_kinds}
use Rattle.oe_dims.specs.declared.kind.CellKind.{CellKind}
use Rattle.oe_render.specs.Text.{listed_text, present_text}
use Rattle.oe_render.specs.Members.{kind_word}
use Rattle.oe_window.specs.Chunks.{Tiling, chunk_count, chunk_window, tiling_of}
use Rattle.oe_window.specs.Windows.{position_count}
use Rattle.oe_window.specs.declared.grid.ChunkSize.{ChunkSize}
use Rattle.oe_window.specs.declared.window.Window.{Window}
use Rattle.oe_window.proofs.ChunkLemmas.{chunk_filled}
use Rattle.oe_window.proofs.WholeLemmas.{empty_if_none}
use Rattle.oe_parts.specs.Changed.{DifferInOneByte, NameOneResult}
use Rattle.oe_parts.specs.Head.{AreSides, IsPartHead, PartHead, chunk_total, grid_of, header_text, numbers_text, sides_text}
use Rattle.oe_parts.specs.PartFile.{IsPartFile, part_cells}
use Rattle.oe_parts.proofs.CellLemmas.{sum_from}
use Rattle.oe_parts.proofs.OpenLemmas.{length-front}
use Rattle.oe_parts.proofs.PartedTexts.{IsWithout, before_first, no_closing, no_comma, no_opening, one_stays, twice_same, without_listed}
use Rattle.oe_parts.proofs.SizeLemmas.{is_tiling, total_below}

-- ---- the header by its pieces

-- what stands before the first list of the sides
abbrev opening_text : List ℕ → List ℕ
opening_text graph = codes "{\"graph\":" ++ quoted graph ++ codes ",\"chunk\":" ++ codes "["

-- the numbers of a list, without its brackets
abbrev inner_sides : ChunkSize → List ℕ
inner_sides sides = decimal sides.x ++ 44 ∷ (decimal sides.y ++ 44 ∷ decimal sides.t)

abbrev inner_range : PartHead → List ℕ
inner_range h = decimal h.first ++ 44 ∷ decimal h.end

-- what stands behind the list of the range
abbrev closing_text : ℕ → CellKind → Dimensions → ChunkSize → List ℕ
closing_text total kind shape sides =
    codes ",\"chunks\":" ++ decimal total ++ codes ",\"cells\":\"" ++ kind_word kind ++ codes "\",\"dimensions\":["
    ++ listed_text (filter_map (present_text shape) all_kinds) ++ codes "],\"again\":" ++ sides_text sides ++ codes "}"

-- what stands between both lists of the sides
abbrev middle_text : PartHead → List ℕ
middle_text h =
    codes ",\"range\":" ++ numbers_text (h.first ∷ h.end ∷ []) ++ codes ",\"chunks\":" ++ decimal (chunk_total h) ++ codes ",\"cells\":\""
    ++ kind_word h.kind ++ codes "\",\"dimensions\":[" ++ listed_text (filter_map (present_text h.shape) all_kinds) ++ codes "],\"again\":"

group_sides : (a q b o s c d r e n f k g l i j : List ℕ) → a ++ q ++ b ++ (o ++ s ++ c) ++ d ++ r ++ e ++ n ++ f ++ k ++ g ++ l ++ i ++ (o ++ s ++ c) ++ j
    ≡ (a ++ q ++ b ++ o) ++ (s ++ (c ++ ((d ++ r ++ e ++ n ++ f ++ k ++ g ++ l ++ i) ++ (o ++ (s ++ (c ++ j))))))
group_sides a q b o s c d r e n f k g l i j = simp append_assoc

group_range : (a q b s d o r c e n f k g l i z j : List ℕ) → a ++ q ++ b ++ s ++ d ++ (o ++ r ++ c) ++ e ++ n ++ f ++ k ++ g ++ l ++ i ++ z ++ j
    ≡ (a ++ q ++ b ++ s ++ d ++ o) ++ (r ++ (c ++ (e ++ n ++ f ++ k ++ g ++ l ++ i ++ z ++ j)))
group_range a q b s d o r c e n f k g l i z j = simp append_assoc

by_sides : (h : PartHead) → header_text h ≡ opening_text h.graph ++ (inner_sides h.sides ++ 93 ∷ (middle_text h ++ 91 ∷ (inner_sides h.sides ++ 93 ∷ 125 ∷ [])))
unfolding header_text
by_sides h =
    group_sides (codes "{\"graph\":") (quoted h.graph) (codes ",\"chunk\":") (codes "[") (inner_sides h.sides) (codes "]") (codes ",\"range\":") (numbers_text (h.first ∷ h.end ∷ []))
    (codes ",\"chunks\":") (decimal (chunk_total h)) (codes ",\"cells\":\"") (kind_word h.kind) (codes "\",\"dimensions\":[")
    (listed_text (filter_map (present_text h.shape) all_kinds)) (codes "],\"again\":") (codes "}")

-- what stands before the numbers of the range
abbrev range_opening : List ℕ → ChunkSize → List ℕ
range_opening graph sides =
    codes "{\"graph\":" ++ quoted graph ++ codes ",\"chunk\":" ++ sides_text sides ++ codes ",\"range\":" ++ codes "["

abbrev by_range_text : List ℕ → ChunkSize → CellKind → Dimensions → List ℕ → List ℕ
by_range_text graph sides kind shape range =
    range_opening graph sides ++ (range ++ 93 ∷ closing_text (chunk_count (tiling_of shape sides)) kind shape sides)

by_range : (h : PartHead) → header_text h ≡ by_range_text h.graph h.sides h.kind h.shape (inner_range h)
unfolding header_text
by_range h =
    group_range (codes "{\"graph\":") (quoted h.graph) (codes ",\"chunk\":") (sides_text h.sides) (codes ",\"range\":") (codes "[") (inner_range h) (codes "]")
    (codes ",\"chunks\":") (decimal (chunk_total h)) (codes ",\"cells\":\"") (kind_word h.kind) (codes "\",\"dimensions\":[")
    (listed_text (filter_map (present_text h.shape) all_kinds)) (codes "],\"again\":") (sides_text h.sides) (codes "}")

-- ---- the sides

record AreSmall (sides : ChunkSize) : Type 0 where
  x : sides.x < 2 ^ 64
  y : sides.y < 2 ^ 64
  t : sides.t < 2 ^ 64

small_sides : (sides : ChunkSize) → AreSides sides → AreSmall sides
small_sides sides valid = record { x = omega (arith, valid.x.1); y = omega (arith, valid.y.1); t = omega (arith, valid.t.1) }

sides_closed : (sides : ChunkSize) → AreSmall sides → IsWithout 93 (inner_sides sides)
sides_closed sides small =
    without_listed 93 (decimal sides.x) (decimal sides.y) (decimal sides.t) (λ e. omega (arith, e)) (no_closing sides.x small.x) (no_closing sides.y small.y) (no_closing sides.t small.t)

sides_open : (sides : ChunkSize) → AreSmall sides → IsWithout 91 (inner_sides sides)
sides_open sides small =
    without_listed 91 (decimal sides.x) (decimal sides.y) (decimal sides.t) (λ e. omega (arith, e)) (no_opening sides.x small.x) (no_opening sides.y small.y) (no_opening sides.t small.t)

one_sides : (s z : ChunkSize) → AreSmall s → AreSmall z → inner_sides s ≡ inner_sides z → s ≡ z
one_sides s z small few same =
    let at_x = before_first 44 (decimal s.x) (decimal z.x) (decimal s.y ++ 44 ∷ decimal s.t) (decimal z.y ++ 44 ∷ decimal z.t) (no_comma s.x small.x) (no_comma z.x few.x) same in
    let at_y = before_first 44 (decimal s.y) (decimal z.y) (decimal s.t) (decimal z.t) (no_comma s.y small.y) (no_comma z.y few.y) at_x.1 in
    let x = decimal_injective s.x z.x small.x few.x at_x.0 in
    let y = decimal_injective s.y z.y small.y few.y at_y.0 in
    let t = decimal_injective s.t z.t small.t few.t at_y.1 in
    λ i. record { x = x i; y = y i; t = t i }

same_sides : (g h : PartHead) → IsPartHead g → IsPartHead h → g.graph ≡ h.graph → DifferInOneByte (header_text g) (header_text h) → g.sides ≡ h.sides
same_sides g h valid_g valid_h graph differ =
    let small = small_sides g.sides valid_g.sides in
    let few = small_sides h.sides valid_h.sides in
    let text = sym (by_sides g) ∙ differ.text_is in
    let changed = ap (λ (q : List ℕ). opening_text q ++ (inner_sides h.sides ++ 93 ∷ (middle_text h ++ 91 ∷ (inner_sides h.sides ++ 93 ∷ 125 ∷ [])))) graph ∙ sym (by_sides h) ∙ differ.changed_is in
    one_sides g.sides h.sides small few
    (twice_same (opening_text g.graph) (inner_sides g.sides) (inner_sides h.sides) (middle_text g) (middle_text h) differ.before differ.after differ.byte differ.other
    (sides_closed g.sides small) (sides_closed h.sides few) (sides_open g.sides small) (sides_open h.sides few) text changed)

-- ---- the range

record HasSmallRange (h : PartHead) : Type 0 where
  first : h.first < 2 ^ 64
  end : h.end < 2 ^ 64

small_range : (h : PartHead) → IsPartHead h → HasSmallRange h
small_range h valid =
    let total = total_below h valid.sides valid.shape in
    let some = valid.some in
    let within = valid.within in
    record { first = omega (arith, total, some, within); end = omega (arith, total, within) }

one_kept : (g h : PartHead) → IsPartHead g → IsPartHead h → NameOneResult g h → g.sides ≡ h.sides → DifferInOneByte (header_text g) (header_text h) → (g.first ≡ h.first) ⊎ (g.end ≡ h.end)
one_kept g h valid_g valid_h named sides differ =
    let small = small_range g valid_g in
    let few = small_range h valid_h in
    let K : List ℕ = 93 ∷ closing_text (chunk_count (tiling_of g.shape g.sides)) g.kind g.shape g.sides in
    let A : List ℕ = range_opening g.graph g.sides in
    let split : (r e : List ℕ) → A ++ (r ++ 44 ∷ (e ++ K)) ≡ A ++ ((r ++ 44 ∷ e) ++ K) = λ r e. simp append_assoc in
    let text : A ++ (decimal g.first ++ 44 ∷ (decimal g.end ++ K)) ≡ differ.before ++ differ.byte ∷ differ.after =
    split (decimal g.first) (decimal g.end) ∙ sym (by_range g) ∙ differ.text_is in
    let moved : by_range_text g.graph g.sides g.kind g.shape (inner_range h) ≡ by_range_text h.graph h.sides h.kind h.shape (inner_range h) =
    λ i. by_range_text (named.graph i) (sides i) (named.kind i) (named.shape i) (inner_range h) in
    let changed : A ++ (decimal h.first ++ 44 ∷ (decimal h.end ++ K)) ≡ differ.before ++ differ.other ∷ differ.after =
    split (decimal h.first) (decimal h.end) ∙ moved ∙ sym (by_range h) ∙ differ.changed_is in
    elim (one_stays A K (decimal g.first) (decimal g.end) (decimal h.first) (decimal h.end) differ.before differ.after differ.byte differ.other
    (no_comma g.first small.first) (no_comma g.end small.end) (no_comma h.first few.first) (no_comma h.end few.end) text changed) [
      | inl e ↦ inl (decimal_injective g.first h.first small.first few.first e)
      | inr e ↦ inr (decimal_injective g.end h.end small.end few.end e)
    ]

-- ---- more chunks have more cells

-- so many chunks from one on have so many cells
abbrev cells_from : (ℕ → Window) → ℕ → ℕ → ℕ
cells_from f a n = sum_by position_count (map f (range_with_len a n))

abbrev AreFilled : (ℕ → Window) → ℕ → Type 0
AreFilled f end = (k : ℕ) → k < end → 1 ≤ position_count (f k)

more_behind : (f : ℕ → Window) (a n m : ℕ) → cells_from f a n ≤ cells_from f a (n + m)
more_behind f a n zero = let same : n + 0 ≡ n = omega arith in omega (arith, ap (cells_from f a) same)
more_behind f a n (suc m) =
    let same : suc (n + m) ≡ n + suc m = omega arith in
    omega (arith, more_behind f a n m, sum_from f a (n + m), ap (cells_from f a) same)

less_behind : (f : ℕ → Window) (a n m end : ℕ) → AreFilled f end → n < m → a + m ≤ end → cells_from f a n < cells_from f a m
less_behind f a n m end filled less within =
    let rest = m - suc n in
    let same : suc n + rest ≡ m = omega (arith, less) in
    omega (arith, sum_from f a n, filled (a + n) (omega (arith, less, within)), more_behind f a (suc n) rest, ap (cells_from f a) same)

more_before : (f : ℕ → Window) (a d n : ℕ) → cells_from f (a + d) n ≤ cells_from f a (d + n)
more_before f a zero n =
    let here : a + 0 ≡ a = omega arith in
    let same : 0 + n ≡ n = omega arith in
    omega (arith, ap (λ (k : ℕ). cells_from f k n) here, ap (cells_from f a) same)
more_before f a (suc d) n =
    let here : a + 1 + d ≡ a + suc d = omega arith in
    let same : suc d + n ≡ suc (d + n) = omega arith in
    omega (arith, more_before f (a + 1) d n, sum_by-cons position_count (f a) (map f (range_with_len (a + 1) (d + n))), ap (λ (k : ℕ). cells_from f k n) here, ap (cells_from f a) same)

less_before : (f : ℕ → Window) (a b end : ℕ) → AreFilled f end → a < b → b < end → cells_from f b (end - b) < cells_from f a (end - a)
less_before f a b end filled less within =
    let d = b - suc a in
    let n = end - b in
    let here : a + 1 + d ≡ b = omega (arith, less) in
    let same : end - a ≡ suc (d + n) = omega (arith, less, within) in
    omega (arith, more_before f (a + 1) d n, filled a (omega (arith, less, within)), sum_by-cons position_count (f a) (map f (range_with_len (a + 1) (d + n))), ap (λ (k : ℕ). cells_from f k n) here, ap (cells_from f a) same)

none_less : (m n : ℕ) → ¬ (m < n) → ¬ (n < m) → m ≡ n
none_less m n a b = elim (cases_lt m n) [
  | inl lt ↦ absurd (a lt)
  | inr ge ↦ elim (cases_lt n m) [
    | inl lt ↦ absurd (b lt)
    | inr le ↦ omega (arith, ge, le)
  ]
]

filled_chunks : (h : PartHead) → IsPartHead h → AreFilled (chunk_window (grid_of h)) (chunk_total h)
filled_chunks h valid k below =
    let tiled = is_tiling h.shape h.sides valid.sides valid.shape in
    let some = chunk_filled (grid_of h) k tiled below in
    elim (cases_lt 0 (position_count (chunk_window (grid_of h) k))) [
      | inl lt ↦ omega (arith, lt)
      | inr ge ↦ absurd (empty_if_none (chunk_window (grid_of h) k) (omega (arith, ge)) some.0 some.1)
    ]

-- ranges of one run that have as many cells and one number in common
same_end : (f : ℕ → Window) (total a m n : ℕ) → AreFilled f total → a < m → a < n → m ≤ total → n ≤ total → cells_from f a (m - a) ≡ cells_from f a (n - a) → m ≡ n
same_end f total a m n filled am an mt nt same =
    none_less m n (λ less. (let few = less_behind f a (m - a) (n - a) total filled (omega (arith, less, am)) (omega (arith, an, nt)) in omega (arith, few, same)))
    (λ less. (let few = less_behind f a (n - a) (m - a) total filled (omega (arith, less, an)) (omega (arith, am, mt)) in omega (arith, few, same)))

same_first : (f : ℕ → Window) (total a b end : ℕ) → AreFilled f total → a < end → b < end → end ≤ total → cells_from f a (end - a) ≡ cells_from f b (end - b) → a ≡ b
same_first f total a b end filled ae be within same =
    let some : AreFilled f end = λ k below. filled k (omega (arith, below, within)) in
    none_less a b (λ less. (let few = less_before f a b end some less be in omega (arith, few, same)))
    (λ less. (let few = less_before f b a end some less ae in omega (arith, few, same)))

-- ---- the whole

-- a changed byte changes no length
same_length : (s t : List ℕ) → DifferInOneByte s t → length s ≡ length t
same_length s t differ =
    omega (
      arith,
      ap length differ.text_is,
      ap length differ.changed_is,
      length-append differ.before (differ.byte ∷ differ.after),
      length-append differ.before (differ.other ∷ differ.after),
    )

same_cells : (bytes changed : List ℕ) (g h : PartHead) → IsPartFile bytes g → IsPartFile changed h → length bytes ≡ length changed → length (header_text g) ≡ length (header_text h) → part_cells g ≡ part_cells h
same_cells bytes changed g h file other long same =
    omega (arith, file.whole, other.whole, long, same, length-front g, length-front h)

pub same_heads : (bytes changed : List ℕ) (g h : PartHead) → IsPartFile bytes g → IsPartFile changed h → length bytes ≡ length changed → NameOneResult g h → DifferInOneByte (header_text g) (header_text h) → g ≡ h
same_heads bytes changed g h file other long named differ =
    let sides = same_sides g h file.valid other.valid named.graph differ in
    let cells = same_cells bytes changed g h file other long (same_length (header_text g) (header_text h) differ) in
    let f = chunk_window (grid_of g) in
    let total = chunk_total g in
    let tiled : tiling_of h.shape h.sides ≡ grid_of g = λ i. tiling_of (sym named.shape i) (sym sides i) in
    let there : part_cells h ≡ cells_from f h.first (h.end - h.first) = ap (λ (w : Tiling). cells_from (chunk_window w) h.first (h.end - h.first)) tiled in
    let within : h.end ≤ total = subst (λ (w : Tiling). h.end ≤ chunk_count w) tiled other.valid.within in
    let filled = filled_chunks g file.valid in
    let both : (g.first ≡ h.first) × (g.end ≡ h.end) = elim (one_kept g h file.valid other.valid named sides differ) [
      | inl first ↦ (
          let moved : cells_from f h.first (h.end - h.first) ≡ cells_from f g.first (h.end - g.first) = ap (λ (k : ℕ). cells_from f k (h.end - k)) (sym first) in
          (first, same_end f total g.first g.end h.end filled file.valid.some (omega (arith, first, other.valid.some)) file.valid.within within (cells ∙ there ∙ moved)))
      | inr end ↦ (
          let moved : cells_from f h.first (h.end - h.first) ≡ cells_from f h.first (g.end - h.first) = ap (λ (k : ℕ). cells_from f h.first (k - h.first)) (sym end) in
          (same_first f total g.first h.first g.end filled file.valid.some (omega (arith, end, other.valid.some)) file.valid.within (cells ∙ there ∙ moved), end))
    ] in
    let graph = named.graph in
    let kind = named.kind in
    let shape = named.shape in
    λ i. record { graph = graph i; sides = sides i; first = both.0 i; end = both.1 i; kind = kind i; shape = shape i }
