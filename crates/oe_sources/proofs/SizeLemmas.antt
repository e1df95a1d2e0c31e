-- Products of sizes, and where sections stand.
use Rattle.std.proofs.Common.{◌≡◌, ℕ, zero, suc, ◌+◌, ◌*◌, ◌/◌, ◌^◌, ◌<◌, ◌≤◌, List, [], ◌∷◌, ◌++◌, length, get_or, take, Option, Some, None, IfSome, inl, inr, refl, sym, ap, ◌∙◌, subst, arith}
use Rattle.std.specs.Prelude.{slice_get, sum_by}
use Rattle.std.proofs.Math.Nat.{mul-suc, mul-add, mul_assoc, mul_comm, zero-mul, div-lt_iff_lt-mul}
use Rattle.std.proofs.lemmas.Bool.{cases_lt}
use Rattle.std.proofs.lemmas.List.{length-append, take_more}
use Rattle.std.proofs.lemmas.List.Sums.{sum_by-append}
use Rattle.std.proofs.lemmas.Option.{slice_get_within}
use Rattle.oe_dims.specs.Dimensions.{Dimensions, cell_count, extent}
use Rattle.oe_dims.proofs.ShapeLemmas.{cell_count_within}
use Rattle.oe_sources.specs.Head.{Head, IsHead, section_size, section_widths, size_for, widths_for}
use Rattle.oe_wide.specs.Wide.{byte_count}
use Rattle.oe_wide.specs.declared.width.Width.{Width}
use Rattle.oe_wide.specs.declared.width.Width.TheVariants.{One, Nine, Seventeen}

pub le_product : (a b m n : ℕ) → a ≤ m → b ≤ n → a * b ≤ m * n
le_product a zero m n h k = omega arith
le_product a (suc b) m zero h k = absurd (omega (arith, k))
le_product a (suc b) m (suc n) h k =
    omega (arith, le_product a b m n h (omega (arith, k)), mul-suc a b, mul-suc m n, h)

pub byte_count_most : (w : Width) → byte_count w ≤ 17
byte_count_most One = omega arith
byte_count_most Nine = omega arith
byte_count_most Seventeen = omega arith

pub byte_count_some : (w : Width) → 1 ≤ byte_count w
byte_count_some One = omega arith
byte_count_some Nine = omega arith
byte_count_some Seventeen = omega arith

-- records of the first widths have no more bytes than 17 each
pub sum_most : (ws : List Width) → sum_by byte_count ws ≤ 17 * length ws
sum_most [] = omega arith
sum_most (w ∷ ws) =
    let one : sum_by byte_count (w ∷ []) ≡ 0 + byte_count w = refl in
    omega (arith, sum_by-append byte_count (w ∷ []) ws, one, sum_most ws, byte_count_most w)

-- sections of so many cells have fewer than 2^45 bytes in all
pub bytes_few : (size : ℕ) (all ws : List Width) → length ws ≤ length all → size * length all ≤ 2 ^ 40 → size * sum_by byte_count ws ≤ 17 * 2 ^ 40
bytes_few size all ws part few =
    let first : size * sum_by byte_count ws ≤ size * (17 * length all) = le_product size (sum_by byte_count ws) size (17 * length all) (omega arith) (omega (arith, sum_most ws, part)) in
    let turn : size * (17 * length all) ≡ 17 * (size * length all) = sym (mul_assoc size 17 (length all)) ∙ ap (λ (n : ℕ). n * length all) (mul_comm size 17) ∙ mul_assoc 17 size (length all) in
    omega (arith, first, turn, few)

-- a factor is no greater than the product with a number above 0
pub le_factor : (a b n : ℕ) → 0 < b → a * b ≤ n → a ≤ n
le_factor a zero n some le = absurd (omega (arith, some))
le_factor a (suc b) n some le = omega (arith, mul-suc a b, le)

-- one width more
pub sum_more : (size : ℕ) (ws : List Width) (k : ℕ) (d : Width) → k < length ws → size * sum_by byte_count (take (k + 1) ws) ≡ size * sum_by byte_count (take k ws) + size * byte_count (get_or ws k d)
sum_more size ws k d within =
    let w = get_or ws k d in
    let one : sum_by byte_count (w ∷ []) ≡ 0 + byte_count w = refl in
    let sum : sum_by byte_count (take (k + 1) ws) ≡ sum_by byte_count (take k ws) + byte_count w = ap (sum_by byte_count) (take_more ws k d within) ∙ sum_by-append byte_count (take k ws) (w ∷ []) ∙ omega (arith, one) in
    ap (λ (n : ℕ). size * n) sum ∙ mul-add size (sum_by byte_count (take k ws)) (byte_count w)

-- one start more
pub starts_more : (size : ℕ) (ws : List Width) (starts new : List ℕ) (k end : ℕ) → length starts ≡ k → new ≡ starts ++ end ∷ [] → end ≡ size * sum_by byte_count (take k ws) → ((j start : ℕ) → slice_get starts j ≡ Some start → start ≡ size * sum_by byte_count (take j ws)) → (j start : ℕ) → slice_get new j ≡ Some start → start ≡ size * sum_by byte_count (take j ws)
starts_more size ws starts new k end long pushed is before j start e =
    let there : slice_get (starts ++ end ∷ []) j ≡ Some start = ap (λ (s : List ℕ). slice_get s j) (sym pushed) ∙ e in
    elim (cases_lt j k) [
      | inl below ↦ before j start (sym (front starts (end ∷ []) j (omega (arith, below, long))) ∙ there)
      | inr above ↦ (
          let all : length (starts ++ end ∷ []) ≡ k + 1 = length-append starts (end ∷ []) ∙ omega (arith, long) in
          let last : j < length (starts ++ end ∷ []) = slice_get_within (starts ++ end ∷ []) j start there in
          let at_end : j ≡ length starts = omega (arith, long, all, last, above) in
          let same : Some end ≡ Some start = sym (seam starts [] end) ∙ ap (slice_get (starts ++ end ∷ [])) (sym at_end) ∙ there in
          let value : end ≡ start = cc in
          sym value ∙ is ∙ ap (λ (m : ℕ). size * sum_by byte_count (take m ws)) (sym (at_end ∙ long)))
    ]
  where
    front : (xs ys : List ℕ) (j : ℕ) → j < length xs → slice_get (xs ++ ys) j ≡ slice_get xs j
    front [] ys j h = absurd (omega (arith, h))
    front (x ∷ xs) ys zero h = refl
    front (x ∷ xs) ys (suc j) h = front xs ys j (omega (arith, h))

    seam : (xs ys : List ℕ) (y : ℕ) → slice_get (xs ++ y ∷ ys) (length xs) ≡ Some y
    seam [] ys y = refl
    seam (x ∷ xs) ys y = seam xs ys y

-- the sections of a head have all its cells
pub cells_of_sections : (head : Head) → IsHead head → section_size head * length (section_widths head) ≡ cell_count head.shape
cells_of_sections head valid = by_widths head.widths head.shape valid.widths
  where
    by_widths : (ws : Option (List Width)) (d : Dimensions) → IfSome ws (λ w. length w ≡ extent d.t) → size_for ws d * length (widths_for ws) ≡ cell_count d
    by_widths None d h = omega arith
    by_widths (Some ws) d h = ap (λ (n : ℕ). extent d.bands * extent d.y * extent d.x * n) h ∙ turn (extent d.t) (extent d.bands) (extent d.y) (extent d.x)
      where
        turn : (t b y x : ℕ) → b * y * x * t ≡ t * b * y * x
        turn t b y x = mul_comm (b * y * x) t ∙ sym (mul_assoc t (b * y) x) ∙ ap (λ (n : ℕ). n * x) (sym (mul_assoc t b y))

-- the sections of a head have at most 2^40 cells in all
pub sections_few : (head : Head) → IsHead head → section_size head * length (section_widths head) ≤ 2 ^ 40
sections_few head valid = omega (arith, cells_of_sections head valid, cell_count_within head.shape valid.shape)

pub sections_few_in : (head : Head) (ws : List Width) (n : ℕ) → IsHead head → head.widths ≡ Some ws → n ≡ extent head.shape.bands * extent head.shape.y * extent head.shape.x → n * length ws ≤ 2 ^ 40
sections_few_in head ws n valid is size =
    subst (λ (m : ℕ). m * length ws ≤ 2 ^ 40) (sym size) (subst (λ (o : Option (List Width)). size_for o head.shape * length (widths_for o) ≤ 2 ^ 40) is (sections_few head valid))

-- a cell's number is in one of the sections
pub section_within : (head : Head) (number : ℕ) → IsHead head → number < cell_count head.shape → (0 < section_size head) × (number / section_size head < length (section_widths head))
section_within head number valid below =
    let size = section_size head in
    let count = length (section_widths head) in
    let product : number < size * count = omega (arith, cells_of_sections head valid, below) in
    let some : 0 < size = positive size count product in
    (some, (div-lt_iff_lt-mul {k = size} {x = number} {y = count} some).1 (omega (arith, product, mul_comm size count)))
  where
    positive : (a b : ℕ) → number < a * b → 0 < a
    positive zero b h = absurd (omega (arith, h, zero-mul b))
    positive (suc a) b h = omega arith
