-- Runs at regular distances: what they lay end to end, and that they stand apart.
use Rattle.std.proofs.Common.{◌≡◌, ℕ, zero, suc, ◌+◌, ◌-◌, ◌*◌, ◌/◌, ◌%◌, ◌<◌, ◌≤◌, List, [], ◌∷◌, ◌++◌, length, refl, sym, ap, ◌∙◌, arith, ◌⊎◌, inl, inr, Some}
use Rattle.std.specs.List.{flat_map, range_with_len, slice_get, sum_by}
use Rattle.std.proofs.lemmas.Bool.{cases_lt}
use Rattle.std.proofs.lemmas.Grind.{flat_map-append}
use Rattle.std.proofs.lemmas.List.{append-nil, length-append}
use Rattle.std.proofs.lemmas.List.Sums.{sum_by-cons}
use Rattle.std.proofs.lemmas.List.FromFn.{length-range_with_len}
use Rattle.std.proofs.lemmas.List.Folds.{flat_map-map}
use Rattle.std.proofs.lemmas.Nat.{div-add-mod', mod_below, div-mul-add, mod-mul-add, div_below, mul-le}
use Rattle.oe_dims.proofs.FlatMapLemmas.{flat_map-same, slice_get-append_left, slice_get-append_right}
use Rattle.oe_window.proofs.RangeLemmas.{slice_get-range}
use Rattle.oe_window.specs.Runs.{laid, AreFilled, EndWithin, AreApart, AreRising}
use Rattle.oe_window.specs.Layouts.{first_of_run, run_of, run_count, runs_from, all_runs, box_numbers, IsSpread, Fits, IsBox, Covers}
use Rattle.oe_window.specs.declared.layout.Axis.{Axis}
use Rattle.oe_window.specs.declared.layout.Layout.{Layout}
use Rattle.oe_window.specs.declared.layout.Sides.{Sides}

-- ---- numbers that count up, in parts

pub range-append : (a m n : ℕ) → range_with_len a (m + n) ≡ range_with_len a m ++ range_with_len (a + m) n
range-append a zero n =
    let none : 0 + n ≡ n = omega arith in
    let same : a + 0 ≡ a = omega arith in
    rw (none, same) refl
range-append a (suc m) n =
    let more : suc m + n ≡ suc (m + n) = omega arith in
    let next : a + 1 + m ≡ a + suc m = omega arith in
    rw (more, ← next) (ap (λ ys. a ∷ ys) (range-append (a + 1) m n))

pub flat_map-shift : {X : Type 0} (f : ℕ → List X) (a b n : ℕ) → flat_map f (range_with_len (a + b) n) ≡ flat_map (λ i. f (a + i)) (range_with_len b n)
flat_map-shift f a b zero = refl
flat_map-shift f a b (suc n) =
    let next : a + b + 1 ≡ a + (b + 1) = omega arith in
    ap (λ c. f (a + b) ++ flat_map f (range_with_len c n)) next ∙ ap (λ ys. f (a + b) ++ ys) (flat_map-shift f a (b + 1) n)

-- the same below a number
flat_map-same_below : {X : Type 0} (f g : ℕ → List X) (a n : ℕ) → ((i : ℕ) → i < a + n → f i ≡ g i) → flat_map f (range_with_len a n) ≡ flat_map g (range_with_len a n)
flat_map-same_below f g a zero same = refl
flat_map-same_below f g a (suc n) same =
    let here = same a (omega arith) in
    let rest = flat_map-same_below f g (a + 1) n (λ i h. same i (omega arith)) in
    rw (here, rest) refl

-- numbers by rows of n
flat_map-rows : {X : Type 0} (f : ℕ → List X) (n a m : ℕ) → flat_map f (range_with_len (a * n) (m * n)) ≡ flat_map (λ i. flat_map (λ j. f (i * n + j)) (range_with_len 0 n)) (range_with_len a m)
flat_map-rows f n a zero = let none : 0 * n ≡ 0 = omega arith in rw none refl
flat_map-rows f n a (suc m) =
    let more : suc m * n ≡ n + m * n = omega arith in
    let next : a * n + n ≡ (a + 1) * n = omega arith in
    let first : a * n ≡ a * n + 0 = omega arith in
    ap (λ c. flat_map f (range_with_len (a * n) c)) more
    ∙ ap (flat_map f) (range-append (a * n) n (m * n))
    ∙ flat_map-append f (range_with_len (a * n) n) (range_with_len (a * n + n) (m * n))
    ∙ ap (λ c. flat_map f (range_with_len c n) ++ flat_map f (range_with_len (a * n + n) (m * n))) first
    ∙ ap (λ ys. ys ++ flat_map f (range_with_len (a * n + n) (m * n))) (flat_map-shift f (a * n) 0 n)
    ∙ ap (λ c. flat_map (λ j. f (a * n + j)) (range_with_len 0 n) ++ flat_map f (range_with_len c (m * n))) next
    ∙ ap (λ ys. flat_map (λ j. f (a * n + j)) (range_with_len 0 n) ++ ys) (flat_map-rows f n (a + 1) m)

-- runs that touch are one
pub touching_from : (c s a n : ℕ) → flat_map (λ i. range_with_len (c + i * s) s) (range_with_len a n) ≡ range_with_len (c + a * s) (n * s)
touching_from c s a zero = let none : 0 * s ≡ 0 = omega arith in rw none refl
touching_from c s a (suc n) =
    let more : suc n * s ≡ s + n * s = omega arith in
    let next : c + a * s + s ≡ c + (a + 1) * s = omega arith in
    ap (λ ys. range_with_len (c + a * s) s ++ ys) (touching_from c s (a + 1) n)
    ∙ ap (λ b. range_with_len (c + a * s) s ++ range_with_len b (n * s)) (sym next)
    ∙ sym (range-append (c + a * s) s (n * s)) ∙ ap (range_with_len (c + a * s)) (sym more)

pub touching : (c s n : ℕ) → flat_map (λ i. range_with_len (c + i * s) s) (range_with_len 0 n) ≡ range_with_len c (n * s)
touching c s n = let first : c + 0 * s ≡ c = omega arith in touching_from c s 0 n ∙ ap (λ b. range_with_len b (n * s)) first

one_step : (f : ℕ → List ℕ) → flat_map f (range_with_len 0 1) ≡ f 0
one_step f = append-nil (f 0)

-- ---- all runs of a layout, laid end to end

-- the numbers of the runs, by their steps along t, bands and y
abbrev nest : Layout → List ℕ
nest l =
    flat_map (λ t. flat_map (λ band. flat_map (λ y.
    range_with_len (l.first + t * l.t.stride + band * l.bands.stride + y * l.y.stride) l.length)
    (range_with_len 0 l.y.count)) (range_with_len 0 l.bands.count)) (range_with_len 0 l.t.count)

first_at : (l : Layout) (t b y : ℕ) → b < l.bands.count → y < l.y.count → first_of_run l ((t * l.bands.count + b) * l.y.count + y) ≡ l.first + t * l.t.stride + b * l.bands.stride + y * l.y.stride
first_at l t b y hb hy =
    let nb = l.bands.count in
    let ny = l.y.count in
    let k = (t * nb + b) * ny + y in
    let plane : k / ny ≡ t * nb + b = div-mul-add (t * nb + b) ny y hy in
    let column : k % ny ≡ y = mod-mul-add (t * nb + b) ny y hy in
    let first : (t * nb + b) / nb ≡ t = div-mul-add t nb b hb in
    let second : (t * nb + b) % nb ≡ b = mod-mul-add t nb b hb in
    rw (plane, column, first, second) refl

pub laid-all_runs : (l : Layout) → laid (all_runs l) ≡ nest l
laid-all_runs l =
    let nt = l.t.count in
    let nb = l.bands.count in
    let ny = l.y.count in
    let numbers : ℕ → List ℕ = λ k. range_with_len (first_of_run l k) l.length in
    let zero_y : 0 ≡ 0 * ny = omega arith in
    let zero_b : 0 ≡ 0 * nb = omega arith in
    flat_map-map (λ run. range_with_len run.0 run.1) (run_of l) (range_with_len 0 (nt * nb * ny))
    ∙ ap (λ c. flat_map numbers (range_with_len c (nt * nb * ny))) zero_y
    ∙ flat_map-rows numbers ny 0 (nt * nb)
    ∙ ap (λ c. flat_map (λ q. flat_map (λ y. numbers (q * ny + y)) (range_with_len 0 ny)) (range_with_len c (nt * nb))) zero_b
    ∙ flat_map-rows (λ q. flat_map (λ y. numbers (q * ny + y)) (range_with_len 0 ny)) nb 0 nt
    ∙ flat_map-same _ _ (λ t. flat_map-same_below _ _ 0 nb (λ b hb. flat_map-same_below _ _ 0 ny (λ y hy. ap (λ c. range_with_len c l.length) (first_at l t b y (omega arith) (omega arith))))) (range_with_len 0 nt)

-- ---- runs that stand apart

pub filled-runs_from : (l : Layout) → Fits l → (k n : ℕ) → AreFilled (runs_from l k n)
filled-runs_from l fits k zero = tt
filled-runs_from l fits k (suc n) = let long = fits.length in (omega arith, filled-runs_from l fits (k + 1) n)

-- the digits of the next number: the last one rises, or it is the largest and the others rise
next_digits : (k n : ℕ) → 0 < n → ((k % n + 1 < n) × ((k + 1) / n ≡ k / n) × ((k + 1) % n ≡ k % n + 1)) ⊎ ((k % n ≡ n - 1) × ((k + 1) / n ≡ k / n + 1) × ((k + 1) % n ≡ 0))
next_digits k n h =
    let whole = div-add-mod' k n in
    let short = mod_below k n h in
    elim (cases_lt (k % n + 1) n) [
      | inl lt ↦ let number : k + 1 ≡ k / n * n + (k % n + 1) = omega arith in
          inl (lt, ap (λ q. q / n) number ∙ div-mul-add (k / n) n (k % n + 1) lt, ap (λ q. q % n) number ∙ mod-mul-add (k / n) n (k % n + 1) lt)
      | inr ge ↦ let number : k + 1 ≡ (k / n + 1) * n + 0 = omega arith in
          inr (omega arith, ap (λ q. q / n) number ∙ div-mul-add (k / n + 1) n 0 h, ap (λ q. q % n) number ∙ mod-mul-add (k / n + 1) n 0 h)
    ]

-- the run of the next number begins past a number after the end of this one
next_first : (first st sb sy nt nb ny long k : ℕ) → 0 < nb → 0 < ny → (1 < ny → long < sy) → (1 < nb → (ny - 1) * sy + long < sb) → (1 < nt → (nb - 1) * sb + (ny - 1) * sy + long < st) → k + 1 < nt * nb * ny → first + k / ny / nb * st + k / ny % nb * sb + k % ny * sy + long < first + (k + 1) / ny / nb * st + (k + 1) / ny % nb * sb + (k + 1) % ny * sy
next_first first st sb sy nt nb ny long k hb hy ay ab at h =
    elim (next_digits k ny hy) [
      | inl same ↦ let many : 1 < ny = omega (arith, same.0) in
          let apart = ay many in
          rw (same.1, same.2) (omega arith)
      | inr up ↦ let last_y : k % ny * sy ≡ (ny - 1) * sy = ap (λ q. q * sy) up.0 in
          elim (next_digits (k / ny) nb hb) [
            | inl same ↦ let many : 1 < nb = omega (arith, same.0) in
                let apart = ab many in
                rw (up.1, up.2, same.1, same.2) (omega arith)
            | inr over ↦ let last_b : k / ny % nb * sb ≡ (nb - 1) * sb = ap (λ q. q * sb) over.0 in
                let plane : k / ny + 1 < nt * nb = rw up.1 at (div_below (k + 1) ny (nt * nb) hy h) in
                let volume : k / ny / nb + 1 < nt = rw over.1 at (div_below (k / ny + 1) nb nt hb plane) in
                let many : 1 < nt = omega arith in
                let apart = at many in
                rw (up.1, up.2, over.1, over.2) (omega arith)
          ]
    ]

next_run : (l : Layout) → Fits l → IsSpread l → (k : ℕ) → k + 1 < run_count l → first_of_run l k + l.length < first_of_run l (k + 1)
next_run l fits spread k h =
    next_first l.first l.t.stride l.bands.stride l.y.stride l.t.count l.bands.count l.y.count l.length k fits.bands fits.y spread.y spread.bands spread.t h

pub apart-runs_from : (l : Layout) → Fits l → IsSpread l → (k n : ℕ) → k + n ≤ run_count l → AreApart (runs_from l k n)
apart-runs_from l fits spread k zero h = tt
apart-runs_from l fits spread k (suc zero) h = tt
apart-runs_from l fits spread k (suc (suc n)) h =
    (next_run l fits spread k (omega arith), apart-runs_from l fits spread (k + 1) (suc n) (omega arith))

-- ---- filled runs that stand apart, laid end to end, rise

abbrev StartsFrom : ℕ → List ℕ → Type 0
StartsFrom least [] = Unit {0}
StartsFrom least (number ∷ numbers) = least ≤ number

rising_append : (a n : ℕ) (ys : List ℕ) → StartsFrom (a + n) ys → AreRising ys → AreRising (range_with_len a n ++ ys)
rising_append a zero ys from rising = rising
rising_append a (suc zero) [] from rising = tt
rising_append a (suc zero) (y ∷ ys) from rising = (omega arith, rising)
rising_append a (suc (suc n)) ys from rising =
    let next : a + 1 + suc n ≡ a + suc (suc n) = omega arith in
    (omega arith, rising_append (a + 1) (suc n) ys (rw next from) rising)

starts_later : (a b : ℕ) (ys : List ℕ) → a ≤ b → StartsFrom b ys → StartsFrom a ys
starts_later a b [] h from = tt
starts_later a b (y ∷ ys) h from = omega arith

starts_at_run : (a n : ℕ) (ys : List ℕ) → 0 < n → StartsFrom a (range_with_len a n ++ ys)
starts_at_run a zero ys h = absurd (omega arith)
starts_at_run a (suc n) ys h = omega arith

pub rising-laid : (runs : List (ℕ × ℕ)) → AreFilled runs → AreApart runs → AreRising (laid runs)
rising-laid [] filled apart = tt
rising-laid (run ∷ []) filled apart = rising_append run.0 run.1 [] tt tt
rising-laid (run ∷ next ∷ runs) filled apart =
    rising_append run.0 run.1 (laid (next ∷ runs))
    (starts_later (run.0 + run.1) next.0 (laid (next ∷ runs)) (omega arith) (starts_at_run next.0 next.1 (laid runs) filled.1.0))
    (rising-laid (next ∷ runs) filled.1 apart.1)

-- ---- filled runs of numbers below an end end within it

-- each of the numbers is below an end
unfoldable pub AreBelow : ℕ → List ℕ → Type 0
AreBelow end numbers = (i k : ℕ) → slice_get numbers i ≡ Some k → k < end

run_within : (end : ℕ) (run : ℕ × ℕ) (rest : List (ℕ × ℕ)) → 0 < run.1 → AreBelow end (laid (run ∷ rest)) → run.0 + run.1 ≤ end
unfolding AreBelow
run_within end run rest some below =
    let long : run.1 - 1 < length (range_with_len run.0 run.1) = omega (arith, length-range_with_len run.0 run.1) in
    let last : slice_get (laid (run ∷ rest)) (run.1 - 1) ≡ Some (run.0 + (run.1 - 1)) = slice_get-append_left (range_with_len run.0 run.1) (laid rest) (run.1 - 1) long ∙ slice_get-range run.0 run.1 (run.1 - 1) (omega arith) in
    omega (arith, below (run.1 - 1) (run.0 + (run.1 - 1)) last)

rest_below : (end : ℕ) (run : ℕ × ℕ) (rest : List (ℕ × ℕ)) → AreBelow end (laid (run ∷ rest)) → AreBelow end (laid rest)
unfolding AreBelow
rest_below end run rest below i k e =
    below (length (range_with_len run.0 run.1) + i) k (slice_get-append_right (range_with_len run.0 run.1) (laid rest) i ∙ e)

pub end_within : (end : ℕ) (runs : List (ℕ × ℕ)) → AreFilled runs → AreBelow end (laid runs) → EndWithin end runs
end_within end [] filled below = tt
end_within end (run ∷ runs) filled below =
    (run_within end run runs filled.0 below, end_within end runs filled.1 (rest_below end run runs below))

pub length-laid : (runs : List (ℕ × ℕ)) → length (laid runs) ≡ sum_by (λ run. run.1) runs
length-laid [] = refl
length-laid (run ∷ runs) =
    let rest = length-laid runs in
    let here = length-range_with_len run.0 run.1 in
    let more = sum_by-cons (λ r. r.1) run runs in
    length-append (range_with_len run.0 run.1) (laid runs) ∙ omega arith

-- ---- where a run begins fits 64 bits

pub first_within : (l : Layout) → Fits l → (k : ℕ) → k < run_count l → first_of_run l k ≤ l.first + l.t.count * l.t.stride + l.bands.count * l.bands.stride + l.y.count * l.y.stride
first_within l fits k h =
    let nt = l.t.count in
    let nb = l.bands.count in
    let ny = l.y.count in
    let hb : 0 < nb = fits.bands in
    let hy : 0 < ny = fits.y in
    let y = mod_below k ny hy in
    let b = mod_below (k / ny) nb hb in
    let t = div_below (k / ny) nb nt hb (div_below k ny (nt * nb) hy h) in
    let along_t = mul-le (k / ny / nb) l.t.stride nt l.t.stride (omega arith) (omega arith) in
    let along_b = mul-le (k / ny % nb) l.bands.stride nb l.bands.stride (omega arith) (omega arith) in
    let along_y = mul-le (k % ny) l.y.stride ny l.y.stride (omega arith) (omega arith) in
    omega arith

-- ---- the longest runs of a box

-- what a box's products are at most
record IsBounded (first : ℕ) (s c : Sides) : Type 0 where
  volume : 1 ≤ c.bands * (c.y * c.x)
  bands : s.bands * (c.y * c.x) ≤ c.bands * (c.y * c.x)
  y : s.y * c.x ≤ c.y * c.x
  plane : c.y * c.x ≤ c.bands * (c.y * c.x)
  row : c.x ≤ c.y * c.x
  least_y : 1 ≤ s.y * c.x
  least_bands : 1 ≤ s.bands * (c.y * c.x)
  least_t : 1 ≤ s.t * (c.bands * (c.y * c.x))
  whole : c.bands * (c.y * c.x) ≤ s.t * (c.bands * (c.y * c.x))
  many : s.t * s.bands * s.y ≤ s.t * (c.bands * (c.y * c.x))
  some : s.t * s.bands ≤ s.t * (c.bands * (c.y * c.x))
  few : s.t ≤ s.t * (c.bands * (c.y * c.x))

le_left : (a b : ℕ) → 1 ≤ a → b ≤ a * b
le_left a b h = let one = mul-le 1 b a b h (omega arith) in omega arith

le_right : (a b : ℕ) → 1 ≤ b → a ≤ a * b
le_right a b h = let one = mul-le a 1 a b (omega arith) h in omega arith

bounded : (first : ℕ) (s c : Sides) → IsBox first s c → IsBounded first s c
bounded first s c box =
    let row : 1 ≤ c.x = omega (arith, box.x) in
    let rows : 1 ≤ c.y = omega (arith, box.y) in
    let some_bands : 1 ≤ c.bands = omega (arith, box.bands) in
    let of_row : c.x ≤ c.y * c.x = le_left c.y c.x rows in
    let plane : 1 ≤ c.y * c.x = omega arith in
    let of_plane : c.y * c.x ≤ c.bands * (c.y * c.x) = le_left c.bands (c.y * c.x) some_bands in
    let volume : 1 ≤ c.bands * (c.y * c.x) = omega arith in
    let y : s.y * c.x ≤ c.y * c.x = mul-le s.y c.x c.y c.x box.y.1 (omega arith) in
    let bands : s.bands * (c.y * c.x) ≤ c.bands * (c.y * c.x) = mul-le s.bands (c.y * c.x) c.bands (c.y * c.x) box.bands.1 (omega arith) in
    let least_y : c.x ≤ s.y * c.x = le_left s.y c.x box.y.0 in
    let least_bands : c.y * c.x ≤ s.bands * (c.y * c.x) = le_left s.bands (c.y * c.x) box.bands.0 in
    let whole : c.bands * (c.y * c.x) ≤ s.t * (c.bands * (c.y * c.x)) = le_left s.t (c.bands * (c.y * c.x)) box.t in
    let columns : s.y ≤ s.y * c.x = le_right s.y c.x row in
    let lines : s.bands * s.y ≤ c.bands * (c.y * c.x) = mul-le s.bands s.y c.bands (c.y * c.x) box.bands.1 (omega arith) in
    let many : s.t * (s.bands * s.y) ≤ s.t * (c.bands * (c.y * c.x)) = mul-le s.t (s.bands * s.y) s.t (c.bands * (c.y * c.x)) (omega arith) lines in
    let planes : s.bands ≤ s.bands * (c.y * c.x) = le_right s.bands (c.y * c.x) plane in
    let some : s.t * s.bands ≤ s.t * (c.bands * (c.y * c.x)) = mul-le s.t s.bands s.t (c.bands * (c.y * c.x)) (omega arith) (omega arith) in
    let few : s.t ≤ s.t * (c.bands * (c.y * c.x)) = le_right s.t (c.bands * (c.y * c.x)) volume in
    record {
      volume = volume;
      bands = bands;
      y = y;
      plane = of_plane;
      row = of_row;
      least_y = omega arith;
      least_bands = omega arith;
      least_t = omega arith;
      whole = whole;
      many = omega arith;
      some = some;
      few = few;
    }

-- the last of n parts of one size ends within m of them
last_within : (n m s r : ℕ) → 1 ≤ n → n ≤ m → r < s → (n - 1) * s + r < m * s
last_within n m s r one le lt =
    let upto : (n - 1 + 1) * s ≤ m * s = mul-le (n - 1 + 1) s m s (omega arith) (omega arith) in
    omega arith

fewer : (n m s : ℕ) → n < m → 1 ≤ s → n * s < m * s
fewer n m s lt one = let upto : (n + 1) * s ≤ m * s = mul-le (n + 1) s m s (omega arith) (omega arith) in omega arith

-- the layouts, from that of short rows to that of one run
abbrev one_axis : Axis
one_axis = record { count = 1; stride = 0 }

abbrev row_layout : ℕ → Sides → Sides → Layout
row_layout first s c = record {
  first = first;
  length = s.x;
  t = record { count = s.t; stride = c.bands * (c.y * c.x) };
  bands = record { count = s.bands; stride = c.y * c.x };
  y = record { count = s.y; stride = c.x };
}

abbrev plane_layout : ℕ → Sides → Sides → Layout
plane_layout first s c = record {
  first = first;
  length = s.y * c.x;
  t = record { count = s.t; stride = c.bands * (c.y * c.x) };
  bands = record { count = s.bands; stride = c.y * c.x };
  y = one_axis;
}

abbrev volume_layout : ℕ → Sides → Sides → Layout
volume_layout first s c = record {
  first = first;
  length = s.bands * (c.y * c.x);
  t = record { count = s.t; stride = c.bands * (c.y * c.x) };
  bands = one_axis;
  y = one_axis;
}

abbrev one_layout : ℕ → Sides → Sides → Layout
one_layout first s c = record {
  first = first;
  length = s.t * (c.bands * (c.y * c.x));
  t = one_axis;
  bands = one_axis;
  y = one_axis;
}

-- rows that are whole are one run, and so are planes and volumes
rows_touch : (b : ℕ) (s c : Sides) → s.x ≡ c.x → flat_map (λ y. range_with_len (b + y * c.x) s.x) (range_with_len 0 s.y) ≡ range_with_len b (s.y * c.x)
rows_touch b s c ex = rw ex (touching b c.x s.y)

planes_touch : (b : ℕ) (s c : Sides) → s.x ≡ c.x → s.y ≡ c.y → flat_map (λ band. flat_map (λ y. range_with_len (b + band * (c.y * c.x) + y * c.x) s.x) (range_with_len 0 s.y)) (range_with_len 0 s.bands) ≡ range_with_len b (s.bands * (c.y * c.x))
planes_touch b s c ex ey =
    flat_map-same _ _ (λ band. rows_touch (b + band * (c.y * c.x)) s c ex ∙ ap (λ n. range_with_len (b + band * (c.y * c.x)) (n * c.x)) ey) (range_with_len 0 s.bands)
    ∙ touching b (c.y * c.x) s.bands

volumes_touch : (b : ℕ) (s c : Sides) → s.x ≡ c.x → s.y ≡ c.y → s.bands ≡ c.bands → box_numbers b s c ≡ range_with_len b (s.t * (c.bands * (c.y * c.x)))
volumes_touch b s c ex ey eb =
    flat_map-same _ _ (λ t. planes_touch (b + t * (c.bands * (c.y * c.x))) s c ex ey ∙ ap (λ n. range_with_len (b + t * (c.bands * (c.y * c.x))) (n * (c.y * c.x))) eb) (range_with_len 0 s.t)
    ∙ touching b (c.bands * (c.y * c.x)) s.t

one_y : (b n : ℕ) → flat_map (λ y. range_with_len (b + y * 0) n) (range_with_len 0 1) ≡ range_with_len b n
one_y b n = let same : b + 0 * 0 ≡ b = omega arith in one_step (λ y. range_with_len (b + y * 0) n) ∙ ap (λ a. range_with_len a n) same

one_band : (b n : ℕ) → flat_map (λ band. flat_map (λ y. range_with_len (b + band * 0 + y * 0) n) (range_with_len 0 1)) (range_with_len 0 1) ≡ range_with_len b n
one_band b n =
    flat_map-same _ _ (λ band. one_y (b + band * 0) n) (range_with_len 0 1) ∙ one_y b n

pub covers_rows : (first : ℕ) (s c : Sides) → IsBox first s c → s.x < c.x → Covers first s c (row_layout first s c)
covers_rows first s c box short =
    let most = bounded first s c box in
    let row : (s.y - 1) * c.x + s.x < c.y * c.x = last_within s.y c.y c.x s.x box.y.0 box.y.1 short in
    let plane : (s.bands - 1) * (c.y * c.x) + ((s.y - 1) * c.x + s.x) < c.bands * (c.y * c.x) = last_within s.bands c.bands (c.y * c.x) ((s.y - 1) * c.x + s.x) box.bands.0 box.bands.1 row in
    record {
      laid = laid-all_runs (row_layout first s c);
      spread = record { y = λ _. short; bands = λ _. row; t = λ _. omega arith };
      fits = record { bands = box.bands.0; y = box.y.0; length = box.x.0; count = omega (arith, most.many, box.cells); numbers = omega (arith, most.plane, most.bands, most.y, most.whole, box.cells, box.begins) };
    }

pub covers_planes : (first : ℕ) (s c : Sides) → IsBox first s c → s.x ≡ c.x → s.y < c.y → Covers first s c (plane_layout first s c)
covers_planes first s c box ex short =
    let most = bounded first s c box in
    let wide : 1 ≤ c.x = omega (arith, box.x) in
    let row : s.y * c.x < c.y * c.x = fewer s.y c.y c.x short wide in
    let plane : (s.bands - 1) * (c.y * c.x) + s.y * c.x < c.bands * (c.y * c.x) = last_within s.bands c.bands (c.y * c.x) (s.y * c.x) box.bands.0 box.bands.1 row in
    record {
      laid = laid-all_runs (plane_layout first s c) ∙ sym (flat_map-same _ _ (λ t. flat_map-same _ _ (λ band.
          rows_touch (first + t * (c.bands * (c.y * c.x)) + band * (c.y * c.x)) s c ex
          ∙ sym (one_y (first + t * (c.bands * (c.y * c.x)) + band * (c.y * c.x)) (s.y * c.x))) (range_with_len 0 s.bands)) (range_with_len 0 s.t));
      spread = record { y = λ h. absurd (omega arith); bands = λ _. omega arith; t = λ _. omega arith };
      fits = record { bands = box.bands.0; y = omega arith; length = most.least_y; count = omega (arith, most.some, box.cells); numbers = omega (arith, most.bands, most.whole, box.cells, box.begins) };
    }

pub covers_volumes : (first : ℕ) (s c : Sides) → IsBox first s c → s.x ≡ c.x → s.y ≡ c.y → s.bands < c.bands → Covers first s c (volume_layout first s c)
covers_volumes first s c box ex ey short =
    let most = bounded first s c box in
    let wide : 1 ≤ c.y * c.x = omega (arith, box.x, most.row) in
    let plane : s.bands * (c.y * c.x) < c.bands * (c.y * c.x) = fewer s.bands c.bands (c.y * c.x) short wide in
    record {
      laid = laid-all_runs (volume_layout first s c) ∙ sym (flat_map-same _ _ (λ t.
          planes_touch (first + t * (c.bands * (c.y * c.x))) s c ex ey
          ∙ sym (one_band (first + t * (c.bands * (c.y * c.x))) (s.bands * (c.y * c.x)))) (range_with_len 0 s.t));
      spread = record { y = λ h. absurd (omega arith); bands = λ h. absurd (omega arith); t = λ _. omega arith };
      fits = record { bands = omega arith; y = omega arith; length = most.least_bands; count = omega (arith, most.few, box.cells); numbers = omega (arith, most.whole, box.cells, box.begins) };
    }

pub covers_one : (first : ℕ) (s c : Sides) → IsBox first s c → s.x ≡ c.x → s.y ≡ c.y → s.bands ≡ c.bands → Covers first s c (one_layout first s c)
covers_one first s c box ex ey eb =
    let most = bounded first s c box in
    let n = s.t * (c.bands * (c.y * c.x)) in
    record {
      laid = laid-all_runs (one_layout first s c)
          ∙ flat_map-same _ _ (λ t. one_band (first + t * 0) n) (range_with_len 0 1) ∙ one_y first n
          ∙ sym (volumes_touch first s c ex ey eb);
      spread = record { y = λ h. absurd (omega arith); bands = λ h. absurd (omega arith); t = λ h. absurd (omega arith) };
      fits = record { bands = omega arith; y = omega arith; length = most.least_t; count = omega arith; numbers = omega (arith, box.begins) };
    }
