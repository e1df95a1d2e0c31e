-- The records of a piece of a section, as they stand in the file.
use Rattle.std.proofs.Common.{◌≡◌, ℕ, zero, suc, ◌+◌, ◌-◌, ◌*◌, ◌^◌, ◌/◌, ◌%◌, ◌<◌, ◌≤◌, List, [], ◌∷◌, ◌++◌, length, take, drop, Option, Some, None, IfSome, true, inl, inr, refl, sym, ap, ◌∙◌, arith}
use Rattle.std.specs.Prelude.{is_none, slice_get, slice_index_or, sum_by}
use Rattle.std.proofs.lemmas.Bool.{cases_lt}
use Rattle.std.proofs.lemmas.Grind.{common_steps}
use borrow.Rule.Slice.PartMut.{put_mid}
use Rattle.std.proofs.lemmas.List.Sums.{sum_by-take-drop}
use Rattle.std.proofs.Math.Nat.{mod-le, mod-lt, mul-add, mul-suc, mul_comm}
use Rattle.std.proofs.lemmas.Nat.{div-add-mod', div-mul-add, mod-mul-add}
use Rattle.std.proofs.lemmas.List.{drop-drop, drop-take, take-take, length-append, length-take-le}
use Rattle.oe_cell.specs.declared.cell.Cell.{Cell}
use Rattle.oe_dims.specs.declared.kind.CellKind.{CellKind}
use Rattle.oe_outside.specs.Stored.{HoldsAt, StoreHolds}
use Rattle.oe_sources.specs.CubeFile.{IsCubeFile, cell_stored, is_damaged, record_at, record_offset, section_of, width_of}
use Rattle.std.specs.Int.{w32, to_be_bytes}
use Rattle.oe_dims.specs.Dimensions.{cell_count}
use Rattle.oe_dims.proofs.ShapeLemmas.{cell_count_within}
use Rattle.oe_dims.proofs.FlatMapLemmas.{slice_get-append_left}
use Rattle.oe_sources.proofs.SizeLemmas.{byte_count_most, bytes_few, le_product, section_within, sections_few, sum_more}
use Rattle.oe_sources.specs.Head.{Head, IsHead, front_bytes, header_text, magic, record_bytes_count, section_size, section_start, section_widths}
use Rattle.oe_sources.specs.OpenedFile.{AreStoredFrom, HasRecords, IsDamageFrom}
use Rattle.oe_sources.specs.StoredCell.{stored_cell}
use Rattle.oe_sources.specs.declared.source.SourceFail.{SourceFail}
use Rattle.oe_sources.specs.declared.source.SourceFail.TheVariants.{Failed, Damaged}
use Rattle.oe_wide.specs.Wide.{byte_count, part_at}
use Rattle.oe_wide.specs.declared.width.Width.{Width}
use Rattle.oe_wide.specs.declared.width.Width.TheVariants.{Seventeen}

parts_of : (n k size : ℕ) → n + k ≡ n / size * size + (n % size + k)
parts_of n k size = omega (arith, div-add-mod' n size)

-- so many more within the same section
same_quotient : (n k size : ℕ) → 0 < size → k < size - n % size → (n + k) / size ≡ n / size
same_quotient n k size some below =
    ap (λ (m : ℕ). m / size) (parts_of n k size) ∙ div-mul-add (n / size) size (n % size + k) (omega (arith, below, mod-lt n some))

same_rest : (n k size : ℕ) → 0 < size → k < size - n % size → (n + k) % size ≡ n % size + k
same_rest n k size some below =
    ap (λ (m : ℕ). m % size) (parts_of n k size) ∙ mod-mul-add (n / size) size (n % size + k) (omega (arith, below, mod-lt n some))

pub same_width : (head : Head) (n k : ℕ) → 0 < section_size head → k < section_size head - n % section_size head → width_of head (n + k) ≡ width_of head n
same_width head n k some below =
    ap (λ (s : ℕ). slice_index_or (section_widths head) s Seventeen) (same_quotient n k (section_size head) some below)

pub later_offset : (head : Head) (n k : ℕ) → 0 < section_size head → k < section_size head - n % section_size head → record_offset head (n + k) ≡ record_offset head n + byte_count (width_of head n) * k
later_offset head n k some below =
    let size = section_size head in
    let b = byte_count (width_of head n) in
    let front = length (front_bytes head) in
    let section : section_of head (n + k) ≡ section_of head n = same_quotient n k size some below in
    let bytes : byte_count (width_of head (n + k)) ≡ b = ap byte_count (same_width head n k some below) in
    let rest : (n + k) % size ≡ n % size + k = same_rest n k size some below in
    let product : byte_count (width_of head (n + k)) * ((n + k) % size) ≡ b * (n % size) + b * k = ap (λ (m : ℕ). m * ((n + k) % size)) bytes ∙ ap (λ (m : ℕ). b * m) rest ∙ mul-add b (n % size) k in
    let start : section_start head (section_of head (n + k)) ≡ section_start head (section_of head n) = ap (section_start head) section in
    sum_of front (section_start head (section_of head (n + k))) (section_start head (section_of head n)) (byte_count (width_of head (n + k)) * ((n + k) % size)) (b * (n % size)) (b * k) start product
  where
    sum_of : (f s t p q r : ℕ) → s ≡ t → p ≡ q + r → f + s + p ≡ f + t + q + r
    sum_of f s t p q r e h = omega (arith, e, h)

-- a part of the first ones
front_part : (w : Width) (bytes : List ℕ) (k n : ℕ) → k < n → part_at w (take (byte_count w * n) bytes) k ≡ part_at w bytes k
front_part w bytes k n h =
    let b = byte_count w in
    let split : b * n ≡ b * k + b * (n - k) = (let e : n ≡ k + (n - k) = omega (arith, h) in ap (λ (m : ℕ). b * m) e ∙ mul-add b k (n - k)) in
    let enough : b ≤ b * (n - k) = least b (n - k) (omega (arith, h)) in
    ap (λ (m : ℕ). take b (drop (b * k) (take m bytes))) split
    ∙ ap (take b) (drop-take (b * k) (b * (n - k)) bytes)
    ∙ take-take b (b * (n - k)) (drop (b * k) bytes) enough
  where
    least : (b m : ℕ) → 0 < m → b ≤ b * m
    least b zero p = absurd (omega (arith, p))
    least b (suc m) p = omega (arith, mul-suc b m)

-- a part of what was read is the record that stands in the file
pub part_is : (head : Head) (all buffer : List ℕ) (at n count k : ℕ) → 0 < section_size head → k < section_size head - n % section_size head → k < count → at ≡ record_offset head n → length buffer ≡ byte_count (width_of head n) * count → HoldsAt all at buffer → part_at (width_of head n) buffer k ≡ record_at head all (n + k)
part_is head all buffer at n count k some below within at_is long held =
    let w = width_of head n in
    let b = byte_count w in
    let whole : buffer ≡ take (b * count) (drop at all) = sym held ∙ ap (λ (m : ℕ). take m (drop at all)) long in
    let offset : at + b * k ≡ record_offset head (n + k) = ap (λ (m : ℕ). m + b * k) at_is ∙ sym (later_offset head n k some below) in
    ap (λ (bs : List ℕ). part_at w bs k) whole
    ∙ front_part w (drop at all) k count within
    ∙ ap (take b) (drop-drop (b * k) at all)
    ∙ ap (λ (m : ℕ). take b (drop m all)) offset
    ∙ ap (λ (v : Width). take (byte_count v) (drop (record_offset head (n + k)) all)) (sym (same_width head n k some below))

-- the stored cell of a part of what was read is that of the file
stored_part : (head : Head) (kind : CellKind) (w : Width) (all buffer : List ℕ) (at n count k : ℕ) → kind ≡ head.kind → w ≡ width_of head n → 0 < section_size head → count ≤ section_size head - n % section_size head → k < count → at ≡ record_offset head n → length buffer ≡ byte_count w * count → HoldsAt all at buffer → stored_cell kind w (part_at w buffer k) ≡ cell_stored head all (n + k)
stored_part head kind w all buffer at n count k kind_is w_is some left within at_is long held =
    let below : k < section_size head - n % section_size head = omega (arith, within, left) in
    let long_in : length buffer ≡ byte_count (width_of head n) * count = long ∙ ap (λ (v : Width). byte_count v * count) w_is in
    ap (λ (d : CellKind). stored_cell d w (part_at w buffer k)) kind_is
    ∙ ap (λ (v : Width). stored_cell head.kind v (part_at v buffer k)) w_is
    ∙ ap (stored_cell head.kind (width_of head n)) (part_is head all buffer at n count k some below within at_is long_in held)
    ∙ ap (λ (v : Width). stored_cell head.kind v (record_at head all (n + k))) (sym (same_width head n k some below))

-- what was read of a piece are the cells of the file
pub piece_cells : (store : Option (List ℕ)) (head : Head) (kind : CellKind) (w : Width) (at n count r : ℕ) (buffer : List ℕ) (into : List Cell) → kind ≡ head.kind → w ≡ width_of head n → 0 < section_size head → count ≤ section_size head - n % section_size head → at ≡ record_offset head n → length buffer ≡ byte_count w * count → StoreHolds store at buffer → ((k : ℕ) → k < r → stored_cell kind w (part_at w buffer k) ≡ slice_get into k) → count ≤ r → IfSome store (λ all. (k : ℕ) → k < count → cell_stored head all (n + k) ≡ slice_get into k)
piece_cells None head kind w at n count r buffer into kind_is w_is some left at_is long held read enough = tt
piece_cells (Some all) head kind w at n count r buffer into kind_is w_is some left at_is long held read enough = λ k below.
    sym (stored_part head kind w all buffer at n count k kind_is w_is some left below at_is long held)
    ∙ read k (omega (arith, below, enough))

-- where reading stopped the file is damaged
pub piece_damage : (store : Option (List ℕ)) (head : Head) (kind : CellKind) (w : Width) (at n count r : ℕ) (buffer : List ℕ) → kind ≡ head.kind → w ≡ width_of head n → 0 < section_size head → count ≤ section_size head - n % section_size head → at ≡ record_offset head n → length buffer ≡ byte_count w * count → StoreHolds store at buffer → stored_cell kind w (part_at w buffer r) ≡ None → r < count → IfSome store (λ all. is_damaged head all (n + r) ≡ true)
piece_damage None head kind w at n count r buffer kind_is w_is some left at_is long held stop below = tt
piece_damage (Some all) head kind w at n count r buffer kind_is w_is some left at_is long held stop below =
    ap is_none (sym (stored_part head kind w all buffer at n count r kind_is w_is some left below at_is long held) ∙ stop)

-- where a record stands is far below 2^64
pub front_few : (head : Head) → IsHead head → length (front_bytes head) ≤ 8388620
front_few head valid =
    let text = header_text head in
    omega (arith, length-append (magic head.widths ++ to_be_bytes w32 (length text)) text, length-append (magic head.widths) (to_be_bytes w32 (length text)), length-magic head.widths, valid.short)
  where
    length-magic : (ws : Option (List Width)) → length (magic ws) ≡ 8
    length-magic None = refl
    length-magic (Some ws) = refl

pub offset_few : (head : Head) (n : ℕ) → IsHead head → n < cell_count head.shape → section_start head (section_of head n) + byte_count (width_of head n) * (n % section_size head) ≤ 34 * 2 ^ 40
offset_few head n valid below =
    let within = section_within head n valid below in
    let all = section_widths head in
    let section = section_of head n in
    let part : length (take section all) ≤ length all = omega (arith, length-take-le section all (omega (arith, within.1)), within.1) in
    let start = bytes_few (section_size head) all (take section all) part (sections_few head valid) in
    let rest = le_product (byte_count (width_of head n)) (n % section_size head) 17 1099511627776 (byte_count_most (width_of head n)) (omega (arith, mod-le n (section_size head), below, cell_count_within head.shape valid.shape)) in
    omega (arith, start, rest)

-- the cells that were read stand in front of the others
pub in_front : (store : Option (List ℕ)) (head : Head) (m n : ℕ) (xs ys : List Cell) → n ≤ length xs → IfSome store (λ all. (k : ℕ) → k < n → cell_stored head all (m + k) ≡ slice_get xs k) → IfSome store (λ all. (k : ℕ) → k < n → cell_stored head all (m + k) ≡ slice_get (xs ++ ys) k)
in_front None head m n xs ys room h = tt
in_front (Some all) head m n xs ys room h = λ k below. h k below ∙ sym (slice_get-append_left xs ys k (omega (arith, below, room)))

-- a refusal at one of some cells is one at one of more
pub damage_among : (head : Head) (store : Option (List ℕ)) (m n l : ℕ) (e : SourceFail) → n ≤ l → IsDamageFrom head store m n e → IsDamageFrom head store m l e
damage_among head store m n l Failed le h = tt
damage_among head store m n l (Damaged number) le h = (h.0, omega (arith, h.1, le), h.2)

-- the records of cells of one section end within the file
pub has_records : (store : Option (List ℕ)) (head : Head) (n count : ℕ) → IsHead head → n < cell_count head.shape → count ≤ section_size head - n % section_size head → IfSome store (λ all. IsCubeFile all head) → HasRecords head store n count
has_records None head n count valid below left file = tt
has_records (Some all) head n count valid below left file =
    let size = section_size head in
    let ws = section_widths head in
    let section = section_of head n in
    let w = width_of head n in
    let b = byte_count w in
    let within = section_within head n valid below in
    let next : size * sum_by byte_count (take (section + 1) ws) ≡ section_start head section + size * b = sum_more size ws section Seventeen within.1 in
    let last : size * sum_by byte_count (take (section + 1) ws) ≤ record_bytes_count head = le_product size (sum_by byte_count (take (section + 1) ws)) size (sum_by byte_count ws) (omega arith) (part_sum ws (section + 1)) in
    let inside : b * (n % size) + b * count ≤ size * b = inner b (n % size) count size (omega (arith, left, mod-lt n within.0)) in
    let whole = file.whole in
    omega (arith, next, last, inside, whole)
  where
    part_sum : (ws : List Width) (k : ℕ) → sum_by byte_count (take k ws) ≤ sum_by byte_count ws
    part_sum ws k = omega (arith, sum_by-take-drop byte_count ws k)

    inner : (b r c s : ℕ) → r + c ≤ s → b * r + b * c ≤ s * b
    inner b r c s h = omega (arith, mul-add b r c, le_product b (r + c) b s (omega arith) h, mul_comm b s)

pub slice_get_back : (xs ys : List Cell) (j : ℕ) → slice_get (xs ++ ys) (length xs + j) ≡ slice_get ys j
slice_get_back [] ys j = ap (slice_get ys) (omega arith)
slice_get_back (x ∷ xs) ys j =
    let next : length (x ∷ xs) + j ≡ suc (length xs + j) = omega arith in
    ap (slice_get (x ∷ (xs ++ ys))) next ∙ slice_get_back xs ys j

pub slice_get_take : (n : ℕ) (xs : List Cell) (k : ℕ) → k < n → k < length xs → slice_get (take n xs) k ≡ slice_get xs k
slice_get_take zero xs k h room = absurd (omega (arith, h))
slice_get_take (suc n) [] k h room = absurd (omega (arith, room))
slice_get_take (suc n) (x ∷ xs) zero h room = refl
slice_get_take (suc n) (x ∷ xs) (suc k) h room = slice_get_take n xs k (omega (arith, h)) (omega (arith, room))

-- a part that was filled up to the end
pub put_end : (m : ℕ) (xs ys : List Cell) → m ≤ length xs → length ys ≡ length xs - m → put_mid m (length xs - m) xs ys ≡ take m xs ++ ys
put_end m xs ys room long = grind (arith, common_steps)

-- one piece more was read
pub more_stored : (store : Option (List ℕ)) (head : Head) (first done count : ℕ) (xs ys : List Cell) → done ≤ length xs → AreStoredFrom head store first done xs → IfSome store (λ all. (k : ℕ) → k < count → cell_stored head all (first + done + k) ≡ slice_get ys k) → AreStoredFrom head store first (done + count) (take done xs ++ ys)
more_stored None head first done count xs ys room h read = tt
more_stored (Some all) head first done count xs ys room h read = λ k below.
    elim (cases_lt k done) [
      | inl inner ↦ (
          let long : length (take done xs) ≡ done = length-take-le done xs room in
          h k inner ∙ sym (slice_get-append_left (take done xs) ys k (omega (arith, inner, long)) ∙ slice_get_take done xs k inner (omega (arith, inner, room))))
      | inr outer ↦ (
          let long : length (take done xs) ≡ done = length-take-le done xs room in
          let number : first + k ≡ first + done + (k - done) = omega (arith, outer) in
          let index : k ≡ length (take done xs) + (k - done) = omega (arith, outer, long) in
          ap (cell_stored head all) number ∙ read (k - done) (omega (arith, below, outer))
          ∙ sym (ap (slice_get (take done xs ++ ys)) index ∙ slice_get_back (take done xs) ys (k - done)))
    ]
