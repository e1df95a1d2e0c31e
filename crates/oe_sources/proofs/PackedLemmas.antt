-- The packed file of a cube: its sections of records, and that it is read as the cube.
use Rattle.std.proofs.Common.{◌≡◌, ℕ, zero, suc, ◌+◌, ◌*◌, ◌/◌, ◌%◌, ◌<◌, ◌≤◌, Bool, false, cond, List, [], ◌∷◌, ◌++◌, length, get_or, take, drop, Option, Some, None, inl, inr, refl, sym, ap, ◌∙◌, subst, arith}
use Rattle.std.specs.Prelude.{IfSome, is_none, slice_get, sum_by, unwrap_or}
use Rattle.std.specs.Option.{option_map}
use Rattle.std.specs.List.{All, filter, range_with_len}
use Rattle.std.proofs.Math.Nat.{mul-add, mul-suc, mul_comm, mod-lt}
use Rattle.std.proofs.Math.Seq.{drop-append-add, take-append_seam}
use Rattle.std.proofs.lemmas.Bool.{cases_lt}
use Rattle.std.proofs.lemmas.List.{drop-append-le, drop-drop, get_or-drop, get_or-take, length-append, length-drop, length-take-le, take-append-le}
use Rattle.std.proofs.lemmas.List.Sums.{sum_by-cons}
use Rattle.std.proofs.lemmas.Nat.{div-add-mod'}
use Rattle.std.proofs.lemmas.Option.{slice_get-get_or, slice_get_past}
use Rattle.oe_cell.specs.Cells.{IsCell}
use Rattle.oe_cell.specs.declared.cell.Cell.{Cell}
use Rattle.oe_cell.specs.declared.cell.Cell.TheVariants.{Empty}
use Rattle.oe_cube.specs.Collections.{IsCollection}
use Rattle.oe_dims.specs.Dimensions.{Dimensions, cell_count}
use Rattle.oe_dims.specs.declared.kind.CellKind.{CellKind}
use Rattle.oe_dims.proofs.FlatMapLemmas.{same_gets}
use Rattle.oe_sources.specs.CubeFile.{IsCubeFile, cell_stored, contents_of, is_damaged, record_offset}
use Rattle.oe_sources.specs.FileState.{FileState, ReadsPacked}
use Rattle.oe_sources.specs.Head.{Head, IsHead, front_bytes}
use Rattle.oe_sources.specs.Opening.{BeginsAlone}
use Rattle.oe_sources.specs.Packed.{AreLeastWidths, IsPacked, packed_head, plane_size, section_records}
use Rattle.oe_sources.specs.Source.{Contents}
use Rattle.oe_sources.specs.StoredCell.{stored_cell}
use Rattle.oe_sources.proofs.ContentLemmas.{content_at, content_count}
use Rattle.oe_sources.proofs.SizeLemmas.{cells_of_sections, section_within}
use Rattle.oe_sources.proofs.SourceLemmas.{one_of_kind}
use Rattle.oe_sources.proofs.StoredLemmas.{stored_from}
use Rattle.oe_wide.specs.Wide.{AllFitIn, FitsIn, byte_count, part_at, record_bytes, records_in}
use Rattle.oe_wide.proofs.RowLemmas.{bytes_of_record, length-record_bytes, records_in-at}
use Rattle.oe_wide.specs.declared.width.Width.{Width}
use Rattle.oe_wide.specs.declared.width.Width.TheVariants.{Seventeen}
use Rattle.oe_window.proofs.RangeLemmas.{range-slice_get}

-- ---- how long records are

pub length_records : (w : Width) (cells : List Cell) → AllFitIn w cells → length (records_in w cells) ≡ byte_count w * length cells
length_records w [] fit = omega arith
length_records w (c ∷ cs) fit =
    let one : length (record_bytes w c) ≡ byte_count w = length-record_bytes w c (fit 0 Empty (omega arith)) in
    let more = length_records w cs (λ j d b. fit (suc j) d (omega (arith, b))) in
    length-append (record_bytes w c) (records_in w cs) ∙ omega (arith, one, more, mul-suc (byte_count w) (length cs))

-- a section's cells, and those of the sections behind it
first_long : (size n : ℕ) (cells : List Cell) → length cells ≡ size * suc n → length (take size cells) ≡ size
first_long size n cells long = length-take-le size cells (omega (arith, long, mul-suc size n))

others_long : (size n : ℕ) (cells : List Cell) → length cells ≡ size * suc n → length (drop size cells) ≡ size * n
others_long size n cells long = length-drop size cells ∙ omega (arith, long, mul-suc size n)

section_long : (size n : ℕ) (w : Width) (cells : List Cell) → length cells ≡ size * suc n → AllFitIn w (take size cells) → length (records_in w (take size cells)) ≡ size * byte_count w
section_long size n w cells long fit =
    length_records w (take size cells) fit ∙ ap (λ (m : ℕ). byte_count w * m) (first_long size n cells long) ∙ mul_comm (byte_count w) size

sum_first : (size : ℕ) (w : Width) (ws : List Width) → size * sum_by byte_count (w ∷ ws) ≡ size * byte_count w + size * sum_by byte_count ws
sum_first size w ws = ap (λ (m : ℕ). size * m) (sum_by-cons byte_count w ws) ∙ mul-add size (byte_count w) (sum_by byte_count ws)

pub sections_long : (size : ℕ) (ws : List Width) (cells : List Cell) → AreLeastWidths size ws cells → length cells ≡ size * length ws → length (section_records size ws cells) ≡ size * sum_by byte_count ws
sections_long size [] cells least long = omega arith
sections_long size (w ∷ ws) cells least long =
    let first = section_long size (length ws) w cells long least.0.holds in
    let more = sections_long size ws (drop size cells) least.1 (others_long size (length ws) cells long) in
    length-append (records_in w (take size cells)) (section_records size ws (drop size cells)) ∙ omega (arith, first, more, sum_first size w ws)

-- ---- where each record stands

part_front : (w : Width) (a b : List ℕ) (r : ℕ) → byte_count w * r + byte_count w ≤ length a → part_at w (a ++ b) r ≡ part_at w a r
part_front w a b r room =
    let n = byte_count w in
    ap (take n) (drop-append-le (n * r) a b (omega (arith, room)))
    ∙ take-append-le n (drop (n * r) a) b (omega (arith, room, length-drop (n * r) a))

-- the record at an index of a section is that of the cell there, which fits its width
record IsPart (size : ℕ) (ws : List Width) (cells : List Cell) (s r : ℕ) (w : Width) : Type 0 where
  part : part_at w (drop (size * sum_by byte_count (take s ws)) (section_records size ws cells)) r ≡ record_bytes w (get_or cells (s * size + r) Empty)
  fits : FitsIn w (get_or cells (s * size + r) Empty)

packed_part : (size : ℕ) (ws : List Width) (cells : List Cell) (s r : ℕ) (d : Width) → AreLeastWidths size ws cells → length cells ≡ size * length ws → s < length ws → r < size → IsPart size ws cells s r (get_or ws s d)
packed_part size [] cells s r d least long there within = absurd (omega (arith, there))
packed_part size (w ∷ ws) cells zero r d least long there within =
    let first = take size cells in
    let fit : AllFitIn w first = least.0.holds in
    let count : length first ≡ size = first_long size (length ws) cells long in
    let n = byte_count w in
    let all : length (records_in w first) ≡ n * size = length_records w first fit ∙ ap (λ (m : ℕ). n * m) count in
    let upto : n * r + n ≤ n * size = last_part n r size within in
    let none : size * sum_by byte_count (take zero (w ∷ ws)) ≡ 0 = omega arith in
    let index : zero * size + r ≡ r = omega arith in
    let cell : get_or first r Empty ≡ get_or cells (zero * size + r) Empty = get_or-take size cells r Empty within ∙ ap (λ (m : ℕ). get_or cells m Empty) (sym index) in
    record {
      part = ap (λ (m : ℕ). part_at w (drop m (section_records size (w ∷ ws) cells)) r) none
          ∙ part_front w (records_in w first) (section_records size ws (drop size cells)) r (omega (arith, all, upto))
          ∙ records_in-at w first r fit (omega (arith, count, within)) ∙ ap (record_bytes w) cell;
      fits = subst (FitsIn w) cell (fit r Empty (omega (arith, count, within)));
    }
  where
    last_part : (n r size : ℕ) → r < size → n * r + n ≤ n * size
    last_part n r zero h = absurd (omega (arith, h))
    last_part n zero (suc s) h = omega (arith, mul-suc n s)
    last_part n (suc r) (suc s) h = omega (arith, mul-suc n r, mul-suc n s, last_part n r s (omega (arith, h)))
packed_part size (w ∷ ws) cells (suc s) r d least long there within =
    let first = records_in w (take size cells) in
    let more = section_records size ws (drop size cells) in
    let rest = packed_part size ws (drop size cells) s r d least.1 (others_long size (length ws) cells long) (omega (arith, there)) within in
    let v = get_or ws s d in
    let past : size * sum_by byte_count (take (suc s) (w ∷ ws)) ≡ length first + size * sum_by byte_count (take s ws) = sum_first size w (take s ws) ∙ ap (λ (m : ℕ). m + size * sum_by byte_count (take s ws)) (sym (section_long size (length ws) w cells long least.0.holds)) in
    let index : size + (s * size + r) ≡ suc s * size + r = omega (arith, mul-suc size s, mul_comm s size, mul_comm (suc s) size) in
    let cell : get_or (drop size cells) (s * size + r) Empty ≡ get_or cells (suc s * size + r) Empty = get_or-drop size cells (s * size + r) Empty ∙ ap (λ (m : ℕ). get_or cells m Empty) index in
    record {
      part = ap (λ (m : ℕ). part_at v (drop m (first ++ more)) r) past
          ∙ ap (λ (bs : List ℕ). part_at v bs r) (drop-append-add first more (size * sum_by byte_count (take s ws)))
          ∙ rest.part ∙ ap (record_bytes v) cell;
      fits = subst (FitsIn v) cell rest.fits;
    }

-- ---- a packed file is a cube file, whose cells are those of the cube

packed_count : (id : List ℕ) (shape : Dimensions) (kind : CellKind) (ws : List Width) (cells : List Cell) → IsHead (packed_head id shape kind ws) → length cells ≡ cell_count shape → length cells ≡ plane_size shape * length ws
packed_count id shape kind ws cells valid long = long ∙ sym (cells_of_sections (packed_head id shape kind ws) valid)

pub packed_file : (id : List ℕ) (shape : Dimensions) (kind : CellKind) (cells : List Cell) (all : List ℕ) → length cells ≡ cell_count shape → (packed : IsPacked id shape kind cells all) → IsCubeFile all (packed_head id shape kind packed.widths)
packed_file id shape kind cells all long packed =
    let front = front_bytes (packed_head id shape kind packed.widths) in
    let records = section_records (plane_size shape) packed.widths cells in
    record {
      valid = packed.valid;
      front = ap (take (length front)) packed.bytes_are ∙ take-append_seam front records;
      whole = ap length packed.bytes_are ∙ length-append front records
          ∙ ap (λ (m : ℕ). length front + m) (sections_long (plane_size shape) packed.widths cells packed.least (packed_count id shape kind packed.widths cells packed.valid long));
    }

packed_cell : (id : List ℕ) (shape : Dimensions) (kind : CellKind) (cells : List Cell) (all : List ℕ) (n : ℕ) → IsCollection (record { shape = shape; cells = cells; kind = kind }) → All IsCell cells → (packed : IsPacked id shape kind cells all) → n < cell_count shape → cell_stored (packed_head id shape kind packed.widths) all n ≡ Some (get_or cells n Empty)
packed_cell id shape kind cells all n collection fit packed below =
    let ws = packed.widths in
    let head = packed_head id shape kind ws in
    let size = plane_size shape in
    let s = n / size in
    let r = n % size in
    let w = get_or ws s Seventeen in
    let front = front_bytes head in
    let records = section_records size ws cells in
    let within = section_within head n packed.valid below in
    let part = packed_part size ws cells s r Seventeen packed.least (packed_count id shape kind ws cells packed.valid collection.counted) within.1 (mod-lt n within.0) in
    let start = size * sum_by byte_count (take s ws) in
    let number : s * size + r ≡ n = omega (arith, div-add-mod' n size) in
    let c = get_or cells n Empty in
    let cell : get_or cells (s * size + r) Empty ≡ c = ap (λ (m : ℕ). get_or cells m Empty) number in
    let offset : record_offset head n ≡ length front + (start + byte_count w * r) = omega arith in
    let bytes : take (byte_count w) (drop (record_offset head n) all) ≡ record_bytes w c = ap (λ (bs : List ℕ). take (byte_count w) (drop (record_offset head n) bs)) packed.bytes_are
    ∙ ap (λ (m : ℕ). take (byte_count w) (drop m (front ++ records))) offset
    ∙ ap (take (byte_count w)) (drop-append-add front records (start + byte_count w * r))
    ∙ ap (take (byte_count w)) (sym (drop-drop (byte_count w * r) start records))
    ∙ part.part ∙ ap (record_bytes w) cell in
    let fits : FitsIn w c = subst (FitsIn w) cell part.fits in
    ap (stored_cell kind w) bytes
    ∙ stored_from kind w (record_bytes w c) c (record {
      is_record = record { valid = fit n Empty (omega (arith, below, collection.counted)); bytes_are = bytes_of_record w c fits };
      of_kind = one_of_kind kind cells n collection.of_kind;
    })

none_kept : {X : Type 0} (p : X → Bool) (xs : List X) → ((k : ℕ) (x : X) → slice_get xs k ≡ Some x → p x ≡ false) → filter p xs ≡ []
none_kept p [] h = refl
none_kept p (x ∷ xs) h =
    let here : p x ≡ false = h 0 x refl in
    ap (λ (b : Bool). cond b (x ∷ filter p xs) (filter p xs)) here ∙ none_kept p xs (λ k y e. h (suc k) y e)

same_contents : (a b : Contents) → a.cells ≡ b.cells → a.damaged ≡ b.damaged → a ≡ b
same_contents a b e f =
    ap (λ (cells : List Cell). record { cells = cells; damaged = a.damaged }) e ∙ ap (λ (damaged : List ℕ). record { cells = b.cells; damaged = damaged }) f

no_damage : (head : Head) (all : List ℕ) → ((n : ℕ) → n < cell_count head.shape → is_damaged head all n ≡ false) → (contents_of head all).damaged ≡ []
unfolding contents_of
no_damage head all h =
    none_kept (is_damaged head all) (range_with_len 0 (cell_count head.shape)) (λ k n e.
    let found = range-slice_get 0 (cell_count head.shape) k n e in h n (omega (arith, found.0, found.1)))

pub packed_contents : (id : List ℕ) (shape : Dimensions) (kind : CellKind) (cells : List Cell) (all : List ℕ) → IsCollection (record { shape = shape; cells = cells; kind = kind }) → All IsCell cells → (packed : IsPacked id shape kind cells all) → contents_of (packed_head id shape kind packed.widths) all ≡ record { cells = cells; damaged = [] }
packed_contents id shape kind cells all collection fit packed =
    let head = packed_head id shape kind packed.widths in
    let contents = contents_of head all in
    same_contents contents (record { cells = cells; damaged = [] })
    (same_gets contents.cells cells (λ k. elim (cases_lt k (cell_count shape)) [
      | inl below ↦
          content_at head all k below
          ∙ ap (λ (o : Option Cell). Some (unwrap_or o Empty)) (packed_cell id shape kind cells all k collection fit packed below)
          ∙ sym (slice_get-get_or cells k Empty (omega (arith, below, collection.counted)))
      | inr past ↦
          slice_get_past contents.cells k (omega (arith, past, content_count head all))
          ∙ sym (slice_get_past cells k (omega (arith, past, collection.counted)))
    ]))
    (no_damage head all (λ n below. ap is_none (packed_cell id shape kind cells all n collection fit packed below)))

-- what a file has whose bytes begin as one head's alone
pub reads_packed : (all : List ℕ) (head : Head) (file : FileState) → BeginsAlone all head → file.id ≡ head.id → file.source.shape ≡ head.shape → file.source.kind ≡ head.kind → file.source.contents ≡ Some (contents_of head all) → ReadsPacked all file
reads_packed all head file begins id_is shape_is kind_is contents_are id shape kind cells collection fit packed =
    let other = packed_head id shape kind packed.widths in
    let same : head ≡ other = sym (begins.alone other (packed_file id shape kind cells all collection.counted packed)) in
    record {
      id_is = id_is ∙ ap (λ (h : Head). h.id) same;
      shape_is = shape_is ∙ ap (λ (h : Head). h.shape) same;
      kind_is = kind_is ∙ ap (λ (h : Head). h.kind) same;
      contents_are = contents_are ∙ ap (λ (h : Head). Some (contents_of h all)) same ∙ ap Some (packed_contents id shape kind cells all collection fit packed);
    }

pub packed_if : (store : Option (List ℕ)) (head : Head) (file : FileState) → IfSome store (λ all. IsCubeFile all head × BeginsAlone all head) → file.id ≡ head.id → file.source.shape ≡ head.shape → file.source.kind ≡ head.kind → file.source.contents ≡ option_map (contents_of head) store → IfSome store (λ all. ReadsPacked all file)
packed_if None head file is_file id_is shape_is kind_is contents_are = tt
packed_if (Some all) head file is_file id_is shape_is kind_is contents_are =
    reads_packed all head file is_file.1 id_is shape_is kind_is contents_are
