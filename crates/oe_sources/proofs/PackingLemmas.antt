-- Writing the sections of a packed file one after the other.
use Rattle.std.proofs.Common.{◌≡◌, ℕ, true, zero, suc, ◌+◌, ◌-◌, ◌*◌, ◌/◌, ◌<◌, ◌≤◌, min, List, [], ◌∷◌, ◌++◌, length, get_or, take, drop, Option, Some, None, inl, inr, refl, sym, ap, ◌∙◌, subst, arith, append_assoc}
use Rattle.std.specs.List.{slice_range}
use Rattle.std.specs.Option.{option_map}
use Rattle.std.proofs.Math.Nat.{mul-suc, mul_comm}
use Rattle.std.proofs.Math.Seq.{drop-append_seam, take-append-add, take-append_seam}
use Rattle.std.proofs.lemmas.List.{append-nil, drop-append-le, drop-drop, drop-take, length-drop, length-take-le, take-append-drop, take-append-le, take-take, take_all}
use Rattle.std.proofs.lemmas.Bool.{cases_lt}
use Rattle.std.proofs.lemmas.Grind.{flat_map-append}
use Rattle.std.proofs.lemmas.List.Elements.{All-drop, All-take}
use Rattle.std.proofs.lemmas.Nat.{mul-le}
use Rattle.oe_cell.specs.declared.cell.Cell.{Cell}
use Rattle.oe_dims.specs.Dimensions.{Dimensions, IsShape, cell_count, extent}
use Rattle.oe_dims.specs.Names.{is_name}
use Rattle.oe_dims.specs.declared.kind.CellKind.{CellKind}
use Rattle.oe_outside.specs.Visible.{Appends, AppendsPrefix}
use Rattle.oe_sources.specs.Packed.{AppendsPacked, AppendsPartOfPacked, AreLeastWidths, packed_head, plane_size, section_records}
use Rattle.oe_sources.specs.Head.{front_bytes, header_text, most_header}
use Rattle.oe_wide.specs.Wide.{AllFitIn, FitsIn, IsLeastWidth, byte_count, record_bytes, records_in}
use Rattle.oe_wide.specs.declared.width.Width.{Width}
use Rattle.oe_wide.specs.declared.width.Width.TheVariants.{One, Nine, Seventeen}

-- ---- least widths

-- the cells of a section fit its width
pub section_fits : (size : ℕ) (ws : List Width) (cells : List Cell) (k : ℕ) (d : Width) → AreLeastWidths size ws cells → k < length ws → AllFitIn (get_or ws k d) (take size (drop (k * size) cells))
section_fits size [] cells k d least there = absurd (omega (arith, there))
section_fits size (w ∷ ws) cells zero d least there =
    let none : 0 ≡ zero * size = omega arith in
    subst (λ (m : ℕ). AllFitIn w (take size (drop m cells))) none least.0.holds
section_fits size (w ∷ ws) cells (suc k) d least there =
    let more = section_fits size ws (drop size cells) k d least.1 (omega (arith, there)) in
    let past : size + k * size ≡ suc k * size = omega (arith, mul-suc size k, mul_comm k size, mul_comm (suc k) size) in
    subst (λ (cs : List Cell). AllFitIn (get_or ws k d) (take size cs)) (drop-drop (k * size) size cells ∙ ap (λ (m : ℕ). drop m cells) past) more

-- one section more
pub least_push : (size : ℕ) (ws : List Width) (w : Width) (xs ys : List Cell) → AreLeastWidths size ws xs → length xs ≡ size * length ws → length ys ≡ size → IsLeastWidth (λ v. AllFitIn v ys) w → AreLeastWidths size (ws ++ w ∷ []) (xs ++ ys)
least_push size [] w xs ys least long count here =
    let none : xs ≡ [] = least in
    let all : xs ++ ys ≡ ys = ap (λ (cs : List Cell). cs ++ ys) none in (
      subst (λ (cs : List Cell). IsLeastWidth (λ v. AllFitIn v cs) w) (sym (whole size ys count) ∙ ap (take size) (sym all)) here,
      ap (drop size) all ∙ past size ys count,
    )
  where
    whole : (n : ℕ) (cs : List Cell) → length cs ≡ n → take n cs ≡ cs
    whole n cs e = ap (λ (m : ℕ). take m cs) (sym e) ∙ ap (take (length cs)) (sym (append-nil cs)) ∙ take-append_seam cs []

    past : (n : ℕ) (cs : List Cell) → length cs ≡ n → drop n cs ≡ []
    past n cs e = ap (λ (m : ℕ). drop m cs) (sym e) ∙ ap (drop (length cs)) (sym (append-nil cs)) ∙ drop-append_seam cs []
least_push size (v ∷ ws) w xs ys least long count here =
    let enough : size ≤ length xs = omega (arith, long, mul-suc size (length ws)) in
    let rest : length (drop size xs) ≡ size * length ws = length-drop size xs ∙ omega (arith, long, mul-suc size (length ws)) in (
      subst (λ (cs : List Cell). IsLeastWidth (λ u. AllFitIn u cs) v) (sym (take-append-le size xs ys enough)) least.0,
      subst (AreLeastWidths size (ws ++ w ∷ [])) (sym (drop-append-le size xs ys enough)) (least_push size ws w (drop size xs) ys least.1 rest count here),
    )

cells_parts : (m n : ℕ) (cs : List Cell) → take (m + n) cs ≡ take m cs ++ take n (drop m cs)
cells_parts m n cs =
    sym (take-append-drop m (take (m + n) cs)) ∙ ap (λ (xs : List Cell). xs ++ drop m (take (m + n) cs)) (take-take m (m + n) cs (omega arith)) ∙ ap (λ (xs : List Cell). take m cs ++ xs) (drop-take m n cs)

-- the cells of the first sections and of the next one are those of one section more
pub next_cells : (size k : ℕ) (cells : List Cell) → take (k * size) cells ++ take size (drop (k * size) cells) ≡ take ((k + 1) * size) cells
next_cells size k cells =
    let more : (k + 1) * size ≡ k * size + size = omega (arith, mul_comm (k + 1) size, mul_comm k size, mul-suc size k, one_more size k) in
    sym (ap (λ (m : ℕ). take m cells) more ∙ cells_parts (k * size) size cells)
  where
    one_more : (a b : ℕ) → a * (b + 1) ≡ a * suc b
    one_more a b = let e : b + 1 ≡ suc b = omega arith in ap (λ (m : ℕ). a * m) e

-- ---- the records

-- those of one section more
pub next_records : (size : ℕ) (ws : List Width) (cells : List Cell) (k : ℕ) (d : Width) → k < length ws → section_records size (take (k + 1) ws) cells ≡ section_records size (take k ws) cells ++ records_in (get_or ws k d) (take size (drop (k * size) cells))
next_records size [] cells k d there = absurd (omega (arith, there))
next_records size (w ∷ ws) cells zero d there =
    let none : 0 ≡ zero * size = omega arith in
    append-nil (records_in w (take size cells)) ∙ ap (λ (m : ℕ). records_in w (take size (drop m cells))) none
next_records size (w ∷ ws) cells (suc k) d there =
    let here = records_in w (take size cells) in
    let next : suc k + 1 ≡ suc (k + 1) = omega arith in
    let past : size + k * size ≡ suc k * size = omega (arith, mul-suc size k, mul_comm k size, mul_comm (suc k) size) in
    ap (λ (m : ℕ). section_records size (take m (w ∷ ws)) cells) next
    ∙ ap (λ (bs : List ℕ). here ++ bs) (next_records size ws (drop size cells) k d (omega (arith, there)))
    ∙ sym (append_assoc here (section_records size (take k ws) (drop size cells)) (records_in (get_or ws k d) (take size (drop (k * size) (drop size cells)))))
    ∙ ap (λ (cs : List Cell). (here ++ section_records size (take k ws) (drop size cells)) ++ records_in (get_or ws k d) (take size cs)) (drop-drop (k * size) size cells ∙ ap (λ (m : ℕ). drop m cells) past)

-- ---- what was written

-- a piece behind a piece
pub appends_more : (before middle after : Option (List ℕ)) (a b : List ℕ) → Appends before a middle → Appends middle b after → Appends before (a ++ b) after
appends_more None middle after a b first second = second ∙ ap (option_map (λ held. held ++ b)) first
appends_more (Some held) middle after a b first second =
    second ∙ ap (option_map (λ bytes. bytes ++ b)) first ∙ ap Some (append_assoc held a b)

-- ---- the loops over sections

pub planes_count : (d : Dimensions) → cell_count d ≡ extent d.t * plane_size d
planes_count d = omega arith

pub section_ends : (size k n total : ℕ) → k < n → total ≡ n * size → k * size + size ≤ total
section_ends size k n total below all =
    let upto : (k + 1) * size ≤ n * size = mul-le (k + 1) size n size (omega (arith, below)) (omega arith) in
    let more : (k + 1) * size ≡ k * size + size = omega arith in
    omega (arith, upto, more, all)

pub section_is : (size k : ℕ) (cells : List Cell) → slice_range cells (k * size) (k * size + size) ≡ take size (drop (k * size) cells)
section_is size k cells =
    let e : k * size + size - k * size ≡ size = omega arith in ap (λ (m : ℕ). take m (drop (k * size) cells)) e

pub widths_more : (size k n : ℕ) (ws new : List Width) (w : Width) (cells part : List Cell) → k < n → length cells ≡ n * size → length ws ≡ k → AreLeastWidths size ws (take (k * size) cells) → part ≡ slice_range cells (k * size) (k * size + size) → IsLeastWidth (λ v. AllFitIn v part) w → new ≡ ws ++ w ∷ [] → AreLeastWidths size new (take ((k + 1) * size) cells)
widths_more size k n ws new w cells part below all counted least is here pushed =
    let room = section_ends size k n (length cells) below all in
    let front = take (k * size) cells in
    let back = take size (drop (k * size) cells) in
    let front_long : length front ≡ size * length ws = length-take-le (k * size) cells (omega (arith, room)) ∙ mul_comm k size ∙ ap (λ (m : ℕ). size * m) (sym counted) in
    let back_long : length back ≡ size = length-take-le size (drop (k * size) cells) (omega (arith, room, length-drop (k * size) cells)) in
    let last : IsLeastWidth (λ v. AllFitIn v back) w = subst (λ (cs : List Cell). IsLeastWidth (λ v. AllFitIn v cs) w) (is ∙ section_is size k cells) here in
    subst (AreLeastWidths size new) (next_cells size k cells)
    (subst (λ (vs : List Width). AreLeastWidths size vs (front ++ back)) (sym pushed) (least_push size ws w front back least front_long back_long last))

pub widths_all : (size n : ℕ) (ws : List Width) (cells : List Cell) → length cells ≡ n * size → AreLeastWidths size ws (take (n * size) cells) → AreLeastWidths size ws cells
widths_all size n ws cells all least =
    subst (AreLeastWidths size ws) (take_all (n * size) cells (omega (arith, all))) least

pub part_fits : (size : ℕ) (ws : List Width) (cells part : List Cell) (k : ℕ) (d : Width) → AreLeastWidths size ws cells → k < length ws → part ≡ slice_range cells (k * size) (k * size + size) → AllFitIn (get_or ws k d) part
part_fits size ws cells part k d least there is =
    subst (λ (cs : List Cell). AllFitIn (get_or ws k d) cs) (sym (is ∙ section_is size k cells)) (section_fits size ws cells k d least there)

pub records_more : (before middle after : Option (List ℕ)) (size : ℕ) (ws : List Width) (cells part : List Cell) (k : ℕ) (d : Width) → k < length ws → part ≡ slice_range cells (k * size) (k * size + size) → Appends before (section_records size (take k ws) cells) middle → Appends middle (records_in (get_or ws k d) part) after → Appends before (section_records size (take (k + 1) ws) cells) after
records_more before middle after size ws cells part k d there is first second =
    let w = get_or ws k d in
    let next : section_records size (take k ws) cells ++ records_in w part ≡ section_records size (take (k + 1) ws) cells = ap (λ (cs : List Cell). section_records size (take k ws) cells ++ records_in w cs) (is ∙ section_is size k cells) ∙ sym (next_records size ws cells k d there) in
    subst (λ (bs : List ℕ). Appends before bs after) next (appends_more before middle after (section_records size (take k ws) cells) (records_in w part) first second)

pub records_all : (before after : Option (List ℕ)) (size n : ℕ) (ws : List Width) (cells : List Cell) → length ws ≤ n → Appends before (section_records size (take n ws) cells) after → Appends before (section_records size ws cells) after
records_all before after size n ws cells all written =
    subst (λ (vs : List Width). Appends before (section_records size vs cells) after) (take_all n ws all) written

pub none_written : (before : Option (List ℕ)) → Appends before [] before
none_written None = refl
none_written (Some held) = ap Some (sym (append-nil held))

-- ---- a section piece by piece

pub room_some : (w : Width) → 1 ≤ 65536 / byte_count w
room_some One = omega arith
room_some Nine = omega arith
room_some Seventeen = omega arith

pub room_fits : (w : Width) (n : ℕ) → n ≤ 65536 / byte_count w → byte_count w * n ≤ 65536
room_fits One n h = omega (arith, h)
room_fits Nine n h = omega (arith, h)
room_fits Seventeen n h = omega (arith, h)

-- the records of one piece more
pub piece_more : (before middle after : Option (List ℕ)) (w : Width) (cells : List Cell) (done end : ℕ) → done ≤ end → Appends before (records_in w (take done cells)) middle → Appends middle (records_in w (take (end - done) (drop done cells))) after → Appends before (records_in w (take end cells)) after
piece_more before middle after w cells done end upto first second =
    let n = end - done in
    let there : done + n ≡ end = omega (arith, upto) in
    let both : records_in w (take done cells) ++ records_in w (take n (drop done cells)) ≡ records_in w (take end cells) = sym (flat_map-append (record_bytes w) (take done cells) (take n (drop done cells))) ∙ ap (records_in w) (sym (cells_parts done n cells)) ∙ ap (λ (m : ℕ). records_in w (take m cells)) there in
    subst (λ (bs : List ℕ). Appends before bs after) both (appends_more before middle after (records_in w (take done cells)) (records_in w (take n (drop done cells))) first second)

pub prefix_more : (before middle after : Option (List ℕ)) (a b c : List ℕ) → Appends before a middle → AppendsPrefix middle b after → AppendsPrefix before (a ++ (b ++ c)) after
prefix_more before middle after a b c first (n, second) =
    (length a + min n (length b), both before middle after first second)
  where
    same : take n b ≡ take (min n (length b)) (b ++ c)
    same = elim (cases_lt n (length b)) [
      | inl below ↦ (let m : min n (length b) ≡ n = omega (arith, below) in
          sym (take-append-le n b c (omega (arith, below))) ∙ ap (λ (k : ℕ). take k (b ++ c)) (sym m))
      | inr past ↦ (let m : min n (length b) ≡ length b = omega (arith, past) in
          take_all n b past ∙ sym (take-append_seam b c) ∙ ap (λ (k : ℕ). take k (b ++ c)) (sym m))
    ]

    both : (x y z : Option (List ℕ)) → y ≡ option_map (λ held. held ++ a) x → z ≡ option_map (λ held. held ++ take n b) y → z ≡ option_map (λ held. held ++ take (length a + min n (length b)) (a ++ (b ++ c))) x
    both None y z e f = f ∙ ap (option_map (λ held. held ++ take n b)) e
    both (Some held) y z e f =
        f ∙ ap (option_map (λ bytes. bytes ++ take n b)) e
        ∙ ap Some (append_assoc held a (take n b) ∙ ap (λ (bs : List ℕ). held ++ (a ++ bs)) same ∙ ap (λ (bs : List ℕ). held ++ bs) (sym (take-append-add a (b ++ c) (min n (length b)))))

pub piece_prefix : (before middle after : Option (List ℕ)) (w : Width) (cells : List Cell) (done end : ℕ) → done ≤ end → Appends before (records_in w (take done cells)) middle → AppendsPrefix middle (records_in w (take (end - done) (drop done cells))) after → AppendsPrefix before (records_in w cells) after
piece_prefix before middle after w cells done end upto first second =
    let part = take (end - done) (drop done cells) in
    let rest = drop (end - done) (drop done cells) in
    let all : records_in w (take done cells) ++ (records_in w part ++ records_in w rest) ≡ records_in w cells = ap (λ (bs : List ℕ). records_in w (take done cells) ++ bs) (sym (flat_map-append (record_bytes w) part rest) ∙ ap (records_in w) (take-append-drop (end - done) (drop done cells)))
    ∙ sym (flat_map-append (record_bytes w) (take done cells) (drop done cells)) ∙ ap (records_in w) (take-append-drop done cells) in
    subst (λ (bs : List ℕ). AppendsPrefix before bs after) all (prefix_more before middle after (records_in w (take done cells)) (records_in w part) (records_in w rest) first second)

pub part_fit : (w : Width) (cells : List Cell) (done n : ℕ) → AllFitIn w cells → AllFitIn w (take n (drop done cells))
part_fit w cells done n fit = All-take (FitsIn w) n (drop done cells) (All-drop (FitsIn w) done cells fit)

pub sections_all : (d : Dimensions) (cells : List Cell) (count size : ℕ) → length cells ≡ cell_count d → count ≡ extent d.t → size ≡ plane_size d → length cells ≡ count * size
sections_all d cells count size long count_is size_is =
    long ∙ planes_count d ∙ ap (λ (n : ℕ). extent d.t * n) (sym size_is) ∙ ap (λ (n : ℕ). n * size) (sym count_is)

-- the whole file
pub packed_made : (id : List ℕ) (d : Dimensions) (kind : CellKind) (ws : List Width) (cells : List Cell) (front : List ℕ) (before after : Option (List ℕ)) → is_name id ≡ true → IsShape d → length ws ≡ extent d.t → length (header_text (packed_head id d kind ws)) ≤ most_header → AreLeastWidths (plane_size d) ws cells → front ≡ front_bytes (packed_head id d kind ws) → Appends before (front ++ section_records (plane_size d) ws cells) after → AppendsPacked id d kind cells before after
packed_made id d kind ws cells front before after name shape counted short least front_is written = (
  front ++ section_records (plane_size d) ws cells,
  record {
    widths = ws;
    least = least;
    valid = record { id = name; shape = shape; widths = counted; short = short };
    bytes_are = ap (λ (bs : List ℕ). bs ++ section_records (plane_size d) ws cells) front_is;
  },
  written,
)

pub file_written : (before middle after : Option (List ℕ)) (front : List ℕ) (size plane : ℕ) (ws : List Width) (cells : List Cell) → size ≡ plane → Appends before front middle → Appends middle (section_records size ws cells) after → Appends before (front ++ section_records plane ws cells) after
file_written before middle after front size plane ws cells same first second =
    subst (λ (n : ℕ). Appends before (front ++ section_records n ws cells) after) same (appends_more before middle after front (section_records size ws cells) first second)

pub planes_all : (d : Dimensions) (cells : List Cell) (n : ℕ) → length cells ≡ cell_count d → n ≡ extent d.t → length cells ≡ plane_size d * n
planes_all d cells n long count =
    long ∙ planes_count d ∙ mul_comm (extent d.t) (plane_size d) ∙ ap (λ (m : ℕ). plane_size d * m) (sym count)

-- ---- a write that failed

-- the records of the first sections are the front of all
records_split : (size : ℕ) (ws : List Width) (cells : List Cell) (m : ℕ) → (rest : List ℕ) × (section_records size (take m ws) cells ++ rest ≡ section_records size ws cells)
records_split size ws cells zero = (section_records size ws cells, refl)
records_split size [] cells (suc m) = ([], refl)
records_split size (w ∷ ws) cells (suc m) =
    let others = records_split size ws (drop size cells) m in
    let here = records_in w (take size cells) in
    (others.0, append_assoc here (section_records size (take m ws) (drop size cells)) others.0 ∙ ap (λ (bs : List ℕ). here ++ bs) others.1)

-- a prefix of the records of the next section
pub records_prefix : (before middle after : Option (List ℕ)) (size : ℕ) (ws : List Width) (cells part : List Cell) (k : ℕ) (d : Width) → k < length ws → part ≡ slice_range cells (k * size) (k * size + size) → Appends before (section_records size (take k ws) cells) middle → AppendsPrefix middle (records_in (get_or ws k d) part) after → AppendsPrefix before (section_records size ws cells) after
records_prefix before middle after size ws cells part k d there part_is first second =
    let here = section_records size (take k ws) cells in
    let next = records_in (get_or ws k d) (take size (drop (k * size) cells)) in
    let rest = records_split size ws cells (k + 1) in
    let all : here ++ (next ++ rest.0) ≡ section_records size ws cells =
    sym (append_assoc here next rest.0) ∙ ap (λ (bs : List ℕ). bs ++ rest.0) (sym (next_records size ws cells k d there)) ∙ rest.1 in
    let is : part ≡ take size (drop (k * size) cells) = part_is ∙ section_is size k cells in
    subst (λ (bs : List ℕ). AppendsPrefix before bs after) all
    (prefix_more before middle after here next rest.0 first
    (subst (λ (cs : List Cell). AppendsPrefix middle (records_in (get_or ws k d) cs) after) is second))

-- a prefix of what stands before the records, and of the records behind it
pub front_prefix : (before after : Option (List ℕ)) (front rest : List ℕ) → AppendsPrefix before front after → AppendsPrefix before (front ++ rest) after
front_prefix before after front rest first = prefix_more before before after [] front rest (none_written before) first

pub file_prefix : (before middle after : Option (List ℕ)) (front : List ℕ) (size plane : ℕ) (ws : List Width) (cells : List Cell) → size ≡ plane → Appends before front middle → AppendsPrefix middle (section_records size ws cells) after → AppendsPrefix before (front ++ section_records plane ws cells) after
file_prefix before middle after front size plane ws cells same first second =
    let records = section_records size ws cells in
    let all : front ++ (records ++ []) ≡ front ++ section_records plane ws cells =
    ap (λ (bs : List ℕ). front ++ bs) (append-nil records ∙ ap (λ (n : ℕ). section_records n ws cells) same) in
    subst (λ (bs : List ℕ). AppendsPrefix before bs after) all (prefix_more before middle after front records [] first second)

-- a prefix of the file
pub packed_part : (id : List ℕ) (d : Dimensions) (kind : CellKind) (ws : List Width) (cells : List Cell) (front : List ℕ) (before after : Option (List ℕ)) → is_name id ≡ true → IsShape d → length ws ≡ extent d.t → length (header_text (packed_head id d kind ws)) ≤ most_header → AreLeastWidths (plane_size d) ws cells → front ≡ front_bytes (packed_head id d kind ws) → AppendsPrefix before (front ++ section_records (plane_size d) ws cells) after → AppendsPartOfPacked id d kind cells before after
packed_part id d kind ws cells front before after name shape counted short least front_is written = (
  front ++ section_records (plane_size d) ws cells,
  record {
    widths = ws;
    least = least;
    valid = record { id = name; shape = shape; widths = counted; short = short };
    bytes_are = ap (λ (bs : List ℕ). bs ++ section_records (plane_size d) ws cells) front_is;
  },
  written,
)
