-- Cells whose records are judged one by one, and the first of them that is Over.
use Rattle.std.proofs.Common.{◌≡◌, ℕ, suc, ◌+◌, ◌*◌, ◌<◌, ◌≤◌, true, false, List, [], ◌∷◌, ◌++◌, length, take, drop, Option, Some, None, IfSome, refl, sym, ap, ◌∙◌, subst, arith}
use Rattle.std.specs.Option.{option_map}
use Rattle.std.proofs.Math.Seq.{take-add}
use Rattle.std.proofs.lemmas.Grind.{flat_map-append}
use Rattle.std.proofs.lemmas.List.{append-nil, length-append, length-take, take_all}
use Rattle.std.proofs.lemmas.List.Elements.{All-nil, All-push}
use Rattle.oe_cell.specs.Cells.{IsCell}
use Rattle.oe_cell.specs.Kinds.{is_over}
use Rattle.oe_cell.specs.Record.{record_of, records_of}
use Rattle.oe_cell.specs.declared.cell.Cell.{Cell}
use Rattle.oe_cell.specs.declared.cell.Cell.TheVariants.{Empty, Flag, Number, Over}
use Rattle.oe_spool.specs.Least.{least_over_of}
use Rattle.oe_spool.proofs.LeastOnWindow.{over_within}
use Rattle.oe_parts.specs.Rows.{AreRecords}

-- ---- the first of some cells and of one more

later_kept : (before after : Option ℕ) (i : ℕ) → ((j : ℕ) → before ≡ Some j → after ≡ Some j) → option_map (λ n. n + 1) before ≡ Some i → option_map (λ n. n + 1) after ≡ Some i
later_kept None after i same e = cc
later_kept (Some j) after i same e = ap (option_map (λ n. n + 1)) (same j refl) ∙ e

later_none : (found : Option ℕ) → option_map (λ n. n + 1) found ≡ None → found ≡ None
later_none None e = refl
later_none (Some n) e = cc

later_here : (after : Option ℕ) (n : ℕ) → after ≡ Some n → option_map (λ n. n + 1) after ≡ Some (suc n)
later_here after n e = let next : n + 1 ≡ suc n = omega arith in ap (option_map (λ n. n + 1)) e ∙ ap Some next

-- one that was found is the first still
first_kept : (cells : List Cell) (c : Cell) (i : ℕ) → least_over_of cells ≡ Some i → least_over_of (cells ++ c ∷ []) ≡ Some i
first_kept [] c i e = cc
first_kept (Over ∷ cs) c i e = e
first_kept (Empty ∷ cs) c i e = later_kept (least_over_of cs) (least_over_of (cs ++ c ∷ [])) i (first_kept cs c) e
first_kept (Flag b ∷ cs) c i e = later_kept (least_over_of cs) (least_over_of (cs ++ c ∷ [])) i (first_kept cs c) e
first_kept (Number q ∷ cs) c i e = later_kept (least_over_of cs) (least_over_of (cs ++ c ∷ [])) i (first_kept cs c) e

-- and else the one more where it is Over
first_here : (cells : List Cell) (c : Cell) → least_over_of cells ≡ None → is_over c ≡ true → least_over_of (cells ++ c ∷ []) ≡ Some (length cells)
first_here [] c e over = rw over refl
first_here (Over ∷ cs) c e over = cc
first_here (Empty ∷ cs) c e over = later_here (least_over_of (cs ++ c ∷ [])) (length cs) (first_here cs c (later_none (least_over_of cs) e) over)
first_here (Flag b ∷ cs) c e over = later_here (least_over_of (cs ++ c ∷ [])) (length cs) (first_here cs c (later_none (least_over_of cs) e) over)
first_here (Number q ∷ cs) c e over = later_here (least_over_of (cs ++ c ∷ [])) (length cs) (first_here cs c (later_none (least_over_of cs) e) over)

first_nowhere : (cells : List Cell) (c : Cell) → least_over_of cells ≡ None → is_over c ≡ false → least_over_of (cells ++ c ∷ []) ≡ None
first_nowhere [] c e over = rw over refl
first_nowhere (Over ∷ cs) c e over = cc
first_nowhere (Empty ∷ cs) c e over = ap (option_map (λ n. n + 1)) (first_nowhere cs c (later_none (least_over_of cs) e) over)
first_nowhere (Flag b ∷ cs) c e over = ap (option_map (λ n. n + 1)) (first_nowhere cs c (later_none (least_over_of cs) e) over)
first_nowhere (Number q ∷ cs) c e over = ap (option_map (λ n. n + 1)) (first_nowhere cs c (later_none (least_over_of cs) e) over)

-- ---- one by one

pub judged_none : (bytes : List ℕ) → AreRecords 0 (take (17 * 0) bytes) None
judged_none bytes = record {
  cells = [];
  many = refl;
  valid = All-nil IsCell;
  bytes_are = refl;
  over_is = refl;
}

judged_more : (bytes : List ℕ) (k : ℕ) (c : Cell) (before after : Option ℕ) → AreRecords k (take (17 * k) bytes) before → IsCell c → record_of c ≡ take 17 (drop (17 * k) bytes)
    → ((cells : List Cell) → length cells ≡ k → before ≡ least_over_of cells → after ≡ least_over_of (cells ++ c ∷ [])) → AreRecords (k + 1) (take (17 * (k + 1)) bytes) after
judged_more bytes k c before after r valid here next =
    let more : 17 * (k + 1) ≡ 17 * k + 17 = omega arith in
    let one : length (c ∷ []) ≡ 1 = refl in
    let many = r.many in
    record {
      cells = r.cells ++ c ∷ [];
      many = omega (arith, length-append r.cells (c ∷ []), one, many);
      valid = All-push IsCell r.cells c r.valid valid;
      bytes_are =
          ap (λ (m : ℕ). take m bytes) more
          ∙ take-add (17 * k) 17 bytes
          ∙ ap (λ (bs : List ℕ). bs ++ take 17 (drop (17 * k) bytes)) r.bytes_are
          ∙ ap (λ (bs : List ℕ). records_of r.cells ++ bs) (sym here ∙ sym (append-nil (record_of c)))
          ∙ sym (flat_map-append record_of r.cells (c ∷ []));
      over_is = next r.cells many r.over_is;
    }

-- one more after one that is Over
pub judged_behind : (bytes : List ℕ) (k over : ℕ) (c : Cell) → AreRecords k (take (17 * k) bytes) (Some over) → IsCell c → record_of c ≡ take 17 (drop (17 * k) bytes) → AreRecords (k + 1) (take (17 * (k + 1)) bytes) (Some over)
judged_behind bytes k over c r valid here =
    judged_more bytes k c (Some over) (Some over) r valid here (λ cells many found. sym (first_kept cells c over (sym found)))

-- the first one that is Over
pub judged_over : (bytes : List ℕ) (k : ℕ) (c : Cell) → AreRecords k (take (17 * k) bytes) None → IsCell c → record_of c ≡ take 17 (drop (17 * k) bytes) → is_over c ≡ true → AreRecords (k + 1) (take (17 * (k + 1)) bytes) (Some k)
judged_over bytes k c r valid here over =
    judged_more bytes k c None (Some k) r valid here (λ cells many found. sym (first_here cells c (sym found) over ∙ ap Some many))

-- one that is not, where none was
pub judged_plain : (bytes : List ℕ) (k : ℕ) (c : Cell) → AreRecords k (take (17 * k) bytes) None → IsCell c → record_of c ≡ take 17 (drop (17 * k) bytes) → is_over c ≡ false → AreRecords (k + 1) (take (17 * (k + 1)) bytes) None
judged_plain bytes k c r valid here plain =
    judged_more bytes k c None None r valid here (λ cells many found. sym (first_nowhere cells c (sym found) plain))

-- ---- all of them

-- records that fill the buffer are all that was read
pub all_judged : (count given : ℕ) (buffer : List ℕ) (over : Option ℕ) → length buffer ≡ 17 * count → 17 * count ≤ length (take given buffer) → AreRecords count (take (17 * count) (take given buffer)) over → AreRecords count buffer over
all_judged count given buffer over long enough judged =
    let all : take given buffer ≡ buffer = take_all given buffer (omega (arith, long, enough, length-take given buffer)) in
    let front : take (17 * count) (take given buffer) ≡ buffer = ap (take (17 * count)) all ∙ take_all (17 * count) buffer (omega (arith, long)) in
    subst (λ (bytes : List ℕ). AreRecords count bytes over) front judged

-- one that is Over is one of them
pub over_few : (first count most : ℕ) (bytes : List ℕ) (over : Option ℕ) → AreRecords count bytes over → first + count ≤ most → IfSome over (λ index. first + index ≤ most)
over_few first count most bytes None r few = tt
over_few first count most bytes (Some index) r few =
    let below : index < length r.cells = over_within r.cells index (sym r.over_is) in
    let many = r.many in
    omega (arith, below, many, few)
