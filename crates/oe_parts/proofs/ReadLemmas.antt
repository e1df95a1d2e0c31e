-- What a read of a store gives, and the records in it.
use Rattle.std.proofs.Common.{◌≡◌, ℕ, ◌+◌, ◌-◌, ◌*◌, ◌≤◌, List, length, take, drop, Option, Some, None, IfSome, sym, ap, ◌∙◌, subst, arith}
use Rattle.std.specs.List.{All}
use Rattle.std.proofs.lemmas.List.{length-take, length-drop, take-take, drop-take, drop-drop}
use Rattle.oe_cell.specs.Cells.{IsCell}
use Rattle.oe_cell.specs.Record.{IsRecord, records_of}
use Rattle.oe_cell.specs.declared.cell.Cell.{Cell}
use Rattle.oe_cell.proofs.ListLemmas.{length-records_of, records_of-injective}
use Rattle.oe_cell.proofs.RecordLemmas.{length-record_of}
use Rattle.oe_outside.specs.Stored.{HoldsAt, IsReadAt, StoreHolds}
use Rattle.oe_parts.specs.Rows.{HasNoRecordAt, Shows}

-- what is no record among the bytes that were given is none in the store
none_there : (all buffer : List ℕ) (at room n v : ℕ) → IsReadAt all at room n buffer → 17 * v + 17 ≤ room → ¬ IsRecord (take 17 (drop (17 * v) (take n buffer))) → ¬ IsRecord (take 17 (drop (at + 17 * v) all))
none_there all buffer at room n v read within none found =
    let long : length (take 17 (drop (at + 17 * v) all)) ≡ 17 = ap length (sym found.2) ∙ length-record_of found.0 in
    let enough : at + 17 * v + 17 ≤ length all = omega (arith, long, length-take 17 (drop (at + 17 * v) all), length-drop (at + 17 * v) all) in
    let count = read.count in
    let given : 17 * v + 17 ≤ n = omega (arith, count, enough, within) in
    let m = n - 17 * v in
    let parts : n ≡ 17 * v + m = omega (arith, given) in
    let some : 17 ≤ m = omega (arith, given) in
    let same : take 17 (drop (17 * v) (take n buffer)) ≡ take 17 (drop (at + 17 * v) all) =
    ap (λ (xs : List ℕ). take 17 (drop (17 * v) xs)) read.given
    ∙ ap (λ (k : ℕ). take 17 (drop (17 * v) (take k (drop at all)))) parts
    ∙ ap (take 17) (drop-take (17 * v) m (drop at all))
    ∙ take-take 17 m (drop (17 * v) (drop at all)) some
    ∙ ap (take 17) (drop-drop (17 * v) at all) in
    none (found.0, found.1, found.2 ∙ sym same)

pub no_record : (store : Option (List ℕ)) (buffer : List ℕ) (at room n v : ℕ) → IfSome store (λ all. IsReadAt all at room n buffer) → 17 * v + 17 ≤ room → ¬ IsRecord (take 17 (drop (17 * v) (take n buffer))) → HasNoRecordAt store (at + 17 * v)
no_record None buffer at room n v read within none = tt
no_record (Some all) buffer at room n v read within none = none_there all buffer at room n v read within none

-- the bytes that stand at an offset are the records of the cells that the store shows there
pub shown_bytes : (store : Option (List ℕ)) (at : ℕ) (bytes : List ℕ) (shown : List Cell) → length bytes ≡ 17 * length shown → StoreHolds store at bytes → Shows store at shown → bytes ≡ records_of shown
shown_bytes None at bytes shown long held shows = let both = shows.1 in absurd cc
shown_bytes (Some all) at bytes shown long held shows =
    let same : Some all ≡ Some shows.0 = shows.1 in
    let one : all ≡ shows.0 = cc in
    let there : HoldsAt all at (records_of shown) = subst (λ (bs : List ℕ). HoldsAt bs at (records_of shown)) (sym one) shows.2 in
    sym held ∙ ap (λ (n : ℕ). take n (drop at all)) (long ∙ sym (length-records_of shown)) ∙ there

-- cells whose records stand there are those that it shows
pub shown_cells : (store : Option (List ℕ)) (at : ℕ) (cells shown : List Cell) → All IsCell cells → All IsCell shown → length shown ≡ length cells → StoreHolds store at (records_of cells) → Shows store at shown → cells ≡ shown
shown_cells store at cells shown valid all long held shows =
    let counted : length (records_of cells) ≡ 17 * length shown = omega (arith, length-records_of cells, long) in
    records_of-injective cells shown valid all (sym long) (shown_bytes store at (records_of cells) shown counted held shows)
