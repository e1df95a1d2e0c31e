-- Records that stand one behind the other, one by one.
use Rattle.std.proofs.Common.{◌≡◌, ℕ, ◌+◌, ◌-◌, ◌*◌, ◌<◌, inl, inr, List, [], length, get_or, take, drop, Option, Some, None, sym, ap, ◌∙◌, subst, arith}
use Rattle.std.specs.List.{All}
use Rattle.std.proofs.lemmas.Bool.{cases_lt}
use Rattle.std.proofs.lemmas.Option.{slice_get-get_or}
use Rattle.oe_spool.proofs.RunRecords.{record_within}
use Rattle.oe_cell.specs.Cells.{IsCell}
use Rattle.oe_cell.specs.Record.{IsRecord, records_of}
use Rattle.oe_cell.specs.declared.cell.Cell.{Cell}
use Rattle.oe_cell.specs.declared.cell.Cell.TheVariants.{Empty}
use Rattle.oe_cell.proofs.RecordLemmas.{length-record_of}
use Rattle.oe_outside.specs.Stored.{HoldsAt, StoreHolds}
use Rattle.oe_parts.specs.Rows.{HasRecordAt, HaveRecordsAt}

-- ---- one record out of several

-- ---- each of them is one of a cell

record_there : (all : List ℕ) (at : ℕ) (cells : List Cell) (j : ℕ) → All IsCell cells → j < length cells → HoldsAt all at (records_of cells) → IsRecord (take 17 (drop (at + 17 * j) all))
record_there all at cells j valid below held =
    let c = get_or cells j Empty in
    let here = record_within all at cells j c (slice_get-get_or cells j Empty below) held in
    (c, valid j Empty below, sym (ap (λ (n : ℕ). take n (drop (at + 17 * j) all)) (sym (length-record_of c)) ∙ here))

pub records_held : (store : Option (List ℕ)) (at : ℕ) (cells : List Cell) → All IsCell cells → StoreHolds store at (records_of cells) → HaveRecordsAt store at (length cells)
records_held None at cells valid held = λ j below. tt
records_held (Some all) at cells valid held = λ j below. record_there all at cells j valid below held

-- ---- one behind the other

pub records_none : (store : Option (List ℕ)) (at n : ℕ) → HaveRecordsAt store at (0 * n)
records_none store at n = λ j below. (let none : 0 * n ≡ 0 = omega arith in absurd (omega (arith, below, none)))

pub records_then : (store : Option (List ℕ)) (at m n : ℕ) → HaveRecordsAt store at m → HaveRecordsAt store (at + 17 * m) n → HaveRecordsAt store at (m + n)
records_then store at m n first second = λ j below. elim (cases_lt j m) [
  | inl lt ↦ first j lt
  | inr ge ↦ (let place : at + 17 * m + 17 * (j - m) ≡ at + 17 * j = omega (arith, ge) in subst (HasRecordAt store) place (second (j - m) (omega (arith, ge, below))))
]

pub records_more : (store : Option (List ℕ)) (at n len : ℕ) → HaveRecordsAt store at (n * len) → HaveRecordsAt store (at + 17 * (n * len)) len → HaveRecordsAt store at ((n + 1) * len)
records_more store at n len first second =
    let next : n * len + len ≡ (n + 1) * len = omega arith in
    subst (HaveRecordsAt store at) next (records_then store at (n * len) len first second)
