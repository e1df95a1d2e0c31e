-- A read of a row: the sum of cells asked, and the collections that are shown; and the ids of all rows.
use Rattle.std.proofs.Common.{◌≡◌, ℕ, zero, suc, ◌+◌, ◌<◌, ◌≤◌, Bool, true, false, cond, List, [], ◌∷◌, length, map, Option, Some, None, refl, sym, ap, subst, arith}
use Rattle.std.proofs.lemmas.Bool.{and_parts}
use Rattle.std.specs.List.{list_all}
use Rattle.std.specs.Option.{option_map, option_map_or}
use Rattle.std.proofs.lemmas.List.Sums.{sum_by-cons}
use Rattle.oe_cube.specs.Collections.{Collection}
use Rattle.oe_dims.proofs.OrderLemmas.{same_name_is}
use Rattle.oe_dims.specs.Names.{is_name, same_name}
use Rattle.oe_sources.specs.Catalogue.{CountsRow, Row, cells_asked, collections_shown, mounted_ids, row_index, rows_at, rows_shown, source_at}
use Rattle.oe_sources.specs.CatalogueDims.{dims_row}
use Rattle.oe_sources.specs.CatalogueLaws.{AskNoMoreThanRead, HaveValidIds, KeepCollections, KeepOutlines}
use Rattle.oe_sources.specs.Source.{Source, asked_after, collection_of}
use Rattle.oe_sources.specs.declared.catalogue.Mounted.{Mounted}
use Rattle.oe_window.specs.Windows.{position_count}

asked_no_more : (asked cells : ℕ) → asked_after asked cells ≤ asked + cells
asked_no_more asked cells = omega arith

sum_cons : (row : Row) (rows : List Row) → cells_asked (row ∷ rows) ≡ row.source.asked + cells_asked rows
sum_cons row rows = sum_by-cons (λ (r : Row). r.source.asked) row rows

-- another source in one row changes the sum by what was asked of it
sum_at : (rows : List Row) (index : ℕ) (s : Source) (n : ℕ) → index < length rows → s.asked ≤ (source_at rows index).asked + n
    → cells_asked (rows_at rows index s) ≤ cells_asked rows + n
sum_at [] index s n below more = absurd (omega arith)
sum_at (row ∷ rows) zero s n below more =
    rw (sum_cons row rows, sum_cons (record { id = row.id; source = s; seal = row.seal }) rows) (first row.source.asked s.asked (cells_asked rows) n more)
  where
    first : (a b rest n : ℕ) → b ≤ a + n → b + rest ≤ a + rest + n
    first a b rest n more = omega (arith, more)
sum_at (row ∷ rows) (suc index) s n below more =
    rw (sum_cons row rows, sum_cons row (rows_at rows index s)) (later row.source.asked (cells_asked rows) (cells_asked (rows_at rows index s)) n (sum_at rows index s n (omega arith) more))
  where
    later : (a b c n : ℕ) → c ≤ b + n → a + c ≤ a + b + n
    later a b c n more = omega (arith, more)

pub ask_no_more : AskNoMoreThanRead
ask_no_more before index window cells after result below reads =
    rw reads.others (sum_at before index (source_at after index) (position_count window) below
    (rw reads.read.asked (asked_no_more (source_at before index).asked (position_count window))))

-- the same of looks that are counted
pub count_no_more : (before : List Row) (index cells : ℕ) (failed : Bool) (after : List Row) → index < length before → CountsRow before index cells failed after
    → cells_asked after ≤ cells_asked before + cells
count_no_more before index cells failed after below counts =
    rw counts.others (sum_at before index (source_at after index) cells below
    (rw counts.count.asked (asked_no_more (source_at before index).asked cells)))

same_collection : (a b : Source) → b.shape ≡ a.shape → b.kind ≡ a.kind → b.contents ≡ a.contents → collection_of b ≡ collection_of a
same_collection a b shape kind contents = rw (shape, kind, contents) refl

-- another source with the same collection shows the same
shown_at : (rows : List Row) (index : ℕ) (s : Source) → index < length rows → collection_of s ≡ collection_of (source_at rows index)
    → collections_shown (rows_at rows index s) ≡ collections_shown rows
shown_at [] index s below same = absurd (omega arith)
shown_at (row ∷ rows) zero s below same =
    ap (λ (o : Option Collection). option_map_or (λ (c : Collection). (row.id, c) ∷ collections_shown rows) o (collections_shown rows)) same
shown_at (row ∷ rows) (suc index) s below same =
    ap (λ rest. option_map_or (λ (c : Collection). (row.id, c) ∷ rest) (collection_of row.source) rest) (shown_at rows index s (omega arith) same)

pub keep_collections : KeepCollections
keep_collections before index window cells after result below reads =
    rw reads.others (shown_at before index (source_at after index) below
    (same_collection (source_at before index) (source_at after index) reads.read.shape reads.read.kind reads.read.contents))

outlines_at : (rows : List Row) (index : ℕ) (s : Source) → index < length rows → s.shape ≡ (source_at rows index).shape → s.kind ≡ (source_at rows index).kind
    → map dims_row (rows_at rows index s) ≡ map dims_row rows
outlines_at [] index s below shape kind = absurd (omega arith)
outlines_at (row ∷ rows) zero s below shape kind = rw (shape, kind) refl
outlines_at (row ∷ rows) (suc index) s below shape kind = ap (λ rest. dims_row row ∷ rest) (outlines_at rows index s (omega arith) shape kind)

pub keep_outlines : KeepOutlines
keep_outlines before index window cells after result below reads =
    rw reads.others (outlines_at before index (source_at after index) below reads.read.shape reads.read.kind)

-- ---- ids

-- the id of the first row, or one of a later row
module _ {B : Type 0} (m : Mounted B) (rest : List Row) (id : List ℕ) (index : ℕ) (valid : is_name m.id ≡ true)
    (others : (k : ℕ) → row_index rest id ≡ Some k → is_name id ≡ true) where
  later : (o : Option ℕ) → row_index rest id ≡ o → option_map (λ n. n + 1) o ≡ Some index → is_name id ≡ true
  later None is e = absurd cc
  later (Some k) is e = others k is

  first_or_later : (b : Bool) → same_name m.id id ≡ b
      → cond b (Some 0) (option_map (λ n. n + 1) (row_index rest id)) ≡ Some index → is_name id ≡ true
  first_or_later true is e = subst (λ (name : List ℕ). is_name name ≡ true) (sym (same_name_is m.id id is)) valid
  first_or_later false is e = later (row_index rest id) refl e

pub valid_ids : {B : Type 0} (seen : B → Source) (seal : ℕ) (mounted : List (Mounted B)) → list_all is_name (mounted_ids mounted) ≡ true
    → HaveValidIds (rows_shown seen seal mounted)
valid_ids seen seal [] valid id index e = absurd cc
valid_ids seen seal (m ∷ mounted) valid id index e =
    let parts = and_parts (is_name m.id) (list_all is_name (mounted_ids mounted)) valid in
    first_or_later m (rows_shown seen seal mounted) id index parts.0 (valid_ids seen seal mounted parts.1 id) (same_name m.id id) refl e
