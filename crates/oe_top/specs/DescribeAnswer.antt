-- How the command `describe` ends.
use Rattle.std.specs.Prelude.{◌≡◌, ◌++◌, ◌↔◌, ℕ, List, Option, None, Some, Result, Ok, Err, codes}
use Rattle.std.specs.List.{find, slice_get}
use Rattle.serde_json.specs.Data.{Data}
use Rattle.serde_json.specs.Written.{compact_text}
use Rattle.oe_dims.specs.Names.{same_name}
use Rattle.oe_dims.specs.declared.dims.DimsRow.{DimsRow}
use Rattle.oe_outside.specs.Faults.{NeverFalls}
use Rattle.oe_outside.specs.Visible.{Appends}
use Rattle.oe_replies.specs.Collections.{collection_data, collections_data}
use Rattle.oe_sources.specs.Catalogue.{Row, row_of}
use Rattle.oe_sources.specs.CatalogueDims.{dims_of, dims_row}
use Rattle.oe_top.specs.Objects.{IsUntouched, Objects}
use Rattle.oe_top.specs.Written.{IsUnwritten, StopsWriting}
use Rattle.oe_top.specs.declared.describe.DescribeRefusal.{DescribeRefusal}
use Rattle.oe_top.specs.declared.describe.DescribeRefusal.TheVariants.{NotMounted, Unwritten}
use Rattle.oe_top.specs.declared.describe.UnwrittenCause.{UnwrittenCause}
use Rattle.oe_top.specs.declared.describe.UnwrittenCause.TheVariants.{WriteFault, OutOfMemory}

-- the compact JSON text of a value, and a line feed
abbrev pub json_line : Data → List ℕ
json_line value = compact_text value ++ codes "\n"

-- the text of all mounted collections, by rising ids and without their dimensions
abbrev pub collections_text : List Row → List ℕ
collections_text rows = json_line (collections_data (dims_of rows))

-- the text of a mounted collection, with its dimensions
abbrev pub collection_text : Row → List ℕ
collection_text row = json_line (collection_data (dims_row row))

-- why a text was not written: 8, where a prefix of it stands; 9, which has no cause, and nothing was written
abbrev pub IsUnwrittenBy : List ℕ → Objects → Objects → UnwrittenCause → Type 0
IsUnwrittenBy text before after WriteFault = StopsWriting text before after
IsUnwrittenBy text before after OutOfMemory = IsUnwritten before after

-- the first row with an id
abbrev pub row_named : List DimsRow → List ℕ → Option DimsRow
row_named rows id = find (λ (row : DimsRow). same_name row.id id) rows

-- it is the row at this index, or there is none at either
abbrev pub IsRowAt : List DimsRow → List ℕ → ℕ → Type 0
IsRowAt rows id index = slice_get rows index ≡ row_named rows id

-- nothing but the output was touched
pub record UsesOutputAlone (before after : Objects) : Type 0 where
  pub input : (after.input ≡ before.input) × (after.input_faults ≡ before.input_faults)
  pub spool : (after.spool ≡ before.spool) × (after.spool_faults ≡ before.spool_faults)
  pub collections : after.collections ≡ before.collections

-- ---- all collections

-- 0: their text follows what the output held
abbrev pub ListingEnds : Objects → Objects → Result (Unit {0}) UnwrittenCause → Type 0
ListingEnds before after (Ok x) = Appends before.out (collections_text before.collections) after.out
ListingEnds before after (Err cause) = IsUnwrittenBy (collections_text before.collections) before after cause

pub record ListingAnswers (before after : Objects) (ending : Result (Unit {0}) UnwrittenCause) : Type 0 where
  pub ends : ListingEnds before after ending
  pub others_kept : UsesOutputAlone before after
  -- the fault counter of the output does not fall
  pub out_count : NeverFalls before.out_faults after.out_faults

-- ---- one collection

module _ (id : List ℕ) where
  -- 0: the text of the collection of the id follows what the output held
  pub record Describes (before after : Objects) : Type 0 where
    pub row : Row
    pub mounted : row_of before.collections id ≡ Some row
    pub written : Appends before.out (collection_text row) after.out

  -- 8 and 9: the text of the collection of the id was not written
  pub record StopsDescribing (before after : Objects) (cause : UnwrittenCause) : Type 0 where
    pub row : Row
    pub mounted : row_of before.collections id ≡ Some row
    pub unwritten : IsUnwrittenBy (collection_text row) before after cause

  abbrev pub DescribeEnds : Objects → Objects → Result (Unit {0}) DescribeRefusal → Type 0
  DescribeEnds before after (Ok x) = Describes before after
  DescribeEnds before after (Err NotMounted) = IsUntouched before after
  DescribeEnds before after (Err (Unwritten cause)) = StopsDescribing before after cause

  pub record DescribeAnswers (before after : Objects) (ending : Result (Unit {0}) DescribeRefusal) : Type 0 where
    pub ends : DescribeEnds before after ending
    -- `CollectionNotFound` comes only where no collection is mounted under the id
    pub not_mounted : (ending ≡ Err NotMounted) ↔ (row_of before.collections id ≡ None)
    pub others_kept : UsesOutputAlone before after
    -- the fault counter of the output does not fall
    pub out_count : NeverFalls before.out_faults after.out_faults
