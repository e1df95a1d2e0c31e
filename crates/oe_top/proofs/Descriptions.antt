-- Mounted collections that are described.
use Rattle.std.proofs.Common.{◌≡◌, true, false, ℕ, zero, suc, ◌+◌, ◌<◌, ◌≤◌, List, [], ◌∷◌, ◌++◌, length, drop, get_or, slice_get, Option, Some, None, IfNone, IfSome, IfOk, Result, Ok, Err, codes, refl, sym, ap, ◌∙◌, subst, arith}
use Rattle.std.proofs.Math.ListN.{drop_of_length-le}
use Rattle.std.proofs.lemmas.List.{get_or_default}
use Rattle.std.proofs.lemmas.Option.{get_or_from_slice_get, slice_get-get_or, slice_get_past, slice_get_within}
use Rattle.std.specs.Option.{IsSome, is_some, option_map}
use Rattle.serde_json.specs.Written.{compact_text}
use Rattle.oe_dims.specs.Names.{same_name}
use Rattle.oe_dims.specs.declared.dims.DimsRow.{DimsRow}
use Rattle.oe_outside.specs.Faults.{NeverFalls}
use Rattle.oe_replies.specs.Collections.{collection_data}
use Rattle.oe_check.proofs.InputLemmas.{find_here, find_over}
use Rattle.oe_sources.specs.Catalogue.{Row, row_of}
use Rattle.oe_sources.specs.CatalogueDims.{AreDimsOf, dims_row}
use Rattle.oe_top.specs.DescribeAnswer.{DescribeAnswers, IsRowAt, IsUnwrittenBy, UsesOutputAlone, collection_text, row_named}
use Rattle.oe_top.specs.Objects.{Objects}
use Rattle.oe_top.specs.declared.describe.DescribeRefusal.TheVariants.{Unwritten}
use Rattle.oe_top.specs.declared.describe.UnwrittenCause.{UnwrittenCause}

-- ---- a search along rows

module _ (rows : List DimsRow) (id : List ℕ) where
  pub row_here : (n : ℕ) (d : DimsRow) → n < length rows → same_name (get_or rows n d).id id ≡ true
      → row_named rows id ≡ row_named (drop n rows) id
      → IsRowAt rows id n
  row_here n d below test before =
      let i = get_or rows n d in
      let is : i ≡ get_or rows n i = get_or_default rows n d i below in
      slice_get-get_or rows n d below ∙ sym (before ∙ find_here (λ (row : DimsRow). same_name row.id id) rows n i below is test)

  pub row_over : (n : ℕ) (d : DimsRow) → n < length rows → same_name (get_or rows n d).id id ≡ false
      → row_named rows id ≡ row_named (drop n rows) id
      → row_named rows id ≡ row_named (drop (n + 1) rows) id
  row_over n d below test before =
      let i = get_or rows n d in
      let is : i ≡ get_or rows n i = get_or_default rows n d i below in
      before ∙ find_over (λ (row : DimsRow). same_name row.id id) rows n i below is test

  pub row_past : (n : ℕ) → length rows ≤ n
      → row_named rows id ≡ row_named (drop n rows) id
      → IsRowAt rows id (length rows)
  row_past n past before =
      let none : drop n rows ≡ [] = drop_of_length-le rows past in
      slice_get_past rows (length rows) (omega arith)
      ∙ sym (before ∙ ap (λ r. row_named r id) none)

-- ---- the row of a mounted collection

pub record IsMounted (mounted : List Row) (id : List ℕ) : Type 0 where
  pub row : Row
  pub is : row_of mounted id ≡ Some row

pub is_mounted : (mounted : List Row) (id : List ℕ) → IsSome (row_of mounted id) → IsMounted mounted id
is_mounted mounted id some = by (row_of mounted id) refl some
  where
    by : (o : Option Row) → row_of mounted id ≡ o → IsSome o → IsMounted mounted id
    by None is some = cc
    by (Some row) is some = record { row = row; is = is }

module _ (mounted : List Row) (dims : List DimsRow) (id : List ℕ) (are : AreDimsOf mounted dims)
    (some : IsSome (row_of mounted id)) (index : ℕ)
    (found : IsRowAt dims id index) where
  there : IsMounted mounted id
  there = is_mounted mounted id some

  at_index : slice_get dims index ≡ Some (dims_row there.row)
  at_index = found ∙ are id ∙ ap (option_map dims_row) there.is

  pub index_within : index < length dims
  index_within = slice_get_within dims index (dims_row there.row) at_index

  -- the text that is made of the row at the index is that of the collection
  pub text_is : {A B : Type 0} (items : A → List ℕ) (row : DimsRow) (body : List ℕ) (result : Result A B)
      → row ≡ get_or dims index row → body ≡ compact_text (collection_data row)
      → IfOk result (λ text. items text ≡ body ++ codes "\n")
      → IfOk result (λ text. IfSome (row_of mounted id) (λ row. items text ≡ collection_text row))
  text_is items row body (Err e) is written ended = tt
  text_is items row body (Ok text) is written ended =
      let same : row ≡ dims_row there.row = is ∙ get_or_from_slice_get dims index (dims_row there.row) row at_index in
      let line : items text ≡ collection_text there.row =
      ended ∙ ap (λ b. b ++ codes "\n") (written ∙ ap (λ r. compact_text (collection_data r)) same) in
      subst (λ o. IfSome o (λ row. items text ≡ collection_text row)) (sym there.is) line

-- ---- a text that was not written

pub undescribed : (id : List ℕ) (before after : Objects) (cause : UnwrittenCause) → IsSome (row_of before.collections id)
    → ((row : Row) → row_of before.collections id ≡ Some row → IsUnwrittenBy (collection_text row) before after cause)
    → UsesOutputAlone before after → NeverFalls before.out_faults after.out_faults
    → DescribeAnswers id before after (Err (Unwritten cause))
undescribed id before after cause some unwritten kept count =
    let there = is_mounted before.collections id some in
    record {
      ends = record { row = there.row; mounted = there.is; unwritten = unwritten there.row there.is };
      not_mounted = (λ is. cc, λ none. cc (none, there.is));
      others_kept = kept;
      out_count = count;
    }

-- a row stands at a place within
some_at : (mounted : List Row) (n : ℕ) → n < length mounted → IsSome (slice_get mounted n)
some_at [] n below = absurd (omega arith)
some_at (row ∷ mounted) zero below = refl
some_at (row ∷ mounted) (suc n) below = some_at mounted n (omega arith)

-- a collection that has a place is mounted
pub has_place : (mounted : List Row) (id : List ℕ) (place : Option ℕ) → IfNone place (row_of mounted id ≡ None)
    → IfSome place (λ n. slice_get mounted n ≡ row_of mounted id) → IfSome place (λ n. n < length mounted) → is_some place ≡ true
    → IsSome (row_of mounted id)
has_place mounted id None none found within is = cc
has_place mounted id (Some n) none found within is = subst (λ (o : Option Row). IsSome o) found (some_at mounted n within)

-- the text of the collection of an id
pub text_at : (mounted : List Row) (id text : List ℕ) → IfSome (row_of mounted id) (λ row. text ≡ collection_text row) → (row : Row)
    → row_of mounted id ≡ Some row → text ≡ collection_text row
text_at mounted id text is row there = subst (λ o. IfSome o (λ row. text ≡ collection_text row)) there is
