-- The text of an asset, by what was written of a run that is complete.
use Rattle.std.proofs.Common.{◌≡◌, ◌<◌, ◌≤◌, ℕ, ◌+◌, List, [], length, take, Option, Some, None, Result, Ok, Err, IfErr, IfOk, IsUtf8, inl, inr, refl, sym, ap, ◌∙◌, subst, arith}
use Rattle.std.proofs.lemmas.Option.{same_Some}
use Rattle.std.proofs.lemmas.List.{length-take}
use Rattle.oe_cell.specs.declared.cell.Cell.{Cell}
use Rattle.oe_dims.specs.Cube.{Cube}
use Rattle.oe_dims.specs.Dimensions.{IsShape}
use Rattle.oe_dims.proofs.CubeLemmas.{length-tuples}
use Rattle.oe_engine.specs.Going.{IsGoing}
use Rattle.oe_engine.specs.Laws.{LoadsVisible, collections_of}
use Rattle.oe_engine.specs.Runs.{HasDone, RunOf, ShowsDone, chunk_total, result_cube, result_shape}
use Rattle.oe_engine.specs.Results.{IsVisible, IsWithoutOver, OfMeaning, result_of}
use Rattle.oe_steps.specs.declared.fail.RunFail.{RunFail}
use Rattle.oe_steps.specs.declared.fail.RunFail.TheVariants as run
use Rattle.oe_steps.specs.Refusals.{overflow_of}
use Rattle.oe_engine.proofs.LawLemmas.{begin_and_end}
use Rattle.oe_engine.proofs.RunResults.{shows_done}
use Rattle.oe_jobs.specs.Valid.{most_asset}
use Rattle.oe_outside.specs.Faults.{HasCauseOf, Rose}
use Rattle.oe_outside.specs.Visible.{Appends, AppendsPrefix}
use Rattle.oe_render.specs.Laws.{HasText}
use Rattle.oe_render.specs.Rendered.{AppendsCube, IsRefusalWithin}
use Rattle.oe_render.specs.Text.{cube_text}
use Rattle.oe_render.specs.declared.rendering.RenderFail.{RenderFail}
use Rattle.oe_render.specs.declared.rendering.RenderFail.TheVariants as text
use Rattle.oe_render.proofs.LawLemmas.{utf8}
use Rattle.oe_check.specs.Checked.{CheckedGraph}
use Rattle.oe_meanings.specs.Graphs.{Collections}
use Rattle.oe_check.specs.Laws.{AreCollectionsOf}
use Rattle.oe_requests.specs.Operations.{Outline}
use Rattle.oe_check.proofs.CheckedLemmas.{give_cubes}
use Rattle.oe_sources.specs.Catalogue.{Row}
use Rattle.oe_spool.specs.Least.{least_over_of}
use Rattle.oe_service.specs.Causes.{HasNoText, IsAssetText, IsTextTooLong, TextRefused}
use Rattle.oe_service.specs.Refusals.{of_round, of_text}
use Rattle.oe_service.specs.declared.refusal.RunRefusal.{RunRefusal}
use Rattle.oe_service.specs.declared.refusal.RunRefusal.TheVariants.{Graph, PlanTooLarge, ReadFault, SourceDamaged, SpoolFault, SpoolDamaged, NumberOverflow, AssetTooLarge, OutOfMemory}

module _ (r : RunOf) (rows : List Row) (store : Option (List ℕ)) (going : IsGoing r rows store)
    (done : r.done ≡ chunk_total r.plan) where
  abbrev c : CheckedGraph
  c = r.plan.graph

  abbrev shown : Collections
  shown = collections_of rows

  are : AreCollectionsOf c shown
  are = going.given.valid c going.rows_are

  has_done : LoadsVisible c rows → HasDone r store (result_of rows c)
  has_done visible = going.values shown are (going.given.shown c going.rows_are visible)

  over_is : LoadsVisible c rows → r.over ≡ least_over_of (result_of rows c).cells
  over_is visible = begin_and_end.over r store shown going.planned are done (has_done visible)

  pub without_over : r.over ≡ None → OfMeaning rows c IsWithoutOver
  without_over none = λ visible. sym (over_is visible) ∙ none

  -- ---- before the text

  pub finish_refused : (fail : RunFail) (faults faults_after : ℕ) → overflow_of r.over ≡ Err fail
      → TextRefused c rows store faults faults_after (of_round fail)
  finish_refused fail faults faults_after is = by r.over over_is is
    where
      by : (o : Option ℕ) → (LoadsVisible c rows → o ≡ least_over_of (result_of rows c).cells) → overflow_of o ≡ Err fail
          → TextRefused c rows store faults faults_after (of_round fail)
      by None o_is is = absurd cc
      by (Some number) o_is is =
          let same : run.Overflow number ≡ fail = cc in
          subst (λ f. TextRefused c rows store faults faults_after (of_round f)) same
          (λ visible. record { number = number; least = sym (o_is visible) })

  -- ---- the text

  module _ (none : r.over ≡ None) (written : List ℕ) where
    abbrev TextIs : Type 0
    TextIs =
        (collections : Collections) → AreCollectionsOf c collections → ShowsDone r store (result_cube collections r.plan)
        → Appends (Some []) (cube_text (result_cube collections r.plan)) (Some written)

    abbrev PrefixIs : Type 0
    PrefixIs =
        (collections : Collections) → AreCollectionsOf c collections → ShowsDone r store (result_cube collections r.plan)
        → AppendsPrefix (Some []) (cube_text (result_cube collections r.plan)) (Some written)

    text_is : TextIs → IsVisible store → OfMeaning rows c (λ cube. written ≡ cube_text cube)
    text_is appends seen visible =
        same_Some _ _ (appends shown are (shows_done r store (result_of rows c) seen (has_done visible)))

    pub asset_text : TextIs → (made : List ℕ) → made ≡ written → length made ≤ most_asset → IsAssetText c rows store made
    asset_text appends made is short = record {
      numbers = without_over none;
      short = short;
      text_is = λ seen visible. is ∙ text_is appends seen visible;
    }

    too_long : TextIs → length written ≡ most_asset + 1 → IsTextTooLong c rows store
    too_long appends full = record {
      numbers = without_over none;
      long = λ seen visible. subst (λ t. most_asset < length t) (text_is appends seen visible) (omega (arith, full));
    }

    -- a sink that has failed is full, and so the text is longer
    too_long_prefix : PrefixIs → length written ≡ most_asset + 1 → IsTextTooLong c rows store
    too_long_prefix prefix full = record {
      numbers = without_over none;
      long = λ seen visible.
          let p = prefix shown are (shows_done r store (result_of rows c) seen (has_done visible)) in
          let same : written ≡ take p.0 (cube_text (result_of rows c)) = same_Some _ _ p.1 in
          let shorter : length (take p.0 (cube_text (result_of rows c))) ≤ length (cube_text (result_of rows c)) =
          omega (arith, length-take p.0 (cube_text (result_of rows c))) in
          omega (arith, full, ap length same, shorter);
    }

    -- cells that stand in the store have a text that is UTF-8
    is_utf8 : AppendsCube store r.base (result_shape r.plan) (Some []) (Some written) → IsUtf8 written
    is_utf8 h =
        let cube : Cube Cell = record { shape = result_shape r.plan; cells = h.0 } in
        let node = give_cubes.cube c going.planned.faultless shown are c.result going.planned.faultless.has_result in
        let valid : IsShape (result_shape r.plan) = subst IsShape (ap (λ (o : Outline). o.shape) node.outline_is) node.valid in
        let is : HasText cube = record {
          valid = valid;
          whole_cube = h.1.counted ∙ sym (length-tuples (result_shape r.plan));
          fit = h.1.read.fit;
          numbered = h.1.numbered;
        } in
        subst IsUtf8 (sym (same_Some _ _ h.2)) (utf8 cube is)

    -- why what was written is no text of an asset
    pub bytes_refused : (faults faults_after : ℕ) → TextIs
        → AppendsCube store r.base (result_shape r.plan) (Some []) (Some written) → (reason : RunRefusal)
        → HasNoText written reason → TextRefused c rows store faults faults_after reason
    bytes_refused faults faults_after appends cells (Graph code) cause = absurd cause
    bytes_refused faults faults_after appends cells PlanTooLarge cause = absurd cause
    bytes_refused faults faults_after appends cells ReadFault cause = absurd cause
    bytes_refused faults faults_after appends cells SourceDamaged cause = absurd cause
    bytes_refused faults faults_after appends cells SpoolFault cause = absurd cause
    bytes_refused faults faults_after appends cells SpoolDamaged cause = absurd (cause (is_utf8 cells))
    bytes_refused faults faults_after appends cells NumberOverflow cause = absurd cause
    bytes_refused faults faults_after appends cells AssetTooLarge cause = too_long appends cause
    bytes_refused faults faults_after appends cells OutOfMemory cause = without_over none

    -- why it was not written
    pub text_refused : (faults faults_after end : ℕ) (result : Result (Unit {0}) RenderFail) (fail : RenderFail) → result ≡ Err fail
        → PrefixIs → HasCauseOf text.SpoolFailed faults faults_after result → IsRefusalWithin store 0 end fail
        → (fail ≡ text.SinkFailed → length written ≡ most_asset + 1)
        → TextRefused c rows store faults faults_after (of_text fail)
    text_refused faults faults_after end result text.SpoolFailed is prefix spool damage full = (spool.failed is, without_over none)
    text_refused faults faults_after end result (text.SpoolDamaged number) is prefix spool damage full =
        (damage.0, without_over none)
    text_refused faults faults_after end result text.SinkFailed is prefix spool damage full = too_long_prefix prefix (full refl)

-- ---- by what a call answered

pub none_over : (o : Option ℕ) → overflow_of o ≡ Ok tt → o ≡ None
none_over None is = refl
none_over (Some number) is = absurd cc

module _ (r : RunOf) (store : Option (List ℕ)) (done : r.done ≡ chunk_total r.plan) (none : r.over ≡ None) where
  -- there was no memory for it
  pub no_room : (faults faults_after : ℕ) (rows : List Row) → IsGoing r rows store
      → TextRefused r.plan.graph rows store faults faults_after OutOfMemory
  no_room faults faults_after rows going = without_over r rows store going done none

  module _ (first written : List ℕ) (empty : first ≡ []) where
    abbrev Appended : Type 0
    Appended =
        (collections : Collections) → AreCollectionsOf r.plan.graph collections
        → ShowsDone r store (result_cube collections r.plan)
        → Appends (Some first) (cube_text (result_cube collections r.plan)) (Some written)

    abbrev AppendedPrefix : Type 0
    AppendedPrefix =
        (collections : Collections) → AreCollectionsOf r.plan.graph collections
        → ShowsDone r store (result_cube collections r.plan)
        → AppendsPrefix (Some first) (cube_text (result_cube collections r.plan)) (Some written)

    from_empty : Appended → (collections : Collections) → AreCollectionsOf r.plan.graph collections
        → ShowsDone r store (result_cube collections r.plan)
        → Appends (Some []) (cube_text (result_cube collections r.plan)) (Some written)
    from_empty appended collections are shown =
        subst (λ (f : List ℕ). Appends (Some f) (cube_text (result_cube collections r.plan)) (Some written)) empty
        (appended collections are shown)

    -- the text of what was written whole
    pub text_made : (made : Result (List ℕ) RunRefusal) → Appended → IfOk made (λ t. t ≡ written)
        → IfOk made (λ t. length t ≤ most_asset)
        → IfOk made (λ t. (rows : List Row) → IsGoing r rows store → IsAssetText r.plan.graph rows store t)
    text_made (Ok t) appended is short =
        λ rows going. asset_text r rows store going done none written (from_empty appended) t is short
    text_made (Err reason) appended is short = tt

    -- or why it is none
    pub text_not_made : (made : Result (List ℕ) RunRefusal) (faults faults_after : ℕ) → Appended
        → AppendsCube store r.base (result_shape r.plan) (Some first) (Some written) → IfErr made (HasNoText written)
        → IfErr made (λ reason. (rows : List Row) → IsGoing r rows store
        → TextRefused r.plan.graph rows store faults faults_after reason)
    text_not_made (Ok t) faults faults_after appended cells cause = tt
    text_not_made (Err reason) faults faults_after appended cells cause =
        λ rows going. bytes_refused r rows store going done none written faults faults_after (from_empty appended)
        (subst (λ (f : List ℕ). AppendsCube store r.base (result_shape r.plan) (Some f) (Some written)) empty cells)
        reason cause

    -- why it was not written
    pub not_written : (faults faults_after end : ℕ) (result : Result (Unit {0}) RenderFail) (fail : RenderFail)
        → result ≡ Err fail → AppendedPrefix → HasCauseOf text.SpoolFailed faults faults_after result
        → IsRefusalWithin store 0 end fail → (fail ≡ text.SinkFailed → length written ≡ most_asset + 1)
        → (rows : List Row) → IsGoing r rows store
        → TextRefused r.plan.graph rows store faults faults_after (of_text fail)
    not_written faults faults_after end result fail is prefix spool damage full = λ rows going.
        text_refused r rows store going done none written faults faults_after end result fail is
        (λ collections are shown. subst (λ (f : List ℕ). AppendsPrefix (Some f)
        (cube_text (result_cube collections r.plan)) (Some written)) empty (prefix collections are shown))
        spool damage full

-- a counter that rose from nothing is not nothing
pub rose_above : (after : ℕ) → Rose 0 after → 0 < after
rose_above after (inl more) = more
rose_above after (inr last) = omega (arith, last)
