-- The texts that ticks store.
use Rattle.std.proofs.Common.{◌≡◌, ℕ, ℤ, List, [], map, unwrap_or, sym, ap, ◌∙◌}
use Rattle.std.proofs.Math.Path.{fun_ext}
use Rattle.oe_dims.specs.declared.dims.DimsRow.{DimsRow}
use Rattle.oe_steps.specs.Collections.{AreRead}
use Rattle.oe_engine.specs.Laws.{collection_at, collection_named_by, collections_of, null_collection}
use Rattle.oe_engine.specs.Results.{IsVisible, result_of}
use Rattle.oe_engine.proofs.LawLemmas.{stay_after_reads}
use Rattle.oe_engine.proofs.ReadLemmas.{collection_without}
use Rattle.oe_jobs.specs.Plain.{PlainRan}
use Rattle.oe_render.specs.Text.{cube_text}
use Rattle.oe_meanings.specs.Graphs.{Collections}
use Rattle.oe_check.specs.Laws.{meaning_of_node}
use Rattle.oe_sources.specs.Catalogue.{Row}
use Rattle.oe_sources.specs.CatalogueDims.{dims_of}
use Rattle.oe_window.specs.declared.grid.ChunkSize.{ChunkSize}
use Rattle.oe_service.specs.Causes.{IsOfTick, Outside}
use Rattle.oe_service.specs.Finishes.{BringsText}
use Rattle.oe_service.specs.Runs.{asset_graph}
use Rattle.oe_service.specs.States.{Due, rest, start, plan, round, store, finish, Event, command, no_command, tick, refusal, reopen}
use Rattle.oe_service.specs.Texts.{StoresVisible, TicksBringTexts, text_over}

-- ---- what is stored

brings : (size : ChunkSize) (workers : ℕ) (before after : Outside) (due : Due) (now : ℤ) (e : Event) → IsVisible before.spool
    → StoresVisible before.rows due → IsOfTick size workers before after due now e → BringsText (text_over before.rows) due e
brings size workers before after rest now e visible loads is = tt
brings size workers before after (start job) now e visible loads is = tt
brings size workers before after (plan job k) now e visible loads is = tt
brings size workers before after (round job k done) now e visible loads is = tt
brings size workers before after (store job k) now (command user asked at) visible loads is = tt
brings size workers before after (store job k) now no_command visible loads is = tt
brings size workers before after (store job k) now (tick at text) visible loads is = is.1.text_is visible loads
brings size workers before after (store job k) now (refusal at reason) visible loads is = tt
brings size workers before after (store job k) now reopen visible loads is = tt
brings size workers before after (finish job) now e visible loads is = tt

-- ---- what reading leaves

module _ (before after : List Row) (read : AreRead before after) where
  named_same : (row : DimsRow) → collection_named_by after row ≡ collection_named_by before row
  named_same row =
      ap (λ o. (row.id, unwrap_or o (null_collection row)))
      (sym (collection_without after row.id) ∙ (ap (λ (rows : List Row). collection_at rows row.id) read.same
      ∙ collection_without before row.id))

  dims : dims_of after ≡ dims_of before
  dims = stay_after_reads.dims before after read

  collections_same : collections_of after ≡ collections_of before
  collections_same =
      ap (λ named. map named (dims_of after)) (fun_ext named_same) ∙ ap (map (collection_named_by before)) dims

  text_same : (ran : PlainRan) (k : ℕ) → text_over after ran k ≡ text_over before ran k
  text_same ran k =
      ap (λ d. cube_text (result_of after (asset_graph d ran k))) dims
      ∙ ap (λ (c : Collections). cube_text (meaning_of_node c (asset_graph (dims_of before) ran k)
      (asset_graph (dims_of before) ran k).result).cube) collections_same

pub ticks_bring_texts : TicksBringTexts
ticks_bring_texts = record { brings = brings; same = text_same }
