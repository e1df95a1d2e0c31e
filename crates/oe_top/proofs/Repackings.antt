-- Mounted collections that are repacked.
use Rattle.std.proofs.Common.{◌≡◌, ◌≢◌, ◌⊎◌, ℕ, zero, suc, ◌<◌, List, [], ◌∷◌, length, Option, Some, None, Result, Ok, Err, IfSome, sym, ◌∙◌, slice_get, arith}
use Rattle.oe_outside.specs.Faults.{NeverFalls, Rose}
use Rattle.oe_sources.specs.Catalogue.{OnlyReads, Row, row_index, row_of, source_at}
use Rattle.oe_sources.specs.Repacked.{AppendsPartOfRepacked, AppendsRepacked, IsUndamaged, TellsRepackDamage}
use Rattle.oe_sources.specs.declared.repacking.RepackFail.TheVariants as fail
use Rattle.oe_top.specs.Objects.{Objects}
use Rattle.oe_top.specs.RepackAnswer.{IsOfMounted, RepackAnswers, RepackEnds}
use Rattle.oe_top.specs.Written.{IsUnwritten}
use Rattle.oe_top.specs.declared.repack.RepackRefusal.{RepackRefusal}
use Rattle.oe_top.specs.declared.repack.RepackRefusal.TheVariants.{NotMounted, ReadFault, Damaged, WriteFault, OutOfMemory}

-- ---- a collection that is mounted

-- a row stands at an index within
there : (rows : List Row) (index : ℕ) → index < length rows → ¬ (slice_get rows index ≡ None)
there [] index below is = absurd (omega arith)
there (row ∷ rows) zero below is = cc
there (row ∷ rows) (suc index) below is = there rows index (omega arith) is

-- what follows of what is left where something is visible
pub if_visible : {X A B : Type 0} → (A → B) → (o : Option X) → IfSome o (λ x. A) → IfSome o (λ x. B)
if_visible f None left = tt
if_visible f (Some x) left = f left

module _ (id text : List ℕ) (before after : Objects) (place : ℕ) (same : text ≡ id) (index : Some place ≡ row_index before.collections text)
    (within : place < length before.collections) (found : slice_get before.collections place ≡ row_of before.collections text)
    (only : OnlyReads before.collections place after.collections)
    (input : (after.input ≡ before.input) × (after.input_faults ≡ before.input_faults))
    (spool : (after.spool ≡ before.spool) × (after.spool_faults ≡ before.spool_faults))
    (count : NeverFalls before.out_faults after.out_faults) where
  mounted : IsOfMounted id before after place
  mounted = record { index_is = sym (rw same at index); within = within; only = only }

  -- what repacking it answers
  answers : (ending : Result (Unit {0}) RepackRefusal) → ending ≢ Err NotMounted → RepackEnds id before after ending
      → RepackAnswers id before after ending
  answers ending other ends = record {
    ends = ends;
    not_mounted = (
      λ is. absurd (other is),
      λ none. absurd (there before.collections place within ((rw same at found) ∙ none)),
    );
    input_kept = input;
    spool_kept = spool;
    out_count = count;
  }

  pub repacked : IsUndamaged (source_at before.collections place)
      → AppendsRepacked id (source_at before.collections place) before.out after.out → RepackAnswers id before after (Ok tt)
  repacked undamaged file =
      answers (Ok tt) (λ is. cc) (record { index = place; mounted = mounted; undamaged = undamaged; file = file })

  pub unread : Rose (source_at before.collections place).faults (source_at after.collections place).faults
      → (after.out ≡ before.out) ⊎ AppendsPartOfRepacked id (source_at before.collections place) before.out after.out
      → RepackAnswers id before after (Err ReadFault)
  unread rose written =
      answers (Err ReadFault) (λ is. cc) (record { index = place; mounted = mounted; rose = rose; written = written })

  pub damaged : (number : ℕ) (named : List ℕ) → named ≡ id
      → TellsRepackDamage (source_at before.collections place) (fail.SourceDamaged number)
      → IfSome (source_at before.collections place).contents (λ c. IsUnwritten before after)
      → RepackAnswers id before after (Err (Damaged named number))
  damaged number named is tells unwritten = answers (Err (Damaged named number)) (λ is. cc) (record {
    index = place;
    mounted = mounted;
    named_is = is;
    damaged = tells;
    unwritten = unwritten;
  })

  pub unwritten : Rose before.out_faults after.out_faults
      → IsUndamaged (source_at before.collections place)
      × AppendsPartOfRepacked id (source_at before.collections place) before.out after.out
      → RepackAnswers id before after (Err WriteFault)
  unwritten rose left = answers (Err WriteFault) (λ is. cc)
      (record { index = place; mounted = mounted; rose = rose; undamaged = left.0; prefix = left.1 })

  pub no_memory : IsUnwritten before after → RepackAnswers id before after (Err OutOfMemory)
  no_memory kept = answers (Err OutOfMemory) (λ is. cc) (record { index = place; mounted = mounted; unwritten = kept })
