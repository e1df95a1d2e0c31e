-- How the command `repack` ends.
use Rattle.std.specs.Prelude.{◌≡◌, ◌<◌, ◌⊎◌, ◌↔◌, ℕ, List, length, None, Some, Result, Ok, Err, IfSome}
use Rattle.oe_outside.specs.Faults.{NeverFalls, Rose}
use Rattle.oe_sources.specs.Catalogue.{OnlyReads, row_index, row_of, source_at}
use Rattle.oe_sources.specs.Repacked.{AppendsPartOfRepacked, AppendsRepacked, IsDamagedPosition, IsUndamaged}
use Rattle.oe_top.specs.Objects.{Objects, IsUntouched}
use Rattle.oe_top.specs.Written.{IsUnwritten}
use Rattle.oe_top.specs.declared.repack.RepackRefusal.{RepackRefusal}
use Rattle.oe_top.specs.declared.repack.RepackRefusal.TheVariants.{NotMounted, ReadFault, Damaged, WriteFault, OutOfMemory}

module _ (id : List ℕ) where
  -- the collection of the id is mounted, and nothing but its counters changed in the catalogue
  pub record IsOfMounted (before after : Objects) (index : ℕ) : Type 0 where
    pub index_is : row_index before.collections id ≡ Some index
    pub within : index < length before.collections
    pub only : OnlyReads before.collections index after.collections

  -- 0: its cube file in least widths follows what the output held
  pub record Repacks (before after : Objects) : Type 0 where
    pub index : ℕ
    pub mounted : IsOfMounted before after index
    pub undamaged : IsUndamaged (source_at before.collections index)
    pub file : AppendsRepacked id (source_at before.collections index) before.out after.out

  -- 5: its fault counter rose; nothing was written, or a prefix of the file
  pub record StopsReading (before after : Objects) : Type 0 where
    pub index : ℕ
    pub mounted : IsOfMounted before after index
    pub rose : Rose (source_at before.collections index).faults (source_at after.collections index).faults
    pub written : (after.out ≡ before.out)
        ⊎ AppendsPartOfRepacked id (source_at before.collections index) before.out after.out

  -- 6: a position of it has this number, and where its contents are visible it is damaged, and nothing was written
  pub record MeetsDamage (before after : Objects) (named : List ℕ) (number : ℕ) : Type 0 where
    pub index : ℕ
    pub mounted : IsOfMounted before after index
    pub named_is : named ≡ id
    pub damaged : IsDamagedPosition (source_at before.collections index) number
    pub unwritten : IfSome (source_at before.collections index).contents (λ c. IsUnwritten before after)

  -- 8: the fault counter of the output rose; no visible position is damaged, and a prefix of the file stands there
  pub record StopsWriting (before after : Objects) : Type 0 where
    pub index : ℕ
    pub mounted : IsOfMounted before after index
    pub rose : Rose before.out_faults after.out_faults
    pub undamaged : IsUndamaged (source_at before.collections index)
    pub prefix : AppendsPartOfRepacked id (source_at before.collections index) before.out after.out

  -- 9, which has no cause: nothing was written
  pub record IsOutOfMemory (before after : Objects) : Type 0 where
    pub index : ℕ
    pub mounted : IsOfMounted before after index
    pub unwritten : IsUnwritten before after

  -- what each ending says
  abbrev pub RepackEnds : Objects → Objects → Result (Unit {0}) RepackRefusal → Type 0
  RepackEnds before after (Ok x) = Repacks before after
  RepackEnds before after (Err NotMounted) = IsUntouched before after
  RepackEnds before after (Err ReadFault) = StopsReading before after
  RepackEnds before after (Err (Damaged named number)) = MeetsDamage before after named number
  RepackEnds before after (Err WriteFault) = StopsWriting before after
  RepackEnds before after (Err OutOfMemory) = IsOutOfMemory before after

  -- Neither the input nor the spool is touched.
  pub record RepackAnswers (before after : Objects) (ending : Result (Unit {0}) RepackRefusal) : Type 0 where
    pub ends : RepackEnds before after ending
    -- `CollectionNotFound` comes exactly where no collection is mounted under the id
    pub not_mounted : (ending ≡ Err NotMounted) ↔ (row_of before.collections id ≡ None)
    pub input_kept : (after.input ≡ before.input) × (after.input_faults ≡ before.input_faults)
    pub spool_kept : (after.spool ≡ before.spool) × (after.spool_faults ≡ before.spool_faults)
    -- no fault counter falls
    pub out_count : NeverFalls before.out_faults after.out_faults
