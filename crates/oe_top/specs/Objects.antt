-- The objects that a call is lent.
use Rattle.std.specs.Prelude.{◌≡◌, ℕ, List, [], Option, IfSome}
use Rattle.oe_sources.specs.Catalogue.{Row}

-- the objects that a call is lent: what the input has left, what the output holds, the bytes of the spool, and the
-- collections
pub record Objects : Type 0 where
  pub input : Option (List ℕ)
  pub input_faults : ℕ
  pub out : Option (List ℕ)
  pub out_faults : ℕ
  pub spool : Option (List ℕ)
  pub spool_faults : ℕ
  pub collections : List Row

-- these objects
abbrev pub objects : Option (List ℕ) → ℕ → Option (List ℕ) → ℕ → Option (List ℕ) → ℕ → List Row → Objects
objects input input_faults out out_faults spool spool_faults collections = record {
  input = input;
  input_faults = input_faults;
  out = out;
  out_faults = out_faults;
  spool = spool;
  spool_faults = spool_faults;
  collections = collections;
}

-- what a call is lent, of a source of type I, a sink of type O and a store of type P
abbrev pub lends : {I O P : Type 0} → (I → Option (List ℕ)) → (I → ℕ) → (O → Option (List ℕ)) → (O → ℕ)
    → (P → Option (List ℕ)) → (P → ℕ) → I → O → P → List Row → Objects
lends left input_faults written out_faults bytes spool_faults input out spool collections =
    objects (left input) (input_faults input) (written out) (out_faults out) (bytes spool) (spool_faults spool)
    collections

-- ---- calls that are lent no more than some of them

-- something holds of an input and an output, before a call and after it, whatever the spool is
abbrev pub ForEachSpool : {I O : Type 0} → (I → Option (List ℕ)) → (I → ℕ) → (O → Option (List ℕ)) → (O → ℕ) → I → O → I → O
    → List Row → (Objects → Objects → Type 0) → Type 0
ForEachSpool left input_faults written out_faults input out input_after out_after rows P =
    (spool : Option (List ℕ)) (spool_faults : ℕ)
    → P (objects (left input) (input_faults input) (written out) (out_faults out) spool spool_faults rows)
    (objects (left input_after) (input_faults input_after) (written out_after) (out_faults out_after) spool spool_faults rows)

-- the same, whatever the collections are, which stay
abbrev pub ForEachSpoolAndRows : {I O : Type 0} → (I → Option (List ℕ)) → (I → ℕ) → (O → Option (List ℕ)) → (O → ℕ)
    → I → O → I → O → (Objects → Objects → Type 0) → Type 0
ForEachSpoolAndRows left input_faults written out_faults input out input_after out_after P =
    (spool : Option (List ℕ)) (spool_faults : ℕ) (rows : List Row)
    → P (objects (left input) (input_faults input) (written out) (out_faults out) spool spool_faults rows)
    (objects (left input_after) (input_faults input_after) (written out_after) (out_faults out_after) spool
    spool_faults rows)

-- of an output alone, whatever the input and the spool are
abbrev pub ForEachInputAndSpool : {O : Type 0} → (O → Option (List ℕ)) → (O → ℕ) → O → O → List Row → List Row
    → (Objects → Objects → Type 0) → Type 0
ForEachInputAndSpool written out_faults out out_after rows rows_after P =
    (input : Option (List ℕ)) (input_faults : ℕ) (spool : Option (List ℕ)) (spool_faults : ℕ)
    → P (objects input input_faults (written out) (out_faults out) spool spool_faults rows)
    (objects input input_faults (written out_after) (out_faults out_after) spool spool_faults rows_after)

-- of an output and a spool, whatever became of the input
abbrev pub ForEachInput : {O P : Type 0} → (O → Option (List ℕ)) → (O → ℕ) → (P → Option (List ℕ)) → (P → ℕ) → O → P → O → P
    → List Row → List Row → (Objects → Objects → Type 0) → Type 0
ForEachInput written out_faults bytes spool_faults out spool out_after spool_after rows rows_after Holds =
    (input input_after : Option (List ℕ)) (faults faults_after : ℕ)
    → Holds (objects input faults (written out) (out_faults out) (bytes spool) (spool_faults spool) rows)
    (objects input_after faults_after (written out_after) (out_faults out_after) (bytes spool_after)
    (spool_faults spool_after) rows_after)

-- the same, whatever the collections are, which stay
abbrev pub ForEachInputOverRows : {O P : Type 0} → (O → Option (List ℕ)) → (O → ℕ) → (P → Option (List ℕ)) → (P → ℕ)
    → O → P → O → P → (Objects → Objects → Type 0) → Type 0
ForEachInputOverRows written out_faults bytes spool_faults out spool out_after spool_after Holds =
    (input input_after : Option (List ℕ)) (faults faults_after : ℕ) (rows : List Row)
    → Holds (objects input faults (written out) (out_faults out) (bytes spool) (spool_faults spool) rows)
    (objects input_after faults_after (written out_after) (out_faults out_after) (bytes spool_after)
    (spool_faults spool_after) rows)

-- of an output and a spool, whatever the input and the collections are
abbrev pub ForEachInputAndRows : {O P : Type 0} → (O → Option (List ℕ)) → (O → ℕ) → (P → Option (List ℕ)) → (P → ℕ) → O → P → O
    → P → (Objects → Objects → Type 0) → Type 0
ForEachInputAndRows written out_faults bytes spool_faults out spool out_after spool_after Holds =
    (input : Option (List ℕ)) (input_faults : ℕ) (rows : List Row)
    → Holds (objects input input_faults (written out) (out_faults out) (bytes spool) (spool_faults spool) rows)
    (objects input input_faults (written out_after) (out_faults out_after) (bytes spool_after)
    (spool_faults spool_after) rows)

-- the whole input, these bytes, was read, and nothing of it is left
pub record IsReadWhole (before after : Option (List ℕ)) (bytes : List ℕ) : Type 0 where
  pub all : IfSome before (λ input. input ≡ bytes)
  pub end : IfSome after (λ rest. rest ≡ [])

-- nothing but the input was touched
pub record IsUntouched (before after : Objects) : Type 0 where
  pub out : after.out ≡ before.out
  pub out_faults : after.out_faults ≡ before.out_faults
  pub spool : after.spool ≡ before.spool
  pub spool_faults : after.spool_faults ≡ before.spool_faults
  pub collections : after.collections ≡ before.collections

-- the spool and the collections were left alone
pub record UsesStreamsAlone (before after : Objects) : Type 0 where
  pub spool : after.spool ≡ before.spool
  pub spool_faults : after.spool_faults ≡ before.spool_faults
  pub collections : after.collections ≡ before.collections
