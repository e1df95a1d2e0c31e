-- What reads of collections leave: all but two counters as it was.
use Rattle.std.proofs.Common.{◌≡◌, ℕ, zero, suc, ◌+◌, ◌<◌, ◌≤◌, ◌≢◌, Bool, cond, List, [], ◌∷◌, length, map, min, Option, Some, IfSome, Contains, refl, sym, ap, ◌∙◌, subst, arith, Result, Ok, Err}
use Rattle.std.specs.Option.{option_map}
use Rattle.std.specs.Result.{IsErrAnd, IfErr}
use Rattle.std.proofs.lemmas.List.{length-map}
use Rattle.oe_dims.specs.Names.{same_name}
use Rattle.oe_dims.specs.Positions.{IsPosition, number_of}
use Rattle.oe_ops.specs.Needs.{HasLabelsOf}
use Rattle.oe_outside.proofs.Causes.{NeverFalls-refl, NeverFalls-trans, Rose-then, then-Rose}
use Rattle.oe_outside.specs.Faults.{NeverFalls, last_count}
use Rattle.oe_plan.specs.Figures.{shape_of_node}
use Rattle.oe_check.specs.Checked.{CheckedGraph}
use Rattle.oe_meanings.specs.Graphs.{Collections}
use Rattle.oe_sources.specs.Catalogue.{CountsRow, Row, row_index, rows_at, source_at}
use Rattle.oe_sources.specs.Source.{Source, asked_after, collection_of}
use Rattle.oe_steps.specs.Collections.{AreRead, HasCollections, IsLoadedBy, IsMountedAt, KeepsOtherRows, LoadRose, Shows, without_counts}
use Rattle.oe_steps.specs.Loads.{HasRead}
use Rattle.oe_steps.specs.Refusals.{IsOfSource, KeepsDamage, RefusalSays}
use Rattle.oe_steps.specs.declared.fail.RunFail.TheVariants.{SourceFailed, SourceDamaged, SpoolFailed, Overflow}
use Rattle.oe_steps.specs.declared.fail.RunFail.{RunFail}

-- ---- looks at one row that are counted

without_at : (rows : List Row) (index : ℕ) (s : Source) → s.shape ≡ (source_at rows index).shape → s.kind ≡ (source_at rows index).kind
    → s.contents ≡ (source_at rows index).contents → map without_counts (rows_at rows index s) ≡ map without_counts rows
without_at [] index s shape kind contents = refl
without_at (row ∷ rows) zero s shape kind contents = rw (shape, kind, contents) refl
without_at (row ∷ rows) (suc index) s shape kind contents =
    ap (λ rest. without_counts row ∷ rest) (without_at rows index s shape kind contents)

counts_at : (rows : List Row) (index : ℕ) (s : Source) (j : ℕ) → NeverFalls (source_at rows index).faults s.faults
    → NeverFalls (source_at rows j).faults (source_at (rows_at rows index s) j).faults
counts_at [] index s j h = NeverFalls-refl 0
counts_at (row ∷ rows) zero s zero h = h
counts_at (row ∷ rows) zero s (suc j) h = NeverFalls-refl _
counts_at (row ∷ rows) (suc index) s zero h = NeverFalls-refl _
counts_at (row ∷ rows) (suc index) s (suc j) h = counts_at rows index s j h

-- what was asked of a row does not fall, up to its last value
none_asked : (n : ℕ) → min n last_count ≤ n
none_asked n = omega arith

more_asked : (n cells : ℕ) → min n last_count ≤ asked_after n cells
more_asked n cells = omega arith

both_asked : (a b d : ℕ) → min a last_count ≤ b → min b last_count ≤ d → min a last_count ≤ d
both_asked a b d first second = omega (arith, first, second)

asked_at : (rows : List Row) (index : ℕ) (s : Source) (j : ℕ) → min (source_at rows index).asked last_count ≤ s.asked
    → min (source_at rows j).asked last_count ≤ (source_at (rows_at rows index s) j).asked
asked_at [] index s j h = none_asked 0
asked_at (row ∷ rows) zero s zero h = h
asked_at (row ∷ rows) zero s (suc j) h = none_asked _
asked_at (row ∷ rows) (suc index) s zero h = none_asked _
asked_at (row ∷ rows) (suc index) s (suc j) h = asked_at rows index s j h

pub count_read : (before : List Row) (index cells : ℕ) (failed : Bool) (after : List Row) → CountsRow before index cells failed after → AreRead before after
count_read before index cells failed after counts = record {
  same = ap (map without_counts) counts.others
      ∙ without_at before index (source_at after index) counts.count.shape counts.count.kind counts.count.contents;
  counts = λ j. subst (λ rows. NeverFalls (source_at before j).faults (source_at rows j).faults) (sym counts.others)
      (counts_at before index (source_at after index) j counts.count.falls);
  asked = λ j. subst (λ rows. min (source_at before j).asked last_count ≤ (source_at rows j).asked) (sym counts.others)
      (asked_at before index (source_at after index) j
      (subst (λ n. min (source_at before index).asked last_count ≤ n) (sym counts.count.asked)
      (more_asked (source_at before index).asked cells)));
}

-- all rows but that of an index stay
other_at : (rows : List Row) (index : ℕ) (s : Source) (j : ℕ) → j ≢ index → source_at (rows_at rows index s) j ≡ source_at rows j
other_at [] index s j other = refl
other_at (row ∷ rows) zero s zero other = absurd (other refl)
other_at (row ∷ rows) zero s (suc j) other = refl
other_at (row ∷ rows) (suc index) s zero other = refl
other_at (row ∷ rows) (suc index) s (suc j) other = other_at rows index s j (λ e. other (ap suc e))

pub others_counted : (c : CheckedGraph) (before : List Row) (index cells : ℕ) (failed : Bool) (after : List Row) → CountsRow before index cells failed after
    → (step : ℕ) (id : List ℕ) → IsLoadedBy c step id → IsMountedAt c before id index → KeepsOtherRows c before after
others_counted c before index cells failed after counts step id loaded mounted j other =
    ap (λ rows. source_at rows j) counts.others
    ∙ other_at before index (source_at after index) j (λ e. other step id loaded (subst (IsMountedAt c before id) (sym e) mounted))

-- ---- several reads

pub AreRead-refl : (rows : List Row) → AreRead rows rows
AreRead-refl rows = record { same = refl; counts = λ j. NeverFalls-refl _; asked = λ j. none_asked _ }

pub AreRead-trans : (a b c : List Row) → AreRead a b → AreRead b c → AreRead a c
AreRead-trans a b c first second = record {
  same = second.same ∙ first.same;
  counts = λ j. NeverFalls-trans (first.counts j) (second.counts j);
  asked = λ j. both_asked _ _ _ (first.asked j) (second.asked j);
}

source_without : (rows : List Row) (index : ℕ) → source_at (map without_counts rows) index ≡ record (source_at rows index) { faults = 0; asked = 0 }
source_without [] index = refl
source_without (row ∷ rows) zero = refl
source_without (row ∷ rows) (suc index) = source_without rows index

index_without : (rows : List Row) (id : List ℕ) → row_index (map without_counts rows) id ≡ row_index rows id
index_without [] id = refl
index_without (row ∷ rows) id =
    ap (λ (rest : Option ℕ). cond (same_name row.id id) (Some 0) (option_map (λ n. n + 1) rest)) (index_without rows id)

-- rows that are the same but for their counters
module _ (before after : List Row) (same : map without_counts after ≡ map without_counts before) where
  length_same : length after ≡ length before
  length_same = sym (length-map after without_counts) ∙ (ap length same ∙ length-map before without_counts)

  pub source_same : (index : ℕ) → record (source_at after index) { faults = 0; asked = 0 } ≡ record (source_at before index) { faults = 0; asked = 0 }
  source_same index = sym (source_without after index) ∙ (ap (λ rows. source_at rows index) same ∙ source_without before index)

  pub shape_same : (index : ℕ) → (source_at after index).shape ≡ (source_at before index).shape
  shape_same index = ap (λ (s : Source). s.shape) (source_same index)

  kind_same : (index : ℕ) → (source_at after index).kind ≡ (source_at before index).kind
  kind_same index = ap (λ (s : Source). s.kind) (source_same index)

  collection_same : (index : ℕ) → collection_of (source_at after index) ≡ collection_of (source_at before index)
  collection_same index = ap collection_of (source_same index)

  pub mounted_same : (c : CheckedGraph) (id : List ℕ) (index : ℕ) → IsMountedAt c before id index → IsMountedAt c after id index
  mounted_same c id index m = record {
    index_is = sym (index_without after id) ∙ (ap (λ rows. row_index rows id) same ∙ (index_without before id ∙ m.index_is));
    within = subst (λ n. index < n) (sym length_same) m.within;
    shape_is = shape_same index ∙ m.shape_is;
    kind_is = kind_same index ∙ m.kind_is;
  }

  pub has_same : (c : CheckedGraph) → HasCollections c before → HasCollections c after
  has_same c has step id loaded = let m = has step id loaded in (m.0, mounted_same c id m.0 m.1)

module _ (c : CheckedGraph) (before after : List Row) (same : map without_counts after ≡ map without_counts before) where
  pub shows_same : (collections : Collections) → Shows c before collections → Shows c after collections
  shows_same collections shows step id index loaded mounted =
      let s = shows step id index loaded (mounted_same after before (sym same) c id index mounted) in
      (s.0, collection_same before after same index ∙ s.1, s.2)

  pub damage_same : (node number : ℕ) → KeepsDamage c before node number → KeepsDamage c after node number
  damage_same node number d =
      let shape = shape_same before after same d.index in
      record {
        step = d.step;
        id = d.id;
        index = d.index;
        loaded = d.loaded;
        node_is = d.node_is;
        mounted = mounted_same before after same c d.id d.index d.mounted;
        position = d.position;
        inside = subst (λ s. IsPosition s d.position) (sym shape) d.inside;
        number_is = ap (λ s. number_of s d.position) shape ∙ d.number_is;
        damaged = subst (λ (s : Source). Damaged s) (sym (source_same before after same d.index)) d.damaged;
        kept = (d.kept.0, d.kept.1, subst (λ s. HasLabelsOf (shape_of_node c node) s d.kept.0 d.position) (sym shape) d.kept.2);
      }
    where
      Damaged : Source → Type 0
      Damaged s = IfSome s.contents (λ contents. Contains contents.damaged number)

  pub says_same : (refusal : RunFail) → RefusalSays c before refusal → RefusalSays c after refusal
  says_same SourceFailed says = says
  says_same (SourceDamaged load number) says = damage_same load number says
  says_same SpoolFailed says = says
  says_same (Overflow number) says = says

pub rose_first : (c : CheckedGraph) (a b d : List Row) → LoadRose c a b → AreRead b d → LoadRose c a d
rose_first c a b d rose later = record {
  step = rose.step;
  id = rose.id;
  index = rose.index;
  loaded = rose.loaded;
  mounted = rose.mounted;
  rose = Rose-then rose.rose (later.counts rose.index);
}

pub rose_later : (c : CheckedGraph) (a b d : List Row) → AreRead a b → LoadRose c b d → LoadRose c a d
rose_later c a b d earlier rose = record {
  step = rose.step;
  id = rose.id;
  index = rose.index;
  loaded = rose.loaded;
  mounted = mounted_same b a (sym earlier.same) c rose.id rose.index rose.mounted;
  rose = then-Rose (earlier.counts rose.index) rose.rose;
}

pub others_later : (c : CheckedGraph) (a b d : List Row) → AreRead a b → KeepsOtherRows c a b → KeepsOtherRows c b d → KeepsOtherRows c a d
others_later c a b d read first second j other =
    second j (λ step id loaded mounted. other step id loaded (mounted_same b a (sym read.same) c id j mounted)) ∙ first j other

pub has_none : (c : CheckedGraph) (rows : List Row) → HasRead c 0 rows rows (Ok tt)
has_none c rows = record { read = AreRead-refl rows; others = λ index other. refl; asked = omega arith; cause = λ err. absurd cc; says = tt }

pub has_most : (c : CheckedGraph) (m n : ℕ) (a b : List Row) (result : Result (Unit {0}) RunFail) → m ≤ n → HasRead c m a b result → HasRead c n a b result
has_most c m n a b result le h =
    let asked = h.asked in
    record { read = h.read; others = h.others; asked = omega arith; cause = h.cause; says = h.says }

pub has_more : (c : CheckedGraph) (m n : ℕ) (a b d : List Row) (result : Result (Unit {0}) RunFail)
    → HasRead c m a b (Ok tt) → HasRead c n b d result → HasRead c (m + n) a d result
has_more c m n a b d result first second =
    let one = first.asked in
    let two = second.asked in
    record {
      read = AreRead-trans a b d first.read second.read;
      others = others_later c a b d first.read first.others second.others;
      asked = omega arith;
      cause = λ err. rose_later c a b d first.read (second.cause err);
      says = by result second.says;
    }
  where
    by : (r : Result (Unit {0}) RunFail) → IfErr r (λ refusal. IsOfSource refusal × RefusalSays c b refusal)
        → IfErr r (λ refusal. IsOfSource refusal × RefusalSays c a refusal)
    by (Ok u) says = says
    by (Err refusal) says = (says.0, says_same c b a (sym first.read.same) refusal says.1)

-- what `?` hands on is what was refused
pub has_refused : (c : CheckedGraph) (n : ℕ) (a b : List Row) (refusal : RunFail) (result : Result (Unit {0}) RunFail)
    → IsErrAnd result (λ e. e ≡ refusal) → HasRead c n a b (Err refusal) → HasRead c n a b result
has_refused c n a b refusal (Ok u) is h = absurd is
has_refused c n a b refusal (Err e) is h = subst (λ x. HasRead c n a b (Err x)) (sym is) h
