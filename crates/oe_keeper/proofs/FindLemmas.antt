-- What a search of an entry finds, from what was found on the way.
use Rattle.std.proofs.Common.{◌≡◌, ℕ, ℤ, true, false, is_some, true≢false, codes, decimal, List, [], ◌∷◌, ◌++◌, Option, Some, None, option_and_then, refl, ap, ◌∙◌, sym, subst}
use Rattle.std.specs.Prelude.{MatchOption}
use Rattle.serde_json.specs.Data.{Data, null, boolean, number, string, array, object, Items}
use Rattle.serde_json.specs.Find.{as_null, as_str, as_array, get}
use Rattle.serde_json.specs.View.{items_of}
use Rattle.oe_dims.specs.Instant.{IsInstant}
use Rattle.oe_graph.specs.Faults.{IsLeast}
use Rattle.oe_graph.specs.Form.{IsReading}
use Rattle.oe_graph.specs.Parameters.{StandsStored}
use Rattle.oe_graph.specs.Read.{ReadsStored}
use Rattle.oe_graph.specs.Tree.{PlainStored}
use Rattle.oe_graph.specs.declared.fault.Fault.{Fault}
use Rattle.oe_graph.proofs.ReadLemmas.{same_value}
use Rattle.oe_jobs.specs.Plain.{PlainJob, PlainRan}
use Rattle.oe_jobs.specs.Texts.{Finds, SpellsNumber, level_text}
use Rattle.oe_jobs.specs.declared.level.Level.{Level}
use Rattle.oe_keeper.specs.Entry.{text_data}
use Rattle.oe_keeper.specs.Reading.{Each, HasInstant, HasList, HasRan, HasTurn, IsEntry, IsLevel, IsRanEntry, IsRanOrNull, IsStoredEntry, ReadsJob, whole_in}

-- a search for things that are so is one for things that are so in another sense, where both hold of the same things
pub finds_same : {A : Type 0} (P Q : A → Type 0) (found : Option A) → ((a : A) → P a → Q a) → ((a : A) → Q a → P a)
    → Finds P found → Finds Q found
finds_same P Q None to from none = λ a q. none a (from a q)
finds_same P Q (Some a) to from is = to a is

-- ---- members

pub member_str : (found : Option Data) (text : List ℕ) → Some text ≡ option_and_then as_str found → found ≡ Some (string text)
member_str None text h = absurd cc
member_str (Some null) text h = absurd cc
member_str (Some (boolean b)) text h = absurd cc
member_str (Some (number n)) text h = absurd cc
member_str (Some (string s)) text h = cc
member_str (Some (array ds)) text h = absurd cc
member_str (Some (object ms)) text h = absurd cc

pub member_no_str : (found : Option Data) (text : List ℕ) → None ≡ option_and_then as_str found → found ≡ Some (string text) → ⊥
member_no_str found text none is =
    let some : option_and_then as_str found ≡ Some text = ap (option_and_then as_str) is in cc

pub member_array : (found : Option Data) (items : Items) → Some items ≡ option_and_then as_array found
    → found ≡ Some (array items)
member_array None items h = absurd cc
member_array (Some null) items h = absurd cc
member_array (Some (boolean b)) items h = absurd cc
member_array (Some (number n)) items h = absurd cc
member_array (Some (string s)) items h = absurd cc
member_array (Some (array ds)) items h = cc
member_array (Some (object ms)) items h = absurd cc

pub member_no_array : (found : Option Data) (items : Items) → None ≡ option_and_then as_array found
    → found ≡ Some (array items) → ⊥
member_no_array found items none is =
    let some : option_and_then as_array found ≡ Some items = ap (option_and_then as_array) is in cc

pub no_value : (found : Option Data) (d : Data) → None ≡ found → found ≡ Some d → ⊥
no_value found d none is = let both : None ≡ Some d = none ∙ is in absurd cc

-- what a member is, from what its value is
pub value_found : {A : Type 0} (shown : A → Data) (found : Option Data) (d : Data) (read : Option A) → Some d ≡ found
    → Finds (λ (a : A). d ≡ shown a) read → Finds (λ (a : A). found ≡ Some (shown a)) read
value_found {A} shown found d read is =
    finds_same (λ (a : A). d ≡ shown a) (λ (a : A). found ≡ Some (shown a)) read
    (λ a same. sym is ∙ ap (λ (x : Data). Some x) same)
    (λ a has. let both : Some d ≡ Some (shown a) = is ∙ has in cc)

-- what a member that is a text spells
pub word_found : {A : Type 0} (word : A → List ℕ) (found : Option Data) (text : List ℕ) (read : Option A)
    → Some text ≡ option_and_then as_str found
    → Finds (λ (a : A). text ≡ word a) read → Finds (λ (a : A). found ≡ Some (string (word a))) read
word_found {A} word found text read is =
    let has : found ≡ Some (string text) = member_str found text is in
    finds_same (λ (a : A). text ≡ word a) (λ (a : A). found ≡ Some (string (word a))) read
    (λ a same. has ∙ ap (λ (s : List ℕ). Some (string s)) same)
    (λ a other. let both : Some (string text) ≡ Some (string (word a)) = sym has ∙ other in cc)

pub string_is : (d : Data) (text : List ℕ) → Some text ≡ as_str d → d ≡ string text
string_is null text h = absurd cc
string_is (boolean b) text h = absurd cc
string_is (number n) text h = absurd cc
string_is (string s) text h = cc
string_is (array ds) text h = absurd cc
string_is (object ms) text h = absurd cc

pub null_is : (d : Data) → is_some (as_null d) ≡ true → d ≡ null
null_is null h = refl
null_is (boolean b) h = absurd (true≢false (sym h))
null_is (number n) h = absurd (true≢false (sym h))
null_is (string s) h = absurd (true≢false (sym h))
null_is (array ds) h = absurd (true≢false (sym h))
null_is (object ms) h = absurd (true≢false (sym h))

no_null : (d : Data) → is_some (as_null d) ≡ false → d ≡ null → ⊥
no_null d isnt is = let some : is_some (as_null d) ≡ true = ap (λ (x : Data). is_some (as_null x)) is in absurd (true≢false (sym some ∙ isnt))

-- neither a text nor null
pub no_words : (d : Data) (words : Option (List ℕ)) → None ≡ as_str d → is_some (as_null d) ≡ false → d ≡ text_data words → ⊥
no_words d None none isnt is = no_null d isnt is
no_words d (Some text) none isnt is = let some : as_str d ≡ Some text = ap as_str is in let both : None ≡ Some text = none ∙ some in absurd cc

-- a moment, by the whole number of a member
pub instant_found : (name : List ℕ) (d : Data) (seconds : ℤ) (read : Option ℤ) → whole_in name d ≡ Some seconds
    → MatchOption read (¬ IsInstant seconds) (λ (s : ℤ). (s ≡ seconds) × IsInstant s) → Finds (HasInstant name d) read
instant_found name d seconds None is none = λ s has.
    none (let both : Some s ≡ Some seconds = sym has.value ∙ is in let same : s ≡ seconds = cc in subst IsInstant same has.in_range)
instant_found name d seconds (Some s) is read =
    record { value = is ∙ ap (λ (z : ℤ). Some z) (sym read.0); in_range = read.1 }

pub no_instant : (name : List ℕ) (d : Data) (s : ℤ) → None ≡ whole_in name d → HasInstant name d s → ⊥
no_instant name d s none has = let both : None ≡ Some s = none ∙ has.value in absurd cc

-- ---- levels

-- the level of a member that there is
pub level_found : (found : Option Data) (d : Data) (read : Option Level) → Some d ≡ found
    → Finds (λ (level : Level). found ≡ Some (string (level_text level))) read → Finds (IsLevel found) read
level_found None d read is = absurd cc
level_found (Some e) d read is =
    finds_same (λ (level : Level). Some e ≡ Some (string (level_text level))) (IsLevel (Some e)) read
    (λ level same. cc) (λ level same. ap (λ (x : Data). Some x) same)

-- ---- parts of a job

-- what a job runs, by the value of its member
pub ran_found : (d value : Data) (found : Option (Option PlainRan)) → Some value ≡ get (codes "ran") d
    → Finds (IsRanOrNull value) found → Finds (HasRan d) found
ran_found d value found is =
    finds_same (IsRanOrNull value) (HasRan d) found
    (λ ran r. record { value = value; is_member = sym is; is_ran = r })
    (λ ran has.
    let both : Some has.value ≡ Some value = sym has.is_member ∙ sym is in
    let same : has.value ≡ value = cc in subst (λ (v : Data). IsRanOrNull v ran) same has.is_ran)

pub no_ran : (d : Data) (ran : Option PlainRan) → is_some (as_null d) ≡ false → ((r : PlainRan) → ¬ IsRanEntry d r) → IsRanOrNull d ran → ⊥
no_ran d None isnt none is = no_null d isnt is
no_ran d (Some r) isnt none is = none r is

-- a stored process, by its id and its text
pub stored_found : (d : Data) (id text : List ℕ) (found : Option PlainStored) → get (codes "id") d ≡ Some (string id)
    → get (codes "text") d ≡ Some (string text) → Finds (ReadsStored id text) found → Finds (IsStoredEntry d) found
stored_found d id text found is_id is_text =
    finds_same (ReadsStored id text) (IsStoredEntry d) found
    (λ p r. record {
      id = is_id ∙ ap (λ (s : List ℕ). Some (string s)) (sym r.named);
      text = is_text ∙ ap (λ (s : List ℕ). Some (string s)) (sym r.text);
      reads = subst (λ (i : List ℕ). ReadsStored i p.text p) (sym r.named) (subst (λ (t : List ℕ). ReadsStored id t p) (sym r.text) r);
    })
    (λ p is.
    let ids : Some (string p.id) ≡ Some (string id) = sym is.id ∙ is_id in
    let texts : Some (string p.text) ≡ Some (string text) = sym is.text ∙ is_text in
    let same_id : p.id ≡ id = cc in
    let same_text : p.text ≡ text = cc in
    subst (λ (i : List ℕ). ReadsStored i text p) same_id (subst (λ (t : List ℕ). ReadsStored p.id t p) same_text is.reads))

-- a text with a fault is no process
pub stored_refused : (id text bytes : List ℕ) (fault : Fault) (p : PlainStored) → bytes ≡ text → IsLeast (StandsStored bytes) fault
    → ReadsStored id text p → ⊥
stored_refused id text bytes fault p same least r =
    r.valid fault.code fault.node (subst (λ (t : List ℕ). StandsStored t fault.code fault.node) same least.stands)

-- the job of a text, by its value
pub job_found : (id bytes : List ℕ) (d : Data) (found : Option PlainJob) → IsReading bytes d
    → Finds (IsEntry id d) found → Finds (ReadsJob id bytes) found
job_found id bytes d found is =
    finds_same (IsEntry id d) (ReadsJob id bytes) found
    (λ job entry. record { value = d; is_read = is; entry = entry })
    (λ job r. subst (λ (v : Data). IsEntry id v job) (same_value bytes r.value d r.is_read is) r.entry)

-- the list of a member, where it is one

pub list_found : {A : Type 0} (Is : Data → A → Type 0) (name : List ℕ) (d : Data) (items : Items) (found : Option (List A))
    → get name d ≡ Some (array items) → Finds (Each Is items) found → Finds (HasList Is name d) found
list_found Is name d items found is =
    finds_same (Each Is items) (HasList Is name d) found
    (λ list each. record { entries = items; is_list = is; each = each })
    (λ list has. let same : has.entries ≡ items = (let e : Some (array has.entries) ≡ Some (array items) = sym has.is_list ∙ is in cc) in
    subst (λ (ds : Items). Each Is ds list) same has.each)

-- ---- lists

pub each_more : {A : Type 0} (Is : Data → A → Type 0) (ds : List Data) (list : List A) (d : Data) (a : A)
    → Each Is (items_of ds) list → Is d a → Each Is (items_of (ds ++ d ∷ [])) (list ++ a ∷ [])
each_more Is [] [] d a each is = (is, tt)
each_more Is (e ∷ ds) (b ∷ list) d a each is = (each.0, each_more Is ds list d a each.1 is)
each_more Is [] (b ∷ list) d a each is = absurd each
each_more Is (e ∷ ds) [] d a each is = absurd each

-- where one item is nothing that is so, the items are no list
pub each_none : {A : Type 0} (Is : Data → A → Type 0) (before : List Data) (d : Data) (behind : List Data) (list : List A)
    → ((a : A) → ¬ Is d a) → Each Is (items_of (before ++ d ∷ behind)) list → ⊥
each_none Is [] d behind [] none each = each
each_none Is [] d behind (a ∷ list) none each = none a each.0
each_none Is (e ∷ before) d behind [] none each = each
each_none Is (e ∷ before) d behind (a ∷ list) none each = each_none Is before d behind list none each.1

-- the turn that a text spells
pub turn_found : (d : Data) (text : List ℕ) (read : Option ℕ) → get (codes "turn") d ≡ Some (string text)
    → Finds (SpellsNumber text) read → Finds (HasTurn d) read
turn_found d text None is none = λ turn has.
    none turn (record {
      spelled = (let e : Some (string text) ≡ Some (string (decimal turn)) = sym is ∙ has.value in cc);
      in_range = has.in_range;
    })
turn_found d text (Some turn) is read =
    record { value = is ∙ ap (λ (s : List ℕ). Some (string s)) read.spelled; in_range = read.in_range }
