-- Words spell one command alone.
use Rattle.std.proofs.Common.{◌≡◌, ℕ, List, [], ◌∷◌, get_or, refl, sym, ap, ◌∙◌, codes, arith}
use Rattle.oe_plan.proofs.NumberWords.{one_number}
use Rattle.oe_top.specs.Words.{Spells, SpellsDemo, SpellsNumbers, SpellsPart, SpellsSides}
use Rattle.oe_top.specs.declared.words.Command.{Command}
use Rattle.oe_top.specs.declared.words.Command.TheVariants.{Run, Part, Join, Plan, Slab, SlabPlan, Demo, Check, Explain, Pack, Repack, DescribeAll, Describe}
use Rattle.oe_window.specs.declared.grid.ChunkSize.{ChunkSize}

-- ---- the verb of a command

abbrev verb_of : Command → List ℕ
verb_of (Run size workers) = codes "run"
verb_of (Part size workers first end) = codes "part"
verb_of Join = codes "join"
verb_of (Plan size workers) = codes "plan"
verb_of (Slab size) = codes "slab"
verb_of (SlabPlan size) = codes "slabplan"
verb_of (Demo seed side size workers) = codes "demo"
verb_of Check = codes "check"
verb_of Explain = codes "explain"
verb_of Pack = codes "pack"
verb_of Repack = codes "repack"
verb_of DescribeAll = codes "describe"
verb_of Describe = codes "describe"

-- it is the first word
begins : (words : List (List ℕ)) (command : Command) → Spells words command → get_or words 0 [] ≡ verb_of command
begins words (Run size workers) spells = ap (λ w. get_or w 0 []) spells.words_are
begins words (Part size workers first end) spells = ap (λ w. get_or w 0 []) spells.words_are
begins words Join is = ap (λ w. get_or w 0 []) is
begins words (Plan size workers) spells = ap (λ w. get_or w 0 []) spells.words_are
begins words (Slab size) spells = ap (λ w. get_or w 0 []) spells.words_are
begins words (SlabPlan size) spells = ap (λ w. get_or w 0 []) spells.words_are
begins words (Demo seed side size workers) spells = ap (λ w. get_or w 0 []) spells.words_are
begins words Check is = ap (λ w. get_or w 0 []) is
begins words Explain is = ap (λ w. get_or w 0 []) is
begins words Pack spells = ap (λ w. get_or w 0 []) spells.words_are
begins words Repack spells = ap (λ w. get_or w 0 []) spells.words_are
begins words DescribeAll is = ap (λ w. get_or w 0 []) is
begins words Describe spells = ap (λ w. get_or w 0 []) spells.words_are

-- so words that spell two commands have one verb
one_verb : (words : List (List ℕ)) (a b : Command) → Spells words a → Spells words b → verb_of a ≡ verb_of b
one_verb words a b first second = sym (begins words a first) ∙ begins words b second

-- ---- the numbers of a command

-- the words of two spellings of one number are the same
pub same_word : (first second : List (List ℕ)) (n : ℕ) → first ≡ second → get_or first n [] ≡ get_or second n []
same_word first second n same = ap (λ words. get_or words n []) same

-- words that spell the sides of two chunks and two numbers of workers spell the same ones
one_run : (verb : List ℕ) (words : List (List ℕ)) (size other : ChunkSize) (workers number : ℕ)
    → SpellsNumbers verb words size workers → SpellsNumbers verb words other number
    → ◌≡◌ {A = ChunkSize × ℕ} (size, workers) (other, number)
one_run verb words size other workers number one two =
    let same : verb ∷ one.cx ∷ one.cy ∷ one.ct ∷ one.w ∷ [] ≡ verb ∷ two.cx ∷ two.cy ∷ two.ct ∷ two.w ∷ [] =
    sym one.words_are ∙ two.words_are in
    let x : size.x ≡ other.x = one_number one.cx two.cx (omega arith) (same_word _ _ 1 same) one.numbers.0.x two.numbers.0.x in
    let y : size.y ≡ other.y = one_number one.cy two.cy (omega arith) (same_word _ _ 2 same) one.numbers.0.y two.numbers.0.y in
    let t : size.t ≡ other.t = one_number one.ct two.ct (omega arith) (same_word _ _ 3 same) one.numbers.0.t two.numbers.0.t in
    let n : workers ≡ number = one_number one.w two.w (omega arith) (same_word _ _ 4 same) one.numbers.1 two.numbers.1 in
    rw (x, y, t, n) refl

-- and so without workers
one_size : (verb : List ℕ) (words : List (List ℕ)) (size other : ChunkSize) → SpellsSides verb words size
    → SpellsSides verb words other → size ≡ other
one_size verb words size other one two =
    let same : verb ∷ one.cx ∷ one.cy ∷ one.ct ∷ [] ≡ verb ∷ two.cx ∷ two.cy ∷ two.ct ∷ [] =
    sym one.words_are ∙ two.words_are in
    let x : size.x ≡ other.x = one_number one.cx two.cx (omega arith) (same_word _ _ 1 same) one.sides.x two.sides.x in
    let y : size.y ≡ other.y = one_number one.cy two.cy (omega arith) (same_word _ _ 2 same) one.sides.y two.sides.y in
    let t : size.t ≡ other.t = one_number one.ct two.ct (omega arith) (same_word _ _ 3 same) one.sides.t two.sides.t in
    rw (x, y, t) refl

-- and so of a demonstration
one_demo : (words : List (List ℕ)) (seed seed2 side side2 : ℕ) (size other : ChunkSize) (workers number : ℕ)
    → SpellsDemo words seed side size workers → SpellsDemo words seed2 side2 other number
    → Demo seed side size workers ≡ Demo seed2 side2 other number
one_demo words seed seed2 side side2 size other workers number one two =
    let same : codes "demo" ∷ one.seed_word ∷ one.side_word ∷ one.cx ∷ one.cy ∷ one.ct ∷ one.w ∷ []
    ≡ codes "demo" ∷ two.seed_word ∷ two.side_word ∷ two.cx ∷ two.cy ∷ two.ct ∷ two.w ∷ [] =
    sym one.words_are ∙ two.words_are in
    let s : seed ≡ seed2 = one_number one.seed_word two.seed_word (omega arith) (same_word _ _ 1 same) one.seed_is two.seed_is in
    let d : side ≡ side2 = one_number one.side_word two.side_word (omega arith) (same_word _ _ 2 same) one.side_is two.side_is in
    let x : size.x ≡ other.x = one_number one.cx two.cx (omega arith) (same_word _ _ 3 same) one.numbers.0.x two.numbers.0.x in
    let y : size.y ≡ other.y = one_number one.cy two.cy (omega arith) (same_word _ _ 4 same) one.numbers.0.y two.numbers.0.y in
    let t : size.t ≡ other.t = one_number one.ct two.ct (omega arith) (same_word _ _ 5 same) one.numbers.0.t two.numbers.0.t in
    let n : workers ≡ number = one_number one.w two.w (omega arith) (same_word _ _ 6 same) one.numbers.1 two.numbers.1 in
    rw (s, d, x, y, t, n) refl

-- and so of a part
one_part : (words : List (List ℕ)) (size other : ChunkSize) (workers number first first2 end end2 : ℕ)
    → SpellsPart words size workers first end → SpellsPart words other number first2 end2
    → Part size workers first end ≡ Part other number first2 end2
one_part words size other workers number first first2 end end2 one two =
    let same : codes "part" ∷ one.cx ∷ one.cy ∷ one.ct ∷ one.w ∷ one.first_word ∷ one.end_word ∷ []
    ≡ codes "part" ∷ two.cx ∷ two.cy ∷ two.ct ∷ two.w ∷ two.first_word ∷ two.end_word ∷ [] =
    sym one.words_are ∙ two.words_are in
    let x : size.x ≡ other.x = one_number one.cx two.cx (omega arith) (same_word _ _ 1 same) one.numbers.0.x two.numbers.0.x in
    let y : size.y ≡ other.y = one_number one.cy two.cy (omega arith) (same_word _ _ 2 same) one.numbers.0.y two.numbers.0.y in
    let t : size.t ≡ other.t = one_number one.ct two.ct (omega arith) (same_word _ _ 3 same) one.numbers.0.t two.numbers.0.t in
    let n : workers ≡ number = one_number one.w two.w (omega arith) (same_word _ _ 4 same) one.numbers.1 two.numbers.1 in
    let f : first ≡ first2 = one_number one.first_word two.first_word (omega arith) (same_word _ _ 5 same) one.first_is two.first_is in
    let e : end ≡ end2 = one_number one.end_word two.end_word (omega arith) (same_word _ _ 6 same) one.end_is two.end_is in
    rw (x, y, t, n, f, e) refl

-- ---- the command

-- the verbs of the two commands of seven words begin with different letters
part_or_demo : codes "part" ≡ codes "demo" → ⊥
part_or_demo same = let first : ◌≡◌ {A = ℕ} 112 100 = ap (λ (word : List ℕ). get_or word 0 0) same in omega (arith, first)

-- one word is not two
apart : (words : List (List ℕ)) → Spells words DescribeAll → Spells words Describe → ⊥
apart words alone spells = let same : codes "describe" ∷ [] ≡ codes "describe" ∷ spells.id ∷ [] = sym alone ∙ spells.words_are in cc

pub one_command : (words : List (List ℕ)) (a b : Command) → Spells words a → Spells words b → a ≡ b
one_command words (Run s n) (Run t m) one two = ap (λ (p : ChunkSize × ℕ). Run p.0 p.1) (one_run (codes "run") words s t n m one two)
one_command words (Run s n) (Part t m k l) one two = let same : verb_of (Run s n) ≡ verb_of (Part t m k l) = one_verb words (Run s n) (Part t m k l) one two in cc
one_command words (Run s n) Join one two = let same : verb_of (Run s n) ≡ verb_of Join = one_verb words (Run s n) Join one two in cc
one_command words (Run s n) (Plan t m) one two = let same : verb_of (Run s n) ≡ verb_of (Plan t m) = one_verb words (Run s n) (Plan t m) one two in cc
one_command words (Run s n) (Slab t) one two = let same : verb_of (Run s n) ≡ verb_of (Slab t) = one_verb words (Run s n) (Slab t) one two in cc
one_command words (Run s n) (SlabPlan t) one two = let same : verb_of (Run s n) ≡ verb_of (SlabPlan t) = one_verb words (Run s n) (SlabPlan t) one two in cc
one_command words (Run s n) (Demo l e t m) one two = let same : verb_of (Run s n) ≡ verb_of (Demo l e t m) = one_verb words (Run s n) (Demo l e t m) one two in cc
one_command words (Run s n) Check one two = let same : verb_of (Run s n) ≡ verb_of Check = one_verb words (Run s n) Check one two in cc
one_command words (Run s n) Explain one two = let same : verb_of (Run s n) ≡ verb_of Explain = one_verb words (Run s n) Explain one two in cc
one_command words (Run s n) Pack one two = let same : verb_of (Run s n) ≡ verb_of Pack = one_verb words (Run s n) Pack one two in cc
one_command words (Run s n) Repack one two = let same : verb_of (Run s n) ≡ verb_of Repack = one_verb words (Run s n) Repack one two in cc
one_command words (Run s n) DescribeAll one two = let same : verb_of (Run s n) ≡ verb_of DescribeAll = one_verb words (Run s n) DescribeAll one two in cc
one_command words (Run s n) Describe one two = let same : verb_of (Run s n) ≡ verb_of Describe = one_verb words (Run s n) Describe one two in cc
one_command words (Part s n i j) (Run t m) one two = let same : verb_of (Part s n i j) ≡ verb_of (Run t m) = one_verb words (Part s n i j) (Run t m) one two in cc
one_command words (Part s n i j) (Part t m k l) one two = one_part words s t n m i k j l one two
one_command words (Part s n i j) Join one two = let same : verb_of (Part s n i j) ≡ verb_of Join = one_verb words (Part s n i j) Join one two in cc
one_command words (Part s n i j) (Plan t m) one two = let same : verb_of (Part s n i j) ≡ verb_of (Plan t m) = one_verb words (Part s n i j) (Plan t m) one two in cc
one_command words (Part s n i j) (Slab t) one two = let same : verb_of (Part s n i j) ≡ verb_of (Slab t) = one_verb words (Part s n i j) (Slab t) one two in cc
one_command words (Part s n i j) (SlabPlan t) one two = let same : verb_of (Part s n i j) ≡ verb_of (SlabPlan t) = one_verb words (Part s n i j) (SlabPlan t) one two in cc
one_command words (Part s n i j) (Demo l e t m) one two = absurd (part_or_demo (one_verb words (Part s n i j) (Demo l e t m) one two))
one_command words (Part s n i j) Check one two = let same : verb_of (Part s n i j) ≡ verb_of Check = one_verb words (Part s n i j) Check one two in cc
one_command words (Part s n i j) Explain one two = let same : verb_of (Part s n i j) ≡ verb_of Explain = one_verb words (Part s n i j) Explain one two in cc
one_command words (Part s n i j) Pack one two = let same : verb_of (Part s n i j) ≡ verb_of Pack = one_verb words (Part s n i j) Pack one two in cc
one_command words (Part s n i j) Repack one two = let same : verb_of (Part s n i j) ≡ verb_of Repack = one_verb words (Part s n i j) Repack one two in cc
one_command words (Part s n i j) DescribeAll one two = let same : verb_of (Part s n i j) ≡ verb_of DescribeAll = one_verb words (Part s n i j) DescribeAll one two in cc
one_command words (Part s n i j) Describe one two = let same : verb_of (Part s n i j) ≡ verb_of Describe = one_verb words (Part s n i j) Describe one two in cc
one_command words Join (Run t m) one two = let same : verb_of Join ≡ verb_of (Run t m) = one_verb words Join (Run t m) one two in cc
one_command words Join (Part t m k l) one two = let same : verb_of Join ≡ verb_of (Part t m k l) = one_verb words Join (Part t m k l) one two in cc
one_command words Join Join one two = refl
one_command words Join (Plan t m) one two = let same : verb_of Join ≡ verb_of (Plan t m) = one_verb words Join (Plan t m) one two in cc
one_command words Join (Slab t) one two = let same : verb_of Join ≡ verb_of (Slab t) = one_verb words Join (Slab t) one two in cc
one_command words Join (SlabPlan t) one two = let same : verb_of Join ≡ verb_of (SlabPlan t) = one_verb words Join (SlabPlan t) one two in cc
one_command words Join (Demo l e t m) one two = let same : verb_of Join ≡ verb_of (Demo l e t m) = one_verb words Join (Demo l e t m) one two in cc
one_command words Join Check one two = let same : verb_of Join ≡ verb_of Check = one_verb words Join Check one two in cc
one_command words Join Explain one two = let same : verb_of Join ≡ verb_of Explain = one_verb words Join Explain one two in cc
one_command words Join Pack one two = let same : verb_of Join ≡ verb_of Pack = one_verb words Join Pack one two in cc
one_command words Join Repack one two = let same : verb_of Join ≡ verb_of Repack = one_verb words Join Repack one two in cc
one_command words Join DescribeAll one two = let same : verb_of Join ≡ verb_of DescribeAll = one_verb words Join DescribeAll one two in cc
one_command words Join Describe one two = let same : verb_of Join ≡ verb_of Describe = one_verb words Join Describe one two in cc
one_command words (Plan s n) (Run t m) one two = let same : verb_of (Plan s n) ≡ verb_of (Run t m) = one_verb words (Plan s n) (Run t m) one two in cc
one_command words (Plan s n) (Part t m k l) one two = let same : verb_of (Plan s n) ≡ verb_of (Part t m k l) = one_verb words (Plan s n) (Part t m k l) one two in cc
one_command words (Plan s n) Join one two = let same : verb_of (Plan s n) ≡ verb_of Join = one_verb words (Plan s n) Join one two in cc
one_command words (Plan s n) (Plan t m) one two = ap (λ (p : ChunkSize × ℕ). Plan p.0 p.1) (one_run (codes "plan") words s t n m one two)
one_command words (Plan s n) (Slab t) one two = let same : verb_of (Plan s n) ≡ verb_of (Slab t) = one_verb words (Plan s n) (Slab t) one two in cc
one_command words (Plan s n) (SlabPlan t) one two = let same : verb_of (Plan s n) ≡ verb_of (SlabPlan t) = one_verb words (Plan s n) (SlabPlan t) one two in cc
one_command words (Plan s n) (Demo l e t m) one two = let same : verb_of (Plan s n) ≡ verb_of (Demo l e t m) = one_verb words (Plan s n) (Demo l e t m) one two in cc
one_command words (Plan s n) Check one two = let same : verb_of (Plan s n) ≡ verb_of Check = one_verb words (Plan s n) Check one two in cc
one_command words (Plan s n) Explain one two = let same : verb_of (Plan s n) ≡ verb_of Explain = one_verb words (Plan s n) Explain one two in cc
one_command words (Plan s n) Pack one two = let same : verb_of (Plan s n) ≡ verb_of Pack = one_verb words (Plan s n) Pack one two in cc
one_command words (Plan s n) Repack one two = let same : verb_of (Plan s n) ≡ verb_of Repack = one_verb words (Plan s n) Repack one two in cc
one_command words (Plan s n) DescribeAll one two = let same : verb_of (Plan s n) ≡ verb_of DescribeAll = one_verb words (Plan s n) DescribeAll one two in cc
one_command words (Plan s n) Describe one two = let same : verb_of (Plan s n) ≡ verb_of Describe = one_verb words (Plan s n) Describe one two in cc
one_command words (Slab s) (Run t m) one two = let same : verb_of (Slab s) ≡ verb_of (Run t m) = one_verb words (Slab s) (Run t m) one two in cc
one_command words (Slab s) (Part t m k l) one two = let same : verb_of (Slab s) ≡ verb_of (Part t m k l) = one_verb words (Slab s) (Part t m k l) one two in cc
one_command words (Slab s) Join one two = let same : verb_of (Slab s) ≡ verb_of Join = one_verb words (Slab s) Join one two in cc
one_command words (Slab s) (Plan t m) one two = let same : verb_of (Slab s) ≡ verb_of (Plan t m) = one_verb words (Slab s) (Plan t m) one two in cc
one_command words (Slab s) (Slab t) one two = ap Slab (one_size (codes "slab") words s t one two)
one_command words (Slab s) (SlabPlan t) one two = let same : verb_of (Slab s) ≡ verb_of (SlabPlan t) = one_verb words (Slab s) (SlabPlan t) one two in cc
one_command words (Slab s) (Demo l e t m) one two = let same : verb_of (Slab s) ≡ verb_of (Demo l e t m) = one_verb words (Slab s) (Demo l e t m) one two in cc
one_command words (Slab s) Check one two = let same : verb_of (Slab s) ≡ verb_of Check = one_verb words (Slab s) Check one two in cc
one_command words (Slab s) Explain one two = let same : verb_of (Slab s) ≡ verb_of Explain = one_verb words (Slab s) Explain one two in cc
one_command words (Slab s) Pack one two = let same : verb_of (Slab s) ≡ verb_of Pack = one_verb words (Slab s) Pack one two in cc
one_command words (Slab s) Repack one two = let same : verb_of (Slab s) ≡ verb_of Repack = one_verb words (Slab s) Repack one two in cc
one_command words (Slab s) DescribeAll one two = let same : verb_of (Slab s) ≡ verb_of DescribeAll = one_verb words (Slab s) DescribeAll one two in cc
one_command words (Slab s) Describe one two = let same : verb_of (Slab s) ≡ verb_of Describe = one_verb words (Slab s) Describe one two in cc
one_command words (SlabPlan s) (Run t m) one two = let same : verb_of (SlabPlan s) ≡ verb_of (Run t m) = one_verb words (SlabPlan s) (Run t m) one two in cc
one_command words (SlabPlan s) (Part t m k l) one two = let same : verb_of (SlabPlan s) ≡ verb_of (Part t m k l) = one_verb words (SlabPlan s) (Part t m k l) one two in cc
one_command words (SlabPlan s) Join one two = let same : verb_of (SlabPlan s) ≡ verb_of Join = one_verb words (SlabPlan s) Join one two in cc
one_command words (SlabPlan s) (Plan t m) one two = let same : verb_of (SlabPlan s) ≡ verb_of (Plan t m) = one_verb words (SlabPlan s) (Plan t m) one two in cc
one_command words (SlabPlan s) (Slab t) one two = let same : verb_of (SlabPlan s) ≡ verb_of (Slab t) = one_verb words (SlabPlan s) (Slab t) one two in cc
one_command words (SlabPlan s) (SlabPlan t) one two = ap SlabPlan (one_size (codes "slabplan") words s t one two)
one_command words (SlabPlan s) (Demo l e t m) one two = let same : verb_of (SlabPlan s) ≡ verb_of (Demo l e t m) = one_verb words (SlabPlan s) (Demo l e t m) one two in cc
one_command words (SlabPlan s) Check one two = let same : verb_of (SlabPlan s) ≡ verb_of Check = one_verb words (SlabPlan s) Check one two in cc
one_command words (SlabPlan s) Explain one two = let same : verb_of (SlabPlan s) ≡ verb_of Explain = one_verb words (SlabPlan s) Explain one two in cc
one_command words (SlabPlan s) Pack one two = let same : verb_of (SlabPlan s) ≡ verb_of Pack = one_verb words (SlabPlan s) Pack one two in cc
one_command words (SlabPlan s) Repack one two = let same : verb_of (SlabPlan s) ≡ verb_of Repack = one_verb words (SlabPlan s) Repack one two in cc
one_command words (SlabPlan s) DescribeAll one two = let same : verb_of (SlabPlan s) ≡ verb_of DescribeAll = one_verb words (SlabPlan s) DescribeAll one two in cc
one_command words (SlabPlan s) Describe one two = let same : verb_of (SlabPlan s) ≡ verb_of Describe = one_verb words (SlabPlan s) Describe one two in cc
one_command words (Demo k d s n) (Run t m) one two = let same : verb_of (Demo k d s n) ≡ verb_of (Run t m) = one_verb words (Demo k d s n) (Run t m) one two in cc
one_command words (Demo k d s n) (Part t m i j) one two = absurd (part_or_demo (sym (one_verb words (Demo k d s n) (Part t m i j) one two)))
one_command words (Demo k d s n) Join one two = let same : verb_of (Demo k d s n) ≡ verb_of Join = one_verb words (Demo k d s n) Join one two in cc
one_command words (Demo k d s n) (Plan t m) one two = let same : verb_of (Demo k d s n) ≡ verb_of (Plan t m) = one_verb words (Demo k d s n) (Plan t m) one two in cc
one_command words (Demo k d s n) (Slab t) one two = let same : verb_of (Demo k d s n) ≡ verb_of (Slab t) = one_verb words (Demo k d s n) (Slab t) one two in cc
one_command words (Demo k d s n) (SlabPlan t) one two = let same : verb_of (Demo k d s n) ≡ verb_of (SlabPlan t) = one_verb words (Demo k d s n) (SlabPlan t) one two in cc
one_command words (Demo k d s n) (Demo l e t m) one two = one_demo words k l d e s t n m one two
one_command words (Demo k d s n) Check one two = let same : verb_of (Demo k d s n) ≡ verb_of Check = one_verb words (Demo k d s n) Check one two in cc
one_command words (Demo k d s n) Explain one two = let same : verb_of (Demo k d s n) ≡ verb_of Explain = one_verb words (Demo k d s n) Explain one two in cc
one_command words (Demo k d s n) Pack one two = let same : verb_of (Demo k d s n) ≡ verb_of Pack = one_verb words (Demo k d s n) Pack one two in cc
one_command words (Demo k d s n) Repack one two = let same : verb_of (Demo k d s n) ≡ verb_of Repack = one_verb words (Demo k d s n) Repack one two in cc
one_command words (Demo k d s n) DescribeAll one two = let same : verb_of (Demo k d s n) ≡ verb_of DescribeAll = one_verb words (Demo k d s n) DescribeAll one two in cc
one_command words (Demo k d s n) Describe one two = let same : verb_of (Demo k d s n) ≡ verb_of Describe = one_verb words (Demo k d s n) Describe one two in cc
one_command words Check (Run t m) one two = let same : verb_of Check ≡ verb_of (Run t m) = one_verb words Check (Run t m) one two in cc
one_command words Check (Part t m k l) one two = let same : verb_of Check ≡ verb_of (Part t m k l) = one_verb words Check (Part t m k l) one two in cc
one_command words Check Join one two = let same : verb_of Check ≡ verb_of Join = one_verb words Check Join one two in cc
one_command words Check (Plan t m) one two = let same : verb_of Check ≡ verb_of (Plan t m) = one_verb words Check (Plan t m) one two in cc
one_command words Check (Slab t) one two = let same : verb_of Check ≡ verb_of (Slab t) = one_verb words Check (Slab t) one two in cc
one_command words Check (SlabPlan t) one two = let same : verb_of Check ≡ verb_of (SlabPlan t) = one_verb words Check (SlabPlan t) one two in cc
one_command words Check (Demo l e t m) one two = let same : verb_of Check ≡ verb_of (Demo l e t m) = one_verb words Check (Demo l e t m) one two in cc
one_command words Check Check one two = refl
one_command words Check Explain one two = let same : verb_of Check ≡ verb_of Explain = one_verb words Check Explain one two in cc
one_command words Check Pack one two = let same : verb_of Check ≡ verb_of Pack = one_verb words Check Pack one two in cc
one_command words Check Repack one two = let same : verb_of Check ≡ verb_of Repack = one_verb words Check Repack one two in cc
one_command words Check DescribeAll one two = let same : verb_of Check ≡ verb_of DescribeAll = one_verb words Check DescribeAll one two in cc
one_command words Check Describe one two = let same : verb_of Check ≡ verb_of Describe = one_verb words Check Describe one two in cc
one_command words Explain (Run t m) one two = let same : verb_of Explain ≡ verb_of (Run t m) = one_verb words Explain (Run t m) one two in cc
one_command words Explain (Part t m k l) one two = let same : verb_of Explain ≡ verb_of (Part t m k l) = one_verb words Explain (Part t m k l) one two in cc
one_command words Explain Join one two = let same : verb_of Explain ≡ verb_of Join = one_verb words Explain Join one two in cc
one_command words Explain (Plan t m) one two = let same : verb_of Explain ≡ verb_of (Plan t m) = one_verb words Explain (Plan t m) one two in cc
one_command words Explain (Slab t) one two = let same : verb_of Explain ≡ verb_of (Slab t) = one_verb words Explain (Slab t) one two in cc
one_command words Explain (SlabPlan t) one two = let same : verb_of Explain ≡ verb_of (SlabPlan t) = one_verb words Explain (SlabPlan t) one two in cc
one_command words Explain (Demo l e t m) one two = let same : verb_of Explain ≡ verb_of (Demo l e t m) = one_verb words Explain (Demo l e t m) one two in cc
one_command words Explain Check one two = let same : verb_of Explain ≡ verb_of Check = one_verb words Explain Check one two in cc
one_command words Explain Explain one two = refl
one_command words Explain Pack one two = let same : verb_of Explain ≡ verb_of Pack = one_verb words Explain Pack one two in cc
one_command words Explain Repack one two = let same : verb_of Explain ≡ verb_of Repack = one_verb words Explain Repack one two in cc
one_command words Explain DescribeAll one two = let same : verb_of Explain ≡ verb_of DescribeAll = one_verb words Explain DescribeAll one two in cc
one_command words Explain Describe one two = let same : verb_of Explain ≡ verb_of Describe = one_verb words Explain Describe one two in cc
one_command words Pack (Run t m) one two = let same : verb_of Pack ≡ verb_of (Run t m) = one_verb words Pack (Run t m) one two in cc
one_command words Pack (Part t m k l) one two = let same : verb_of Pack ≡ verb_of (Part t m k l) = one_verb words Pack (Part t m k l) one two in cc
one_command words Pack Join one two = let same : verb_of Pack ≡ verb_of Join = one_verb words Pack Join one two in cc
one_command words Pack (Plan t m) one two = let same : verb_of Pack ≡ verb_of (Plan t m) = one_verb words Pack (Plan t m) one two in cc
one_command words Pack (Slab t) one two = let same : verb_of Pack ≡ verb_of (Slab t) = one_verb words Pack (Slab t) one two in cc
one_command words Pack (SlabPlan t) one two = let same : verb_of Pack ≡ verb_of (SlabPlan t) = one_verb words Pack (SlabPlan t) one two in cc
one_command words Pack (Demo l e t m) one two = let same : verb_of Pack ≡ verb_of (Demo l e t m) = one_verb words Pack (Demo l e t m) one two in cc
one_command words Pack Check one two = let same : verb_of Pack ≡ verb_of Check = one_verb words Pack Check one two in cc
one_command words Pack Explain one two = let same : verb_of Pack ≡ verb_of Explain = one_verb words Pack Explain one two in cc
one_command words Pack Pack one two = refl
one_command words Pack Repack one two = let same : verb_of Pack ≡ verb_of Repack = one_verb words Pack Repack one two in cc
one_command words Pack DescribeAll one two = let same : verb_of Pack ≡ verb_of DescribeAll = one_verb words Pack DescribeAll one two in cc
one_command words Pack Describe one two = let same : verb_of Pack ≡ verb_of Describe = one_verb words Pack Describe one two in cc
one_command words Repack (Run t m) one two = let same : verb_of Repack ≡ verb_of (Run t m) = one_verb words Repack (Run t m) one two in cc
one_command words Repack (Part t m k l) one two = let same : verb_of Repack ≡ verb_of (Part t m k l) = one_verb words Repack (Part t m k l) one two in cc
one_command words Repack Join one two = let same : verb_of Repack ≡ verb_of Join = one_verb words Repack Join one two in cc
one_command words Repack (Plan t m) one two = let same : verb_of Repack ≡ verb_of (Plan t m) = one_verb words Repack (Plan t m) one two in cc
one_command words Repack (Slab t) one two = let same : verb_of Repack ≡ verb_of (Slab t) = one_verb words Repack (Slab t) one two in cc
one_command words Repack (SlabPlan t) one two = let same : verb_of Repack ≡ verb_of (SlabPlan t) = one_verb words Repack (SlabPlan t) one two in cc
one_command words Repack (Demo l e t m) one two = let same : verb_of Repack ≡ verb_of (Demo l e t m) = one_verb words Repack (Demo l e t m) one two in cc
one_command words Repack Check one two = let same : verb_of Repack ≡ verb_of Check = one_verb words Repack Check one two in cc
one_command words Repack Explain one two = let same : verb_of Repack ≡ verb_of Explain = one_verb words Repack Explain one two in cc
one_command words Repack Pack one two = let same : verb_of Repack ≡ verb_of Pack = one_verb words Repack Pack one two in cc
one_command words Repack Repack one two = refl
one_command words Repack DescribeAll one two = let same : verb_of Repack ≡ verb_of DescribeAll = one_verb words Repack DescribeAll one two in cc
one_command words Repack Describe one two = let same : verb_of Repack ≡ verb_of Describe = one_verb words Repack Describe one two in cc
one_command words DescribeAll (Run t m) one two = let same : verb_of DescribeAll ≡ verb_of (Run t m) = one_verb words DescribeAll (Run t m) one two in cc
one_command words DescribeAll (Part t m k l) one two = let same : verb_of DescribeAll ≡ verb_of (Part t m k l) = one_verb words DescribeAll (Part t m k l) one two in cc
one_command words DescribeAll Join one two = let same : verb_of DescribeAll ≡ verb_of Join = one_verb words DescribeAll Join one two in cc
one_command words DescribeAll (Plan t m) one two = let same : verb_of DescribeAll ≡ verb_of (Plan t m) = one_verb words DescribeAll (Plan t m) one two in cc
one_command words DescribeAll (Slab t) one two = let same : verb_of DescribeAll ≡ verb_of (Slab t) = one_verb words DescribeAll (Slab t) one two in cc
one_command words DescribeAll (SlabPlan t) one two = let same : verb_of DescribeAll ≡ verb_of (SlabPlan t) = one_verb words DescribeAll (SlabPlan t) one two in cc
one_command words DescribeAll (Demo l e t m) one two = let same : verb_of DescribeAll ≡ verb_of (Demo l e t m) = one_verb words DescribeAll (Demo l e t m) one two in cc
one_command words DescribeAll Check one two = let same : verb_of DescribeAll ≡ verb_of Check = one_verb words DescribeAll Check one two in cc
one_command words DescribeAll Explain one two = let same : verb_of DescribeAll ≡ verb_of Explain = one_verb words DescribeAll Explain one two in cc
one_command words DescribeAll Pack one two = let same : verb_of DescribeAll ≡ verb_of Pack = one_verb words DescribeAll Pack one two in cc
one_command words DescribeAll Repack one two = let same : verb_of DescribeAll ≡ verb_of Repack = one_verb words DescribeAll Repack one two in cc
one_command words DescribeAll DescribeAll one two = refl
one_command words DescribeAll Describe one two = absurd (apart words one two)
one_command words Describe (Run t m) one two = let same : verb_of Describe ≡ verb_of (Run t m) = one_verb words Describe (Run t m) one two in cc
one_command words Describe (Part t m k l) one two = let same : verb_of Describe ≡ verb_of (Part t m k l) = one_verb words Describe (Part t m k l) one two in cc
one_command words Describe Join one two = let same : verb_of Describe ≡ verb_of Join = one_verb words Describe Join one two in cc
one_command words Describe (Plan t m) one two = let same : verb_of Describe ≡ verb_of (Plan t m) = one_verb words Describe (Plan t m) one two in cc
one_command words Describe (Slab t) one two = let same : verb_of Describe ≡ verb_of (Slab t) = one_verb words Describe (Slab t) one two in cc
one_command words Describe (SlabPlan t) one two = let same : verb_of Describe ≡ verb_of (SlabPlan t) = one_verb words Describe (SlabPlan t) one two in cc
one_command words Describe (Demo l e t m) one two = let same : verb_of Describe ≡ verb_of (Demo l e t m) = one_verb words Describe (Demo l e t m) one two in cc
one_command words Describe Check one two = let same : verb_of Describe ≡ verb_of Check = one_verb words Describe Check one two in cc
one_command words Describe Explain one two = let same : verb_of Describe ≡ verb_of Explain = one_verb words Describe Explain one two in cc
one_command words Describe Pack one two = let same : verb_of Describe ≡ verb_of Pack = one_verb words Describe Pack one two in cc
one_command words Describe Repack one two = let same : verb_of Describe ≡ verb_of Repack = one_verb words Describe Repack one two in cc
one_command words Describe DescribeAll one two = absurd (apart words two one)
one_command words Describe Describe one two = refl
