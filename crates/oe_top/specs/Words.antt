-- The words of a command, and the command that they spell.
use Rattle.std.specs.Prelude.{◌≡◌, ℕ, true, List, [], ◌∷◌, codes, slice_index_or}
use Rattle.oe_plan.specs.Words.{AreSides, IsNumberWord}
use Rattle.oe_dims.specs.Names.{is_name}
use Rattle.oe_window.specs.declared.grid.ChunkSize.{ChunkSize}
use Rattle.oe_top.specs.declared.words.Command.{Command}
use Rattle.oe_top.specs.declared.words.Command.TheVariants.{Run, Part, Join, Plan, Slab, SlabPlan, Demo, Check, Explain, Pack, Repack, DescribeAll, Describe}

-- four words that spell the sides of a chunk and a number of workers, from 1 to 64
abbrev pub AreRunNumbers : List ℕ → List ℕ → List ℕ → List ℕ → ChunkSize → ℕ → Type 0
AreRunNumbers cx cy ct w size workers = AreSides cx cy ct size × IsNumberWord 1 64 w workers

-- `VERB CX CY CT W`: a verb, the sides of a chunk and a number of workers
pub record SpellsNumbers (verb : List ℕ) (words : List (List ℕ)) (size : ChunkSize) (workers : ℕ) : Type 0 where
  pub cx : List ℕ
  pub cy : List ℕ
  pub ct : List ℕ
  pub w : List ℕ
  pub words_are : words ≡ verb ∷ cx ∷ cy ∷ ct ∷ w ∷ []
  pub numbers : AreRunNumbers cx cy ct w size workers

-- no run has more chunks
abbrev pub most_chunks : ℕ
most_chunks = 281474976710656

-- `part CX CY CT W FIRST END`: the sides of a chunk, a number of workers, a first chunk and one behind the last
pub record SpellsPart (words : List (List ℕ)) (size : ChunkSize) (workers first end : ℕ) : Type 0 where
  pub cx : List ℕ
  pub cy : List ℕ
  pub ct : List ℕ
  pub w : List ℕ
  pub first_word : List ℕ
  pub end_word : List ℕ
  pub words_are : words ≡ codes "part" ∷ cx ∷ cy ∷ ct ∷ w ∷ first_word ∷ end_word ∷ []
  pub numbers : AreRunNumbers cx cy ct w size workers
  pub first_is : IsNumberWord 0 most_chunks first_word first
  pub end_is : IsNumberWord 0 most_chunks end_word end

-- `VERB CX CY CT`: a verb and the sides of a chunk
pub record SpellsSides (verb : List ℕ) (words : List (List ℕ)) (size : ChunkSize) : Type 0 where
  pub cx : List ℕ
  pub cy : List ℕ
  pub ct : List ℕ
  pub words_are : words ≡ verb ∷ cx ∷ cy ∷ ct ∷ []
  pub sides : AreSides cx cy ct size

-- `demo SEED SIDE CX CY CT W`: a seed, a side in pixels, the sides of a chunk and a number of workers
pub record SpellsDemo (words : List (List ℕ)) (seed side : ℕ) (size : ChunkSize) (workers : ℕ) : Type 0 where
  pub seed_word : List ℕ
  pub side_word : List ℕ
  pub cx : List ℕ
  pub cy : List ℕ
  pub ct : List ℕ
  pub w : List ℕ
  pub words_are : words ≡ codes "demo" ∷ seed_word ∷ side_word ∷ cx ∷ cy ∷ ct ∷ w ∷ []
  pub seed_is : IsNumberWord 0 1000000000 seed_word seed
  pub side_is : IsNumberWord 1 1024 side_word side
  pub numbers : AreRunNumbers cx cy ct w size workers

-- `VERB ID`: a verb and the id of a collection
pub record SpellsId (verb : List ℕ) (words : List (List ℕ)) : Type 0 where
  pub id : List ℕ
  pub words_are : words ≡ verb ∷ id ∷ []
  pub valid : is_name id ≡ true

-- the word behind the verb
abbrev pub id_in : List (List ℕ) → List ℕ
id_in words = slice_index_or words 1 []

-- the words spell this command
abbrev pub Spells : List (List ℕ) → Command → Type 0
Spells words (Run size workers) = SpellsNumbers (codes "run") words size workers
Spells words (Part size workers first end) = SpellsPart words size workers first end
Spells words Join = words ≡ codes "join" ∷ []
Spells words (Plan size workers) = SpellsNumbers (codes "plan") words size workers
Spells words (Slab size) = SpellsSides (codes "slab") words size
Spells words (SlabPlan size) = SpellsSides (codes "slabplan") words size
Spells words (Demo seed side size workers) = SpellsDemo words seed side size workers
Spells words Check = words ≡ codes "check" ∷ []
Spells words Explain = words ≡ codes "explain" ∷ []
Spells words Pack = SpellsId (codes "pack") words
Spells words Repack = SpellsId (codes "repack") words
Spells words DescribeAll = words ≡ codes "describe" ∷ []
Spells words Describe = SpellsId (codes "describe") words

-- the words spell a command
abbrev pub SpellsCommand : List (List ℕ) → Type 0
SpellsCommand words = (command : Command) × Spells words command
