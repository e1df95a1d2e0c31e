-- The verbs of the client: the request that each stands for (openEO API; their words are this profile's own).
use Rattle.std.specs.Prelude.{ℕ, Bool, true, false, List, [], ◌∷◌, Option, codes, find}
use denote.Bor.{Bor}
use Rattle.oe_dims.specs.Names.{same_name}
use Rattle.oe_client.specs.declared.verbs.Argument.{Argument}
use Rattle.oe_client.specs.declared.verbs.Argument.TheVariants.{Missing, Id, JobAndAsset, JobAndOffset, ListName}
use Rattle.oe_client.specs.declared.verbs.VerbMethod.{VerbMethod}
use Rattle.oe_client.specs.declared.verbs.VerbMethod.TheVariants.{Delete, Get, Post, Put}

-- a verb: its word, its method, its path up to the argument, what the argument is, what follows the argument's id in the
-- path, and whether the input is the body
pub record Verb : Type 0 where
  pub word : List ℕ
  pub method : VerbMethod
  pub before : List ℕ
  pub argument : Argument
  pub behind : List ℕ
  pub sends_input : Bool

abbrev pub verb_from : List ℕ → VerbMethod → List ℕ → Argument → List ℕ → Bool → Verb
verb_from word method before argument behind sends_input = record {
  word = word;
  method = method;
  before = before;
  argument = argument;
  behind = behind;
  sends_input = sends_input;
}

-- a row of the table behind a reference
abbrev pub VerbEntry : Type 0
VerbEntry = Bor (List ℕ) × VerbMethod × Bor (List ℕ) × Argument × Bor (List ℕ) × Bool

abbrev pub verb_of : VerbEntry → Verb
verb_of row = verb_from row.0.now row.1 row.2.now row.3 row.4.now row.5

-- all verbs, in byte order of their words
abbrev pub verbs : List Verb
verbs =
    verb_from (codes "all") Get (codes "/") ListName (codes "") false
    ∷ verb_from (codes "asset") Get (codes "/jobs/") JobAndAsset (codes "/results/") false
    ∷ verb_from (codes "cancel") Delete (codes "/jobs/") Id (codes "/results") false
    ∷ verb_from (codes "collections") Get (codes "/collections") Missing (codes "") false
    ∷ verb_from (codes "create") Post (codes "/jobs") Missing (codes "") true
    ∷ verb_from (codes "delete") Delete (codes "/jobs/") Id (codes "") false
    ∷ verb_from (codes "forget") Delete (codes "/process_graphs/") Id (codes "") false
    ∷ verb_from (codes "jobs") Get (codes "/jobs") Missing (codes "") false
    ∷ verb_from (codes "logs") Get (codes "/jobs/") Id (codes "/logs") false
    ∷ verb_from (codes "logsafter") Get (codes "/jobs/") JobAndOffset (codes "/logs") false
    ∷ verb_from (codes "processes") Get (codes "/processes") Missing (codes "") false
    ∷ verb_from (codes "processgraphs") Get (codes "/process_graphs") Missing (codes "") false
    ∷ verb_from (codes "result") Post (codes "/result") Missing (codes "") true
    ∷ verb_from (codes "results") Get (codes "/jobs/") Id (codes "/results") false
    ∷ verb_from (codes "start") Post (codes "/jobs/") Id (codes "/results") false
    ∷ verb_from (codes "status") Get (codes "/jobs/") Id (codes "") false
    ∷ verb_from (codes "store") Put (codes "/process_graphs/") Id (codes "") true
    ∷ verb_from (codes "validate") Post (codes "/validation") Missing (codes "") true
    ∷ []

-- the first of these verbs with a word, and the verb of a word
abbrev pub first_named : List ℕ → List Verb → Option Verb
first_named word rows = find (λ (v : Verb). same_name v.word word) rows

abbrev pub verb_named : List ℕ → Option Verb
verb_named word = first_named word verbs

-- the method as a request has it (RFC 9110, section 9)
abbrev pub method_name : VerbMethod → List ℕ
method_name Delete = codes "DELETE"
method_name Get = codes "GET"
method_name Post = codes "POST"
method_name Put = codes "PUT"
