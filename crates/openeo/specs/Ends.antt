-- What the program itself answers, before and beside its command.
use Rattle.std.specs.Prelude.{◌≡◌, ℕ, List, [], ◌∷◌, ◌⊎◌, Option, Result, Ok, Err, codes}
use Rattle.oe_outside.specs.Stream.{ErrorOutput}
use Rattle.oe_adapters.specs.Setup.{IsSetupFault, fault_status, program_fault_line}
use Rattle.oe_adapters.specs.declared.fault.Fault.{Fault}
use Rattle.oe_adapters.specs.declared.fault.Fault.TheVariants.{Write}
use Rattle.oe_serve.specs.Endings.{line_of, status_of}
use Rattle.oe_serve.specs.declared.turns.ServeFail.{ServeFail}
use Rattle.oe_top.specs.Lines.{IsSilent, Says}

-- the word asks for a text about the program or a command
abbrev pub IsTextWord : List ℕ → Type 0
IsTextWord word = (word ≡ codes "--help") ⊎ (word ≡ codes "--version")

-- the word of a command
abbrev pub IsVerb : List ℕ → Type 0
IsVerb word = (word ≡ codes "run") ⊎ (word ≡ codes "part") ⊎ (word ≡ codes "join") ⊎ (word ≡ codes "check")
    ⊎ (word ≡ codes "explain") ⊎ (word ≡ codes "plan") ⊎ (word ≡ codes "slab") ⊎ (word ≡ codes "slabplan")
    ⊎ (word ≡ codes "demo") ⊎ (word ≡ codes "pack") ⊎ (word ≡ codes "repack")
    ⊎ (word ≡ codes "describe") ⊎ (word ≡ codes "serve") ⊎ (word ≡ codes "client")

-- the words ask for a text about the program, or, behind the word of a command, about that command
abbrev pub AsksForText : List (List ℕ) → Type 0
AsksForText [] = ⊥
AsksForText (word ∷ []) = IsTextWord word
AsksForText (verb ∷ word ∷ []) = IsVerb verb × IsTextWord word
AsksForText (verb ∷ word ∷ next ∷ rest) = ⊥

-- a sink of type O is as it was before: what it holds, where that is visible, and its fault counter
abbrev pub IsSinkSame : {O : Type 0} → (O → Option (List ℕ)) → (O → ℕ) → O → O → Type 0
IsSinkSame written faults before after = (written after ≡ written before) × (faults after ≡ faults before)

-- Why no command starts: the text that the words ask for could not be written; or else a file that stands in for a
-- standard stream, or the folder of the collections, could not be set up, or memory was refused.
abbrev pub IsStartFault : List (List ℕ) → Fault → Type 0
IsStartFault words fault =
    (AsksForText words × (fault ≡ Write))
    ⊎ ((¬ AsksForText words) × (IsSetupFault (codes "/dev/null") fault ⊎ IsSetupFault (codes "collections") fault))

-- the program ends by a fault of its own: its status, and its line on the error output
pub record EndsByFault (fault : Fault) (status : ℕ) (err : ErrorOutput) : Type 0 where
  pub status_is : status ≡ fault_status fault
  pub line : Says (program_fault_line fault) err

-- The server ends well, by 0 and without a line; or by the status and the line of why it ended; or by the fault that
-- kept it from serving.
abbrev pub EndsServer : Result (Result (Unit {0}) ServeFail) Fault → ℕ → ErrorOutput → Type 0
EndsServer (Ok (Ok x)) status err = (status ≡ 0) × IsSilent err
EndsServer (Ok (Err fail)) status err = (status ≡ status_of fail) × Says (line_of fail) err
EndsServer (Err fault) status err = EndsByFault fault status err
