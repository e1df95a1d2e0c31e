-- The words of the command `serve`.
use Rattle.std.specs.Prelude.{◌≡◌, ℕ, ◌^◌, ◌-◌, List, [], ◌∷◌, codes}
use Rattle.oe_plan.specs.Words.{AreSides, IsNumberWord}
use Rattle.oe_serve.specs.declared.command.ServeCommand.{ServeCommand}

-- `serve PORT CX CY CT W TURNS`: a port, the sides of a chunk, a number of workers and a number of turns
pub record SpellsServe (words : List (List ℕ)) (command : ServeCommand) : Type 0 where
  pub port_word : List ℕ
  pub cx : List ℕ
  pub cy : List ℕ
  pub ct : List ℕ
  pub w : List ℕ
  pub turns_word : List ℕ
  pub words_are : words ≡ codes "serve" ∷ port_word ∷ cx ∷ cy ∷ ct ∷ w ∷ turns_word ∷ []
  pub port : IsNumberWord 1 65535 port_word command.port
  pub sides : AreSides cx cy ct command.size
  pub workers : IsNumberWord 1 64 w command.workers
  pub turns : IsNumberWord 0 (2 ^ 32 - 1) turns_word command.turns
