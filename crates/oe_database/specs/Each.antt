-- Statements that run one after another in one transaction.
use Rattle.std.specs.Prelude.{◌≡◌, ℕ, true, List, [], ◌∷◌, Ok}
use Rattle.sqlite.specs.Effect.{Database}
use Rattle.sqlite.specs.Held.{Held, state}
use Rattle.sqlite.specs.State.{Executes}
use Rattle.sqlite.specs.Store.{Ghosts}
use Rattle.sqlite.specs.Tree.{Trees}
use Rattle.sqlite.specs.Values.{bound}
use Rattle.sqlite.specs.Order.{Row}
use Rattle.oe_database.specs.declared.statement.Statement.{Statement}

-- a text of SQL, and the values that its parameters are bound to
pub record PlainStatement : Type 0 where
  pub text : List ℕ
  pub parameters : Row

abbrev pub plain_statement : Statement → PlainStatement
plain_statement s = record { text = s.text.now; parameters = bound s.parameters.items }

-- the first is carried out, and then the others
abbrev pub RanEach : {S : Type 0} → Ghosts S → List PlainStatement → Held S → Held S → Type 0
RanEach g [] old new = new ≡ old
RanEach {S} g (s ∷ statements) old new =
    (mid : Held S) × (count : ℕ) × Executes s.text s.parameters (state g old) (state g mid) (Ok count)
    × RanEach g statements mid new

-- this is the database that a run makes, carried out whole in one transaction
pub record IsMadeBy {S : Type 0} (g : Ghosts S) (Ran : Held S → Held S → Type 0) (old : Held S) (db : Database) : Type 0 where
  pub last : Held S
  pub ran : Ran (record old { in_transaction = true }) last
  pub is : db ≡ (state g last).now

-- and these are its trees
abbrev pub AreTreesMadeBy : {S : Type 0} → Ghosts S → (Held S → Held S → Type 0) → Held S → Trees → Type 0
AreTreesMadeBy g Ran old trees = (db : Database) × IsMadeBy g Ran old db × (trees ≡ db.trees)
