-- How all pages of a list are asked for, one after the other, each over a connection of its own (openEO API, pagination).
use Rattle.std.specs.Prelude.{Vec, ◌≡◌, ℕ, suc, List, [], ◌++◌, ◌⊎◌, Option, Some, None, IsErrOf, Result, Ok, Err, codes, unwrap_or}
use Rattle.std.specs.declared.alloc.Global.{Global}
use Rattle.oe_client.specs.Commands.{page_request}
use Rattle.oe_client.specs.Pages.{IsPage}
use Rattle.oe_client.specs.declared.verbs.Argument.{Argument}
use Rattle.oe_client.specs.declared.verbs.Argument.TheVariants.{Missing, Id, JobAndAsset, JobAndOffset, ListName}
use Rattle.oe_http.specs.Again.{IsWritable}
use Rattle.oe_http.specs.Plain.{PlainRequest}
use Rattle.oe_http.specs.Written.{request_bytes}
use Rattle.oe_outside.specs.Doors.{VisibleDoor}
use Rattle.oe_outside.specs.Faults.{NeverFalls, Rose}
use Rattle.oe_outside.specs.Visible.{Appends, AppendsPrefix}
use Rattle.oe_dial.specs.Ends.{CallAnswers, CountsUp, DialEnds, Input, IsInputSame, Lent, Views, lent}
use Rattle.oe_dial.specs.Words.{PlainCall, host_text}
use Rattle.oe_dial.specs.declared.refusal.CallRefusal.{CallRefusal}
use Rattle.oe_dial.specs.declared.refusal.CallRefusal.TheVariants.{ReadFault, InputTooLong, WriteFault, OutOfMemory, LinkFault, PeerInvalid, Refused}

-- a page on the output: its body, and a line feed
abbrev pub page_line : List ℕ → List ℕ
page_line body = body ++ codes "\n"

-- what is seen of a door whose connections are of type C, and its counters of calls of `next`, of dials and of
-- connections that failed
pub record DoorOf (C : Type 0) : Type 0 where
  pub visible : Option (VisibleDoor C)
  pub next_faults : ℕ
  pub dial_faults : ℕ
  pub link_faults : ℕ

-- of a door of type D
abbrev pub door_of : {D C : Type 0} → (D → Option (VisibleDoor C)) → (D → ℕ) → (D → ℕ) → (D → ℕ) → D → DoorOf C
door_of visible next_faults dial_faults link_faults door = record {
  visible = visible door;
  next_faults = next_faults door;
  dial_faults = dial_faults door;
  link_faults = link_faults door;
}

-- what is lent: a door, and an output that holds these bytes
abbrev pub lent_with : {C : Type 0} → Option (List ℕ) → ℕ → DoorOf C → Lent C
lent_with out faults door = lent out faults door.visible door.next_faults door.dial_faults door.link_faults

-- what is lent, with these bytes of a body in memory in place of the output
abbrev pub with_body : {C : Type 0} → Lent C → List ℕ → ℕ → Lent C
with_body l body faults = record l { out = Some body; out_faults = faults }

-- ---- for private functions

-- the bytes of a body, where one came
abbrev pub items_of_body : Result (Vec ℕ Global) CallRefusal → Result (List ℕ) CallRefusal
items_of_body (Ok body) = Ok body.items
items_of_body (Err refusal) = Err refusal

-- why no body came, by the ending of a call whose output is in memory
abbrev pub refusal_of_page : CallRefusal → CallRefusal
refusal_of_page ReadFault = ReadFault
refusal_of_page InputTooLong = InputTooLong
refusal_of_page WriteFault = OutOfMemory
refusal_of_page OutOfMemory = OutOfMemory
refusal_of_page LinkFault = LinkFault
refusal_of_page PeerInvalid = PeerInvalid
refusal_of_page (Refused status body) = Refused status body

-- what becomes of the body that came for the page of a list at an offset, at an output
abbrev pub DeliversPage : List ℕ → ℕ → List ℕ → Option (List ℕ) → ℕ → Option (List ℕ) → ℕ
    → Result (Option ℕ) CallRefusal → Type 0
DeliversPage list offset body out faults after faults_after (Ok next) =
    IsPage list offset body next × Appends out (page_line body) after
DeliversPage list offset body out faults after faults_after (Err ReadFault) = ⊥
DeliversPage list offset body out faults after faults_after (Err InputTooLong) = ⊥
DeliversPage list offset body out faults after faults_after (Err WriteFault) =
    ((next : Option ℕ) × IsPage list offset body next)
    × Rose faults faults_after × AppendsPrefix out (page_line body) after
DeliversPage list offset body out faults after faults_after (Err OutOfMemory) = (after ≡ out) × (faults_after ≡ faults)
DeliversPage list offset body out faults after faults_after (Err LinkFault) = ⊥
DeliversPage list offset body out faults after faults_after (Err PeerInvalid) =
    ((next : Option ℕ) → ¬ IsPage list offset body next) × (after ≡ out) × (faults_after ≡ faults)
DeliversPage list offset body out faults after faults_after (Err (Refused status answer)) = ⊥

-- ---- one page

-- the name of the list that a call asks for
abbrev pub list_of : PlainCall → List ℕ
list_of call = unwrap_or call.argument []

-- the request for the page at an offset
abbrev pub request_at : PlainCall → ℕ → PlainRequest
request_at call offset = page_request call.verb call.argument call.token offset

module _ {C : Type 0} (views : Views C) (call : PlainCall) where
  -- The page at an offset was asked for over one connection, which ended so, with these bytes of its body in memory.
  pub record IsAsked (offset : ℕ) (before after : Lent C) (body : List ℕ) (result : Result (Unit {0}) CallRefusal)
      : Type 0 where
    pub memory_faults : ℕ
    pub writable : IsWritable (request_at call offset) (host_text call.host call.port)
    pub ends : DialEnds views (with_body before [] 0) (with_body after body memory_faults) call.host call.port
        (request_bytes (request_at call offset) (host_text call.host call.port)) result

  -- the same, of some bytes
  abbrev pub EndsAsked : ℕ → Lent C → Lent C → Result (Unit {0}) CallRefusal → Type 0
  EndsAsked offset before after result = (body : List ℕ) × IsAsked offset before after body result

  -- nothing was dialled
  pub record IsUndialled (before after : Lent C) : Type 0 where
    pub door : after.door ≡ before.door
    pub dial_faults : after.dial_faults ≡ before.dial_faults
    pub link_faults : after.link_faults ≡ before.link_faults

  -- memory was refused before a page was asked for, or when it had been
  abbrev pub LacksMemory : ℕ → Lent C → Lent C → Type 0
  LacksMemory offset before after =
      IsUndialled before after ⊎ ((result : Result (Unit {0}) CallRefusal) × EndsAsked offset before after result)

  -- what is asked for and comes of a page: its body, or why none does
  abbrev pub Fetches : ℕ → Lent C → Lent C → Result (List ℕ) CallRefusal → Type 0
  Fetches offset before after (Ok body) = IsAsked offset before after body (Ok tt)
  Fetches offset before after (Err ReadFault) = ⊥
  Fetches offset before after (Err InputTooLong) = ⊥
  Fetches offset before after (Err WriteFault) = ⊥
  Fetches offset before after (Err OutOfMemory) = LacksMemory offset before after
  Fetches offset before after (Err LinkFault) = EndsAsked offset before after (Err LinkFault)
  Fetches offset before after (Err PeerInvalid) = EndsAsked offset before after (Err PeerInvalid)
  Fetches offset before after (Err (Refused status body)) = EndsAsked offset before after (Err (Refused status body))

  -- The same of a door alone, whatever becomes of the output. Its counter of `next` stays, and none of its others falls.
  pub record FetchesOver (offset : ℕ) (before after : DoorOf C) (result : Result (List ℕ) CallRefusal) : Type 0 where
    pub fetches : (out out_after : Option (List ℕ)) (faults faults_after : ℕ)
        → Fetches offset (lent_with out faults before) (lent_with out_after faults_after after) result
    pub next : after.next_faults ≡ before.next_faults
    pub dials : NeverFalls before.dial_faults after.dial_faults
    pub links : NeverFalls before.link_faults after.link_faults

  -- this body came, and it is a page of the list, behind which the next one begins there
  pub record IsTaken (offset : ℕ) (before after : Lent C) (body : List ℕ) (next : Option ℕ) : Type 0 where
    pub asked : IsAsked offset before after body (Ok tt)
    pub is_page : IsPage (list_of call) offset body next

  -- a body came that is no page of the list
  pub record IsNoPage (offset : ℕ) (before after : Lent C) : Type 0 where
    pub body : List ℕ
    pub asked : IsAsked offset before after body (Ok tt)
    pub no_page : (next : Option ℕ) → ¬ IsPage (list_of call) offset body next

  -- the output was left alone
  pub record IsOutLeft (before after : Lent C) : Type 0 where
    pub out : after.out ≡ before.out
    pub out_faults : after.out_faults ≡ before.out_faults

  -- A page is asked for, and its body follows what the output held, with a line feed. Where none is taken the output is as
  -- it was, but where it broke.
  abbrev pub TakesPage : ℕ → Lent C → Lent C → Result (Option ℕ) CallRefusal → Type 0
  TakesPage offset before after (Ok next) =
      (body : List ℕ) × IsTaken offset before after body next × Appends before.out (page_line body) after.out
  TakesPage offset before after (Err ReadFault) = ⊥
  TakesPage offset before after (Err InputTooLong) = ⊥
  TakesPage offset before after (Err WriteFault) =
      (body : List ℕ) × ((next : Option ℕ) × IsTaken offset before after body next)
      × Rose before.out_faults after.out_faults × AppendsPrefix before.out (page_line body) after.out
  TakesPage offset before after (Err OutOfMemory) = LacksMemory offset before after × IsOutLeft before after
  TakesPage offset before after (Err LinkFault) =
      EndsAsked offset before after (Err LinkFault) × IsOutLeft before after
  TakesPage offset before after (Err PeerInvalid) =
      (EndsAsked offset before after (Err PeerInvalid) ⊎ IsNoPage offset before after) × IsOutLeft before after
  TakesPage offset before after (Err (Refused status body)) =
      EndsAsked offset before after (Err (Refused status body)) × IsOutLeft before after

  -- Pages were taken one after the other, from the first on, so many; the next one begins there, or there is none.
  pub data AreTaken (first : Lent C) : ℕ → Option ℕ → Lent C → Type 0 where
    none : AreTaken first 0 (Some 0) first
    one_more : {count offset : ℕ} {next : Option ℕ} {before after : Lent C}
        → AreTaken first count (Some offset) before → TakesPage offset before after (Ok next)
        → AreTaken first (suc count) next after

  -- the counter of dials or of connections that failed rose
  abbrev pub LinkRose : Lent C → Lent C → Type 0
  LinkRose before after = Rose before.dial_faults after.dial_faults ⊎ Rose before.link_faults after.link_faults

  -- what stands at the end: there is no next page, or it was asked for in vain
  abbrev pub EndsList : Option ℕ → Lent C → Lent C → Result (Unit {0}) CallRefusal → Type 0
  EndsList None last after (Ok done) = after ≡ last
  EndsList None last after (Err refusal) = ⊥
  EndsList (Some offset) last after (Ok done) = ⊥
  EndsList (Some offset) last after (Err refusal) = TakesPage offset last after (Err refusal)

  pub record ListsPages (before after : Lent C) (result : Result (Unit {0}) CallRefusal) : Type 0 where
    pub count : ℕ
    pub next : Option ℕ
    pub last : Lent C
    pub taken : AreTaken before count next last
    -- by then no counter had fallen, so that one that rose for the last page rose in the command
    pub counts : CountsUp views before last
    pub ended : EndsList next last after result
    -- a fault of the door or of the output comes only where its counter rose in the command
    pub link_cause : IsErrOf result LinkFault → LinkRose before after
    pub write_cause : IsErrOf result WriteFault → Rose before.out_faults after.out_faults

  -- a list is asked for page by page, with the input left alone, and all else by one call
  abbrev pub Makes : Argument → Input → Lent C → Lent C → Result (Unit {0}) CallRefusal → Type 0
  Makes ListName input before after result =
      IsInputSame input × ListsPages before after result × CountsUp views before after
  Makes Missing input before after result = CallAnswers views call input before after result
  Makes Id input before after result = CallAnswers views call input before after result
  Makes JobAndAsset input before after result = CallAnswers views call input before after result
  Makes JobAndOffset input before after result = CallAnswers views call input before after result
