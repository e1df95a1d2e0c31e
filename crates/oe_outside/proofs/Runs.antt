-- How the clauses on visible bytes add up over calls.
use Rattle.std.proofs.Common.{◌≡◌, ℕ, ◌+◌, ◌≤◌, List, [], ◌++◌, length, take, Option, Some, None, IfSome, refl, ap, sym, ◌∙◌, append_assoc, append-nil, arith, inl, inr, take_all, subst}
use Rattle.std.specs.Option.{option_map}
use Rattle.std.proofs.lemmas.List.{take-append-drop, length-append, take-append-le}
use Rattle.std.proofs.Math.Seq.{take-append_seam, drop-append_seam, take-length, take-append-add}
use Rattle.std.proofs.lemmas.Grind.{common_steps}
use Rattle.std.proofs.lemmas.Bool.{cases_lt}
use Rattle.oe_outside.specs.Visible.{TakesFront, Gave, Appends, AddsBytes, AddsSome, AppendsPrefix, IsFront}

-- over no read nothing was given
pub Gave-none : (left : Option (List ℕ)) → Gave left [] left
Gave-none None = refl
Gave-none (Some bytes) = refl

-- one read gives the front of its buffer
pub Gave-read : (before after : Option (List ℕ)) (n : ℕ) (buffer : List ℕ) → TakesFront before n buffer after → Gave before (take n buffer) after
Gave-read None None n buffer taken = refl
Gave-read None (Some rest) n buffer taken = cc
Gave-read (Some bytes) None n buffer taken = absurd taken
Gave-read (Some bytes) (Some rest) n buffer taken =
    ap Some (sym (rw (taken.given, taken.rest_is) (take-append-drop n bytes)))

-- some reads and then some more
pub Gave-more : (a b c : Option (List ℕ)) (first second : List ℕ) → Gave a first b → Gave b second c → Gave a (first ++ second) c
Gave-more a b None first second one two = cc
Gave-more a b (Some rest) first second one two =
    one ∙ ap (option_map (λ tail. first ++ tail)) two ∙ ap Some (sym (append_assoc first second rest))

-- what was given is the front of what was left
pub Gave-front : (before after : Option (List ℕ)) (given : List ℕ) → Gave before given after → TakesFront before (length given) given after
Gave-front None None given gave = refl
Gave-front None (Some rest) given gave = cc
Gave-front (Some bytes) None given gave = cc
Gave-front (Some bytes) (Some rest) given gave =
    let is : bytes ≡ given ++ rest = cc in
    let few : length given ≤ length (given ++ rest) = simp length-append (omega arith) in
    rw is (record {
      enough = few;
      given = take-length given ∙ sym (take-append_seam given rest);
      rest_is = sym (drop-append_seam given rest);
    })

-- where nothing is left, what was given is what was there
pub Gave-all : (before after : Option (List ℕ)) (given : List ℕ) → Gave before given after → IfSome after (λ rest. rest ≡ []) → IfSome before (λ bytes. bytes ≡ given)
Gave-all before None given gave ended = rw gave tt
Gave-all before (Some rest) given gave ended = rw gave (ap (λ tail. given ++ tail) ended ∙ append-nil given)

-- over no write nothing was appended
pub Appends-none : (written : Option (List ℕ)) → Appends written [] written
Appends-none None = refl
Appends-none (Some held) = grind (arith, common_steps)

-- some writes and then some more
pub Appends-more : (a b c : Option (List ℕ)) (first second : List ℕ) → Appends a first b → Appends b second c → Appends a (first ++ second) c
Appends-more None b c first second one two = rw (two, one) refl
Appends-more (Some held) b c first second one two = rw (two, one) (ap Some (append_assoc held first second))

-- over no write nothing was counted
pub AddsBytes-none : (size : Option ℕ) → AddsBytes size 0 size
AddsBytes-none None = refl
AddsBytes-none (Some n) = grind arith

-- some writes and then some more
pub AddsBytes-more : (a b c : Option ℕ) (first second : ℕ) → AddsBytes a first b → AddsBytes b second c → AddsBytes a (first + second) c
AddsBytes-more None None c first second one two = two
AddsBytes-more None (Some m) c first second one two = cc
AddsBytes-more (Some n) None c first second one two = absurd one
AddsBytes-more (Some n) (Some m) None first second one two = absurd two
AddsBytes-more (Some n) (Some m) (Some k) first second one two = omega arith

-- at most so many, and so at most more
pub AddsSome-less : (a b : Option ℕ) (few many : ℕ) → few ≤ many → AddsSome a few b → AddsSome a many b
AddsSome-less a b few many fewer adds = (adds.0, omega (arith, fewer, adds.1), adds.2)

-- some writes, and then one that stopped
pub AddsSome-more : (a b c : Option ℕ) (first second : ℕ) → AddsBytes a first b → AddsSome b second c → AddsSome a (first + second) c
AddsSome-more a b c first second one two =
    (first + two.0, omega (arith, two.1), AddsBytes-more a b c first two.0 one two.2)

-- a front of the first text is one of both
front_of_both : (n : ℕ) (first second : List ℕ) → (k : ℕ) × (take n first ≡ take k (first ++ second))
front_of_both n first second = elim (cases_lt (length first) n) [
  | inl past ↦ (length first, take_all n first (omega (arith, past)) ∙ sym (take-append_seam first second))
  | inr within ↦ (n, sym (take-append-le n first second within))
]

-- the first text stopped, and so both did
pub first_stopped : (a b : Option (List ℕ)) (first second : List ℕ) → AppendsPrefix a first b → AppendsPrefix a (first ++ second) b
first_stopped a b first second stopped =
    let front = front_of_both stopped.0 first second in
    (front.0, stopped.1 ∙ ap (λ (piece : List ℕ). option_map (λ (held : List ℕ). held ++ piece) a) front.1)

-- the first text was written, and the second stopped
pub second_stopped : (a b c : Option (List ℕ)) (first second : List ℕ) → Appends a first b → AppendsPrefix b second c
    → AppendsPrefix a (first ++ second) c
second_stopped a b c first second one stopped = (
  length first + stopped.0,
  subst (λ (piece : List ℕ). Appends a piece c) (sym (take-append-add first second stopped.0))
      (Appends-more a b c first (take stopped.0 second) one stopped.1),
)

-- bytes in front of others of which none are left are the others
pub same_whole : (visible bytes rest : List ℕ) → IsFront visible (length bytes) bytes rest → rest ≡ [] → bytes ≡ visible
same_whole visible bytes rest front none =
    let all : take (length bytes) bytes ≡ bytes = take_all (length bytes) bytes (omega arith) in
    sym all ∙ front.given ∙ sym (append-nil (take (length bytes) visible))
    ∙ ap (λ others. take (length bytes) visible ++ others) (sym none ∙ front.rest_is)
    ∙ take-append-drop (length bytes) visible
