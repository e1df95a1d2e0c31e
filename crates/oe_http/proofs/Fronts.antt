-- Where CR LF CR LF ends, in bytes that were read and in all that a link gives.
use Rattle.std.proofs.Common.{◌≡◌, ℕ, ◌-◌, ◌<◌, ◌≤◌, List, ◌++◌, length, inl, inr, get_or, take, sym, ◌∙◌, ap, arith, Some, subst, append-nil}
use Rattle.std.proofs.lemmas.List.{get_or_append_left, get_or-take, length-take, length-append, take-take, take-append-le, take_all}
use Rattle.std.proofs.Math.Seq.{take-append_seam}
use Rattle.oe_http.specs.Front.{EndsAt, EndsNowhere, HasNoHead, IsHeadEnd, IsHeadOf, IsHeadless, front, most_head}
use Rattle.oe_http.specs.Reading.{IsAllOfFront}

-- two lists have the same first n bytes
abbrev pub SameFirst : List ℕ → List ℕ → ℕ → Type 0
SameFirst a b n = (j : ℕ) → j < n → get_or a j 0 ≡ get_or b j 0

-- so CR LF CR LF ends there in both
pub ends_same : (a b : List ℕ) (n : ℕ) → n ≤ length b → SameFirst a b n → EndsAt a n → EndsAt b n
ends_same a b n within same e = record {
  within = within;
  enough = e.enough;
  first = sym (same (n - 4) (omega (arith, e.enough))) ∙ e.first;
  second = sym (same (n - 3) (omega (arith, e.enough))) ∙ e.second;
  third = sym (same (n - 2) (omega (arith, e.enough))) ∙ e.third;
  fourth = sym (same (n - 1) (omega (arith, e.enough))) ∙ e.fourth;
}

same_append : (bytes rest : List ℕ) (n : ℕ) → n ≤ length bytes → SameFirst (bytes ++ rest) bytes n
same_append bytes rest n within j lt = get_or_append_left bytes rest 0 j (omega arith)

same_front : (bytes rest : List ℕ) (n : ℕ) → length bytes ≤ most_head → n ≤ length bytes → SameFirst (front (bytes ++ rest)) bytes n
same_front bytes rest n few within j lt =
    get_or-take most_head (bytes ++ rest) j 0 (omega arith) ∙ get_or_append_left bytes rest 0 j (omega arith)

-- where no bytes before had CR LF CR LF, it ends nowhere in them now
pub ends_nowhere : (held given : List ℕ) → HasNoHead held → EndsNowhere (held ++ given) (length held)
ends_nowhere held given none k within ends =
    none k (ends_same (held ++ given) held k within (same_append held given k within) ends)

-- the bytes that were read are a front of the front
length_front : (bytes rest : List ℕ) → length bytes ≤ most_head → length bytes ≤ length (front (bytes ++ rest))
length_front bytes rest few = rw (length-take most_head (bytes ++ rest), length-append bytes rest) (omega arith)

-- the head that was found in the bytes that were read is the head of all
pub head_end_front : (bytes rest : List ℕ) (n : ℕ) → length bytes ≤ most_head → IsHeadEnd bytes n → IsHeadEnd (front (bytes ++ rest)) n
head_end_front bytes rest n few e =
    let longer : length bytes ≤ length (front (bytes ++ rest)) = length_front bytes rest few in
    let within : n ≤ length bytes = e.ends.within in
    record {
      ends = ends_same bytes (front (bytes ++ rest)) n (omega arith) (λ j lt. sym (same_front bytes rest n few within j lt)) e.ends;
      first = λ k lt ends.
          let earlier : k ≤ length bytes = omega arith in
          e.first k lt (ends_same (front (bytes ++ rest)) bytes k earlier (same_front bytes rest k few earlier) ends);
    }

pub head_of_read : (bytes rest head : List ℕ) (n : ℕ) → length bytes ≤ most_head → IsHeadEnd bytes n → head ≡ take n bytes → IsHeadOf (bytes ++ rest) head
head_of_read bytes rest head n few e is =
    let within : n ≤ length bytes = e.ends.within in
    record {
      end = n;
      ends = head_end_front bytes rest n few e;
      is = is ∙ sym (take-take n most_head (bytes ++ rest) (omega arith) ∙ take-append-le n bytes rest within);
    }

-- where there is no more to read, what was read is the front
front_is : (bytes rest : List ℕ) → length bytes ≤ most_head → IsAllOfFront bytes (Some rest) → front (bytes ++ rest) ≡ bytes
front_is bytes rest few (inl full) =
    let P : ℕ → Type 0 = λ n. take n (bytes ++ rest) ≡ bytes in subst P full (take-append_seam bytes rest)
front_is bytes rest few (inr none) =
    ap (λ r. front (bytes ++ r)) none ∙ ap front (append-nil bytes) ∙ take_all most_head bytes few

pub headless_read : (bytes rest : List ℕ) → length bytes ≤ most_head → HasNoHead bytes → IsAllOfFront bytes (Some rest) → IsHeadless (bytes ++ rest)
headless_read bytes rest few none all n =
    let is : front (bytes ++ rest) ≡ bytes = front_is bytes rest few all in rw is (none n)
