-- The start of a part file, its header, and that the bytes are the file of one head alone.
use Rattle.std.proofs.Common.{◌≡◌, ℕ, ◌+◌, ◌*◌, ◌<◌, ◌≤◌, ◌^◌, Bool, true, false, List, [], ◌++◌, length, get_or, take, drop, Option, Some, None, IfSome, codes, refl, sym, ap, ◌∙◌, subst, arith}
use Rattle.std.specs.Int.{w32, to_be_bytes, from_be_bytes}
use Rattle.std.proofs.lemmas.Nat.{be_bytes_4, from_be_bytes-to_be_bytes_4}
use Rattle.std.proofs.lemmas.List.{take-append-drop, take-take, drop-take, length-append}
use Rattle.oe_dims.proofs.ListsLemmas.{drop_front, take_front}
use Rattle.oe_outside.specs.Stored.{HoldsAt, StoreHolds}
use Rattle.oe_parts.specs.Head.{AreSides, IsPartHead, PartHead, chunk_total, front_bytes, header_text, most_header}
use Rattle.oe_parts.specs.HeadRead.{IsReadHead}
use Rattle.oe_parts.specs.Opening.{BeginsAlone, IsNoFile, IsNoStart, IsStart, Starts, start_bytes}
use Rattle.oe_parts.specs.PartFile.{IsPartFile, part_cells}
use Rattle.oe_parts.specs.Parts.{IsPartFileAlone}

-- ---- starts

abbrev magic : List ℕ
magic = codes "OEOPART1"

magic_front : (more : List ℕ) → take 8 (magic ++ more) ≡ magic
magic_front more = refl

magic_behind : (more : List ℕ) → drop 8 (magic ++ more) ≡ more
magic_behind more = refl

length-start : (n : ℕ) → length (start_bytes n) ≡ 12
length-start n = refl

start_magic : (bytes : List ℕ) (n : ℕ) → bytes ≡ start_bytes n → take 8 bytes ≡ magic
start_magic bytes n e = ap (take 8) e ∙ magic_front (to_be_bytes w32 n)

start_count : (bytes : List ℕ) (n : ℕ) → n < 2 ^ 32 → bytes ≡ start_bytes n → from_be_bytes w32 (drop 8 bytes) ≡ n
start_count bytes n small e =
    ap (λ (bs : List ℕ). from_be_bytes w32 (drop 8 bs)) e ∙ ap (from_be_bytes w32) (magic_behind (to_be_bytes w32 n))
    ∙ from_be_bytes-to_be_bytes_4 n small

pub start_made : (bytes four : List ℕ) (n : ℕ) → take 8 bytes ≡ magic → four ≡ drop 8 bytes → length four ≡ 4 → ((i : ℕ) → get_or four i 0 < 256) → n ≡ from_be_bytes w32 four → bytes ≡ start_bytes n
start_made bytes four n front back long small count =
    sym (take-append-drop 8 bytes) ∙ ap (λ (bs : List ℕ). bs ++ drop 8 bytes) front
    ∙ ap (λ (bs : List ℕ). magic ++ bs) (sym back ∙ sym (be_bytes_4 four n long small count))

-- no other bytes are a start
pub no_magic : (bytes : List ℕ) → ¬ (take 8 bytes ≡ magic) → IsNoStart bytes
no_magic bytes other n is = other (start_magic bytes n is.0)

pub too_long : (bytes four : List ℕ) (n : ℕ) → four ≡ drop 8 bytes → n ≡ from_be_bytes w32 four → most_header < n → IsNoStart bytes
too_long bytes four n back count long m is =
    let few = is.1 in
    let same : from_be_bytes w32 (drop 8 bytes) ≡ m = start_count bytes m (omega (arith, few)) is.0 in
    let this : n ≡ m = count ∙ ap (from_be_bytes w32) back ∙ same in
    omega (arith, this, few, long)

-- two starts of the same bytes are one
same_count : (bytes : List ℕ) (m n : ℕ) → m ≤ most_header → n ≤ most_header → bytes ≡ start_bytes m → bytes ≡ start_bytes n → m ≡ n
same_count bytes m n few less a b =
    sym (start_count bytes m (omega (arith, few)) a) ∙ start_count bytes n (omega (arith, less)) b

-- ---- how a file begins

pub length-front : (head : PartHead) → length (front_bytes head) ≡ 12 + length (header_text head)
length-front head =
    let n = length (header_text head) in
    length-append (start_bytes n) (header_text head) ∙ ap (λ (m : ℕ). m + n) (length-start n)

file_start : (all : List ℕ) (head : PartHead) → IsPartFile all head → take 12 all ≡ start_bytes (length (header_text head))
file_start all head file =
    let n = length (header_text head) in
    let more : 12 ≤ length (front_bytes head) = omega (arith, length-front head) in
    sym (take-take 12 (length (front_bytes head)) all more) ∙ ap (take 12) file.front
    ∙ take_front (start_bytes n) (header_text head) 12 (length-start n)

file_header : (all : List ℕ) (head : PartHead) → IsPartFile all head → take (length (header_text head)) (drop 12 all) ≡ header_text head
file_header all head file =
    let n = length (header_text head) in
    sym (drop-take 12 n all) ∙ ap (λ (m : ℕ). drop 12 (take m all)) (sym (length-front head)) ∙ ap (drop 12) file.front
    ∙ drop_front (start_bytes n) (header_text head) 12 (length-start n)

file_long : (all : List ℕ) (head : PartHead) → IsPartFile all head → 12 + length (header_text head) ≤ length all
file_long all head file = omega (arith, file.whole, length-front head)

-- ---- refusals

-- fewer bytes than a start
pub none_short : (store : Option (List ℕ)) (b : Bool) → b ≡ false → IfSome store (λ all. 0 + 12 ≤ length all → b ≡ true) → IfSome store IsNoFile
none_short None b cut enough = tt
none_short (Some all) b cut enough = λ head file.
    let yes : b ≡ true = enough (omega (arith, file_long all head file)) in cc

-- no start
pub none_started : (store : Option (List ℕ)) (start : List ℕ) → length start ≡ 12 → StoreHolds store 0 start → IsNoStart start → IfSome store IsNoFile
none_started None start long held none = tt
none_started (Some all) start long held none = λ head file.
    let here : start ≡ take 12 all = sym held ∙ ap (λ (n : ℕ). take n all) long in
    none (length (header_text head)) (here ∙ file_start all head file, file.valid.short)

-- no room for the header
pub none_cut : (store : Option (List ℕ)) (start : List ℕ) (count total : ℕ) → length start ≡ 12 → StoreHolds store 0 start → IsStart start count → IfSome store (λ all. total ≡ length all) → total < 12 + count → IfSome store IsNoFile
none_cut None start count total long held is_start counted cut = tt
none_cut (Some all) start count total long held is_start counted cut = λ head file.
    let n = length (header_text head) in
    let here : start ≡ take 12 all = sym held ∙ ap (λ (m : ℕ). take m all) long in
    let same : count ≡ n = same_count start count n is_start.1 file.valid.short is_start.0 (here ∙ file_start all head file) in
    omega (arith, same, file_long all head file, counted, cut)

-- the start that was read
pub started : (store : Option (List ℕ)) (start : List ℕ) (count total : ℕ) → length start ≡ 12 → StoreHolds store 0 start → IsStart start count → IfSome store (λ all. total ≡ length all) → 12 + count ≤ total → IfSome store (λ all. Starts all count)
started None start count total long held is_start counted room = tt
started (Some all) start count total long held is_start counted room =
    let here : start ≡ take 12 all = sym held ∙ ap (λ (m : ℕ). take m all) long in
    record { is_start = subst (λ (bs : List ℕ). IsStart bs count) here is_start; room = omega (arith, counted, room) }

-- the header was not there in full, which a start that was read excludes
pub none_header : (store : Option (List ℕ)) (count : ℕ) → IfSome store (λ all. Starts all count) → IfSome store (λ all. ¬ (12 + count ≤ length all)) → IfSome store IsNoFile
none_header None count starts past = tt
none_header (Some all) count starts past = λ head file. past starts.room

-- ---- the head

-- what was read of a file's header is that header
header_is : (all header : List ℕ) (count : ℕ) (head : PartHead) → Starts all count → HoldsAt all 12 header → length header ≡ count → IsPartFile all head → header ≡ header_text head
header_is all header count head starts held long file =
    let n = length (header_text head) in
    let is_start = starts.is_start in
    let same : count ≡ n = same_count (take 12 all) count n is_start.1 file.valid.short is_start.0 (file_start all head file) in
    sym held ∙ ap (λ (m : ℕ). take m (drop 12 all)) (long ∙ same) ∙ file_header all head file

-- no head has the header
pub none_headed : (store : Option (List ℕ)) (header : List ℕ) (count : ℕ) → IfSome store (λ all. Starts all count) → StoreHolds store 12 header → length header ≡ count → ((h : PartHead) → IsPartHead h → ¬ (header ≡ header_text h)) → IfSome store IsNoFile
none_headed None header count starts held long none = tt
none_headed (Some all) header count starts held long none = λ head file.
    none head file.valid (header_is all header count head starts held long file)

pub base_read : (head : PartHead) (header : List ℕ) (n : ℕ) → header ≡ header_text head → length header ≡ n → 12 + n ≡ length (front_bytes head)
base_read head header n is long = omega (arith, ap length is, long, length-front head)

pub begins_alone : (store : Option (List ℕ)) (header : List ℕ) (count : ℕ) (head : PartHead) → IfSome store (λ all. Starts all count) → StoreHolds store 12 header → length header ≡ count → header ≡ header_text head → ((g : PartHead) → IsPartHead g → header ≡ header_text g → head ≡ g) → IfSome store (λ all. BeginsAlone all head)
begins_alone None header count head starts held long is only = tt
begins_alone (Some all) header count head starts held long is only =
    let n = length (header_text head) in
    let same : count ≡ n = sym long ∙ ap length is in
    let begun : take 12 all ≡ start_bytes n = starts.is_start.0 ∙ ap start_bytes same in
    let rest : take n (drop 12 all) ≡ header_text head = ap (λ (m : ℕ). take m (drop 12 all)) (sym (ap length is)) ∙ held ∙ is in
    record {
      front = ap (λ (m : ℕ). take m all) (length-front head) ∙ two_parts n all ∙ ap (λ (bs : List ℕ). bs ++ take n (drop 12 all)) begun
          ∙ ap (λ (bs : List ℕ). start_bytes n ++ bs) rest;
      alone = λ other file. sym (only other file.valid (header_is all header count other starts held long file));
    }
  where
    two_parts : (n : ℕ) (bs : List ℕ) → take (12 + n) bs ≡ take 12 bs ++ take n (drop 12 bs)
    two_parts n bs = sym (take-append-drop 12 (take (12 + n) bs)) ∙ ap (λ (xs : List ℕ). xs ++ drop 12 (take (12 + n) bs)) (take-take 12 (12 + n) bs (omega arith)) ∙ ap (λ (xs : List ℕ). take 12 bs ++ xs) (drop-take 12 n bs)

-- ---- the whole file

pub whole_file : (store : Option (List ℕ)) (head : PartHead) (total base : ℕ) → IsPartHead head → base ≡ length (front_bytes head) → IfSome store (λ all. total ≡ length all) → IfSome store (λ all. BeginsAlone all head) → total ≡ base + 17 * part_cells head → IfSome store (λ all. IsPartFileAlone all head)
whole_file None head total base valid base_is counted begins whole = tt
whole_file (Some all) head total base valid base_is counted begins whole = record {
  is_file = record { valid = valid; front = begins.front; whole = sym counted ∙ whole ∙ ap (λ (n : ℕ). n + 17 * part_cells head) base_is };
  alone = begins.alone;
}

pub none_whole : (store : Option (List ℕ)) (head : PartHead) (total base : ℕ) → base ≡ length (front_bytes head) → IfSome store (λ all. total ≡ length all) → IfSome store (λ all. BeginsAlone all head) → ¬ (total ≡ base + 17 * part_cells head) → IfSome store IsNoFile
none_whole None head total base base_is counted begins not_whole = tt
none_whole (Some all) head total base base_is counted begins not_whole = λ other file.
    let this : IsPartFile all head = subst (IsPartFile all) (begins.alone other file) file in
    not_whole (counted ∙ this.whole ∙ ap (λ (n : ℕ). n + 17 * part_cells head) (sym base_is))

-- ---- judging a head that was read

abbrev pub IsJudged : PartHead → Type 0
IsJudged h = AreSides h.sides × (h.first < h.end) × (h.end ≤ chunk_total h)

pub judged : (h : PartHead) (header : List ℕ) → IsReadHead h → IsJudged h → header ≡ header_text h → length header ≤ most_header → IsPartHead h
judged h header read ok is few = record {
  graph = read.graph;
  sides = ok.0;
  some = ok.1;
  within = ok.2;
  shape = read.shape;
  short = omega (arith, ap length is, few);
}

pub not_judged : (h : PartHead) (header : List ℕ) → ¬ IsJudged h → ((g : PartHead) → IsPartHead g → header ≡ header_text g → h ≡ g) → (g : PartHead) → IsPartHead g → ¬ (header ≡ header_text g)
not_judged h header none only g valid e =
    let same : h ≡ g = only g valid e in
    none (subst IsJudged (sym same) (valid.sides, valid.some, valid.within))

pub not_spelled : (h : PartHead) (header spelled : List ℕ) → spelled ≡ header_text h → ¬ (spelled ≡ header) → ((g : PartHead) → IsPartHead g → header ≡ header_text g → h ≡ g) → (g : PartHead) → IsPartHead g → ¬ (header ≡ header_text g)
not_spelled h header spelled is other only g valid e =
    let same : h ≡ g = only g valid e in
    other (is ∙ ap header_text same ∙ sym e)
