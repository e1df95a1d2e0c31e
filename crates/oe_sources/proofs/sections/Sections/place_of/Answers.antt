use Rattle.std.proofs.Common.{◌≡◌, ◌≤◌, ◌<◌, ◌^◌, ℕ, ◌+◌, ◌*◌, ◌/◌, ◌%◌, length, take, Some, sym, ap, ◌∙◌, arith}
use Rattle.std.specs.Prelude.{slice_get}
use Rattle.std.proofs.Math.Nat.{mul_comm, mod-le}
use Rattle.std.proofs.lemmas.List.{length-take-le}
use Rattle.std.proofs.lemmas.Option.{get_or_from_slice_get, slice_get-get_or}
use Rattle.oe_dims.proofs.ShapeLemmas.{cell_count_within}
use Rattle.oe_sources.specs.CubeFile.{section_of, width_of}
use Rattle.oe_sources.specs.Head.{section_size, section_start, section_widths}
use Rattle.oe_sources.proofs.SizeLemmas.{byte_count_most, bytes_few, le_product, section_within, sections_few}
use Rattle.oe_wide.specs.Wide.{byte_count}
use Rattle.oe_wide.specs.declared.width.Width.TheVariants.{Seventeen}
use Rattle.oe_sources.proofs.sections.Sections.place_of.Goals as goal

here : (c : goal.After-bytes) → c.args.number / c.args.self.now.size ≡ section_of c.args.head.now c.args.number
here c = ap (λ (n : ℕ). c.args.number / n) c.requires.sections.size_is

width_is : (c : goal.After-bytes) → c.width_of-width.result ≡ width_of c.args.head.now c.args.number
width_is c =
    sym (get_or_from_slice_get (section_widths c.args.head.now) (section_of c.args.head.now c.args.number) c.width_of-width.result Seventeen
    (ap (slice_get (section_widths c.args.head.now)) (sym (here c)) ∙ c.width_of-width.ensures))

start_is : (c : goal.After-bytes) → c.index.result.now ≡ section_start c.args.head.now (section_of c.args.head.now c.args.number)
start_is c =
    let within = section_within c.args.head.now c.args.number c.requires.valid c.requires.number in
    let starts = c.requires.sections.starts_are in
    let there : c.args.number / c.args.self.now.size < length c.args.self.now.starts.items = omega (arith, within.1, starts.counted, here c) in
    let held : slice_get c.args.self.now.starts.items (c.args.number / c.args.self.now.size) ≡ Some c.index.result.now = slice_get-get_or c.args.self.now.starts.items (c.args.number / c.args.self.now.size) c.index.result.now there ∙ ap Some (sym c.index.ensures) in
    starts.each (c.args.number / c.args.self.now.size) c.index.result.now held ∙ ap (section_start c.args.head.now) (here c)

rest_few : (c : goal.After-bytes) → c.args.number % c.args.self.now.size * c.bytes.result ≤ 1099511627776 * 17
rest_few c =
    let few : c.args.number ≤ 1099511627776 = omega (arith, c.requires.number, cell_count_within c.args.head.now.shape c.requires.valid.shape) in
    let most : c.bytes.result ≤ 17 = omega (arith, c.bytes.ensures, byte_count_most c.width_of-width.result) in
    le_product (c.args.number % c.args.self.now.size) c.bytes.result 1099511627776 17 (omega (arith, mod-le c.args.number c.args.self.now.size, few)) most

start_few : (c : goal.After-bytes) → c.index.result.now ≤ 17 * 2 ^ 40
start_few c =
    let within = section_within c.args.head.now c.args.number c.requires.valid c.requires.number in
    let section = section_of c.args.head.now c.args.number in
    let all = section_widths c.args.head.now in
    let part : length (take section all) ≤ length all = omega (arith, length-take-le section all (omega (arith, within.1)), within.1) in
    omega (arith, start_is c, bytes_few (section_size c.args.head.now) all (take section all) part (sections_few c.args.head.now c.requires.valid))

pub overflow_mul-result : goal.overflow_mul-result
overflow_mul-result c = omega (arith, rest_few c)

pub overflow_add-result : goal.overflow_add-result
overflow_add-result c = omega (arith, rest_few c, start_few c)

pub returns-clause-width : goal.returns-clause-width
returns-clause-width c = width_is c

pub returns-clause-offset : goal.returns-clause-offset
returns-clause-offset c =
    let rest : c.args.number % c.args.self.now.size ≡ c.args.number % section_size c.args.head.now = ap (λ (n : ℕ). c.args.number % n) c.requires.sections.size_is in
    let bytes : c.bytes.result ≡ byte_count (width_of c.args.head.now c.args.number) = c.bytes.ensures ∙ ap byte_count (width_is c) in
    ap (λ (n : ℕ). n + c.args.number % c.args.self.now.size * c.bytes.result) (start_is c)
    ∙ ap (λ (n : ℕ). section_start c.args.head.now (section_of c.args.head.now c.args.number) + n)
    (ap (λ (n : ℕ). n * c.bytes.result) rest ∙ ap (λ (n : ℕ). c.args.number % section_size c.args.head.now * n) bytes
    ∙ mul_comm (c.args.number % section_size c.args.head.now) (byte_count (width_of c.args.head.now c.args.number)))
