use Rattle.std.proofs.Common.{◌≡◌, ℕ, List, Option, length, sym, ◌∙◌, subst, arith}
use Rattle.std.proofs.lemmas.Grind.{common_steps}
use Rattle.oe_outside.specs.Stored.{StoreHolds}
use Rattle.oe_sources.proofs.OpenLemmas.{base_read, begins_alone, head_read}
use Rattle.oe_sources.proofs.file_source.read_head.Goals as goal

pub returns-in-Some-clause-begins : goal.returns-in-Some-clause-begins
returns-in-Some-clause-begins g c =
    let store = g.S.Store.bytes c.args.store.now in
    let header = c.in_ok-header.header.items in
    let long : length header ≡ c.in_ok-version.count = sym c.in_ok-header.header.ok.0 ∙ c.in_ok-header.ensures.long in
    let held : StoreHolds store 12 header = subst (λ (o : Option (List ℕ)). StoreHolds o 12 header) c.read_start.ensures.same c.in_ok-header.ensures.held in
    let said = rw (c.in-Some.is, c.deref.ensures.value) at c.in-Ok.ensures in
    begins_alone store header (c.in_ok-version.version, c.in_ok-version.count) c.in-Some.head c.in_ok-version.ensures.starts held long said.0 said.1 said.2

pub returns-in-Some-clause-valid : goal.returns-in-Some-clause-valid
returns-in-Some-clause-valid g c =
    let header = c.in_ok-header.header.items in
    let long : length header ≡ c.in_ok-version.count = sym c.in_ok-header.header.ok.0 ∙ c.in_ok-header.ensures.long in
    let said = rw (c.in-Some.is, c.deref.ensures.value) at c.in-Ok.ensures in
    (head_read c.in-Some.head header (c.in_ok-version.version, c.in_ok-version.count) said.0 said.1 long c.in_ok-version.ensures.short, base_read c.in-Some.head header c.in_ok-version.count said.1 long)

pub returns-clause-begins : goal.returns-clause-begins
returns-clause-begins g c = grind (arith, common_steps) steps 2000000

pub returns-clause-cause : goal.returns-clause-cause
returns-clause-cause g c = grind (arith, common_steps) steps 2000000

pub returns-clause-refused : goal.returns-clause-refused
returns-clause-refused g c = grind (arith, common_steps) steps 2000000

pub returns-clause-same : goal.returns-clause-same
returns-clause-same g c = grind (arith, common_steps) steps 2000000

pub returns-clause-valid : goal.returns-clause-valid
returns-clause-valid g c = grind (arith, common_steps) steps 2000000

pub returns-in-Some-clause-cause : goal.returns-in-Some-clause-cause
returns-in-Some-clause-cause g c = grind (arith, common_steps) steps 2000000

pub returns-in-Some-clause-refused : goal.returns-in-Some-clause-refused
returns-in-Some-clause-refused g c = grind (arith, common_steps) steps 2000000

pub returns-in-Some-clause-same : goal.returns-in-Some-clause-same
returns-in-Some-clause-same g c = grind (arith, common_steps) steps 2000000

pub returns-in_default-clause-begins : goal.returns-in_default-clause-begins
returns-in_default-clause-begins g c = grind (arith, common_steps) steps 2000000

pub returns-in_default-clause-cause : goal.returns-in_default-clause-cause
returns-in_default-clause-cause g c = grind (arith, common_steps) steps 2000000

pub returns-in_default-clause-refused : goal.returns-in_default-clause-refused
returns-in_default-clause-refused g c = grind (arith, common_steps) steps 2000000

pub returns-in_default-clause-same : goal.returns-in_default-clause-same
returns-in_default-clause-same g c = grind (arith, common_steps) steps 2000000

pub returns-in_default-clause-valid : goal.returns-in_default-clause-valid
returns-in_default-clause-valid g c = grind (arith, common_steps) steps 2000000

pub returns-in_err-header-clause-begins : goal.returns-in_err-header-clause-begins
returns-in_err-header-clause-begins g c = grind (arith, common_steps) steps 2000000

pub returns-in_err-header-clause-cause : goal.returns-in_err-header-clause-cause
returns-in_err-header-clause-cause g c = grind (arith, common_steps) steps 2000000

pub returns-in_err-header-clause-refused : goal.returns-in_err-header-clause-refused
returns-in_err-header-clause-refused g c = grind (arith, common_steps) steps 2000000

pub returns-in_err-header-clause-same : goal.returns-in_err-header-clause-same
returns-in_err-header-clause-same g c = grind (arith, common_steps) steps 2000000

pub returns-in_err-header-clause-valid : goal.returns-in_err-header-clause-valid
returns-in_err-header-clause-valid g c = grind (arith, common_steps) steps 2000000

pub returns-in_err-version-clause-begins : goal.returns-in_err-version-clause-begins
returns-in_err-version-clause-begins g c = grind (arith, common_steps) steps 2000000

pub returns-in_err-version-clause-cause : goal.returns-in_err-version-clause-cause
returns-in_err-version-clause-cause g c = grind (arith, common_steps) steps 2000000

pub returns-in_err-version-clause-refused : goal.returns-in_err-version-clause-refused
returns-in_err-version-clause-refused g c = grind (arith, common_steps) steps 2000000

pub returns-in_err-version-clause-same : goal.returns-in_err-version-clause-same
returns-in_err-version-clause-same g c = grind (arith, common_steps) steps 2000000

pub returns-in_err-version-clause-valid : goal.returns-in_err-version-clause-valid
returns-in_err-version-clause-valid g c = grind (arith, common_steps) steps 2000000
