-- How a call ends, by the command that the words spell.
use Rattle.std.proofs.Common.{◌≡◌, ◌≢◌, ℕ, List, Result, Ok, Err, codes, get_or, refl, sym, ap, ◌∙◌, subst}
use Rattle.oe_top.proofs.Commands.{one_command}
use Rattle.oe_top.specs.Answer.{CommandEnds, Ends}
use Rattle.oe_top.specs.DescribeAnswer.{DescribeAnswers}
use Rattle.oe_top.specs.Endings.{ending_of, of_check, of_demo, of_describe, of_evaluation, of_input, of_join, of_listing, of_pack, of_part, of_repack, of_run, of_slab, of_slab_plan}
use Rattle.oe_parts.specs.Parts.{PartState}
use Rattle.oe_top.specs.Objects.{Objects}
use Rattle.oe_top.specs.PackAnswer.{PackAnswers}
use Rattle.oe_top.specs.RepackAnswer.{RepackAnswers}
use Rattle.oe_top.specs.Words.{SpellsCommand, Spells, SpellsId, id_in}
use Rattle.oe_top.specs.declared.check.CheckRefusal.{CheckRefusal}
use Rattle.oe_top.specs.declared.check.CheckRefusal.TheVariants as check
use Rattle.oe_top.specs.declared.demo.DemoRefusal.{DemoRefusal}
use Rattle.oe_top.specs.declared.demo.DemoRefusal.TheVariants as demo
use Rattle.oe_top.specs.declared.describe.DescribeRefusal.{DescribeRefusal}
use Rattle.oe_top.specs.declared.describe.DescribeRefusal.TheVariants as describe
use Rattle.oe_top.specs.declared.describe.UnwrittenCause.{UnwrittenCause}
use Rattle.oe_top.specs.declared.describe.UnwrittenCause.TheVariants as unwritten
use Rattle.oe_top.specs.declared.evaluation.EvaluationFail.{EvaluationFail}
use Rattle.oe_top.specs.declared.evaluation.EvaluationFail.TheVariants as evaluation
use Rattle.oe_top.specs.declared.judge.InputRefusal.{InputRefusal}
use Rattle.oe_top.specs.declared.judge.InputRefusal.TheVariants as input
use Rattle.oe_top.specs.declared.join.JoinRefusal.{JoinRefusal}
use Rattle.oe_top.specs.declared.join.JoinRefusal.TheVariants as join
use Rattle.oe_top.specs.declared.pack.PackRefusal.{PackRefusal}
use Rattle.oe_top.specs.declared.pack.PackRefusal.TheVariants as pack
use Rattle.oe_top.specs.declared.part.PartRefusal.{PartRefusal}
use Rattle.oe_top.specs.declared.part.PartRefusal.TheVariants as part
use Rattle.oe_top.specs.declared.refusal.Refusal.{Refusal}
use Rattle.oe_top.specs.declared.refusal.Refusal.TheVariants.{Usage}
use Rattle.oe_top.specs.declared.repack.RepackRefusal.{RepackRefusal}
use Rattle.oe_top.specs.declared.repack.RepackRefusal.TheVariants as repack
use Rattle.oe_top.specs.declared.run.RunRefusal.{RunRefusal}
use Rattle.oe_top.specs.declared.run.RunRefusal.TheVariants as run
use Rattle.oe_top.specs.declared.slab.SlabRefusal.{SlabRefusal}
use Rattle.oe_top.specs.declared.slab.SlabRefusal.TheVariants as slab
use Rattle.oe_top.specs.declared.slab_plan.SlabPlanRefusal.{SlabPlanRefusal}
use Rattle.oe_top.specs.declared.slab_plan.SlabPlanRefusal.TheVariants as slab_plan
use Rattle.oe_top.specs.declared.words.Command.{Command}
use Rattle.oe_top.specs.declared.words.Command.TheVariants.{Run, Part, Join, Plan, Slab, SlabPlan, Demo, Check, Explain, Pack, Repack, DescribeAll, Describe}

-- ---- no command ends by `Usage`

input_other : (refusal : InputRefusal) → of_input refusal ≢ Usage
input_other (input.Graph fault) is = cc
input_other input.ReadFault is = cc
input_other input.OutOfMemory is = cc

evaluation_other : (fail : EvaluationFail) → of_evaluation fail ≢ Usage
evaluation_other (evaluation.Overflow number) is = cc
evaluation_other evaluation.ReadFault is = cc
evaluation_other (evaluation.Damaged id number) is = cc
evaluation_other evaluation.SpoolFault is = cc
evaluation_other evaluation.WriteFault is = cc
evaluation_other (evaluation.SpoolDamaged number) is = cc

run_other : (refusal : RunRefusal) → of_run refusal ≢ Usage
run_other (run.Input refusal) is = input_other refusal is
run_other (run.TooLarge cells) is = cc
run_other run.OutOfMemory is = cc
run_other (run.Stopped fail) is = evaluation_other fail is

part_other : (refusal : PartRefusal) → of_part refusal ≢ Usage
part_other (part.Input refusal) is = input_other refusal is
part_other part.ChunkRange is = cc
part_other (part.TooLarge cells) is = cc
part_other part.OutOfMemory is = cc
part_other (part.Stopped fail) is = evaluation_other fail is

join_other : (refusal : JoinRefusal) → of_join refusal ≢ Usage
join_other (join.Input refusal) is = input_other refusal is
join_other (join.Graph name) is = cc
join_other (join.Shape name) is = cc
join_other (join.Sides name) is = cc
join_other (join.Overlap name) is = cc
join_other (join.Missing chunk) is = cc
join_other join.OutOfMemory is = cc
join_other (join.Damaged name number) is = cc
join_other (join.Stopped fail) is = evaluation_other fail is

check_other : (refusal : CheckRefusal) → of_check refusal ≢ Usage
check_other (check.Input refusal) is = input_other refusal is
check_other check.WriteFault is = cc
check_other check.OutOfMemory is = cc

slab_other : (refusal : SlabRefusal) → of_slab refusal ≢ Usage
slab_other (slab.Input refusal) is = input_other refusal is
slab_other slab.NoTimeFold is = cc
slab_other (slab.TooLarge cells) is = cc
slab_other slab.OutOfMemory is = cc
slab_other (slab.Stopped fail) is = evaluation_other fail is

slab_plan_other : (refusal : SlabPlanRefusal) → of_slab_plan refusal ≢ Usage
slab_plan_other (slab_plan.Input refusal) is = input_other refusal is
slab_plan_other slab_plan.NoTimeFold is = cc
slab_plan_other slab_plan.WriteFault is = cc
slab_plan_other slab_plan.OutOfMemory is = cc

demo_other : (refusal : DemoRefusal) → of_demo refusal ≢ Usage
demo_other (demo.TooLarge cells) is = cc
demo_other demo.OutOfMemory is = cc
demo_other (demo.Stopped fail) is = evaluation_other fail is

pack_other : (refusal : PackRefusal) → of_pack refusal ≢ Usage
pack_other pack.NoCubeText is = cc
pack_other pack.ReadFault is = cc
pack_other pack.WriteFault is = cc
pack_other pack.OutOfMemory is = cc

repack_other : (refusal : RepackRefusal) → of_repack refusal ≢ Usage
repack_other repack.NotMounted is = cc
repack_other repack.ReadFault is = cc
repack_other (repack.Damaged id number) is = cc
repack_other repack.WriteFault is = cc
repack_other repack.OutOfMemory is = cc

listing_other : (cause : UnwrittenCause) → of_listing cause ≢ Usage
listing_other unwritten.WriteFault is = cc
listing_other unwritten.OutOfMemory is = cc

describe_other : (refusal : DescribeRefusal) → of_describe refusal ≢ Usage
describe_other describe.NotMounted is = cc
describe_other (describe.Unwritten cause) is = listing_other cause is

other : {E : Type 0} (of : E → Refusal) → ((refusal : E) → of refusal ≢ Usage) → (ended : Result (Unit {0}) E)
    (ending : Result (Unit {0}) Refusal) → ending ≡ ending_of of ended → ending ≢ Err Usage
other of never (Ok x) ending same is = let no : Ok x ≡ Err Usage = sym same ∙ is in cc
other of never (Err refusal) ending same is =
    let no : Err (of refusal) ≡ Err Usage = sym same ∙ is in
    let usage : of refusal ≡ Usage = cc in
    never refusal usage

not_usage : (words : List (List ℕ)) (command : Command) (parts parts_after : List PartState) (before after : Objects) (ending : Result (Unit {0}) Refusal)
    → CommandEnds words command parts parts_after before after ending → ending ≢ Err Usage
not_usage words (Run size workers) parts parts_after before after ending (ended, same, answers) = other of_run run_other ended ending same
not_usage words (Part size workers first end) parts parts_after before after ending (ended, same, answers) = other of_part part_other ended ending same
not_usage words Join parts parts_after before after ending (ended, same, answers) = other of_join join_other ended ending same
not_usage words (Plan size workers) parts parts_after before after ending (ended, same, answers) = other of_check check_other ended ending same
not_usage words (Slab size) parts parts_after before after ending (ended, same, answers) = other of_slab slab_other ended ending same
not_usage words (SlabPlan size) parts parts_after before after ending (ended, same, answers) =
    other of_slab_plan slab_plan_other ended ending same
not_usage words (Demo seed side size workers) parts parts_after before after ending (ended, same, answers) =
    other of_demo demo_other ended ending same
not_usage words Check parts parts_after before after ending (ended, same, answers) = other of_check check_other ended ending same
not_usage words Explain parts parts_after before after ending (ended, same, answers) = other of_check check_other ended ending same
not_usage words Pack parts parts_after before after ending (ended, same, answers) = other of_pack pack_other ended ending same
not_usage words Repack parts parts_after before after ending (ended, same, answers) = other of_repack repack_other ended ending same
not_usage words DescribeAll parts parts_after before after ending (ended, same, answers) = other of_listing listing_other ended ending same
not_usage words Describe parts parts_after before after ending (ended, same, answers) = other of_describe describe_other ended ending same

-- the words spell this command, which has ended so
ended_by : (words : List (List ℕ)) (command : Command) (parts parts_after : List PartState) (before after : Objects)
    (ending : Result (Unit {0}) Refusal) → Spells words command → (¬ Spells words Join → parts_after ≡ parts)
    → CommandEnds words command parts parts_after before after ending → Ends words parts parts_after before after ending
ended_by words command parts parts_after before after ending spells stay answers = record {
  usage = (
    λ is. absurd (not_usage words command parts parts_after before after ending answers is),
    λ denied. absurd (denied (command, spells)),
  );
  usage_keeps = λ is. absurd (not_usage words command parts parts_after before after ending answers is);
  answers = λ other also. subst (λ c. CommandEnds words c parts parts_after before after ending) (one_command words command other spells also) answers;
  parts_stay = stay;
}

-- the command touches no part
pub ends_of : (words : List (List ℕ)) (command : Command) (parts : List PartState) (before after : Objects)
    (ending : Result (Unit {0}) Refusal) → Spells words command → CommandEnds words command parts parts before after ending
    → Ends words parts parts before after ending
ends_of words command parts before after ending spells answers =
    ended_by words command parts parts before after ending spells (λ _. refl) answers

pub ends_join : (words : List (List ℕ)) (parts parts_after : List PartState) (before after : Objects)
    (ending : Result (Unit {0}) Refusal) → Spells words Join → CommandEnds words Join parts parts_after before after ending
    → Ends words parts parts_after before after ending
ends_join words parts parts_after before after ending spells answers =
    ended_by words Join parts parts_after before after ending spells (λ none. absurd (none spells)) answers

-- ---- an id among the words

-- the second word is the id
second_word : (verb : List ℕ) (words : List (List ℕ)) (word : List ℕ) → SpellsId verb words → word ≡ get_or words 1 word
    → word ≡ id_in words
second_word verb words word spells is =
    is ∙ ap (λ w. get_or w 1 word) spells.words_are ∙ sym (ap (λ w. id_in w) spells.words_are)

pub ends_pack : (words : List (List ℕ)) (word : List ℕ) (parts : List PartState) (before after : Objects) (ended : Result (Unit {0}) PackRefusal)
    (ending : Result (Unit {0}) Refusal) → ending ≡ ending_of of_pack ended → Spells words Pack → word ≡ get_or words 1 word
    → PackAnswers word before after ended → Ends words parts parts before after ending
ends_pack words word parts before after ended ending same spells is answers =
    ends_of words Pack parts before after ending spells
    (ended, same, subst (λ id. PackAnswers id before after ended) (second_word (codes "pack") words word spells is) answers)

pub ends_repack : (words : List (List ℕ)) (word : List ℕ) (parts : List PartState) (before after : Objects) (ended : Result (Unit {0}) RepackRefusal)
    (ending : Result (Unit {0}) Refusal) → ending ≡ ending_of of_repack ended → Spells words Repack → word ≡ get_or words 1 word
    → RepackAnswers word before after ended → Ends words parts parts before after ending
ends_repack words word parts before after ended ending same spells is answers =
    ends_of words Repack parts before after ending spells
    (ended, same, subst (λ id. RepackAnswers id before after ended) (second_word (codes "repack") words word spells is) answers)

pub ends_describe : (words : List (List ℕ)) (word : List ℕ) (parts : List PartState) (before after : Objects) (ended : Result (Unit {0}) DescribeRefusal)
    (ending : Result (Unit {0}) Refusal) → ending ≡ ending_of of_describe ended → Spells words Describe → word ≡ get_or words 1 word
    → DescribeAnswers word before after ended → Ends words parts parts before after ending
ends_describe words word parts before after ended ending same spells is answers =
    ends_of words Describe parts before after ending spells
    (ended, same, subst (λ id. DescribeAnswers id before after ended) (second_word (codes "describe") words word spells is) answers)

-- ---- no command

pub ends_usage : (words : List (List ℕ)) (parts : List PartState) (here : Objects) → ¬ SpellsCommand words
    → Ends words parts parts here here (Err Usage)
ends_usage words parts here denied = record {
  usage = (λ _. denied, λ _. refl);
  usage_keeps = λ _. refl;
  answers = λ command spells. absurd (denied (command, spells));
  parts_stay = λ _. refl;
}
