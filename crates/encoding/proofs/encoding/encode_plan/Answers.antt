-- `encoding::encode_plan` meets its contract: each part is written behind those already there.
use Rattle.std.proofs.Common.{rules, length, length-set, ◌∙◌, ◌≡◌, ap, arith}
use Rattle.parameters.specs.Lookup.{flag_of}
use Rattle.selector.specs.Gates.{gate_slots}
use Rattle.selector.specs.Nodes.{node_slots}
use Rattle.encoding.specs.Encoding.{count_at, plan_words}
use Rattle.writer.proofs.HandLaws.{handed_short}
use Rattle.encoding.proofs.EncodingLaws.{plan-length, plan-written}
use Rattle.encoding.proofs.encoding.encode_plan.Goals as goal

pub returns-then-words-lt-PLAN_WORDS : goal.returns-then-words-lt-PLAN_WORDS
returns-then-words-lt-PLAN_WORDS c =
    let gates-long : length c.args.plan.gates ≡ gate_slots = search rules in
    let nodes-long : length c.args.plan.nodes ≡ node_slots = search rules in
    let a = c.args in
    handed_short (plan_words a.plan) a.words.now (omega (arith, plan-length a.plan (gates-long) (nodes-long), c.if-words-lt-PLAN_WORDS.true))

pub shape_of-words : goal.shape_of-words
shape_of-words c = c.put_words-4.auto.out ∙ c.put_words-3.auto.out ∙ length-set c.put_words-2.new.out count_at c.args.plan.gate_count ∙ c.put_words-2.auto.out ∙ c.put_words.auto.out

pub returns : goal.returns
returns c =
    let gates-long : length c.args.plan.gates ≡ gate_slots = search rules in
    let nodes-long : length c.args.plan.nodes ≡ node_slots = search rules in
    let a = c.args in
    plan-written a.plan a.words.now (gates-long) (nodes-long) c.if-words-lt-PLAN_WORDS.false
    _ _ _ c.mode.ensures c.lookup_width.ensures (c.from.ensures ∙ ap flag_of c.share_table_id.ensures)
    _ _ _ _ c.put_words.ensures c.put_words-2.ensures c.put_words-3.ensures c.put_words-4.ensures
