-- By what the term is as a Boolean expression.
use Rattle.std.specs.Prelude.{◌≡◌, Some, None}
use Rattle.std.specs.Int.{w128}
use Rattle.std.proofs.Common.{rules, subst, to_z, of_z}
use Rattle.pi_prop_spec.specs.Operands.{relation}
use Rattle.pi_prop_read.specs.Refs.{operand_at}
use Rattle.pi_prop_read.specs.Relations.{comparison_of}
use Rattle.pi_prop_read.specs.declared.truths.frames.TruthFrame.{TruthFrame}
use Rattle.pi_prop_read.specs.TruthFrames.{ShowsTruthNumber}
use Rattle.pi_prop_read.proofs.TruthTurns.{begin-variable, begin-number, begin-no-number, begin-relation, refused-relation, begin-negation, begin-joined, begin-other, waited}
use Rattle.pi_prop_read.proofs.truths.turns.begin.Goals as goal

pub returns-in-Ok : goal.returns-in-Ok
returns-in-Ok g c = λ whole s t.
    let w = (g.S.StateStore.seen c.args.s.now).now in
    begin-variable w c.args.making.now c.post_truth.new.self c.args.term c.in-Variable.variable c.args.frames.now.items whole (c.in-Variable.ensures s t.is_here) c.in-Ok.ensures t

pub returns-in-Some : goal.returns-in-Some
returns-in-Some g c = λ whole s t.
    let w = (g.S.StateStore.seen c.args.s.now).now in
    let bits : to_z w128 (of_z w128 c.in-Number.number) ≡ c.in-Number.number = search rules in
    begin-number w c.args.making.now c.args.term c.in-Number.number c.in-Some.truth c.args.frames.now.items whole (c.in-Number.ensures s t.is_here) (subst (λ i. ShowsTruthNumber (Some c.in-Some.truth) i) bits c.in-Some.ensures) t

pub returns-in-None : goal.returns-in-None
returns-in-None g c = λ whole s t.
    let w = (g.S.StateStore.seen c.args.s.now).now in
    let bits : to_z w128 (of_z w128 c.in-Number.number) ≡ c.in-Number.number = search rules in
    begin-no-number w c.args.making.now c.args.term c.in-Number.number c.args.frames.now.items whole (c.in-Number.ensures s t.is_here) (subst (λ i. ShowsTruthNumber None i) bits c.in-None.ensures) t

pub returns-in-Ok-relation_truth : goal.returns-in-Ok-relation_truth
returns-in-Ok-relation_truth g c = λ whole s t.
    let w = (g.S.StateStore.seen c.args.s.now).now in
    let node = c.in-Relation.ensures s t.is_here in
    let b = relation (comparison_of c.in-Relation.comparison) (operand_at w c.in-Relation.left) (operand_at w c.in-Relation.right) in
    begin-relation w c.args.making.now c.relation_truth.new.making c.args.term b c.in-Ok-relation_truth.truth c.args.frames.now.items whole node.is t (c.in-Ok-relation_truth.ensures t.made s node.parts.0 node.parts.1 t.shown t.enough)

pub returns-in-Err-relation_truth : goal.returns-in-Err-relation_truth
returns-in-Err-relation_truth g c = λ whole s t.
    let w = (g.S.StateStore.seen c.args.s.now).now in
    let node = c.in-Relation.ensures s t.is_here in
    let b = relation (comparison_of c.in-Relation.comparison) (operand_at w c.in-Relation.left) (operand_at w c.in-Relation.right) in
    refused-relation w c.args.making.now c.args.term b c.in-Err-relation_truth.stop c.args.frames.now.items whole node.is t (c.in-Err-relation_truth.ensures t.made s node.parts.0 node.parts.1 t.shown t.enough)

pub returns-in-Negation : goal.returns-in-Negation
returns-in-Negation g c = λ whole s t.
    let w = (g.S.StateStore.seen c.args.s.now).now in
    let a = c.args.making.now in
    let old = c.args.frames.now.items in
    let new = c.wait.new.frames.items in
    waited w a c.wait.result old new TruthFrame.Negation c.in-Negation.part whole c.wait.ensures (λ e. begin-negation w a c.args.term c.in-Negation.part old new whole (c.in-Negation.ensures s t.is_here) e t)

pub returns-in-Joined : goal.returns-in-Joined
returns-in-Joined g c = λ whole s t.
    let w = (g.S.StateStore.seen c.args.s.now).now in
    let a = c.args.making.now in
    let old = c.args.frames.now.items in
    let new = c.wait-in-Joined.new.frames.items in
    let k = c.in-Joined.connective in
    waited w a c.wait-in-Joined.result old new (TruthFrame.Left k c.in-Joined.right) c.in-Joined.left whole c.wait-in-Joined.ensures (λ e. begin-joined w a c.args.term c.in-Joined.left c.in-Joined.right k old new whole (c.in-Joined.ensures s t.is_here) e t)

pub returns-in-Other : goal.returns-in-Other
returns-in-Other g c = λ whole s t.
    let w = (g.S.StateStore.seen c.args.s.now).now in
    begin-other w c.args.making.now c.args.term c.args.frames.now.items whole (c.in-Other.ensures s t.is_here) t
