use Rattle.std.proofs.Common.{length, arith, ap, ◌≡◌, [], ◌∷◌, Option, subst}
use Rattle.std.specs.Prelude.{MatchOption}
use Rattle.pi_prog_clauses.specs.declared.nodes.walk.Node.{Node}
use Rattle.pi_syntax.specs.ExpTree.{exp_tree}
use Rattle.pi_prog_clauses.specs.Form.{shown_form}
use Rattle.pi_prog_clauses.specs.Walk.{shown_node, nodes_ahead}
use Rattle.pi_prog_clauses.proofs.restrictions.HeadNameLemmas.{names_none, names_more, names_all}
use Rattle.pi_prog_clauses.proofs.restrictions.head_names.HeadNames.of.Goals as goal

pub loop-walk-init : goal.loop-walk-init
loop-walk-init c = names_none c.new-names.result (nodes_ahead c.in_ok-walk.walk) c.new-names.ensures

pub loop-walk-preserved : goal.loop-walk-preserved
loop-walk-preserved c = names_more c.loop-walk.names c.insert.new.self c.in-Some.node (shown_form c.of-form.result) (nodes_ahead c.loop-walk.walk) (nodes_ahead c.next.new.self) (nodes_ahead c.in_ok-walk.walk) (subst (λ (o : Option Node). MatchOption o (nodes_ahead c.loop-walk.walk ≡ []) (λ n. nodes_ahead c.loop-walk.walk ≡ shown_node n ∷ nodes_ahead c.next.new.self)) c.in-Some.is c.in_ok-node.ensures) c.of-form.ensures c.in_ok-insert.ensures c.loop-walk.invariant

pub returns : goal.returns
returns c = names_all c.loop-walk.names (exp_tree c.args.head.now) (nodes_ahead c.loop-walk.walk) (nodes_ahead c.in_ok-walk.walk) (subst (λ (o : Option Node). MatchOption o (nodes_ahead c.loop-walk.walk ≡ []) (λ n. nodes_ahead c.loop-walk.walk ≡ shown_node n ∷ nodes_ahead c.next.new.self)) c.in_default.is c.in_ok-node.ensures) c.in_ok-walk.ensures c.loop-walk.invariant

pub loop-walk-smaller : goal.loop-walk-smaller
loop-walk-smaller c = omega (arith, ap length (subst (λ (o : Option Node). MatchOption o (nodes_ahead c.loop-walk.walk ≡ []) (λ n. nodes_ahead c.loop-walk.walk ≡ shown_node n ∷ nodes_ahead c.next.new.self)) c.in-Some.is c.in_ok-node.ensures))
