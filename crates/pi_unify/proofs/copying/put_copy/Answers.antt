use Rattle.std.proofs.Common.{◌≡◌, ℕ, ◌+◌, ◌≤◌, List, length, Some, ap, sym, ◌∙◌, subst, rules, arith, refl}
use Rattle.std.specs.Prelude.{Contains}
use Rattle.std.proofs.lemmas.Result.{IfOk-weaker}
use Rattle.pi_terms.specs.Tree.{var, int, arity}
use Rattle.pi_terms.specs.Variables.{IsGround}
use Rattle.pi_constraints.specs.State.{next}
use Rattle.pi_constraints.specs.Store.{IsTerm, ShowsCell}
use Rattle.pi_constraints.specs.declared.store.Cell.{Cell}
use Rattle.pi_unify.specs.Terms.{value_of, term_of}
use Rattle.pi_unify.specs.Copying.{renumbered}
use Rattle.pi_unify.proofs.TermValues.{given_term}
use Rattle.pi_unify.proofs.ComparisonLemmas.{shown}
use Rattle.pi_unify.proofs.CopyingLemmas.{noted_contains, copies_variable, copies_integer, copies_atom, copies_compound, copies_ground}
use Rattle.pi_unify.proofs.KeepsLemmas.{keeps_none}
use Rattle.pi_unify.proofs.BindLemmas.{either_way, if_any, if_err}
use Rattle.pi_unify.proofs.copying.put_copy.Goals as goal

pub new_variable-requires : goal.new_variable-requires
new_variable-requires g c = record { known = subst (λ (ns : List ℕ). Contains ns c.in-Var.n) (sym c.in_ok-meet-in-Var.ensures.ok) (noted_contains c.args.numbers.now c.in-Var.n) }

pub returns-then-is_ground-clause-ok : goal.returns-then-is_ground-clause-ok
returns-then-is_ground-clause-ok g c = λ ts may put front.
    let v = g.S.StateStore.seen c.args.s.now in
    let u = value_of v c.args.node in
    let count = c.in-Comp.count in
    let m = c.saturating_sub.result in
    let shows : ShowsCell v u (Cell.Comp c.in-Comp.k count) = shown v c.args.node (Cell.Comp c.in-Comp.k count) may.acyclic may.given c.in-Comp.ensures.shows in
    let many : count ≡ arity u = shows.3 in
    let enough : arity u ≤ length c.args.built.now.items = may.ready.enough in
    let ground : IsGround (term_of v c.args.node) = (c.is_ground.ensures (term_of v c.args.node) (given_term v c.args.node may.given)).0 c.if-is_ground.true in
    let e : m + count ≡ length c.args.built.now.items = omega (arith, c.len.ensures, c.saturating_sub.ensures, c.args.built.now.ok.0) in
    copies_ground v (renumbered v.now.state c.args.numbers.now) c.args.node count m c.args.built.now.items c.truncate.new.self.items ts may.given ground many e c.truncate.ensures.items put

pub returns-in_ok-meet-in-Var-clause-known : goal.returns-in_ok-meet-in-Var-clause-known
returns-in_ok-meet-in-Var-clause-known g c = λ may.
    let v = g.S.StateStore.seen c.args.s.now in
    c.in_ok-meet-in-Var.ensures.ok ∙ may.ready.known c.in-Var.n (shown v c.args.node (Cell.Var c.in-Var.n) may.acyclic may.given c.in-Var.ensures.shows)

pub returns-in_ok-meet-in-Var-clause-ok : goal.returns-in_ok-meet-in-Var-clause-ok
returns-in_ok-meet-in-Var-clause-ok g c = λ ts may put front.
    let v = g.S.StateStore.seen c.args.s.now in
    let ns = c.args.numbers.now in
    let n = c.in-Var.n in
    let here : value_of v c.args.node ≡ var n = shown v c.args.node (Cell.Var n) may.acyclic may.given c.in-Var.ensures.shows in
    let known : c.meet.new.self ≡ ns = c.in_ok-meet-in-Var.ensures.ok ∙ may.ready.known n here in
    let term : IsTerm v c.new_variable.result (var (renumbered v.now.state ns n)) =
    subst (λ (ms : List ℕ). length ms ≤ next v.now.state → IsTerm v c.new_variable.result (var (renumbered v.now.state ms n))) known c.new_variable.ensures may.made in
    copies_variable v (renumbered v.now.state ns) (value_of v c.args.node) n c.args.built.now.items c.new_variable.result ts here term put

pub returns-in-Int-clause-ok : goal.returns-in-Int-clause-ok
returns-in-Int-clause-ok g c =
    let v = g.S.StateStore.seen c.args.s.now in
    let w = g.S.StateStore.seen c.put_int.new.self in
    IfOk-weaker c.put_int.result _ _
    (λ made so ts may put front.
    let term : IsTerm w made (int c.in-Int.n) = so.term ∙ ap (λ z. Some (int z)) (search rules) in
    copies_integer v w (renumbered v.now.state c.args.numbers.now) (value_of v c.args.node) c.in-Int.n c.args.built.now.items made ts (shown v c.args.node (Cell.Int c.in-Int.n) may.acyclic may.given c.in-Int.ensures.shows) so.changes.keeps term put)
    c.put_int.ensures.ok

pub returns-in-Atom-clause-ok : goal.returns-in-Atom-clause-ok
returns-in-Atom-clause-ok g c =
    let v = g.S.StateStore.seen c.args.s.now in
    let w = g.S.StateStore.seen c.copy_atom.new.s in
    IfOk-weaker c.copy_atom.result _ _
    (λ made so ts may put front.
    let shows : ShowsCell v (value_of v c.args.node) (Cell.Atom c.in-Atom.k) = shown v c.args.node (Cell.Atom c.in-Atom.k) may.acyclic may.given c.in-Atom.ensures.shows in
    copies_atom v w (renumbered v.now.state c.args.numbers.now) (value_of v c.args.node) shows.0 c.args.built.now.items made ts shows.2 c.copy_atom.ensures.stays.keeps (so shows.0 shows.1) put)
    c.copy_atom.ensures.ok

pub returns-else-is_ground-clause-ok : goal.returns-else-is_ground-clause-ok
returns-else-is_ground-clause-ok g c =
    let v = g.S.StateStore.seen c.args.s.now in
    let w = g.S.StateStore.seen c.copy_compound.new.s in
    let u = value_of v c.args.node in
    let count = c.in-Comp.count in
    IfOk-weaker c.copy_compound.result _ _
    (λ made so ts may put front.
    let shows : ShowsCell v u (Cell.Comp c.in-Comp.k count) = shown v c.args.node (Cell.Comp c.in-Comp.k count) may.acyclic may.given c.in-Comp.ensures.shows in
    copies_compound w (renumbered v.now.state c.args.numbers.now) u shows.0 count c.copy_compound.new.built.items made ts shows.2 shows.3 front (so shows.0 ts shows.1 put)) c.copy_compound.ensures.ok

pub returns-in_err-meet-in-Var-clause-stays : goal.returns-in_err-meet-in-Var-clause-stays
returns-in_err-meet-in-Var-clause-stays g c = record { keeps = keeps_none (g.S.StateStore.seen c.args.s.now); state = refl }

pub returns-in_err-meet-in-Var-clause-known : goal.returns-in_err-meet-in-Var-clause-known
returns-in_err-meet-in-Var-clause-known g c = if_err c.from_residual.result _ c.from_residual.ensures.0

pub returns-in_err-meet-in-Var-clause-ok : goal.returns-in_err-meet-in-Var-clause-ok
returns-in_err-meet-in-Var-clause-ok g c = if_err c.from_residual.result _ c.from_residual.ensures.0

pub returns-in_ok-meet-in-Var-clause-stays : goal.returns-in_ok-meet-in-Var-clause-stays
returns-in_ok-meet-in-Var-clause-stays g c = record { keeps = keeps_none (g.S.StateStore.seen c.args.s.now); state = refl }

pub returns-in-Int-clause-stays : goal.returns-in-Int-clause-stays
returns-in-Int-clause-stays g c = either_way c.put_int.result _ _ c.put_int.ensures.ok c.put_int.ensures.err (λ made so. so.changes)

pub returns-in-Int-clause-known : goal.returns-in-Int-clause-known
returns-in-Int-clause-known g c = if_any c.put_int.result _ (λ made may. refl)

pub returns-in-Atom-clause-stays : goal.returns-in-Atom-clause-stays
returns-in-Atom-clause-stays g c = c.copy_atom.ensures.stays

pub returns-in-Atom-clause-known : goal.returns-in-Atom-clause-known
returns-in-Atom-clause-known g c = if_any c.copy_atom.result _ (λ made may. refl)

pub returns-then-is_ground-clause-stays : goal.returns-then-is_ground-clause-stays
returns-then-is_ground-clause-stays g c = record { keeps = keeps_none (g.S.StateStore.seen c.args.s.now); state = refl }

pub returns-then-is_ground-clause-known : goal.returns-then-is_ground-clause-known
returns-then-is_ground-clause-known g c = λ may. refl

pub returns-else-is_ground-clause-stays : goal.returns-else-is_ground-clause-stays
returns-else-is_ground-clause-stays g c = c.copy_compound.ensures.stays

pub returns-else-is_ground-clause-known : goal.returns-else-is_ground-clause-known
returns-else-is_ground-clause-known g c = if_any c.copy_compound.result _ (λ made may. refl)
