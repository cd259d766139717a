use Rattle.std.proofs.Common.{sym, ap, ◌∙◌, ◌++◌, ◌∷◌, [], nat_eq, arith}
use Rattle.std.specs.Prelude.{is_some}
use Rattle.std.specs.HashMap.{get}
use Rattle.pi_terms.specs.Numbers.{noted}
use Rattle.pi_terms.proofs.MetLemmas.{known, new, places-more}
use Rattle.pi_terms.proofs.numbers.Numbers.meet.Goals as goal

pub returns-then-contains_key-clause-ok : goal.returns-then-contains_key-clause-ok
returns-then-contains_key-clause-ok c =
    rw (← c.self.view_is) (known c.self.inside.met.items c.args.n (ap is_some (sym (c.self.invariant c.args.n)) ∙ (sym c.contains_key.ensures ∙ c.if-contains_key.true)))

pub invariant_of-self-2 : goal.invariant_of-self-2
invariant_of-self-2 c =
    places-more c.self.inside.met.items c.reserve.new.self.items c.push.new.self.items c.args.n c.len.result (get nat_eq c.self.inside.places) (get nat_eq c.insert.new.self)
    (sym c.contains_key.ensures ∙ c.if-contains_key.false) c.in_ok-reserve.ensures.items (omega (arith, c.len.ensures)) c.in_ok-push.ensures.items c.self.invariant c.in_ok-insert.ensures.updates.0

pub returns-clause-ok : goal.returns-clause-ok
returns-clause-ok c =
    c.in_ok-push.ensures.items
    ∙ (ap (λ l. l ++ c.args.n ∷ []) c.in_ok-reserve.ensures.items
    ∙ (new c.self.inside.met.items c.args.n (ap is_some (sym (c.self.invariant c.args.n)) ∙ (sym c.contains_key.ensures ∙ c.if-contains_key.false)) ∙ ap (λ l. noted l c.args.n) c.self.view_is))
