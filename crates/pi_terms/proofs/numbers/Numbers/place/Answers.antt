use Rattle.std.proofs.Common.{sym, subst, ap, ◌∙◌, ◌<◌, length}
use Rattle.std.specs.Prelude.{is_some, Contains}
use Rattle.pi_terms.specs.Copy.{place_in}
use Rattle.pi_terms.proofs.MetLemmas.{some-place, place-is}
use Rattle.pi_terms.proofs.numbers.Numbers.place.Goals as goal

pub index-requires : goal.index-requires
index-requires c =
    ap is_some (c.self.invariant c.args.n) ∙ some-place c.self.inside.met.items c.args.n (subst (λ ns. Contains ns c.args.n) (sym c.self.view_is) c.requires)

pub returns-clause-place : goal.returns-clause-place
returns-clause-place c =
    (place-is c.self.inside.met.items c.args.n c.index.result.now (sym (c.self.invariant c.args.n) ∙ c.index.ensures)).0
    ∙ ap (λ ns. place_in ns c.args.n) c.self.view_is

pub returns-clause-within : goal.returns-clause-within
returns-clause-within c =
    subst (λ ns. c.index.result.now < length ns) c.self.view_is (place-is c.self.inside.met.items c.args.n c.index.result.now (sym (c.self.invariant c.args.n) ∙ c.index.ensures)).1
