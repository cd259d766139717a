use Rattle.std.proofs.Common.{◌≡◌, ◌+◌, sym, ap, ◌∙◌, nat_eq, None, arith}
use Rattle.std.specs.Option.{option_copied}
use Rattle.std.specs.List.{position}
use Rattle.pi_terms.specs.Copy.{place_in}
use Rattle.pi_terms.proofs.MetLemmas.{no-place, place-is}
use Rattle.pi_terms.proofs.numbers.Numbers.number_of.Goals as goal

pub returns-in-Some : goal.returns-in-Some
returns-in-Some c =
    let ns = c.self.inside.met.items in
    let at = place-is ns c.args.n c.in-Some.place.now (sym (c.self.invariant c.args.n) ∙ sym c.in-Some.ensures.value) in
    ap (λ k. k + 1) (at.0 ∙ ap (λ ms. place_in ms c.args.n) c.self.view_is)

pub returns-in-None : goal.returns-in-None
returns-in-None c =
    let ns = c.self.inside.met.items in
    let none : position (nat_eq c.args.n) ns ≡ None = sym (c.self.invariant c.args.n) ∙ (sym c.get.ensures.value ∙ ap option_copied c.in-None.is) in
    let seen : place_in ns c.args.n ≡ place_in c.args.self.now c.args.n = ap (λ ms. place_in ms c.args.n) c.self.view_is in
    omega (arith, c.len.ensures, no-place ns c.args.n none, seen)
