use Rattle.std.proofs.Common.{◌≡◌, true, false, rules}
use Rattle.std.specs.Prelude.{codes}
use Rattle.std.specs.Str.{bytes_eq}
use Rattle.pi_label.proofs.WordLemmas.{objective-least, objective-greatest}
use Rattle.pi_label.proofs.words.objective_named.Goals as goal

pub returns-then-eq : goal.returns-then-eq
returns-then-eq g c = λ f t named is.
    let least : bytes_eq c.name-name.result.now (codes "min") ≡ true = search rules in
    objective-least (g.S.StateStore.seen c.args.s.now) c.name-name.result.now f c.args.expression t (c.name-name.ensures f named) least is

pub returns-then-eq-2 : goal.returns-then-eq-2
returns-then-eq-2 g c = λ f t named is.
    let least : bytes_eq c.name-name.result.now (codes "min") ≡ false = search rules in
    let greatest : bytes_eq c.name-name.result.now (codes "max") ≡ true = search rules in
    objective-greatest (g.S.StateStore.seen c.args.s.now) c.name-name.result.now f c.args.expression t (c.name-name.ensures f named) least greatest is
