-- A name that is there, and one that isn't.
use Rattle.std.proofs.Common.{refl, sym, ◌∙◌, ap}
use Rattle.pi_meaning.specs.OverNames.Texts.{is_among}
use Rattle.pi_rewrite_slots.specs.Indexed.{names_in}
use Rattle.pi_rewrite_slots.proofs.SlotLemmas.{pushed}
use Rattle.pi_rewrite_sites.proofs.NameLemmas.{one-blank, one-there, one-new}
use Rattle.pi_rewrite_sites.proofs.names.put_one.Goals as goal

pub returns-then-eq : goal.returns-then-eq
returns-then-eq c = one-blank (names_in c.args.before.now.items) c.args.name.now (sym c.eq.ensures ∙ c.if-eq.true)

pub returns-then-is_among : goal.returns-then-is_among
returns-then-is_among c =
    one-there (names_in c.args.before.now.items) c.args.name.now (sym c.eq.ensures ∙ c.if-eq.false) (ap (λ xs. is_among (names_in xs) c.args.name.now) (sym c.as_slice.ensures.value) ∙ (sym c.is_among.ensures ∙ c.if-is_among.true))

pub returns : goal.returns
returns c =
    one-new (names_in c.args.before.now.items) (names_in c.push.new.self.items) c.args.name.now (sym c.eq.ensures ∙ c.if-eq.false) (ap (λ xs. is_among (names_in xs) c.args.name.now) (sym c.as_slice.ensures.value) ∙ (sym c.is_among.ensures ∙ c.if-is_among.false))
    (pushed c.args.before.now.items c.push.new.self.items c.args.name c.args.name.now c.in_ok-push.ensures.items refl)
