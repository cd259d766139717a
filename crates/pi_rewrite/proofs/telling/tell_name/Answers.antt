use Rattle.std.proofs.Common.{◌≡◌, true, false, sym, ◌∙◌, ap}
use Rattle.pi_meaning.specs.OverNames.Texts.{is_among}
use Rattle.pi_rewrite_slots.specs.Indexed.{names_in}
use Rattle.pi_rewrite.proofs.TellLemmas.{hidden-name, known-name, new-name, pushed-name}
use Rattle.pi_rewrite.proofs.telling.tell_name.Goals as goal

pub returns-then-is_hidden : goal.returns-then-is_hidden
returns-then-is_hidden c = hidden-name (names_in c.args.names.now.items) c.args.name.now (sym c.is_hidden.ensures ∙ c.if-is_hidden.true)

pub returns-then-is_among : goal.returns-then-is_among
returns-then-is_among c =
    let among : is_among (names_in c.args.names.now.items) c.args.name.now ≡ true = sym (c.is_among.ensures ∙ ap (λ xs. is_among (names_in xs) c.args.name.now) c.as_slice.ensures.value) ∙ c.if-is_among.true in
    known-name (names_in c.args.names.now.items) c.args.name.now (sym c.is_hidden.ensures ∙ c.if-is_hidden.false) among

pub returns : goal.returns
returns c =
    let other : is_among (names_in c.args.names.now.items) c.args.name.now ≡ false = sym (c.is_among.ensures ∙ ap (λ xs. is_among (names_in xs) c.args.name.now) c.as_slice.ensures.value) ∙ c.if-is_among.false in
    new-name (names_in c.args.names.now.items) (names_in c.push.new.self.items) c.args.name.now (sym c.is_hidden.ensures ∙ c.if-is_hidden.false) other
    (pushed-name c.args.names.now.items c.push.new.self.items c.args.name c.in_ok-push.ensures.items)
