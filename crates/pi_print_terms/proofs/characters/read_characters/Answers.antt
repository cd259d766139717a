use Rattle.std.proofs.Common.{ap, sym, ◌∙◌, refl}
use Rattle.pi_print_terms.proofs.CharacterLemmas.{Item, some_left, at_nil, at_cell, at_other}
use Rattle.pi_terms.specs.Tree.{atom, tree}
use Rattle.pi_print_terms.proofs.characters.read_characters.Goals as goal

pub loop-name-init : goal.loop-name-init
loop-name-init c = rw (c.new-text.ensures.bytes, c.copy-behind.ensures) (record { enough = c.requires; proper = refl; characters = refl; behind = refl })

pub returns-in_default-next : goal.returns-in_default-next
returns-in_default-next c =
    let i : Item _ _ _ _ _ = record { same = c.loop-name.invariant; item = c.in-Some.ensures.item ∙ ap (tree (atom c.in-Some.name.now)) c.in_default-next.ensures.root; one = c.in-Some.ensures.character } in
    absurd (some_left _ _ _ _ i)

pub returns-then-is_nil : goal.returns-then-is_nil
returns-then-is_nil c =
    let i : Item _ _ _ _ _ = record { same = c.loop-name.invariant; item = c.in-Some.ensures.item; one = c.in-Some.ensures.character } in
    let r = at_nil _ _ _ _ _ _ _ i c.in-Some-next.ensures.root (sym c.is_nil.ensures ∙ c.if-is_nil.true) in
    record { ok = record { proper = r.proper; text = c.in_ok-push_str.ensures.bytes ∙ r.text_is; behind = r.behind_is } }

pub returns-then-not-is_cell : goal.returns-then-not-is_cell
returns-then-not-is_cell c =
    let i : Item _ _ _ _ _ = record { same = c.loop-name.invariant; item = c.in-Some.ensures.item; one = c.in-Some.ensures.character } in
    record { ok = at_other _ _ _ _ _ _ _ i c.in-Some-next.ensures.root c.in-Some-next.ensures.arguments (sym c.is_cell.ensures ∙ c.if-not-is_cell.true) (sym c.is_nil.ensures ∙ c.if-is_nil.false) }

pub loop-name-preserved : goal.loop-name-preserved
loop-name-preserved c =
    let i : Item _ _ _ _ _ = record { same = c.loop-name.invariant; item = c.in-Some.ensures.item; one = c.in-Some.ensures.character } in
    rw c.in_ok-push_str.ensures.bytes (at_cell _ _ _ _ _ _ _ i c.in-Some-next.ensures.root c.in-Some-next.ensures.arguments (sym c.is_cell.ensures ∙ c.if-not-is_cell.false))
