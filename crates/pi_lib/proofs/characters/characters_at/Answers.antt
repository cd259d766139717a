use Rattle.std.proofs.Common.{refl}
use Rattle.std.specs.String.{string_bytes}
use Rattle.pi_lib.proofs.WalkLemmas.{walk_begins, walk_more, walk_ends, walk_fails}
use Rattle.pi_lib.proofs.characters.characters_at.Goals as goal

pub loop-count-init : goal.loop-count-init
loop-count-init g c = λ given a. walk_begins (g.S.StateStore.seen c.args.s.now) c.args.term (string_bytes c.new-text.result) given c.new-text.ensures.bytes

pub loop-count-preserved : goal.loop-count-preserved
loop-count-preserved g c = λ given a.
    let v = g.S.StateStore.seen c.args.s.now in
    let w = c.loop-count.invariant given a in
    walk_more v c.args.term c.loop-count.at c.in-Character.rest (string_bytes c.loop-count.text) (string_bytes c.push_str.new.self) c.name.result.now c.loop-count.count c.in-Character.name w
    (c.in-Character.ensures w.given a) (λ name is. c.name.ensures name is) c.in_ok-push_str-in-Character.ensures.bytes

pub returns-in-End : goal.returns-in-End
returns-in-End g c = λ given a.
    let v = g.S.StateStore.seen c.args.s.now in
    let w = c.loop-count.invariant given a in
    walk_ends v c.args.term c.loop-count.at (string_bytes c.loop-count.text) c.loop-count.count _ w (c.in-End.ensures w.given a) c.in_ok-text-in-End.ensures.ok refl

pub returns-in-Other : goal.returns-in-Other
returns-in-Other g c = λ given a.
    let v = g.S.StateStore.seen c.args.s.now in
    let w = c.loop-count.invariant given a in
    walk_fails v c.args.term c.loop-count.at (string_bytes c.loop-count.text) c.loop-count.count w (c.in-Other.ensures w.given a)
