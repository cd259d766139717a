use Rattle.std.proofs.Common.{◌≡◌, ◌<◌, false, refl, sym, ◌∙◌, ◌++◌, ap, length, take, drop, vec_len, arith}
use Rattle.std.proofs.lemmas.Result.{err_from_is_err_and}
use Rattle.pi_outside.proofs.InputRuns.{ByInput-none, ByInput-one}
use Rattle.pi_outside.specs.Ahead.{Ahead}
use Rattle.pi_outside.proofs.Pieces.{kept-items, reads-piece}
use Rattle.pi_outside.proofs.reader.LineReader.refill.Goals as goal

pub returns-then-self-clause-refills : goal.returns-then-self-clause-refills
returns-then-self-clause-refills g c = ByInput-none g.I.Source.has_read g.I.Source.rest c.args.input.now _ (rw (← c.self.view_is) (record { over = c.if-self.true; is = refl }))

pub returns-in_err-count-clause-refills : goal.returns-in_err-count-clause-refills
returns-in_err-count-clause-refills g c =
    let may : c.args.self.now.is_over ≡ false = sym (ap (λ (a : Ahead). a.is_over) c.self.view_is) ∙ c.if-self.false in
    let p = err_from_is_err_and c.from_residual.result c.from_residual.ensures.1 in
    rw p.1 (ByInput-one g.I.Source.has_read g.I.Source.rest c.args.input.now c.read.new.self _ _ c.in_err-count.ensures.did c.in_err-count.ensures.gives_nothing (record { may_read = may; room = _; is = refl }))

pub returns-then-count-eq0-clause-refills : goal.returns-then-count-eq0-clause-refills
returns-then-count-eq0-clause-refills g c =
    let may : c.args.self.now.is_over ≡ false = sym (ap (λ (a : Ahead). a.is_over) c.self.view_is) ∙ c.if-self.false in
    let room : 0 < length c.as_mut_slice.result.now = omega (arith, c.self.invariant.has_room, c.as_mut_slice.ensures.len) in
    ByInput-one g.I.Source.has_read g.I.Source.rest c.args.input.now c.read.new.self _ _ (rw c.if-count-eq0.true at c.in_ok-count.ensures.did) (rw c.if-count-eq0.true at c.in_ok-count.ensures.gives)
    (record { may_read = may; room = length c.as_mut_slice.result.now; some = room; is = refl })

pub returns-clause-refills : goal.returns-clause-refills
returns-clause-refills g c =
    let may : c.args.self.now.is_over ≡ false = sym (ap (λ (a : Ahead). a.is_over) c.self.view_is) ∙ c.if-self.false in
    let into = c.read.new.into in
    let size : vec_len c.self.inside.piece ≡ length into = omega (arith, c.read.auto.into, c.as_mut_slice.ensures.len) in
    let items : take (vec_len c.self.inside.piece) (into ++ drop (length into) c.self.inside.piece.items) ≡ into = kept-items (vec_len c.self.inside.piece) into (drop (length into) c.self.inside.piece.items) size in
    let left : c.self.inside.left ≡ c.args.self.now.left = ap (λ (a : Ahead). a.left) c.self.view_is in
    ByInput-one g.I.Source.has_read g.I.Source.rest c.args.input.now c.read.new.self _ _ c.in_ok-count.ensures.did c.in_ok-count.ensures.gives
    (reads-piece c.args.self.now _ (length c.as_mut_slice.result.now) c.in_ok-count.count c.read.new.into may c.requires (omega (arith, c.if-count-eq0.false)) (omega (arith, c.in_ok-count.ensures.fits, c.read.auto.into)) (rw (c.min-self-inside.ensures, c.saturating_sub-self-inside.ensures, ← left, items) refl))
