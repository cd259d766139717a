use Rattle.std.proofs.Common.{◌≡◌, ◌+◌, ◌-◌, ◌++◌, ◌∙◌, List, ℕ, Bool, true, false, refl, ap, sym, length, take, drop, arith}
use Rattle.std.specs.Prelude.{nat_lt, if◌then◌else◌}
use Rattle.std.proofs.lemmas.Grind.{common_steps}
use Rattle.std.proofs.Math.Seq.{drop-drop}
use mir.Val.{bool_byte}
use Rattle.pi_outside.specs.Lines.{line_len}
use Rattle.pi_outside.specs.Ahead.{Ahead}
use Rattle.pi_outside.proofs.Pieces.{moves-front}
use Rattle.pi_outside.proofs.reader.LineReader.take_front.Goals as goal

whole-rest : (at : ℕ) (bytes : List ℕ) → take (length bytes - at) (drop at bytes) ≡ drop at bytes
whole-rest at bytes = grind (arith, common_steps)

byte-of : (b : Bool) → bool_byte b ≡ (if b then 1 else 0)
byte-of true = refl
byte-of false = refl

pub returns-clause-moves : goal.returns-clause-moves
returns-clause-moves c =
    let r = c.self.inside in
    let held : List ℕ = take r.to c.deref.result.now in
    let seen : List ℕ = take (length held - r.from) (drop r.from held) in
    let ahead : List ℕ = drop r.from (take r.to r.piece.items) in
    let before : Ahead = record { bytes = ahead; left = r.left; is_over = r.is_over } in
    let count = c.line_len-count.result in
    let same : seen ≡ ahead = whole-rest r.from held ∙ ap (λ (l : List ℕ). drop r.from (take r.to l)) c.deref.ensures.value in
    let size : length seen ≡ length ahead = ap length same in
    rw (← c.self.view_is) (moves-front c.args.longest before c.args.line.now.items c.keep.new.kept.items count (nat_lt count (length seen)) (drop (r.from + (count + c.from.result)) (take r.to r.piece.items))
    (c.line_len-count.ensures.value ∙ ap line_len same) (omega (arith, c.line_len-count.ensures.within, size)) (c.in_ok-keep.ensures.ok ∙ ap (λ (l : List ℕ). take c.args.longest (c.args.line.now.items ++ take count l)) same)
    (ap (nat_lt count) size) (sym (drop-drop (count + c.from.result) r.from (take r.to r.piece.items)) ∙ ap (λ n. drop (count + n) ahead) (c.from.ensures ∙ byte-of (nat_lt count (length seen)))))
