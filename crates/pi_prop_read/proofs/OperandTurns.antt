-- Each turn comes to the same whole.
use Rattle.std.specs.Prelude.{◌≡◌, ℕ, ◌<◌, ◌≤◌, List, [], ◌∷◌, ◌++◌, Result, Ok, Err, pos, refl}
use Rattle.std.proofs.Common.{arith, ◌∙◌, ap, sym, subst}
use Rattle.pi_constraints.specs.State.{next}
use Rattle.pi_constraints.specs.Store.{Moment}
use Rattle.pi_constraints.specs.declared.store.Ref.{Ref}
use Rattle.pi_prop_spec.specs.Operands.{Operand, number, variable, total, no_operand}
use Rattle.pi_prop_spec.specs.PostingSums.{Sum, of_number, of_variable}
use Rattle.pi_prop_spec.specs.Steps.{Refusal, Made, Known, Reading, after, then, step, read_operand}
use Rattle.pi_prop_made.specs.declared.stop.SumStop.{SumStop}
use Rattle.pi_prop_made.specs.declared.making.Making.{Making}
use Rattle.pi_prop_made.specs.Making.{Shows, ShowsReading, AllBelow}
use Rattle.pi_prop_read.specs.declared.operands.node.Binary.{Binary}
use Rattle.pi_prop_read.specs.declared.operands.node.Unary.{Unary}
use Rattle.pi_prop_read.specs.declared.operands.node.Node.{Node}
use Rattle.pi_prop_read.specs.declared.operands.frames.Frame.{Frame}
use Rattle.pi_prop_read.specs.declared.operands.frames.Turn.{Turn}
use Rattle.pi_prop_read.specs.declared.operands.stop.OperandStop.{OperandStop}
use Rattle.pi_prop_read.specs.Refs.{IsThere, value_at, operand_at, operands_at}
use Rattle.pi_prop_read.specs.OperandNodes.{unary_of, binary_of, sum_at, ShowsNode}
use Rattle.pi_prop_read.specs.OperandFrames.{combined, changed, come, back, stacked, FrameIs, FramesAre, AreThere, IsAt, IsTurn, HasRead, Refuses, ShowsTurn, turn_of}
use Rattle.pi_prop_read.proofs.AfterLemmas.{after_after, after_same, back-last, back-stacked}
use Rattle.pi_prop_read.proofs.BelowLemmas.{below-number, below-variable, below_more, GrownFrom, combined-grows, changed-grows}

-- ---- what waits

frames-more : (w : Moment) (n k : ℕ) (fs : List Frame) → n ≤ k → FramesAre w n fs → FramesAre w k fs
unfolding FramesAre
frames-more w n k [] l h = tt
frames-more w n k (Frame.Left o r ∷ fs) l h = (h.0, frames-more w n k fs l h.1)
frames-more w n k (Frame.Right o u ∷ fs) l h = (below_more n k u.terms l h.0, frames-more w n k fs l h.1)
frames-more w n k (Frame.Under o ∷ fs) l h = (h.0, frames-more w n k fs l h.1)

frames-append : (w : Moment) (n : ℕ) (fs gs : List Frame) → FramesAre w n fs → FramesAre w n gs → FramesAre w n (fs ++ gs)
unfolding FramesAre
frames-append w n [] gs h k = k
frames-append w n (f ∷ fs) gs h k = (h.0, frames-append w n fs gs h.1 k)

one-more : (w : Moment) (n : ℕ) (fs : List Frame) (f : Frame) → FramesAre w n fs → FrameIs w n f → FramesAre w n (fs ++ f ∷ [])
unfolding FramesAre
one-more w n fs f h k = frames-append w n fs (f ∷ []) h (k, tt)

all-but-last : (w : Moment) (n : ℕ) (fs : List Frame) (f : Frame) → FramesAre w n (fs ++ f ∷ []) → FramesAre w n fs × FrameIs w n f
unfolding FramesAre
all-but-last w n [] f h = (tt, h.0)
all-but-last w n (g ∷ fs) f h = let rest : FramesAre w n fs × FrameIs w n f = all-but-last w n fs f h.1 in ((h.0, rest.0), rest.1)

stacked-there : (w : Moment) (n : ℕ) (rs : List Ref) → AreThere w rs → FramesAre w n (stacked rs)
unfolding AreThere FramesAre stacked
stacked-there w n [] h = tt
stacked-there w n (r ∷ rs) h = one-more w n (stacked rs) (Frame.Left Binary.Plus r) (stacked-there w n rs h.1) h.0

-- ---- an operand is begun

abbrev Whole : Type 0
Whole = Result (Known Sum) Refusal

-- what the operand is known to be
as-operand : (w : Moment) (a : Making) (r : Ref) (x : Operand) (fs : List Frame) (whole : Whole) → (t : IsTurn w a (Turn.Read r) fs whole) → operand_at w r ≡ x → after (read_operand x t.made) (back w fs) ≡ whole
as-operand w a r x fs whole t e = ap (λ y. after (read_operand y t.made) (back w fs)) (sym e) ∙ t.goes

pub begin-variable : (w : Moment) (a : Making) (r : Ref) (n : ℕ) (u : Sum) (fs : List Frame) (whole : Whole) → ShowsNode w r (Node.Variable n) → u ≡ of_variable n → IsTurn w a (Turn.Read r) fs whole → IsTurn w a (Turn.Have u) fs whole
unfolding read_operand
begin-variable w a r n u fs whole s e t =
    let below : n < t.made.unused = omega (arith, s.parts, t.enough) in
    record {
      made = t.made;
      shown = t.shown;
      enough = t.enough;
      frames = t.frames;
      is_here = subst (λ (v : Sum). AllBelow t.made.unused v.terms) (sym e) (below-variable t.made.unused n below);
      goes = ap (λ v. back w fs v t.made) e ∙ as-operand w a r (variable n) fs whole t s.is;
    }

pub begin-number : (w : Moment) (a : Making) (r : Ref) (i : _) (u : Sum) (fs : List Frame) (whole : Whole) → ShowsNode w r (Node.Number i) → u ≡ of_number i → IsTurn w a (Turn.Read r) fs whole → IsTurn w a (Turn.Have u) fs whole
unfolding read_operand
begin-number w a r i u fs whole s e t = record {
  made = t.made;
  shown = t.shown;
  enough = t.enough;
  frames = t.frames;
  is_here = subst (λ (v : Sum). AllBelow t.made.unused v.terms) (sym e) (below-number t.made.unused i);
  goes = ap (λ v. back w fs v t.made) e ∙ as-operand w a r (number i) fs whole t s.is;
}

one-reads : (o : Unary) (x : Operand) (m : Made) → read_operand (unary_of o x) m ≡ after (read_operand x m) (changed o)
unfolding read_operand
one-reads Unary.Positive x m = refl
one-reads Unary.Negative x m = refl
one-reads Unary.Absolute x m = refl

two-reads : (o : Binary) (x y : Operand) (m : Made) → read_operand (binary_of o x y) m ≡ after (read_operand x m) (λ u. then (read_operand y) (combined o u))
unfolding read_operand
two-reads Binary.Plus x y m = refl
two-reads Binary.Minus x y m = refl
two-reads Binary.Times x y m = refl

-- another frame waits for an operand in this one
pushed : (w : Moment) (a : Making) (r q : Ref) (f : Frame) (x : Operand) (fs gs : List Frame) (whole : Whole) → gs ≡ fs ++ f ∷ [] → operand_at w r ≡ x → IsThere w q → ((n : ℕ) → FrameIs w n f)
    → ((m : Made) → read_operand x m ≡ after (read_operand (operand_at w q) m) (come w f)) → IsTurn w a (Turn.Read r) fs whole → IsTurn w a (Turn.Read q) gs whole
pushed w a r q f x fs gs whole e is here there reads t = subst (λ hs. IsTurn w a (Turn.Read q) hs whole) (sym e) (record {
  made = t.made;
  shown = t.shown;
  enough = t.enough;
  frames = one-more w t.made.unused fs f t.frames (there t.made.unused);
  is_here = here;
  goes = after_same (read_operand (operand_at w q) t.made) (back w (fs ++ f ∷ [])) (λ u. then (come w f u) (back w fs)) (back-last w fs f)
      ∙ (sym (after_after (read_operand (operand_at w q) t.made) (come w f) (back w fs))
      ∙ (ap (λ o. after o (back w fs)) (sym (reads t.made)) ∙ as-operand w a r x fs whole t is));
})

pub begin-one : (w : Moment) (a : Making) (r q : Ref) (o : Unary) (fs gs : List Frame) (whole : Whole) → ShowsNode w r (Node.One o q) → gs ≡ fs ++ Frame.Under o ∷ [] → IsTurn w a (Turn.Read r) fs whole → IsTurn w a (Turn.Read q) gs whole
begin-one w a r q o fs gs whole s e t = pushed w a r q (Frame.Under o) (unary_of o (operand_at w q)) fs gs whole e s.is s.parts (λ n. tt) (one-reads o (operand_at w q)) t

pub begin-two : (w : Moment) (a : Making) (r p q : Ref) (o : Binary) (fs gs : List Frame) (whole : Whole) → ShowsNode w r (Node.Two o p q) → gs ≡ fs ++ Frame.Left o q ∷ [] → IsTurn w a (Turn.Read r) fs whole → IsTurn w a (Turn.Read p) gs whole
begin-two w a r p q o fs gs whole s e t =
    pushed w a r p (Frame.Left o q) (binary_of o (operand_at w p) (operand_at w q)) fs gs whole e s.is s.parts.0 (λ n. s.parts.1) (two-reads o (operand_at w p) (operand_at w q)) t

pub begin-other : (w : Moment) (a : Making) (r : Ref) (fs : List Frame) (whole : Whole) → ShowsNode w r Node.Other → IsTurn w a (Turn.Read r) fs whole → Refuses w (OperandStop.NotLinear r) whole
unfolding read_operand
begin-other w a r fs whole s t = (t.is_here, sym (as-operand w a r (no_operand (value_at w r)) fs whole t s.is))

-- ---- `sum`

abbrev pub BeginsSum : Moment → Making → Ref → List Frame → Whole → Type 0
BeginsSum w a q fs whole = IsAt w a (λ n. IsThere w q) (read_operand (sum_at w q)) fs whole

pub begin-items : (w : Moment) (a : Making) (q : Ref) (rs : List Ref) (u : Sum) (fs gs : List Frame) (whole : Whole) → sum_at w q ≡ total (operands_at w rs) → AreThere w rs → gs ≡ fs ++ stacked rs → u ≡ of_number (pos 0) → BeginsSum w a q fs whole → IsTurn w a (Turn.Have u) gs whole
unfolding read_operand
begin-items w a q rs u fs gs whole is are e zero t = subst (λ hs. IsTurn w a (Turn.Have u) hs whole) (sym e) (record {
  made = t.made;
  shown = t.shown;
  enough = t.enough;
  frames = frames-append w t.made.unused fs (stacked rs) t.frames (stacked-there w t.made.unused rs are);
  is_here = subst (λ (v : Sum). AllBelow t.made.unused v.terms) (sym zero) (below-number t.made.unused (pos 0));
  goes = ap (λ v. back w (fs ++ stacked rs) v t.made) zero
      ∙ (back-stacked w fs rs (of_number (pos 0)) t.made ∙ (ap (λ x. after (read_operand x t.made) (back w fs)) (sym is) ∙ t.goes));
})

pub begin-none : (w : Moment) (a : Making) (q : Ref) (fs : List Frame) (whole : Whole) → sum_at w q ≡ no_operand (value_at w q) → BeginsSum w a q fs whole → Refuses w (OperandStop.NotLinear q) whole
unfolding read_operand
begin-none w a q fs whole is t = (t.is_here, sym (ap (λ x. after (read_operand x t.made) (back w fs)) (sym is) ∙ t.goes))

-- ---- a sum comes to what waits for it

came : (w : Moment) (a : Making) (f : Frame) (u : Sum) (fs : List Frame) (whole : Whole) → (t : IsTurn w a (Turn.Have u) (fs ++ f ∷ []) whole) → after (come w f u t.made) (back w fs) ≡ whole
came w a f u fs whole t = sym (back-last w fs f u t.made) ∙ t.goes

pub come-left : (w : Moment) (a : Making) (o : Binary) (r : Ref) (u : Sum) (fs gs : List Frame) (whole : Whole) → gs ≡ fs ++ Frame.Right o u ∷ [] → IsTurn w a (Turn.Have u) (fs ++ Frame.Left o r ∷ []) whole → IsTurn w a (Turn.Read r) gs whole
come-left w a o r u fs gs whole e t =
    let parts = all-but-last w t.made.unused fs (Frame.Left o r) t.frames in
    let own : Whole = read_operand (operand_at w r) t.made in
    subst (λ hs. IsTurn w a (Turn.Read r) hs whole) (sym e) (record {
      made = t.made;
      shown = t.shown;
      enough = t.enough;
      frames = one-more w t.made.unused fs (Frame.Right o u) parts.0 t.is_here;
      is_here = parts.1;
      goes = after_same own (back w (fs ++ Frame.Right o u ∷ [])) (λ v. then (combined o u v) (back w fs)) (back-last w fs (Frame.Right o u))
          ∙ (sym (after_after own (combined o u) (back w fs)) ∙ came w a (Frame.Left o r) u fs whole t);
    })

-- a step that was made, with what waits behind it
stepped : (w : Moment) (new : Making) (fs : List Frame) (whole : Whole) (m : Made) (r : Reading Sum) (x : Result Sum SumStop) → next w.state ≤ m.unused → FramesAre w m.unused fs → GrownFrom m.unused (r m) → after (r m) (back w fs) ≡ whole → ShowsReading r m new x → ShowsTurn w new (turn_of x) fs whole
stepped w new fs whole m r (Ok u) enough frames grown goes s =
    let g : GrownFrom m.unused (Ok (record { what = u; made = s.made })) = subst (GrownFrom m.unused) s.is grown in
    record {
      made = s.made;
      shown = s.shown;
      enough = omega (arith, enough, g.0);
      frames = frames-more w m.unused s.made.unused fs g.0 frames;
      is_here = g.1;
      goes = ap (λ o. after o (back w fs)) (sym s.is) ∙ goes;
    }
stepped w new fs whole m r (Err SumStop.Wide) enough frames grown goes s = sym goes ∙ ap (λ o. after o (back w fs)) s
stepped w new fs whole m r (Err SumStop.Memory) enough frames grown goes s = tt

pub come-right : (w : Moment) (old new : Making) (o : Binary) (u v : Sum) (x : Result Sum SumStop) (fs : List Frame) (whole : Whole)
    → ((m : Made) → Shows old m → AllBelow m.unused u.terms → AllBelow m.unused v.terms → ShowsReading (combined o u v) m new x) → IsTurn w old (Turn.Have v) (fs ++ Frame.Right o u ∷ []) whole → ShowsTurn w new (turn_of x) fs whole
come-right w old new o u v x fs whole makes t =
    let parts = all-but-last w t.made.unused fs (Frame.Right o u) t.frames in
    stepped w new fs whole t.made (combined o u v) x t.enough parts.0 (combined-grows o u v t.made parts.1 t.is_here) (came w old (Frame.Right o u) v fs whole t) (makes t.made t.shown parts.1 t.is_here)

pub come-under : (w : Moment) (old new : Making) (o : Unary) (u : Sum) (x : Result Sum SumStop) (fs : List Frame) (whole : Whole)
    → ((m : Made) → Shows old m → AllBelow m.unused u.terms → ShowsReading (changed o u) m new x) → IsTurn w old (Turn.Have u) (fs ++ Frame.Under o ∷ []) whole → ShowsTurn w new (turn_of x) fs whole
come-under w old new o u x fs whole makes t =
    let parts = all-but-last w t.made.unused fs (Frame.Under o) t.frames in
    stepped w new fs whole t.made (changed o u) x t.enough parts.0 (changed-grows o u t.made t.is_here) (came w old (Frame.Under o) u fs whole t) (makes t.made t.shown t.is_here)

pub come-done : (w : Moment) (a : Making) (u : Sum) (fs : List Frame) (whole : Whole) → fs ≡ [] → IsTurn w a (Turn.Have u) fs whole → HasRead w a u whole
unfolding back
come-done w a u fs whole none t = record {
  made = t.made;
  is = sym (ap (λ gs. back w gs u t.made) (sym none) ∙ t.goes);
  shown = t.shown;
  enough = t.enough;
  below = t.is_here;
}
