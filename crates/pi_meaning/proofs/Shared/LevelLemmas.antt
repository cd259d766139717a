-- Levels, the deeper above, are in order.
use Rattle.std.proofs.Common.{◌≡◌, ℕ, zero, suc, List, Option, Some, None, refl}
use Rattle.pi_meaning.specs.CoreMeaning.Builtins.{Builtins}
use Rattle.pi_core.specs.CoreTree.{PredTree}
use Rattle.pi_meaning.specs.Shared.Level.{Level, lowest, over, lower, level_of, Calls, CallsBelow, LevelBelow, calls_at}
use Rattle.pi_meaning.specs.CoreMeaning.Rules.{calls_of, quiet_level}
use Rattle.pi_traces.proofs.BelowLemmas.{below-refl, below-trans}
use Rattle.pi_meaning.proofs.CoreMeaning.MeaningLemmas.{calls-below}

pub calls-itself : (c : Calls) → CallsBelow c c
calls-itself c = record { called = λ name ts s. below-refl (c.called name ts s); applied = λ name ts s. below-refl (c.applied name ts s); drained = λ s. below-refl (c.drained s) }

pub calls-further : (c d e : Calls) → CallsBelow c d → CallsBelow d e → CallsBelow c e
calls-further c d e a b = record {
  called = λ name ts s. below-trans (c.called name ts s) (d.called name ts s) (e.called name ts s) (a.called name ts s) (b.called name ts s);
  applied = λ name ts s. below-trans (c.applied name ts s) (d.applied name ts s) (e.applied name ts s) (a.applied name ts s) (b.applied name ts s);
  drained = λ s. below-trans (c.drained s) (d.drained s) (e.drained s) (a.drained s) (b.drained s);
}

pub level-itself : (l : Level) → LevelBelow l l
level-itself (lowest c) = calls-itself c
level-itself (over c l) = (calls-itself c, level-itself l)

pub level-further : (l m n : Level) → LevelBelow l m → LevelBelow m n → LevelBelow l n
level-further (lowest c) m n a b = calls-further c (calls_at m) (calls_at n) a (calls-below m n b)
level-further (over c l) (lowest d) n a b = absurd a
level-further (over c l) (over d m) (lowest e) a b = absurd b
level-further (over c l) (over d m) (over e n) a b = (calls-further c d e a.0 b.0, level-further l m n a.1 b.1)

-- ---- where a Tick leads

lower-of : (c : Calls) (below : Option Level) → lower (level_of c below) ≡ below
lower-of c None = refl
lower-of c (Some l) = refl

pub quiet-keeps-depth : (b : Builtins) (preds : List PredTree) (below : Option Level) (k : ℕ) → lower (quiet_level b preds below k) ≡ below
unfolding quiet_level
quiet-keeps-depth b preds below zero = lower-of (calls_of b preds None below) below
quiet-keeps-depth b preds below (suc k) = lower-of (calls_of b preds (Some (quiet_level b preds below k)) below) below
