-- The machine's steps end with a tree exactly where the terminals have it.
use Rattle.std.proofs.Common.{◌≡◌, ◌<◌, ◌≤◌, Bool, true, false, List, [], ◌∷◌, map, refl, subst, arith, nat_lt, if◌then◌else◌}
use Rattle.std.proofs.lemmas.Bool.Decides.{nat_tests}
use Rattle.pi_syntax.specs.ExpTree.{ExpTree}
use Rattle.pi_syntax.specs.Terminals.{Terminal, terminal}
use Rattle.pi_syntax.specs.Tokens.{Token}
use Rattle.pi_syntax.specs.Ranks.{rank, reach_of}
use Rattle.pi_syntax.specs.Grammar.{Phrase, exp, Reads, HasExp}
use Rattle.pi_expr_phrases.specs.Machine.{Frame, State, operand, value, Outcome, wanted, continue, resume_last, step, begin, Runs, stop, go}
use Rattle.pi_expr.proofs.Sound.{Stacked, Held, Good, GoodOutcome, holds_exp, reads_from}
use Rattle.pi_expr.proofs.SoundSteps.{good_enter, good_continue, good_resume}

good_last : (start : List Terminal) (fs : List Frame) (k : Phrase) (b : Bool) (e : ExpTree) (before ts : List Terminal) → Stacked start fs before
    → Held k b before e ts → wanted fs ≤ rank k → reach_of ts < wanted fs → GoodOutcome start (resume_last fs e ts)
good_last start [] k b e before [] st d w r = reads_from st (holds_exp k r d)
good_last start [] k b e before (t ∷ ts) st d w r = tt
good_last start (f ∷ fs) k b e before ts st d w r = good_resume start f fs k b e before ts st d w r

good_value : (start : List Terminal) (fs : List Frame) (k : Phrase) (b : Bool) (e : ExpTree) (before ts : List Terminal) → Stacked start fs before
    → Held k b before e ts → wanted fs ≤ rank k → (c : Bool) → nat_lt (reach_of ts) (wanted fs) ≡ c
    → GoodOutcome start (if c then resume_last fs e ts else continue fs k b e ts)
good_value start fs k b e before ts st d w true p = good_last start fs k b e before ts st d w (grind (arith, nat_tests))
good_value start fs k b e before ts st d w false p = good_continue start fs k b e before ts st d (grind (arith, nat_tests))

pub good_step : (start : List Terminal) (s : State) → Good start s → GoodOutcome start (step s)
unfolding step
good_step start (operand fs ts) g = good_enter start fs ts g
good_step start (value fs k b e ts) g = good_value start fs k b e g.0 ts g.1 g.2 g.3 (nat_lt (reach_of ts) (wanted fs)) refl

pub reads_of_runs : {s : State} {e : ExpTree} (start : List Terminal) → Good start s → Runs s e → Reads exp start e []
reads_of_runs {s} start g (stop p) = subst (λ (o : Outcome). GoodOutcome start o) p (good_step start s g)
reads_of_runs {s} start g (go n p r) = reads_of_runs start (subst (λ (o : Outcome). GoodOutcome start o) p (good_step start s g)) r

pub runs_from : (tokens : List Token) (e : ExpTree) → Runs (begin (map terminal tokens)) e → HasExp tokens e
runs_from tokens e r = reads_of_runs (map terminal tokens) refl r
