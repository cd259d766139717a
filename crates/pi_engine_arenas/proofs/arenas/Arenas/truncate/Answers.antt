use Rattle.std.proofs.Common.{◌≤◌, sym, ◌∙◌, ap, subst}
use Rattle.pi_engine_arenas.specs.Arenas.{newest, noted_by}
use Rattle.pi_engine_arenas.proofs.arenas.Arenas.truncate.Goals as goal

pub returns-clause-keeps : goal.returns-clause-keeps
returns-clause-keeps g c = λ m h few early.
    c.release.ensures.keeps m h
    (subst (λ n. m.slots ≤ n) c.release.ensures.kept few)
    (subst (λ n. m.trail ≤ n) (sym (c.kept_blocks-kept.ensures.trail ∙ ap (λ es. noted_by (newest es)) c.truncate.ensures.items)) early)
