use Rattle.pi_resume.specs.Following.{path_of}
use Rattle.pi_resume.proofs.TokenLemmas.{passed-one}
use Rattle.pi_resume.proofs.guide.Guide.took.Goals as goal

pub returns-then-self-len-clause-ahead : goal.returns-then-self-len-clause-ahead
returns-then-self-len-clause-ahead c = rw (← c.self.view_is) (passed-one (path_of c.self.inside.follow) c.self.inside.passed)
