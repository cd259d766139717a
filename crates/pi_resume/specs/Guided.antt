-- A guide as its callers see it.
use Rattle.std.specs.Prelude.{drop, is_some}
use Rattle.pi_resume.specs.declared.guide.Guide.TheInside as guide
use Rattle.pi_resume.specs.Following.{Following, path_of}

abbrev pub following_of : guide.Inside → Following
following_of g = record { resumes = is_some g.follow; ahead = drop g.passed (path_of g.follow); made = g.made }
