-- Paths that are too long to be told. In the run that tells the path of each answer, an exception stands in place of the first answer whose path has more numbers than may be
-- told, and of all that is behind it. How many those are is handed in; picatq's limit is that of the texts of paths. (Own.)
use Rattle.std.specs.Prelude.{ℕ, cond, length, nat_lt, codes}
use Rattle.pi_terms.specs.Tree.{atom}
use Rattle.pi_traces.specs.Trace.{end, note, ans, End, Raise}
use Rattle.pi_resume_spec.specs.Ways.{Ways}
use Rattle.pi_resume_spec.specs.Resumed.{Following, on_way, reached, cut_off, bad}

abbrev pub path_too_long : End
path_too_long = Raise (atom (codes "path_too_long"))

unfoldable pub told_paths : {A : Type 0} → ℕ → Ways A → Ways A
told_paths most (end e) = end e
told_paths most (note n t) = note n (told_paths most t)
told_paths most (ans w t) = cond (nat_lt most (length w.path)) (end path_too_long) (ans w (told_paths most t))

-- the same of what stands behind the answer to which numbers lead; that answer itself isn't given, so its path isn't told
unfoldable pub told_behind : {A : Type 0} → ℕ → Following A → Following A
told_behind most (on_way n f) = on_way n (told_behind most f)
told_behind most (reached made x left later) = reached made x left (told_paths most later)
told_behind most (cut_off e) = cut_off e
told_behind most bad = bad
