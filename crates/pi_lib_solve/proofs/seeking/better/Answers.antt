use Rattle.std.proofs.Common.{◌≡◌, subst, to_z, of_z}
use Rattle.std.specs.Int.{w128}
use Rattle.std.proofs.lemmas.Int.{to_z-of_z}
use Rattle.pi_terms.specs.Tree.{int}
use Rattle.pi_constraints.specs.Store.{Gives}
use Rattle.pi_lib_constraints.specs.Names.{comparison_name}
use Rattle.pi_settling.specs.Rounds.{better_sign}
use Rattle.pi_lib_solve.proofs.SeekLemmas.{better-shown}
use Rattle.pi_lib_solve.proofs.seeking.better.Goals as goal

pub returns-clause-shows : goal.returns-clause-shows
returns-clause-shows g c = λ t is at.
    let v = g.S.StateStore.seen c.args.s.now in
    let m = g.S.StateStore.seen c.put_int.new.self in
    let same : to_z w128 (of_z w128 c.args.value) ≡ c.args.value = to_z-of_z w128 c.args.value c.ranges.value in
    let put = subst (λ i. Gives v m v.now.state c.in_ok-bound.bound (int i)) same c.in_ok-bound.ensures.ok in
    better-shown v m (g.S.StateStore.seen c.post_relation.new.s) c.post_relation.result c.args.expression c.in_ok-bound.bound (comparison_name c.better_comparison.result) (better_sign c.args.greatest) t (int c.args.value) is at put
    c.better_comparison.ensures c.post_relation.ensures.shows
