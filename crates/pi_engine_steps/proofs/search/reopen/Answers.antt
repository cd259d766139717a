use Rattle.pi_engine_arenas.specs.Arenas.{view_of}
use Rattle.pi_engine_stands.proofs.SearchAnswersOpen.{reopens}
use Rattle.pi_engine_steps.proofs.search.reopen.Goals as goal

pub returns : goal.returns
returns g c = λ x at is.
    let t = c.truncate.ensures in
    let b = c.come_back.ensures in
    let o = c.open.ensures in
    reopens (view_of c.args.arenas.now) (view_of c.truncate.new.self) (view_of c.come_back.new.self) (view_of c.open.new.self) c.args.level c.args.back x at is
    t.entries t.kept t.keeps t.frames t.collected b.frames b.back b.older b.kept b.entries b.collected o.level o.entries o.frames o.blocks o.collected
