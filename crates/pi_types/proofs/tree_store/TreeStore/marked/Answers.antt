use Rattle.std.proofs.Common.{◌∙◌, ap}
use Rattle.std.specs.Prelude.{unwrap_or}
use Rattle.std.proofs.lemmas.Option.{unwrap_or-slice_get}
use Rattle.pi_types.proofs.tree_store.TreeStore.marked.Goals as goal

pub returns-in-None : goal.returns-in-None
returns-in-None c = ap (λ o. unwrap_or o c.args.self.now.present) c.in-None.ensures ∙ unwrap_or-slice_get c.args.self.now.earlier c.args.m c.args.self.now.present
