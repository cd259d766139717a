use Rattle.std.proofs.Common.{List, sym, subst}
use Rattle.pi_constraints.specs.Store.{AreTerms}
use Rattle.pi_constraints.specs.declared.store.Ref.{Ref}
use Rattle.pi_store_blocks.proofs.BuiltLemmas.{puts_compound}
use Rattle.pi_store.specs.Holding.{seen}
use Rattle.pi_store.proofs.store.RawStore.put_built.Goals as goal

pub returns-clause-ok : goal.returns-clause-ok
returns-clause-ok c =
    let v = seen c.args.self.now in
    puts_compound v (seen c.put_comp.new.self) c.args.name.now c.args.count c.args.built.now.items c.take_last.new.built.items c.in_ok-args.args.items c.in_ok-made.made c.in_ok-args.ensures.taken c.in_ok-args.ensures.left c.put_comp.ensures.stays.keeps
    (λ ts are. c.in_ok-made.ensures.ok ts (subst (λ (rs : List Ref). AreTerms v rs ts) (sym c.deref.ensures.value) are))
