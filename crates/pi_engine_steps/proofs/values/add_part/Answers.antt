use Rattle.std.proofs.Common.{◌<◌, List, ◌++◌, ◌∷◌, [], ◌∙◌, sym, ap, subst}
use Rattle.pi_terms.specs.Tree.{comp}
use Rattle.pi_constraints.specs.Store.{AreTerms, IsTerm}
use Rattle.pi_constraints.specs.declared.store.Ref.{Ref}
use Rattle.pi_unify.specs.Copying.{AreBuilt}
use Rattle.pi_engine_code.specs.declared.code.Part.{Part}
use Rattle.pi_engine_arenas.specs.Arenas.{view_of, between}
use Rattle.pi_engine_code.specs.Code.{tables_of}
use Rattle.pi_engine_stands.specs.Here.{IsReadablePart}
use Rattle.pi_engine_arenas.specs.Frames.{slot_number}
use Rattle.pi_engine_stands.specs.Evaluates.{Writes, part_on, IsFilledPart}
use Rattle.pi_engine_stands.proofs.BuiltLemmas.{part-known, part-slot, part-compound}
use Rattle.pi_engine_steps.proofs.values.add_part.Goals as goal
use Rattle.pi_engine_steps.proofs.values.add_part.Goals.{in-Known, in-Slot+in_ok-term-in-Slot, in-Compound+in_ok-take_arguments-in-Compound+in_ok-term-in-Compound}

pub returns-clause-ok : goal.returns-clause-ok
returns-clause-ok g c = λ t b f us at extend readable filled holds built.
    let v = g.S.StateStore.seen c.args.run.now.store in
    let a = view_of c.args.run.now.arenas in
    let T = tables_of t c.args.code.now in
    let new = c.push.new.self.items in
    elim c.match-part.branch [
      | in-Known w ↦ (let r = w.in-Known.term in
          subst (λ run. Writes b (between v (g.S.StateStore.seen run.store) a (view_of run.arenas)) f v.now.state × AreBuilt (g.S.StateStore.seen run.store) new (part_on T c.args.part f v.now.state us)) (sym w.run-is)
          (subst (λ p. Writes b (between v v a a) f v.now.state × AreBuilt v new (part_on T p f v.now.state us)) (sym w.in-Known.is)
          (part-known b v a T f us c.args.run.now.made.items new r extend (subst (λ (p : Part). IsReadablePart t b p) w.in-Known.is readable) holds built
          (c.in_ok-push.ensures.items ∙ ap (λ run. run.made.items ++ c.match-part.term ∷ []) w.run-is ∙ ap (λ q. c.args.run.now.made.items ++ q ∷ []) w.term-is))))
      | in-Slot+in_ok-term-in-Slot w ↦ (let k = w.in-Slot.k in
          let r = w.in_ok-term-in-Slot.term in
          let less : k < b.count = subst (λ (p : Part). IsReadablePart t b p) w.in-Slot.is readable in
          let after = w.slot_value.new.run in
          subst (λ run. Writes b (between v (g.S.StateStore.seen run.store) a (view_of run.arenas)) f v.now.state × AreBuilt (g.S.StateStore.seen run.store) new (part_on T c.args.part f v.now.state us)) (sym w.run-is)
          (subst (λ p. Writes b (between v (g.S.StateStore.seen after.store) a (view_of after.arenas)) f v.now.state × AreBuilt (g.S.StateStore.seen after.store) new (part_on T p f v.now.state us)) (sym w.in-Slot.is)
          (part-slot b v (g.S.StateStore.seen after.store) a (view_of after.arenas) T f us c.args.run.now.made.items new k r (subst (λ (p : Part). IsFilledPart f p) w.in-Slot.is filled)
          (w.in_ok-term-in-Slot.ensures.ok b k f (w.slot_at.ensures ∙ ap (λ n. slot_number n k) at) less holds) built
          (c.in_ok-push.ensures.items ∙ ap (λ run. run.made.items ++ c.match-part.term ∷ []) w.run-is ∙ ap (λ q. after.made.items ++ q ∷ []) w.term-is
          ∙ ap (λ m. m.items ++ r ∷ []) w.in_ok-term-in-Slot.ensures.made))))
      | in-Compound+in_ok-take_arguments-in-Compound+in_ok-term-in-Compound w ↦ (let i = w.in-Compound.name in
          let k = w.in-Compound.count in
          let r = w.in_ok-term-in-Compound.term in
          let x = g.S.StateStore.seen w.put_comp.new.self in
          let args = w.take_arguments.new.arguments.items in
          subst (λ run. Writes b (between v (g.S.StateStore.seen run.store) a (view_of run.arenas)) f v.now.state × AreBuilt (g.S.StateStore.seen run.store) new (part_on T c.args.part f v.now.state us)) (sym w.run-is)
          (subst (λ p. Writes b (between v x a a) f v.now.state × AreBuilt x new (part_on T p f v.now.state us)) (sym w.in-Compound.is)
          (part-compound b v x a T f us c.args.run.now.made.items w.take_arguments.new.made.items args new i k r holds built
          w.in_ok-take_arguments-in-Compound.ensures.taken w.in_ok-take_arguments-in-Compound.ensures.left w.in_ok-term-in-Compound.ensures.stays
          (λ ts are. subst (λ name. IsTerm x r (comp name ts)) w.name.ensures (w.in_ok-term-in-Compound.ensures.ok ts (subst (λ (rs : List Ref). AreTerms v rs ts) (sym w.deref.ensures.value) are)))
          (c.in_ok-push.ensures.items ∙ ap (λ run. run.made.items ++ c.match-part.term ∷ []) w.run-is ∙ ap (λ q. w.take_arguments.new.made.items ++ q ∷ []) w.term-is))))
    ]
