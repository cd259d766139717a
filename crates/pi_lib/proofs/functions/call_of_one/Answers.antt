use Rattle.std.proofs.Common.{Ok, refl}
use Rattle.pi_unify.proofs.KeepsLemmas.{keeps_none}
use Rattle.pi_constraints.specs.Store.{Stays}
use Rattle.pi_lib_builtin.specs.declared.functions.FunctionOfOne.{FunctionOfOne}
use Rattle.pi_lib.proofs.FunctionBodies.{one-shown, one-made}
use Rattle.pi_lib.proofs.functions.call_of_one.Goals as goal

pub returns-in-Same-clause-shows : goal.returns-in-Same-clause-shows
returns-in-Same-clause-shows g c = λ t e a is done.
    one-shown (g.S.StateStore.seen c.args.s.now) (g.S.StateStore.seen c.same_integer.new.s) c.same_integer.result c.args.function FunctionOfOne.Same t e _ c.in-Same.is refl c.same_integer.ensures.stays (c.same_integer.ensures.shows t a is) done

pub returns-in-Negate-clause-shows : goal.returns-in-Negate-clause-shows
returns-in-Negate-clause-shows g c = λ t e a is done.
    one-shown (g.S.StateStore.seen c.args.s.now) (g.S.StateStore.seen c.evaluate_one.new.s) c.evaluate_one.result c.args.function FunctionOfOne.Negate t e _ c.in-Negate.is refl c.evaluate_one.ensures.stays (c.evaluate_one.ensures.shows t a is) done

pub returns-in-Magnitude-clause-shows : goal.returns-in-Magnitude-clause-shows
returns-in-Magnitude-clause-shows g c = λ t e a is done.
    one-shown (g.S.StateStore.seen c.args.s.now) (g.S.StateStore.seen c.evaluate_one-in-Magnitude.new.s) c.evaluate_one-in-Magnitude.result c.args.function FunctionOfOne.Magnitude t e _ c.in-Magnitude.is refl c.evaluate_one-in-Magnitude.ensures.stays (c.evaluate_one-in-Magnitude.ensures.shows t a is) done

pub returns-in-Sign-clause-shows : goal.returns-in-Sign-clause-shows
returns-in-Sign-clause-shows g c = λ t e a is done.
    one-shown (g.S.StateStore.seen c.args.s.now) (g.S.StateStore.seen c.evaluate_one-in-Sign.new.s) c.evaluate_one-in-Sign.result c.args.function FunctionOfOne.Sign t e _ c.in-Sign.is refl c.evaluate_one-in-Sign.ensures.stays (c.evaluate_one-in-Sign.ensures.shows t a is) done

pub returns-in-Complement-clause-shows : goal.returns-in-Complement-clause-shows
returns-in-Complement-clause-shows g c = λ t e a is done.
    one-shown (g.S.StateStore.seen c.args.s.now) (g.S.StateStore.seen c.evaluate_one-in-Complement.new.s) c.evaluate_one-in-Complement.result c.args.function FunctionOfOne.Complement t e _ c.in-Complement.is refl c.evaluate_one-in-Complement.ensures.stays (c.evaluate_one-in-Complement.ensures.shows t a is) done

pub returns-in-Name-clause-shows : goal.returns-in-Name-clause-shows
returns-in-Name-clause-shows g c = λ t e a is done.
    one-shown (g.S.StateStore.seen c.args.s.now) (g.S.StateStore.seen c.name_of.new.s) c.name_of.result c.args.function FunctionOfOne.Name t e _ c.in-Name.is refl c.name_of.ensures.stays (c.name_of.ensures.shows t a is) done

pub returns-in-Arity-clause-shows : goal.returns-in-Arity-clause-shows
returns-in-Arity-clause-shows g c = λ t e a is done.
    one-shown (g.S.StateStore.seen c.args.s.now) (g.S.StateStore.seen c.arity_of.new.s) c.arity_of.result c.args.function FunctionOfOne.Arity t e _ c.in-Arity.is refl c.arity_of.ensures.stays (c.arity_of.ensures.shows t a is) done

pub returns-in-ToString-clause-shows : goal.returns-in-ToString-clause-shows
returns-in-ToString-clause-shows g c = λ t e a is done.
    one-shown (g.S.StateStore.seen c.args.s.now) (g.S.StateStore.seen c.to_string.new.s) c.to_string.result c.args.function FunctionOfOne.ToString t e _ c.in-ToString.is refl c.to_string.ensures.stays (c.to_string.ensures.shows t a is) done

pub returns-in-NewList-clause-shows : goal.returns-in-NewList-clause-shows
returns-in-NewList-clause-shows g c = λ t e a is done.
    one-made (g.S.StateStore.seen c.args.s.now) (g.S.StateStore.seen c.new_list.new.s) c.new_list.result c.args.function FunctionOfOne.NewList t e c.in-NewList.is (c.new_list.ensures.shows t a is) done

pub returns-in-NewList-clause-keeps : goal.returns-in-NewList-clause-keeps
returns-in-NewList-clause-keeps g c = c.new_list.ensures.makes.1.keeps

pub returns-in-NewArray-clause-shows : goal.returns-in-NewArray-clause-shows
returns-in-NewArray-clause-shows g c = λ t e a is done.
    one-made (g.S.StateStore.seen c.args.s.now) (g.S.StateStore.seen c.new_array.new.s) c.new_array.result c.args.function FunctionOfOne.NewArray t e c.in-NewArray.is (c.new_array.ensures.shows t a is) done

pub returns-in-NewArray-clause-keeps : goal.returns-in-NewArray-clause-keeps
returns-in-NewArray-clause-keeps g c = c.new_array.ensures.makes.1.keeps

pub returns-in-CopyTerm-clause-shows : goal.returns-in-CopyTerm-clause-shows
returns-in-CopyTerm-clause-shows g c = λ t e a is done.
    one-made (g.S.StateStore.seen c.args.s.now) (g.S.StateStore.seen c.copy_term.new.s) c.copy_term.result c.args.function FunctionOfOne.CopyTerm t e c.in-CopyTerm.is (c.copy_term.ensures.shows t a is) done

pub returns-in-CopyTerm-clause-keeps : goal.returns-in-CopyTerm-clause-keeps
returns-in-CopyTerm-clause-keeps g c = c.copy_term.ensures.makes.1.keeps

pub returns-in-Itself-clause-shows : goal.returns-in-Itself-clause-shows
returns-in-Itself-clause-shows g c = λ t e a is done.
    let v = g.S.StateStore.seen c.args.s.now in
    let stays : Stays v v = record { keeps = keeps_none v; state = refl } in
    one-shown v v (Ok c.args.a) c.args.function FunctionOfOne.Itself t e _ c.in-Itself.is refl stays (t, refl, is) done

pub returns-in-InOrder-clause-shows : goal.returns-in-InOrder-clause-shows
returns-in-InOrder-clause-shows g c = λ t e a is done.
    one-shown (g.S.StateStore.seen c.args.s.now) (g.S.StateStore.seen c.in_order.new.s) c.in_order.result c.args.function FunctionOfOne.InOrder t e _ c.in-InOrder.is refl c.in_order.ensures.stays (c.in_order.ensures.shows t a is) done

pub returns-in-Same-clause-keeps : goal.returns-in-Same-clause-keeps
returns-in-Same-clause-keeps g c = c.same_integer.ensures.stays.keeps

pub returns-in-Negate-clause-keeps : goal.returns-in-Negate-clause-keeps
returns-in-Negate-clause-keeps g c = c.evaluate_one.ensures.stays.keeps

pub returns-in-Magnitude-clause-keeps : goal.returns-in-Magnitude-clause-keeps
returns-in-Magnitude-clause-keeps g c = c.evaluate_one-in-Magnitude.ensures.stays.keeps

pub returns-in-Sign-clause-keeps : goal.returns-in-Sign-clause-keeps
returns-in-Sign-clause-keeps g c = c.evaluate_one-in-Sign.ensures.stays.keeps

pub returns-in-Complement-clause-keeps : goal.returns-in-Complement-clause-keeps
returns-in-Complement-clause-keeps g c = c.evaluate_one-in-Complement.ensures.stays.keeps

pub returns-in-Name-clause-keeps : goal.returns-in-Name-clause-keeps
returns-in-Name-clause-keeps g c = c.name_of.ensures.stays.keeps

pub returns-in-Arity-clause-keeps : goal.returns-in-Arity-clause-keeps
returns-in-Arity-clause-keeps g c = c.arity_of.ensures.stays.keeps

pub returns-in-ToString-clause-keeps : goal.returns-in-ToString-clause-keeps
returns-in-ToString-clause-keeps g c = c.to_string.ensures.stays.keeps

pub returns-in-InOrder-clause-keeps : goal.returns-in-InOrder-clause-keeps
returns-in-InOrder-clause-keeps g c = c.in_order.ensures.stays.keeps

pub returns-in-Itself-clause-keeps : goal.returns-in-Itself-clause-keeps
returns-in-Itself-clause-keeps g c = keeps_none (g.S.StateStore.seen c.args.s.now)
