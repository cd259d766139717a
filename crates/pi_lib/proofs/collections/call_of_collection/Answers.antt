use Rattle.pi_lib_builtin.specs.declared.functions.FunctionOfCollection.{FunctionOfCollection}
use Rattle.std.proofs.Common.{refl}
use Rattle.pi_unify.proofs.KeepsLemmas.{keeps_none}
use Rattle.pi_lib.proofs.FunctionBodies.{collection-shown}
use Rattle.pi_lib.proofs.collections.call_of_collection.Goals as goal

pub returns-in-Length-clause-shows : goal.returns-in-Length-clause-shows
returns-in-Length-clause-shows g c = λ t e a is done.
    collection-shown (g.S.StateStore.seen c.args.s.now) (g.S.StateStore.seen c.length.new.s) c.length.result c.args.function FunctionOfCollection.Length t e c.in-Length.is c.length.ensures.stays (c.length.ensures.shows t a is) done

pub returns-in-Head-clause-shows : goal.returns-in-Head-clause-shows
returns-in-Head-clause-shows g c = λ t e a is done.
    collection-shown (g.S.StateStore.seen c.args.s.now) (g.S.StateStore.seen c.args.s.now) c.head.result c.args.function FunctionOfCollection.Head t e c.in-Head.is (record { keeps = keeps_none (g.S.StateStore.seen c.args.s.now); state = refl }) (c.head.ensures t a is) done

pub returns-in-Tail-clause-shows : goal.returns-in-Tail-clause-shows
returns-in-Tail-clause-shows g c = λ t e a is done.
    collection-shown (g.S.StateStore.seen c.args.s.now) (g.S.StateStore.seen c.args.s.now) c.tail.result c.args.function FunctionOfCollection.Tail t e c.in-Tail.is (record { keeps = keeps_none (g.S.StateStore.seen c.args.s.now); state = refl }) (c.tail.ensures t a is) done

pub returns-in-First-clause-shows : goal.returns-in-First-clause-shows
returns-in-First-clause-shows g c = λ t e a is done.
    collection-shown (g.S.StateStore.seen c.args.s.now) (g.S.StateStore.seen c.args.s.now) c.first.result c.args.function FunctionOfCollection.First t e c.in-First.is (record { keeps = keeps_none (g.S.StateStore.seen c.args.s.now); state = refl }) (c.first.ensures t a is) done

pub returns-in-Last-clause-shows : goal.returns-in-Last-clause-shows
returns-in-Last-clause-shows g c = λ t e a is done.
    collection-shown (g.S.StateStore.seen c.args.s.now) (g.S.StateStore.seen c.args.s.now) c.last.result c.args.function FunctionOfCollection.Last t e c.in-Last.is (record { keeps = keeps_none (g.S.StateStore.seen c.args.s.now); state = refl }) (c.last.ensures t a is) done

pub returns-in-Reverse-clause-shows : goal.returns-in-Reverse-clause-shows
returns-in-Reverse-clause-shows g c = λ t e a is done.
    collection-shown (g.S.StateStore.seen c.args.s.now) (g.S.StateStore.seen c.reverse.new.s) c.reverse.result c.args.function FunctionOfCollection.Reverse t e c.in-Reverse.is c.reverse.ensures.stays (c.reverse.ensures.shows t a is) done

pub returns-in-Sum-clause-shows : goal.returns-in-Sum-clause-shows
returns-in-Sum-clause-shows g c = λ t e a is done.
    collection-shown (g.S.StateStore.seen c.args.s.now) (g.S.StateStore.seen c.sum.new.s) c.sum.result c.args.function FunctionOfCollection.Sum t e c.in-Sum.is c.sum.ensures.stays (c.sum.ensures.shows t a is) done

pub returns-in-Product-clause-shows : goal.returns-in-Product-clause-shows
returns-in-Product-clause-shows g c = λ t e a is done.
    collection-shown (g.S.StateStore.seen c.args.s.now) (g.S.StateStore.seen c.product.new.s) c.product.result c.args.function FunctionOfCollection.Product t e c.in-Product.is c.product.ensures.stays (c.product.ensures.shows t a is) done

pub returns-in-ToList-clause-shows : goal.returns-in-ToList-clause-shows
returns-in-ToList-clause-shows g c = λ t e a is done.
    collection-shown (g.S.StateStore.seen c.args.s.now) (g.S.StateStore.seen c.to_list.new.s) c.to_list.result c.args.function FunctionOfCollection.ToList t e c.in-ToList.is c.to_list.ensures.stays (c.to_list.ensures.shows t a is) done

pub returns-in-ToArray-clause-shows : goal.returns-in-ToArray-clause-shows
returns-in-ToArray-clause-shows g c = λ t e a is done.
    collection-shown (g.S.StateStore.seen c.args.s.now) (g.S.StateStore.seen c.to_array.new.s) c.to_array.result c.args.function FunctionOfCollection.ToArray t e c.in-ToArray.is c.to_array.ensures.stays (c.to_array.ensures.shows t a is) done

pub returns-in-Sort-clause-shows : goal.returns-in-Sort-clause-shows
returns-in-Sort-clause-shows g c = λ t e a is done.
    collection-shown (g.S.StateStore.seen c.args.s.now) (g.S.StateStore.seen c.sort.new.s) c.sort.result c.args.function FunctionOfCollection.Sort t e c.in-Sort.is c.sort.ensures.stays (c.sort.ensures.shows t a is) done

pub returns-in-SortOnce-clause-shows : goal.returns-in-SortOnce-clause-shows
returns-in-SortOnce-clause-shows g c = λ t e a is done.
    collection-shown (g.S.StateStore.seen c.args.s.now) (g.S.StateStore.seen c.sort_remove_dups.new.s) c.sort_remove_dups.result c.args.function FunctionOfCollection.SortOnce t e c.in-SortOnce.is c.sort_remove_dups.ensures.stays (c.sort_remove_dups.ensures.shows t a is) done

pub returns-in-EachOnce-clause-shows : goal.returns-in-EachOnce-clause-shows
returns-in-EachOnce-clause-shows g c = λ t e a is done.
    collection-shown (g.S.StateStore.seen c.args.s.now) (g.S.StateStore.seen c.remove_dups.new.s) c.remove_dups.result c.args.function FunctionOfCollection.EachOnce t e c.in-EachOnce.is c.remove_dups.ensures.stays (c.remove_dups.ensures.shows t a is) done

pub returns-in-Least-clause-shows : goal.returns-in-Least-clause-shows
returns-in-Least-clause-shows g c = λ t e a is done.
    collection-shown (g.S.StateStore.seen c.args.s.now) (g.S.StateStore.seen c.args.s.now) c.least.result c.args.function FunctionOfCollection.Least t e c.in-Least.is (record { keeps = keeps_none (g.S.StateStore.seen c.args.s.now); state = refl }) (c.least.ensures t a is) done

pub returns-in-Greatest-clause-shows : goal.returns-in-Greatest-clause-shows
returns-in-Greatest-clause-shows g c = λ t e a is done.
    collection-shown (g.S.StateStore.seen c.args.s.now) (g.S.StateStore.seen c.args.s.now) c.greatest.result c.args.function FunctionOfCollection.Greatest t e c.in-Greatest.is (record { keeps = keeps_none (g.S.StateStore.seen c.args.s.now); state = refl }) (c.greatest.ensures t a is) done
