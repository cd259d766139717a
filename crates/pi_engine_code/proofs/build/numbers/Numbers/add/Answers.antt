use Rattle.std.proofs.Common.{◌≡◌, ◌+◌, [], ◌∷◌, ◌++◌, take, sym, ◌∙◌, ap, subst, arith, append_assoc}
use Rattle.std.proofs.lemmas.List.{append-nil, take_more, take_all}
use Rattle.pi_engine_code.specs.Numbers.{number_in, IsNumbering}
use Rattle.pi_engine_code.proofs.NumbersLemmas.{numbering-more, names-same}
use Rattle.pi_engine_code.proofs.build.numbers.Numbers.add.Goals as goal

pub loop-pred-init : goal.loop-pred-init
loop-pred-init c = λ front is. subst (IsNumbering c.args.self.now) (sym (append-nil front)) is

pub loop-pred-preserved : goal.loop-pred-preserved
loop-pred-preserved c = λ front is.
    let before : IsNumbering c.loop-pred.self (front ++ take c.loop-pred.pred-index c.args.preds.now) = c.loop-pred.invariant front is in
    let one : take (c.loop-pred.pred-index + 1) c.args.preds.now ≡ take c.loop-pred.pred-index c.args.preds.now ++ c.pred-item.result ∷ [] =
    take_more c.args.preds.now c.loop-pred.pred-index c.pred-item.result c.loop-pred-test.true ∙ ap (λ p. take c.loop-pred.pred-index c.args.preds.now ++ p ∷ []) (sym c.pred-item.is) in
    let more : IsNumbering _ ((front ++ take c.loop-pred.pred-index c.args.preds.now) ++ c.pred-item.result ∷ []) =
    numbering-more c.loop-pred.self (record { by_key = c.insert.new.self; count = c.in-Some.count }) (front ++ take c.loop-pred.pred-index c.args.preds.now) c.pred-item.result before c.in-Some.ensures.1
    (λ function name k. c.in_ok-insert.ensures.updates.0 (record { is_function = function; name = record { ref_ptr = (0, 0); now = name }; arity = k }) ∙ names-same c.pred-item.result c.key_of.result.is_function c.key_of.result.name.now c.key_of.result.arity c.loop-pred.self.count (number_in c.loop-pred.self function name k) c.key_of.ensures.function c.key_of.ensures.name c.key_of.ensures.arity function name k) in
    subst (IsNumbering _) (append_assoc front (take c.loop-pred.pred-index c.args.preds.now) (c.pred-item.result ∷ []) ∙ ap (λ r. front ++ r) (sym one)) more

pub returns : goal.returns
returns c = λ front is. subst (λ r. IsNumbering c.loop-pred.self (front ++ r)) (take_all c.loop-pred.pred-index c.args.preds.now (omega arith)) (c.loop-pred.invariant front is)
