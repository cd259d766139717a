use Rattle.std.proofs.Common.{◌≡◌, List, ℕ, [], ◌∷◌, ◌++◌, ◌∙◌, take, ap, arith, append_assoc}
use Rattle.std.proofs.lemmas.List.{take_all}
use Rattle.pi_constraints.specs.declared.store.Ref.{Ref}
use Rattle.pi_region.specs.Image.{numbers_of}
use Rattle.pi_region.proofs.word_list.WordList.push_refs.Goals as goal

pub returns-clause-ok : goal.returns-clause-ok
returns-clause-ok c =
    let all : take c.loop-r.r-index c.args.refs.now ≡ c.args.refs.now = take_all c.loop-r.r-index c.args.refs.now (omega arith) in
    let first : c.reserve.new.self.words ≡ c.args.self.now = c.in_ok-reserve.ensures.words ∙ c.self.view_is in
    let refs : c.loop-r.self-inside.words.words ≡ c.args.self.now ++ numbers_of c.args.refs.now =
    c.loop-r.invariant.words ∙ (ap (λ (ws : List ℕ). ws ++ numbers_of (take c.loop-r.r-index c.args.refs.now)) first ∙ ap (λ (rs : List Ref). c.args.self.now ++ numbers_of rs) all) in
    c.push-2.ensures.words ∙ (ap (λ (ws : List ℕ). ws ++ c.args.last ∷ []) refs ∙ append_assoc c.args.self.now (numbers_of c.args.refs.now) (c.args.last ∷ []))
