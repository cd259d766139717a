use Rattle.std.proofs.Common.{◌≡◌, ℕ, List, [], ◌∷◌, ◌++◌, ◌+◌, ◌<◌, ◌^◌, ◌∙◌, length, ap, sym, arith, rules, true}
use Rattle.pi_region.specs.Entry.{data_of}
use Rattle.pi_region.specs.Image.{Image}
use Rattle.pi_store_blocks.specs.Form.{number_of, wide_word, IsSmall}
use Rattle.pi_store_blocks.specs.declared.form.Form.{Form}
use Rattle.pi_store_blocks.proofs.FormLemmas.{small_passed, parts_passed}
use Rattle.pi_store_blocks.proofs.PutLemmas.{put_small, put_wide, same_three}
use Rattle.pi_store_blocks.proofs.WriteLemmas.{none_right, wide_words_right}
use Rattle.pi_store_blocks.proofs.put.put_int.Goals as goal

pub returns-then-is_small-clause-ok : goal.returns-then-is_small-clause-ok
returns-then-is_small-clause-ok c = λ h e.
    let small : IsSmall c.args.n = search rules in
    put_small h c.to_ref.result.number c.args.n small (c.to_ref.ensures ∙ ap (λ k. number_of (Form.Int k)) (small_passed c.args.n c.ranges.n small))

pub returns-clause-ok : goal.returns-clause-ok
returns-clause-ok c = λ h e.
    let region : List ℕ = c.args.words.now.region in
    let fits : length region + 2 < 2 ^ 61 = omega arith in
    let words : h.words ≡ region ++ data_of c.mid.result ∷ data_of c.low.result ∷ wide_word c.top.result ∷ [] =
    e ∙ (ap (λ (i : Image). i.region) c.in_ok-append_three.ensures.ok
    ∙ same_three region c.data.result c.data-2.result c.wide.result (data_of c.mid.result) (data_of c.low.result) (wide_word c.top.result) c.data.ensures c.data-2.ensures c.wide.ensures) in
    put_wide h region c.to_ref-2.result.number c.top.result c.mid.result c.low.result c.args.n
    words (parts_passed c.args.n c.top.result c.mid.result c.low.result c.ranges.n c.top.ensures.is c.mid.ensures.is c.low.ensures.is) fits
    (c.to_ref-2.ensures ∙ ap (λ k. number_of (Form.Comp (k + 2) true)) c.len.ensures.len)

pub returns-then-is_small-clause-right : goal.returns-then-is_small-clause-right
returns-then-is_small-clause-right c = λ h e. none_right h c.args.words.now.region (sym e)

pub returns-clause-right : goal.returns-clause-right
returns-clause-right c = λ h e.
    let region : List ℕ = c.args.words.now.region in
    wide_words_right h region c.append_three.new.self.region c.mid.result c.low.result c.top.result
    (ap (λ (i : Image). i.region) c.in_ok-append_three.ensures.ok
    ∙ same_three region c.data.result c.data-2.result c.wide.result (data_of c.mid.result) (data_of c.low.result) (wide_word c.top.result) c.data.ensures c.data-2.ensures c.wide.ensures) e
