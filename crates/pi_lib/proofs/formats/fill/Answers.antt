use Rattle.std.proofs.Common.{◌≡◌, ◌∷◌, List, false, drop, ap, sym, ◌∙◌, subst, arith, rules, refl}
use Rattle.std.specs.Prelude.{slice_get, option_copied, Option, Ok}
use Rattle.std.specs.String.{string_bytes}
use Rattle.std.proofs.lemmas.Result.{err_from_is_err_and}
use Rattle.pi_terms.specs.Tree.{Tree}
use Rattle.pi_constraints.specs.declared.store.Ref.{Ref}
use Rattle.pi_effects.specs.Exception.{bad_format}
use Rattle.pi_effects.specs.Items.{each_tree}
use Rattle.pi_effects.specs.Format.{Piece, filled_in, pieces}
use Rattle.pi_effects.proofs.FaultLemmas.{stops-whole}
use Rattle.pi_lib.specs.Signs.{piece_of}
use Rattle.pi_lib.specs.Filling.{IsNext}
use Rattle.pi_lib.proofs.PieceLemmas.{Behind, GoesOn, goes_begin, goes_plain, goes_sign, raised_sign, all_filled, argument_left}
use Rattle.pi_lib.proofs.FillLemmas.{split_some, split_none, sign_front, few_left, looked}
use Rattle.pi_lib.proofs.FormatLemmas.{next_of, none_left, some_left, drop_more, bad_stops}
use Rattle.pi_lib.proofs.formats.fill.Goals as goal

pub loop-plain-init : goal.loop-plain-init
loop-plain-init g c = record {
  text = search rules;
  within = omega arith;
  goes = λ t ts a is are.
      let s = (g.S.StateStore.seen c.args.s.now).now.state in
      goes_begin s (bad_format t s) c.args.text.now (string_bytes c.new-out.result) (each_tree ts) c.new-out.ensures.bytes;
}

pub loop-plain-preserved : goal.loop-plain-preserved
loop-plain-preserved g c =
    let v = g.S.StateStore.seen c.args.s.now in
    let s = v.now.state in
    let l = c.loop-plain in
    let plain = c.in-Some.plain in
    let behind = c.in-Some.behind in
    let p : Piece = piece_of c.sign_behind-sign.result in
    let rest = c.as_str-rest.result.now in
    let n = c.in_ok-taken.field-0 in
    let lookup : option_copied c.get.result ≡ slice_get c.args.args.now l.taken = looked c.get.result c.args.args.now l.taken c.get.ensures.lookup.0 c.get.ensures.lookup.1 in
    let parts = split_some l.rest.now c.split_once.result _ plain behind c.split_once.ensures.cases c.in-Some.is c.in-Some.plain-is c.in-Some.behind-is in
    let front : Behind behind.now rest p = sign_front _ _ _ c.next.result behind.now rest p c.next.ensures.steps.0 c.chars-letters.ensures.rest (sym c.as_str-rest.ensures) c.sign_behind-sign.ensures in
    record {
      text = search rules;
      within = few_left c.get.result c.args.args.now l.taken n lookup c.in_ok-taken.ensures.few l.invariant.within;
      goes = λ t ts a is are.
          let bad = bad_format t s in
          let whole = filled_in s bad (pieces c.args.text.now false) (each_tree ts) in
          let left : List Tree = drop l.taken (each_tree ts) in
          let next : IsNext v (option_copied c.get.result) left = subst (λ (o : Option Ref). IsNext v o left) (sym lookup) (next_of v c.args.args.now ts l.taken are) in
          let fills = c.in_ok-taken.ensures.fills t left a is next in
          let more = string_bytes c.push_str.new.self in
          let out = string_bytes c.write_sign.new.out in
          let goes = goes_plain s bad whole (string_bytes l.out) more l.rest.now plain.now behind.now left (l.invariant.goes t ts a is are) parts.0 parts.1 c.in_ok-push_str.ensures.bytes in
          let done : GoesOn s bad whole out rest (drop n left) = goes_sign s bad whole more out fills.0 behind.now rest p left (drop n left) goes front c.in_ok-taken.ensures.known fills.1 fills.2 in
          subst (λ (us : List Tree). GoesOn s bad whole out rest us) (drop_more (each_tree ts) l.taken n) done;
    }

pub returns-in_err-taken : goal.returns-in_err-taken
returns-in_err-taken g c = λ t ts a is are.
    let v = g.S.StateStore.seen c.args.s.now in
    let s = v.now.state in
    let l = c.loop-plain in
    let plain = c.in-Some.plain in
    let behind = c.in-Some.behind in
    let sign : Piece = piece_of c.sign_behind-sign.result in
    let bad = bad_format t s in
    let whole = filled_in s bad (pieces c.args.text.now false) (each_tree ts) in
    let left : List Tree = drop l.taken (each_tree ts) in
    let lookup : option_copied c.get.result ≡ slice_get c.args.args.now l.taken = looked c.get.result c.args.args.now l.taken c.get.ensures.lookup.0 c.get.ensures.lookup.1 in
    let parts = split_some l.rest.now c.split_once.result _ plain behind c.split_once.ensures.cases c.in-Some.is c.in-Some.plain-is c.in-Some.behind-is in
    let front = sign_front _ _ _ c.next.result behind.now _ sign c.next.ensures.steps.0 c.chars-letters.ensures.rest refl c.sign_behind-sign.ensures in
    let next : IsNext v (option_copied c.get.result) left = subst (λ (o : Option Ref). IsNext v o left) (sym lookup) (next_of v c.args.args.now ts l.taken are) in
    let more = string_bytes c.push_str.new.self in
    let goes = goes_plain s bad whole (string_bytes l.out) more l.rest.now plain.now behind.now left (l.invariant.goes t ts a is are) parts.0 parts.1 c.in_ok-push_str.ensures.bytes in
    let p = err_from_is_err_and c.from_residual-in_err-taken.result c.from_residual-in_err-taken.ensures.1 in
    rw (p.1, p.2)
    (stops-whole v c.in_err-taken.field-0.0 (filled_in s bad (sign ∷ front.others) left) whole (λ ball. raised_sign s bad whole more behind.now _ sign left ball goes front) (c.in_err-taken.ensures.fills t left a is next front.others))

pub returns-then-taken-args : goal.returns-then-taken-args
returns-then-taken-args g c = λ t ts a is are.
    let v = g.S.StateStore.seen c.args.s.now in
    let s = v.now.state in
    let l = c.loop-plain in
    let bad = bad_format t s in
    let whole = filled_in s bad (pieces c.args.text.now false) (each_tree ts) in
    let free = split_none l.rest.now c.split_once.result c.split_once.ensures.cases c.in_default.is in
    let some = some_left v c.args.args.now ts l.taken are c.if-taken-args.true in
    bad_stops v c.args.format t whole is
    (argument_left s bad whole (string_bytes l.out) l.rest.now some.first (drop l.taken (each_tree ts)) some.others (l.invariant.goes t ts a is are) free some.are)

pub returns : goal.returns
returns g c = λ t ts a is are.
    let v = g.S.StateStore.seen c.args.s.now in
    let s = v.now.state in
    let l = c.loop-plain in
    let bad = bad_format t s in
    let whole = filled_in s bad (pieces c.args.text.now false) (each_tree ts) in
    let free = split_none l.rest.now c.split_once.result c.split_once.ensures.cases c.in_default.is in
    let none = none_left v c.args.args.now ts l.taken are c.if-taken-args.false in
    let text : c.in_ok-made.made ≡ string_bytes c.push_str-2.new.self = c.in_ok-made.ensures.ok in
    all_filled s bad whole (string_bytes l.out) (string_bytes c.push_str-2.new.self) l.rest.now (drop l.taken (each_tree ts)) (l.invariant.goes t ts a is are) free none c.in_ok-push_str-2.ensures.bytes ∙ ap Ok (sym text)
