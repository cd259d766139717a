use Rattle.std.proofs.Common.{refl, sym, ap, ◌∙◌, ◌+◌, ◌<◌, ◌++◌, ◌∷◌, [], arith}
use Rattle.pi_prog.proofs.reading.declaration.ImportLemmas.{imported_end, imported_not, imported_last, imported_no_comma, imported_more}
use Rattle.pi_prog.proofs.reading.declaration.imports.imported.Goals as goal

pub returns-in_default : goal.returns-in_default
returns-in_default c = sym (imported_not _ _ _ _ _ _ c.names-test.true c.kind.ensures.token c.in_default.ensures c.names.invariant.walked)

pub returns-then-at-to : goal.returns-then-at-to
returns-then-at-to c =
    imported_last _ _ _ _ _ _ _ _ _ refl c.if-at-to.true c.kind.ensures.token c.in-Some.ensures (c.in_ok-push.ensures.ok ∙ ap (λ x. c.names.names ++ x ∷ []) c.in_ok-name.ensures.ok) c.names.invariant.walked

pub returns-then-not-is_sign : goal.returns-then-not-is_sign
returns-then-not-is_sign c =
    let short : c.names.at + 1 < c.args.to = omega arith in
    sym (imported_no_comma _ _ _ _ _ _ _ _ _ refl short c.kind.ensures.token c.in-Some.ensures c.kind-comma.ensures.token (sym c.is_sign.ensures ∙ c.if-not-is_sign.true) c.names.invariant.walked)

pub names-preserved : goal.names-preserved
names-preserved c = let short : c.names.at + 1 < c.args.to = omega arith in record {
  walked = imported_more _ _ _ _ _ _ _ _ _ _ _ refl refl short c.kind.ensures.token c.in-Some.ensures c.kind-comma.ensures.token (sym c.is_sign.ensures ∙ c.if-not-is_sign.false)
      (c.in_ok-push.ensures.ok ∙ ap (λ x. c.names.names ++ x ∷ []) c.in_ok-name.ensures.ok) c.names.invariant.walked;
  within = omega arith;
}

pub returns : goal.returns
returns c = sym (imported_end _ _ _ _ _ c.names-test.false c.names.invariant.walked)
