-- The parts of tokens: what all tokens have, those of each part have; and tokens with an end point among them have one part more.
use Rattle.std.proofs.Common.{◌≡◌, true, false, List, [], ◌∷◌, ◌++◌, refl, sym, ap, subst, ◌∙◌, append_assoc, append-nil, inl, inr}
use Rattle.std.proofs.lemmas.Bool.{cases_Bool}
use Rattle.std.proofs.lemmas.List.Folds.{list_any-append}
use Rattle.std.specs.List.{list_any}
use Rattle.pi_prog_clauses.specs.Stretch.{Stretch, stretch, stretches, stretches_behind}
use Rattle.pi_syntax.specs.Tokens.{Token, Var, Atom, Word, Int, Str, Sign, End}
use Rattle.pi_print_program.specs.Reread.{HasPlainAtoms, spells_other}
use Rattle.pi_print_program.proofs.Calls.{neither}
use Rattle.pi_print_program.proofs.ClauseTexts.{is_end}
use Rattle.pi_print_program.proofs.GoodTokens.{IsGoodToken, AreGoodTokens}

-- ---- one token more

end_step : (before : List Token) (t : Token) (ts : List Token) → is_end t ≡ true → stretches_behind before (t ∷ ts) ≡ stretch before true ∷ stretches_behind [] ts
unfolding stretches_behind
end_step [] End ts is = refl
end_step (b ∷ bs) End ts is = refl
end_step before (Var name) ts is = absurd cc
end_step before (Atom name) ts is = absurd cc
end_step before (Word word) ts is = absurd cc
end_step before (Int n) ts is = absurd cc
end_step before (Str text) ts is = absurd cc
end_step before (Sign spelling) ts is = absurd cc

other_step : (before : List Token) (t : Token) (ts : List Token) → is_end t ≡ false → stretches_behind before (t ∷ ts) ≡ stretches_behind (before ++ t ∷ []) ts
unfolding stretches_behind
other_step [] (Var name) ts is = refl
other_step [] (Atom name) ts is = refl
other_step [] (Word word) ts is = refl
other_step [] (Int n) ts is = refl
other_step [] (Str text) ts is = refl
other_step [] (Sign spelling) ts is = refl
other_step [] End ts is = absurd cc
other_step (b ∷ bs) (Var name) ts is = refl
other_step (b ∷ bs) (Atom name) ts is = refl
other_step (b ∷ bs) (Word word) ts is = refl
other_step (b ∷ bs) (Int n) ts is = refl
other_step (b ∷ bs) (Str text) ts is = refl
other_step (b ∷ bs) (Sign spelling) ts is = refl
other_step (b ∷ bs) End ts is = absurd cc

split_behind : (before ts us : List Token) → list_any is_end ts ≡ false → stretches_behind before (ts ++ End ∷ us) ≡ stretch (before ++ ts) true ∷ stretches us
split_behind before [] us endless = end_step before End us refl ∙ ap (λ b. stretch b true ∷ stretches us) (sym (append-nil before))
split_behind before (t ∷ ts) us endless =
    let (here, rest) = neither (is_end t) (list_any is_end ts) endless in
    other_step before t (ts ++ End ∷ us) here ∙ split_behind (before ++ t ∷ []) ts us rest ∙ ap (λ b. stretch b true ∷ stretches us) (append_assoc before (t ∷ []) ts)

-- tokens without an end point, one, and others
pub stretches_split : (ts us : List Token) → list_any is_end ts ≡ false → stretches (ts ++ End ∷ us) ≡ stretch ts true ∷ stretches us
stretches_split ts us endless = split_behind [] ts us endless

pub stretches_none : stretches [] ≡ []
unfolding stretches_behind
stretches_none = refl

-- ---- what all tokens have

-- tokens of a text of which no atom spells another token
pub record AreUsual (ts : List Token) : Type 0 where
  pub good : AreGoodTokens ts
  pub plain : HasPlainAtoms ts

usual_none : AreUsual []
usual_none = record { good = tt; plain = refl }

usual_rest : {t : Token} {ts : List Token} → AreUsual (t ∷ ts) → AreUsual ts
usual_rest {t} {ts} u = record { good = u.good.1; plain = (neither (spells_other t) (list_any spells_other ts) u.plain).1 }

good_more : (before : List Token) (t : Token) → AreGoodTokens before → IsGoodToken t → AreGoodTokens (before ++ t ∷ [])
good_more [] t all good = (good, tt)
good_more (b ∷ bs) t all good = (all.0, good_more bs t all.1 good)

usual_more : {before : List Token} {t : Token} {ts : List Token} → AreUsual before → AreUsual (t ∷ ts) → AreUsual (before ++ t ∷ [])
usual_more {before} {t} {ts} all u = record {
  good = good_more before t all.good u.good.0;
  plain = list_any-append spells_other before (t ∷ []) ∙ rw (all.plain, (neither (spells_other t) (list_any spells_other ts) u.plain).0) refl;
}

abbrev pub EachUsual : List Stretch → Type 0
EachUsual [] = Unit {0}
EachUsual (s ∷ ss) = AreUsual s.tokens × EachUsual ss

usual_behind : (before ts : List Token) → AreUsual before → AreUsual ts → EachUsual (stretches_behind before ts)
unfolding stretches_behind
usual_behind [] [] all u = tt
usual_behind (b ∷ bs) [] all u = (all, tt)
usual_behind before (t ∷ ts) all u =
    elim (cases_Bool (is_end t)) [
      | inl ends ↦ subst EachUsual (sym (end_step before t ts ends)) (all, usual_behind [] ts usual_none (usual_rest u))
      | inr goes ↦ subst EachUsual (sym (other_step before t ts goes)) (usual_behind (before ++ t ∷ []) ts (usual_more all u) (usual_rest u))
    ]

pub usual_stretches : (ts : List Token) → AreUsual ts → EachUsual (stretches ts)
usual_stretches ts u = usual_behind [] ts usual_none u
