-- Expressions with a text between each two: items and arguments, branches of a disjunction, and conditions with what stands behind them.
use Rattle.std.proofs.Common.{◌≡◌, ℕ, List, [], ◌∷◌, ◌++◌, map, refl, codes}
use Rattle.pi_print_program.specs.CanonicalExp.{exp_text, exp_texts, choice_texts}
use Rattle.pi_print_program.specs.Texts.{in_parens, each_behind, parted, comma as comma_text}
use Rattle.pi_syntax.specs.ExpTree.{ExpTree, arrow as arrow_of, ExpTrees, no_exps, exp as exp_before, ExpBranches, no_branches, branch as branch_before, one_exp}
use Rattle.pi_syntax.specs.Terminals.{terminal, sign_terminal, word_terminal, open_paren as open_paren_terminal}
use Rattle.pi_syntax.specs.Grammar.{Reads, exp, branch, conj, unit, no_arrow, an_arrow, Branches, last_branch, more_branches, Units, last_unit, more_units, Arguments, no_arguments, arguments, Choices, last_choice, more_choices}
use Rattle.pi_syntax.specs.Tokens.{Token, Sign, Word}
use Rattle.pi_print_program.proofs.Says.{Says, says-nothing, says-then, Any, Stops, Begins}
use Rattle.pi_print_program.proofs.Climb.{unit_post, conj_unit, exp_unit}
use Rattle.pi_print_program.proofs.Punctuation.{stop_blank, stop_comma, stop_close_paren, says-stops, open_paren, close_paren, comma_blank, semicolon_blank, arrow_blank, then_blank, elseif_blank}
use Rattle.pi_print_program.proofs.Writes.{Writes}

-- ---- what an expression is read as

pub reads_unit : {e : ExpTree} (w : Writes e) (us : List Token) → Reads unit (map terminal (w.ts us)) e (map terminal us)
reads_unit w us = unit_post (w.as_post us)

pub reads_conj : {e : ExpTree} (w : Writes e) (us : List Token) → Reads conj (map terminal (w.ts us)) e (map terminal us)
reads_conj w us = conj_unit (unit_post (w.as_post us))

pub reads_exp : {e : ExpTree} (w : Writes e) (us : List Token) → Reads exp (map terminal (w.ts us)) e (map terminal us)
reads_exp w us = exp_unit (unit_post (w.as_post us))

-- the parting text in front of those that are left
pub each_behind-parted : (parting t : List ℕ) (ts : List (List ℕ)) → each_behind parting (t ∷ ts) ≡ parting ++ parted parting (t ∷ ts)
unfolding each_behind parted
each_behind-parted parting t ts = refl

-- ---- items, arguments and conjuncts

pub data Items : ExpTrees → Type 0 where
  last_item : {e : ExpTree} → Writes e → Items (one_exp e)
  more_items : {e : ExpTree} {es : ExpTrees} → Writes e → Items es → Items (exp_before e es)

pub record Sequence (es : ExpTrees) : Type 0 where
  pub cs : List ℕ → List ℕ
  pub ts : List Token → List Token
  pub says : Says (parted comma_text (exp_texts es)) cs ts Stops
  pub begins : (more : List ℕ) → Begins (cs more)
  pub units : (us : List Token) → Units (map terminal (ts us)) es (map terminal us)

pub items-led : {es : ExpTrees} → Items es → each_behind comma_text (exp_texts es) ≡ comma_text ++ parted comma_text (exp_texts es)
unfolding exp_texts
items-led (last_item {e} w) = each_behind-parted comma_text (exp_text e) []
items-led (more_items {e} {es} w ws) = each_behind-parted comma_text (exp_text e) (exp_texts es)

pub sequence : {es : ExpTrees} → Items es → Sequence es
unfolding exp_texts parted each_behind sign_terminal
sequence (last_item {e} w) = record {
  cs = w.cs;
  ts = w.ts;
  says = says-then w.says (says-nothing Stops) (λ more h. h);
  begins = w.begins;
  units = λ us. last_unit (reads_unit w us);
}
sequence (more_items {e} {es} w ws) =
    let s = sequence ws in
    let behind : Says (comma_text ++ parted comma_text (exp_texts es)) (λ m. 44 ∷ 32 ∷ s.cs m) (λ u. Sign (codes ",") ∷ s.ts u) Stops =
    says-then comma_blank s.says (λ more h. (s.begins more).white) in
    record {
      cs = λ m. w.cs (44 ∷ 32 ∷ s.cs m);
      ts = λ u. w.ts (Sign (codes ",") ∷ s.ts u);
      says = says-then w.says (rw (items-led ws) behind) (λ more h. stop_comma (32 ∷ s.cs more));
      begins = λ more. w.begins (44 ∷ 32 ∷ s.cs more);
      units = λ us. more_units (reads_unit w (Sign (codes ",") ∷ s.ts us)) (s.units us);
    }

-- arguments in parentheses, or none
pub data Each : ExpTrees → Type 0 where
  none : Each no_exps
  some : {es : ExpTrees} → Items es → Each es

pub record InParens (es : ExpTrees) : Type 0 where
  pub cs : List ℕ → List ℕ
  pub ts : List Token → List Token
  pub says : Says (in_parens (parted comma_text (exp_texts es))) (λ m. 40 ∷ cs m) (λ u. Sign (codes "(") ∷ ts u) Stops
  pub arguments : (us : List Token) → Arguments (open_paren_terminal ∷ map terminal (ts us)) es (map terminal us)

pub in_parens_of : {es : ExpTrees} → Each es → InParens es
unfolding exp_texts parted each_behind sign_terminal
in_parens_of none = record {
  cs = λ m. 41 ∷ m;
  ts = λ u. Sign (codes ")") ∷ u;
  says = says-then open_paren (says-then (says-nothing Any) (says-stops close_paren) (λ more h. tt)) (λ more h. tt);
  arguments = λ us. no_arguments;
}
in_parens_of (some items) =
    let s = sequence items in
    record {
      cs = λ m. s.cs (41 ∷ m);
      ts = λ u. s.ts (Sign (codes ")") ∷ u);
      says = says-then open_paren (says-then s.says (says-stops close_paren) (λ more h. stop_close_paren more)) (λ more h. tt);
      arguments = λ us. arguments (s.units (Sign (codes ")") ∷ us));
    }

-- ---- branches of a disjunction

pub record WritesBranch (e : ExpTree) : Type 0 where
  pub cs : List ℕ → List ℕ
  pub ts : List Token → List Token
  pub says : Says (exp_text e) cs ts Stops
  pub begins : (more : List ℕ) → Begins (cs more)
  pub branch : (us : List Token) → Reads branch (map terminal (ts us)) e (map terminal us)

pub plain_branch : {e : ExpTree} → Writes e → WritesBranch e
plain_branch w = record { cs = w.cs; ts = w.ts; says = w.says; begins = w.begins; branch = λ us. no_arrow (reads_conj w us) }

pub arrow_branch : {c e : ExpTree} → Writes c → Writes e → WritesBranch (arrow_of c e)
unfolding exp_text sign_terminal
arrow_branch w x = record {
  cs = λ m. w.cs (32 ∷ 45 ∷ 62 ∷ 32 ∷ x.cs m);
  ts = λ u. w.ts (Sign (codes "->") ∷ x.ts u);
  says = says-then w.says (says-then arrow_blank x.says (λ more h. (x.begins more).white)) (λ more h. stop_blank _);
  begins = λ more. w.begins _;
  branch = λ us. an_arrow (reads_conj w (Sign (codes "->") ∷ x.ts us)) (reads_conj x us);
}

pub data Alternatives : ExpTrees → Type 0 where
  last_alternative : {e : ExpTree} → Writes e → Alternatives (one_exp e)
  more_alternatives : {e : ExpTree} {es : ExpTrees} → WritesBranch e → Alternatives es → Alternatives (exp_before e es)

pub record Disjuncts (es : ExpTrees) : Type 0 where
  pub cs : List ℕ → List ℕ
  pub ts : List Token → List Token
  pub says : Says (parted (codes " ; ") (exp_texts es)) cs ts Stops
  pub begins : (more : List ℕ) → Begins (cs more)
  pub branches : (us : List Token) → Branches (map terminal (ts us)) es (map terminal us)

alternatives-led : {es : ExpTrees} → Alternatives es → each_behind (codes " ; ") (exp_texts es) ≡ codes " ; " ++ parted (codes " ; ") (exp_texts es)
unfolding exp_texts
alternatives-led (last_alternative {e} w) = each_behind-parted (codes " ; ") (exp_text e) []
alternatives-led (more_alternatives {e} {es} w ws) = each_behind-parted (codes " ; ") (exp_text e) (exp_texts es)

pub disjuncts : {es : ExpTrees} → Alternatives es → Disjuncts es
unfolding exp_texts parted each_behind sign_terminal
disjuncts (last_alternative {e} w) = record {
  cs = w.cs;
  ts = w.ts;
  says = says-then w.says (says-nothing Stops) (λ more h. h);
  begins = w.begins;
  branches = λ us. last_branch (reads_conj w us);
}
disjuncts (more_alternatives {e} {es} w ws) =
    let s = disjuncts ws in
    let behind : Says (codes " ; " ++ parted (codes " ; ") (exp_texts es)) (λ m. 32 ∷ 59 ∷ 32 ∷ s.cs m) (λ u. Sign (codes ";") ∷ s.ts u) Stops =
    says-then semicolon_blank s.says (λ more h. (s.begins more).white) in
    record {
      cs = λ m. w.cs (32 ∷ 59 ∷ 32 ∷ s.cs m);
      ts = λ u. w.ts (Sign (codes ";") ∷ s.ts u);
      says = says-then w.says (rw (alternatives-led ws) behind) (λ more h. stop_blank (59 ∷ 32 ∷ s.cs more));
      begins = λ more. w.begins (32 ∷ 59 ∷ 32 ∷ s.cs more);
      branches = λ us. more_branches (w.branch (Sign (codes ";") ∷ s.ts us)) (s.branches us);
    }

-- ---- conditions with what stands behind them

pub data Conditions : ExpBranches → Type 0 where
  last_condition : {c e : ExpTree} → Writes c → Writes e → Conditions (branch_before c e no_branches)
  more_conditions : {c e : ExpTree} {bs : ExpBranches} → Writes c → Writes e → Conditions bs → Conditions (branch_before c e bs)

pub record ChoiceText (bs : ExpBranches) : Type 0 where
  pub cs : List ℕ → List ℕ
  pub ts : List Token → List Token
  pub says : Says (parted (codes " elseif ") (choice_texts bs)) cs ts Stops
  pub begins : (more : List ℕ) → Begins (cs more)
  pub choices : (us : List Token) → Choices (map terminal (ts us)) bs (map terminal us)

conditions-led : {bs : ExpBranches} → Conditions bs → each_behind (codes " elseif ") (choice_texts bs) ≡ codes " elseif " ++ parted (codes " elseif ") (choice_texts bs)
unfolding choice_texts
conditions-led (last_condition {c} {e} w x) = each_behind-parted (codes " elseif ") (exp_text c ++ (codes " then " ++ exp_text e)) []
conditions-led (more_conditions {c} {e} {bs} w x rest) = each_behind-parted (codes " elseif ") (exp_text c ++ (codes " then " ++ exp_text e)) (choice_texts bs)

-- one condition
condition_text : {c e : ExpTree} (w : Writes c) (x : Writes e)
    → Says (exp_text c ++ (codes " then " ++ exp_text e)) (λ m. w.cs (32 ∷ 116 ∷ 104 ∷ 101 ∷ 110 ∷ 32 ∷ x.cs m)) (λ u. w.ts (Word (codes "then") ∷ x.ts u)) Stops
condition_text w x = says-then w.says (says-then then_blank x.says (λ more h. (x.begins more).white)) (λ more h. stop_blank _)

pub choice_text : {bs : ExpBranches} → Conditions bs → ChoiceText bs
unfolding choice_texts parted each_behind word_terminal
choice_text (last_condition {c} {e} w x) = record {
  cs = λ m. w.cs (32 ∷ 116 ∷ 104 ∷ 101 ∷ 110 ∷ 32 ∷ x.cs m);
  ts = λ u. w.ts (Word (codes "then") ∷ x.ts u);
  says = says-then (condition_text w x) (says-nothing Stops) (λ more h. h);
  begins = λ more. w.begins _;
  choices = λ us. last_choice (reads_exp w (Word (codes "then") ∷ x.ts us)) (reads_exp x us);
}
choice_text (more_conditions {c} {e} {bs} w x rest) =
    let s = choice_text rest in
    let behind : Says (codes " elseif " ++ parted (codes " elseif ") (choice_texts bs)) (λ m. codes " elseif " ++ s.cs m) (λ u. Word (codes "elseif") ∷ s.ts u) Stops =
    says-then elseif_blank s.says (λ more h. (s.begins more).white) in
    record {
      cs = λ m. w.cs (32 ∷ 116 ∷ 104 ∷ 101 ∷ 110 ∷ 32 ∷ x.cs (codes " elseif " ++ s.cs m));
      ts = λ u. w.ts (Word (codes "then") ∷ x.ts (Word (codes "elseif") ∷ s.ts u));
      says = says-then (condition_text w x) (rw (conditions-led rest) behind) (λ more h. stop_blank _);
      begins = λ more. w.begins _;
      choices = λ us. more_choices (reads_exp w (Word (codes "then") ∷ x.ts (Word (codes "elseif") ∷ s.ts us))) (reads_exp x (Word (codes "elseif") ∷ s.ts us)) (s.choices us);
    }
