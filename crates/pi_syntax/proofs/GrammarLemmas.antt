-- No tokens have two expressions. A phrase is read in one way where the rest behind it doesn't go on with it; what can
-- go on with which phrase, and what can begin it, are numbers: each line of the grammar has a rank, the loosest first.
use Rattle.std.proofs.Common.{inl, inr, Bool, ◌≡◌, ℕ, ◌<◌, ◌≤◌, true, List, [], ◌∷◌, refl, sym, ap, subst, ◌∙◌, codes, arith}
use Rattle.pi_syntax.specs.Crowding.{IsRead, IsTooDeep, ReadIsOne, TooDeepIsNoNone}
use Rattle.pi_syntax.specs.Tokens.{Token}
use Rattle.pi_syntax.specs.ExpTree.{levels, ExpTree, ExpTrees, ExpBranches}
use Rattle.pi_syntax.specs.Terminals.{Line, equivalence, implication, constraint_or, constraint_xor, constraint_and, bit_or, bit_xor, bit_and, shift, sum, product, Terminal, variable, joint, plus, minus, close_bracket, close_brace, comma, bar, colon, word_elseif, word_else, word_end}
use Rattle.pi_syntax.specs.Ranks.{line_rank, rank, reach, reach_of, start_of}
use Rattle.pi_syntax.specs.Grammar.{HasOneExp, Phrase, operand, Joins, a_joint, a_plus, a_minus, conjunction, disjunction, indexed, Reads, branches, no_arrow, an_arrow, conjuncts, signed_goal, plain_unit, joined, negative, positive, unrelated, related, no_range, a_range, a_stepped_range, with_plus, with_minus, with_complement, unsigned, no_power, a_power, postfixes, a_variable, a_pattern, an_integer, an_atom, a_call, a_text, no_list, a_list, a_list_onto, a_list_of, no_array, an_array, an_array_of, in_parens, a_structure, a_term, an_if, an_if_else, a_foreach, a_while, a_do_while, Branches, last_branch, more_branches, Units, last_unit, more_units, Joined, no_more, join, Postfixes, no_postfix, an_index, a_dot, a_dot_call, Arguments, no_arguments, arguments, Choices, last_choice, more_choices}

pub line_rank-operand : (l : Line) → line_rank l < rank (operand l)
line_rank-operand equivalence = omega arith
line_rank-operand implication = omega arith
line_rank-operand constraint_or = omega arith
line_rank-operand constraint_xor = omega arith
line_rank-operand constraint_and = omega arith
line_rank-operand bit_or = omega arith
line_rank-operand bit_xor = omega arith
line_rank-operand bit_and = omega arith
line_rank-operand shift = omega arith
line_rank-operand sum = omega arith
line_rank-operand product = omega arith

pub line_rank-above : (l : Line) → 4 < line_rank l
line_rank-above equivalence = omega arith
line_rank-above implication = omega arith
line_rank-above constraint_or = omega arith
line_rank-above constraint_xor = omega arith
line_rank-above constraint_and = omega arith
line_rank-above bit_or = omega arith
line_rank-above bit_xor = omega arith
line_rank-above bit_and = omega arith
line_rank-above shift = omega arith
line_rank-above sum = omega arith
line_rank-above product = omega arith

-- no sign goes on with a Unary and not with a Pow
pub line_rank-below : (l : Line) → line_rank l < 19
line_rank-below equivalence = omega arith
line_rank-below implication = omega arith
line_rank-below constraint_or = omega arith
line_rank-below constraint_xor = omega arith
line_rank-below constraint_and = omega arith
line_rank-below bit_or = omega arith
line_rank-below bit_xor = omega arith
line_rank-below bit_and = omega arith
line_rank-below shift = omega arith
line_rank-below sum = omega arith
line_rank-below product = omega arith

reach-pow : (t : Terminal) → reach t < 20 → reach t < 19
reach-pow (joint l name) s = line_rank-below l
reach-pow (variable name) s = omega arith
reach-pow _ s = omega arith

pub reach_of-pow : (ts : List Terminal) → reach_of ts < 20 → reach_of ts < 19
reach_of-pow [] s = omega arith
reach_of-pow (t ∷ ts) s = reach-pow t s

pub reach-joins : {l : Line} {t : Terminal} {name : List ℕ} → Joins l t name → reach t ≡ line_rank l
reach-joins a_joint = refl
reach-joins a_plus = refl
reach-joins a_minus = refl

abbrev joint_name : Terminal → List ℕ
joint_name (joint l name) = name
joint_name plus = codes "+"
joint_name minus = codes "-"
joint_name _ = []

joint_name-joins : {l : Line} {t : Terminal} {name : List ℕ} → Joins l t name → joint_name t ≡ name
joint_name-joins a_joint = refl
joint_name-joins a_plus = refl
joint_name-joins a_minus = refl

pub same_name : {l : Line} {t : Terminal} {name other : List ℕ} → Joins l t name → Joins l t other → name ≡ other
same_name p q = sym (joint_name-joins p) ∙ joint_name-joins q

-- what begins a phrase

mutual
  pub begins : {k : Phrase} {ts rest : List Terminal} {e : ExpTree} → Reads k ts e rest → rank k ≤ start_of ts
  begins (branches bs) = begins_branches bs
  begins (no_arrow d) = omega (arith, begins d)
  begins (an_arrow c d) = omega (arith, begins c)
  begins (conjuncts us) = begins_units us
  begins (signed_goal d) = omega arith
  begins (plain_unit d) = omega (arith, begins d)
  begins (joined {l} d more) = omega (arith, begins d, line_rank-operand l)
  begins (negative d) = omega arith
  begins (positive d) = omega (arith, begins d)
  begins (unrelated d) = omega (arith, begins d)
  begins (related a b) = omega (arith, begins a)
  begins (no_range d) = omega (arith, begins d)
  begins (a_range a b) = omega (arith, begins a)
  begins (a_stepped_range a b c) = omega (arith, begins a)
  begins (with_plus d) = omega arith
  begins (with_minus d) = omega arith
  begins (with_complement d) = omega arith
  begins (unsigned d) = omega (arith, begins d)
  begins (no_power d) = omega (arith, begins d)
  begins (a_power a b) = omega (arith, begins a)
  begins (postfixes d more) = omega (arith, begins d)
  begins a_variable = omega arith
  begins (a_pattern d) = omega arith
  begins an_integer = omega arith
  begins an_atom = omega arith
  begins (a_call d) = omega arith
  begins a_text = omega arith
  begins no_list = omega arith
  begins (a_list us) = omega arith
  begins (a_list_onto us d) = omega arith
  begins (a_list_of d us) = omega arith
  begins no_array = omega arith
  begins (an_array us) = omega arith
  begins (an_array_of d us) = omega arith
  begins (in_parens d) = omega arith
  begins (a_structure d) = omega arith
  begins (a_term d) = omega arith
  begins (an_if d) = omega arith
  begins (an_if_else d e) = omega arith
  begins (a_foreach us d) = omega arith
  begins (a_while c d) = omega arith
  begins (a_do_while d c) = omega arith

  pub begins_branches : {ts rest : List Terminal} {es : ExpTrees} → Branches ts es rest → 1 ≤ start_of ts
  begins_branches (last_branch d) = omega (arith, begins d)
  begins_branches (more_branches d bs) = omega (arith, begins d)

  pub begins_units : {ts rest : List Terminal} {es : ExpTrees} → Units ts es rest → 3 ≤ start_of ts
  begins_units (last_unit d) = omega (arith, begins d)
  begins_units (more_units d us) = omega (arith, begins d)

-- where a phrase stops

pub stops_joined : {l : Line} {a e : ExpTree} {ts rest : List Terminal} → Joined l a ts e rest → reach_of rest < line_rank l
    → reach_of ts < rank (operand l)
stops_joined {l} no_more s = omega (arith, line_rank-operand l)
stops_joined {l} (join j d more) s = omega (arith, line_rank-operand l, reach-joins j)

pub stops_postfixes : {b : Bool} {a e : ExpTree} {ts rest : List Terminal} → Postfixes b a ts e rest → reach_of rest < 21
    → reach_of ts < 22
stops_postfixes no_postfix s = omega arith
stops_postfixes (an_index us more) s = omega arith
stops_postfixes (a_dot o more) s = omega arith
stops_postfixes (a_dot_call o us more) s = omega arith

-- each reading of the same terminals is the same

tail_same : {t u : Terminal} {ts us : List Terminal} → ◌≡◌ {A = List Terminal} (t ∷ ts) (u ∷ us) → ts ≡ us
tail_same e = cc

head_same : {t u : Terminal} {ts us : List Terminal} → ◌≡◌ {A = List Terminal} (t ∷ ts) (u ∷ us) → t ≡ u
head_same e = cc

reach_same : {ts us : List Terminal} → ts ≡ us → reach_of ts ≡ reach_of us
reach_same e = ap reach_of e

read_at : {k : Phrase} {ts us rest : List Terminal} {e : ExpTree} → ts ≡ us → Reads k us e rest → Reads k ts e rest
read_at {k} {rest = rest} {e = e} p d = subst (λ (x : List Terminal). Reads k x e rest) (sym p) d

branches_at : {ts us rest : List Terminal} {es : ExpTrees} → ts ≡ us → Branches us es rest → Branches ts es rest
branches_at {rest = rest} {es = es} p d = subst (λ (x : List Terminal). Branches x es rest) (sym p) d

units_at : {ts us rest : List Terminal} {es : ExpTrees} → ts ≡ us → Units us es rest → Units ts es rest
units_at {rest = rest} {es = es} p d = subst (λ (x : List Terminal). Units x es rest) (sym p) d

choices_at : {ts us rest : List Terminal} {bs : ExpBranches} → ts ≡ us → Choices us bs rest → Choices ts bs rest
choices_at {rest = rest} {bs = bs} p d = subst (λ (x : List Terminal). Choices x bs rest) (sym p) d

joined_at : {l : Line} {a b e : ExpTree} {ts us rest : List Terminal} → a ≡ b → ts ≡ us → Joined l b us e rest → Joined l a ts e rest
joined_at {l} {a = a} {e = e} {us = us} {rest = rest} p q d =
    subst (λ (x : List Terminal). Joined l a x e rest) (sym q) (subst (λ (x : ExpTree). Joined l x us e rest) (sym p) d)

postfixes_at : {x : Bool} {a b e : ExpTree} {ts us rest : List Terminal} → a ≡ b → ts ≡ us → Postfixes x b us e rest
    → Postfixes x a ts e rest
postfixes_at {x} {a = a} {e = e} {us = us} {rest = rest} p q d =
    subst (λ (y : List Terminal). Postfixes x a y e rest) (sym q) (subst (λ (y : ExpTree). Postfixes x y us e rest) (sym p) d)

-- `end` or `else`, behind the branches of an `if`
abbrev pub EndsChoice : List Terminal → Type 0
EndsChoice [] = ⊥
EndsChoice (word_end ∷ ts) = Unit {0}
EndsChoice (word_else ∷ ts) = Unit {0}
EndsChoice (_ ∷ ts) = ⊥

pub ends_reach : (ts : List Terminal) → EndsChoice ts → reach_of ts < 1
ends_reach [] s = absurd s
ends_reach (word_end ∷ ts) s = omega arith
ends_reach (word_else ∷ ts) s = omega arith
ends_reach (_ ∷ ts) s = absurd s

ends_elseif : {ts us : List Terminal} → EndsChoice ts → ts ≡ word_elseif ∷ us → ⊥
ends_elseif {us = us} s p = subst EndsChoice p s

bracket_bar : {ts us : List Terminal} → ◌≡◌ {A = List Terminal} (close_bracket ∷ ts) (bar ∷ us) → ⊥
bracket_bar e = cc

bracket_colon : {ts us : List Terminal} → ◌≡◌ {A = List Terminal} (close_bracket ∷ ts) (colon ∷ us) → ⊥
bracket_colon e = cc

brace_colon : {ts us : List Terminal} → ◌≡◌ {A = List Terminal} (close_brace ∷ ts) (colon ∷ us) → ⊥
brace_colon e = cc

comma_colon : {ts us : List Terminal} → ◌≡◌ {A = List Terminal} (comma ∷ ts) (colon ∷ us) → ⊥
comma_colon e = cc

bar_colon : {ts us : List Terminal} → ◌≡◌ {A = List Terminal} (bar ∷ ts) (colon ∷ us) → ⊥
bar_colon e = cc

end_else : {ts us : List Terminal} → ◌≡◌ {A = List Terminal} (word_end ∷ ts) (word_else ∷ us) → ⊥
end_else e = cc

-- an atom behind a dot that parentheses follow has arguments
dot_alone : {a e : ExpTree} {es : ExpTrees} {ts mid rest : List Terminal} → Arguments ts es mid → Postfixes true a ts e rest
    → reach_of rest < 21 → ⊥
dot_alone no_arguments no_postfix s = omega arith
dot_alone (arguments us) no_postfix s = omega arith

mutual
  pub unique : {k : Phrase} {ts rest other : List Terminal} {e f : ExpTree} → Reads k ts e rest → Reads k ts f other
      → reach_of rest < rank k → reach_of other < rank k → (e ≡ f) × (rest ≡ other)
  unique (branches bs) (branches cs) s t =
      let u = unique_branches bs cs s t in
      (ap disjunction u.0, u.1)
  unique (no_arrow d) (no_arrow c) s t = unique d c (omega arith) (omega arith)
  unique (no_arrow d) (an_arrow c e) s t =
      let u = unique d c (omega arith) (omega arith) in
      absurd (omega (arith, reach_same u.1))
  unique (an_arrow c e) (no_arrow d) s t =
      let u = unique c d (omega arith) (omega arith) in
      absurd (omega (arith, reach_same u.1))
  unique (an_arrow c e) (an_arrow d f) s t =
      let u = unique c d (omega arith) (omega arith) in
      let v = unique e (read_at (tail_same u.1) f) (omega arith) (omega arith) in
      ((cc), v.1)
  unique (conjuncts us) (conjuncts vs) s t =
      let u = unique_units us vs (omega arith) (omega arith) in
      (ap conjunction u.0, u.1)
  unique (signed_goal d) (signed_goal c) s t =
      let u = unique d c s t in
      ((cc), u.1)
  unique (signed_goal d) (plain_unit c) s t = absurd (omega (arith, begins c))
  unique (plain_unit c) (signed_goal d) s t = absurd (omega (arith, begins c))
  unique (plain_unit d) (plain_unit c) s t = unique d c (omega arith) (omega arith)
  unique (joined {l} d more) (joined c other) s t =
      let u = unique d c (stops_joined more s) (stops_joined other t) in
      unique_joined more (joined_at u.0 u.1 other) s t
  unique (negative d) (negative c) s t =
      let u = unique d c s t in
      ((cc), u.1)
  unique (negative d) (positive c) s t = absurd (omega (arith, begins c))
  unique (positive c) (negative d) s t = absurd (omega (arith, begins c))
  unique (positive d) (positive c) s t = unique d c (omega arith) (omega arith)
  unique (unrelated d) (unrelated c) s t = unique d c (omega arith) (omega arith)
  unique (unrelated d) (related a b) s t =
      let u = unique d a (omega arith) (omega arith) in
      absurd (omega (arith, reach_same u.1))
  unique (related a b) (unrelated d) s t =
      let u = unique a d (omega arith) (omega arith) in
      absurd (omega (arith, reach_same u.1))
  unique (related a b) (related c d) s t =
      let u = unique a c (omega arith) (omega arith) in
      let v = unique b (read_at (tail_same u.1) d) (omega arith) (omega arith) in
      let h = head_same u.1 in
      ((cc), v.1)
  unique (no_range d) (no_range c) s t = unique d c (omega arith) (omega arith)
  unique (no_range d) (a_range a b) s t =
      let u = unique d a (omega arith) (omega arith) in
      absurd (omega (arith, reach_same u.1))
  unique (no_range d) (a_stepped_range a b c) s t =
      let u = unique d a (omega arith) (omega arith) in
      absurd (omega (arith, reach_same u.1))
  unique (a_range a b) (no_range d) s t =
      let u = unique a d (omega arith) (omega arith) in
      absurd (omega (arith, reach_same u.1))
  unique (a_stepped_range a b c) (no_range d) s t =
      let u = unique a d (omega arith) (omega arith) in
      absurd (omega (arith, reach_same u.1))
  unique (a_range a b) (a_range c d) s t =
      let u = unique a c (omega arith) (omega arith) in
      let v = unique b (read_at (tail_same u.1) d) (omega arith) (omega arith) in
      ((cc), v.1)
  unique (a_range a b) (a_stepped_range c d e) s t =
      let u = unique a c (omega arith) (omega arith) in
      let v = unique b (read_at (tail_same u.1) d) (omega arith) (omega arith) in
      absurd (omega (arith, reach_same v.1))
  unique (a_stepped_range c d e) (a_range a b) s t =
      let u = unique c a (omega arith) (omega arith) in
      let v = unique d (read_at (tail_same u.1) b) (omega arith) (omega arith) in
      absurd (omega (arith, reach_same v.1))
  unique (a_stepped_range a b c) (a_stepped_range d e f) s t =
      let u = unique a d (omega arith) (omega arith) in
      let v = unique b (read_at (tail_same u.1) e) (omega arith) (omega arith) in
      let w = unique c (read_at (tail_same v.1) f) (omega arith) (omega arith) in
      ((cc), w.1)
  unique (with_plus d) (with_plus c) s t =
      let u = unique d c s t in
      ((cc), u.1)
  unique (with_plus d) (unsigned c) s t = absurd (omega (arith, begins c))
  unique (unsigned c) (with_plus d) s t = absurd (omega (arith, begins c))
  unique (with_minus d) (with_minus c) s t =
      let u = unique d c s t in
      ((cc), u.1)
  unique (with_minus d) (unsigned c) s t = absurd (omega (arith, begins c))
  unique (unsigned c) (with_minus d) s t = absurd (omega (arith, begins c))
  unique (with_complement d) (with_complement c) s t =
      let u = unique d c s t in
      ((cc), u.1)
  unique (with_complement d) (unsigned c) s t = absurd (omega (arith, begins c))
  unique (unsigned c) (with_complement d) s t = absurd (omega (arith, begins c))
  unique (unsigned d) (unsigned c) s t = unique d c (omega arith) (omega arith)
  unique (no_power d) (no_power c) s t = unique d c (omega arith) (omega arith)
  unique (no_power d) (a_power a b) s t =
      let u = unique d a (omega arith) (omega arith) in
      absurd (omega (arith, reach_same u.1))
  unique (a_power a b) (no_power d) s t =
      let u = unique a d (omega arith) (omega arith) in
      absurd (omega (arith, reach_same u.1))
  unique (a_power a b) (a_power c d) s t =
      let u = unique a c (omega arith) (omega arith) in
      let v = unique b (read_at (tail_same u.1) d) (reach_of-pow _ s) (reach_of-pow _ t) in
      ((cc), v.1)
  unique (postfixes d more) (postfixes c other) s t =
      let u = unique d c (stops_postfixes more s) (stops_postfixes other t) in
      unique_postfixes more (postfixes_at u.0 u.1 other) s t
  unique a_variable a_variable s t = (refl, refl)
  unique a_variable (a_pattern d) s t = absurd (omega arith)
  unique (a_pattern d) a_variable s t = absurd (omega arith)
  unique (a_pattern d) (a_pattern c) s t =
      let u = unique d c s t in
      ((cc), u.1)
  unique an_integer an_integer s t = (refl, refl)
  unique an_atom an_atom s t = (refl, refl)
  unique an_atom (a_call no_arguments) s t = absurd (omega arith)
  unique an_atom (a_call (arguments us)) s t = absurd (omega arith)
  unique (a_call no_arguments) an_atom s t = absurd (omega arith)
  unique (a_call (arguments us)) an_atom s t = absurd (omega arith)
  unique (a_call d) (a_call c) s t =
      let u = unique_arguments d c in
      ((cc), u.1)
  unique a_text a_text s t = (refl, refl)
  unique no_list no_list s t = (refl, refl)
  unique no_list (a_list us) s t = absurd (omega (arith, begins_units us))
  unique no_list (a_list_onto us d) s t = absurd (omega (arith, begins_units us))
  unique no_list (a_list_of d us) s t = absurd (omega (arith, begins d))
  unique (a_list us) no_list s t = absurd (omega (arith, begins_units us))
  unique (a_list_onto us d) no_list s t = absurd (omega (arith, begins_units us))
  unique (a_list_of d us) no_list s t = absurd (omega (arith, begins d))
  unique (a_list us) (a_list vs) s t =
      let u = unique_units us vs (omega arith) (omega arith) in
      ((cc), tail_same u.1)
  unique (a_list us) (a_list_onto vs d) s t =
      let u = unique_units us vs (omega arith) (omega arith) in
      absurd (bracket_bar u.1)
  unique (a_list_onto vs d) (a_list us) s t =
      let u = unique_units vs us (omega arith) (omega arith) in
      absurd (bracket_bar (sym u.1))
  unique (a_list_onto us d) (a_list_onto vs c) s t =
      let u = unique_units us vs (omega arith) (omega arith) in
      let v = unique d (read_at (tail_same u.1) c) (omega arith) (omega arith) in
      ((cc), tail_same v.1)
  unique (a_list (last_unit d)) (a_list_of c us) s t =
      let u = unique d c (omega arith) (omega arith) in
      absurd (bracket_colon u.1)
  unique (a_list (more_units d vs)) (a_list_of c us) s t =
      let u = unique d c (omega arith) (omega arith) in
      absurd (comma_colon u.1)
  unique (a_list_onto (last_unit d) e) (a_list_of c us) s t =
      let u = unique d c (omega arith) (omega arith) in
      absurd (bar_colon u.1)
  unique (a_list_onto (more_units d vs) e) (a_list_of c us) s t =
      let u = unique d c (omega arith) (omega arith) in
      absurd (comma_colon u.1)
  unique (a_list_of d us) (a_list (last_unit c)) s t =
      let u = unique d c (omega arith) (omega arith) in
      absurd (bracket_colon (sym u.1))
  unique (a_list_of d us) (a_list (more_units c vs)) s t =
      let u = unique d c (omega arith) (omega arith) in
      absurd (comma_colon (sym u.1))
  unique (a_list_of d us) (a_list_onto (last_unit c) e) s t =
      let u = unique d c (omega arith) (omega arith) in
      absurd (bar_colon (sym u.1))
  unique (a_list_of d us) (a_list_onto (more_units c vs) e) s t =
      let u = unique d c (omega arith) (omega arith) in
      absurd (comma_colon (sym u.1))
  unique (a_list_of d us) (a_list_of c vs) s t =
      let u = unique d c (omega arith) (omega arith) in
      let v = unique_units us (units_at (tail_same u.1) vs) (omega arith) (omega arith) in
      ((cc), tail_same v.1)
  unique no_array no_array s t = (refl, refl)
  unique no_array (an_array us) s t = absurd (omega (arith, begins_units us))
  unique no_array (an_array_of d us) s t = absurd (omega (arith, begins d))
  unique (an_array us) no_array s t = absurd (omega (arith, begins_units us))
  unique (an_array_of d us) no_array s t = absurd (omega (arith, begins d))
  unique (an_array us) (an_array vs) s t =
      let u = unique_units us vs (omega arith) (omega arith) in
      ((cc), tail_same u.1)
  unique (an_array (last_unit d)) (an_array_of c us) s t =
      let u = unique d c (omega arith) (omega arith) in
      absurd (brace_colon u.1)
  unique (an_array (more_units d vs)) (an_array_of c us) s t =
      let u = unique d c (omega arith) (omega arith) in
      absurd (comma_colon u.1)
  unique (an_array_of d us) (an_array (last_unit c)) s t =
      let u = unique d c (omega arith) (omega arith) in
      absurd (brace_colon (sym u.1))
  unique (an_array_of d us) (an_array (more_units c vs)) s t =
      let u = unique d c (omega arith) (omega arith) in
      absurd (comma_colon (sym u.1))
  unique (an_array_of d us) (an_array_of c vs) s t =
      let u = unique d c (omega arith) (omega arith) in
      let v = unique_units us (units_at (tail_same u.1) vs) (omega arith) (omega arith) in
      ((cc), tail_same v.1)
  unique (in_parens d) (in_parens c) s t =
      let u = unique d c (omega arith) (omega arith) in
      (u.0, tail_same u.1)
  unique (a_structure d) (a_structure c) s t =
      let u = unique_arguments d c in
      ((cc), u.1)
  unique (a_term d) (a_term c) s t =
      let u = unique d c (omega arith) (omega arith) in
      ((cc), tail_same u.1)
  unique (an_if d) (an_if c) s t =
      let u = unique_choices d c tt tt in
      ((cc), tail_same u.1)
  unique (an_if d) (an_if_else c e) s t =
      let u = unique_choices d c tt tt in
      absurd (end_else u.1)
  unique (an_if_else c e) (an_if d) s t =
      let u = unique_choices c d tt tt in
      absurd (end_else (sym u.1))
  unique (an_if_else c e) (an_if_else d f) s t =
      let u = unique_choices c d tt tt in
      let v = unique e (read_at (tail_same u.1) f) (omega arith) (omega arith) in
      ((cc), tail_same v.1)
  unique (a_foreach us d) (a_foreach vs c) s t =
      let u = unique_units us vs (omega arith) (omega arith) in
      let v = unique d (read_at (tail_same u.1) c) (omega arith) (omega arith) in
      ((cc), tail_same v.1)
  unique (a_while d e) (a_while c f) s t =
      let u = unique d c (omega arith) (omega arith) in
      let v = unique e (read_at (tail_same u.1) f) (omega arith) (omega arith) in
      ((cc), tail_same v.1)
  unique (a_do_while d e) (a_do_while c f) s t =
      let u = unique d c (omega arith) (omega arith) in
      let v = unique e (read_at (tail_same (tail_same u.1)) f) (omega arith) (omega arith) in
      ((cc), tail_same v.1)

  pub unique_branches : {ts rest other : List Terminal} {es fs : ExpTrees} → Branches ts es rest → Branches ts fs other
      → reach_of rest < 1 → reach_of other < 1 → (es ≡ fs) × (rest ≡ other)
  unique_branches (last_branch d) (last_branch c) s t =
      let u = unique d c (omega arith) (omega arith) in
      ((cc), u.1)
  unique_branches (last_branch d) (more_branches (no_arrow c) bs) s t =
      let u = unique d c (omega arith) (omega arith) in
      absurd (omega (arith, reach_same u.1))
  unique_branches (last_branch d) (more_branches (an_arrow c e) bs) s t =
      let u = unique d c (omega arith) (omega arith) in
      absurd (omega (arith, reach_same u.1))
  unique_branches (more_branches (no_arrow c) bs) (last_branch d) s t =
      let u = unique c d (omega arith) (omega arith) in
      absurd (omega (arith, reach_same u.1))
  unique_branches (more_branches (an_arrow c e) bs) (last_branch d) s t =
      let u = unique c d (omega arith) (omega arith) in
      absurd (omega (arith, reach_same u.1))
  unique_branches (more_branches d bs) (more_branches c cs) s t =
      let u = unique d c (omega arith) (omega arith) in
      let v = unique_branches bs (branches_at (tail_same u.1) cs) s t in
      ((cc), v.1)

  pub unique_units : {ts rest other : List Terminal} {es fs : ExpTrees} → Units ts es rest → Units ts fs other
      → reach_of rest < 3 → reach_of other < 3 → (es ≡ fs) × (rest ≡ other)
  unique_units (last_unit d) (last_unit c) s t =
      let u = unique d c (omega arith) (omega arith) in
      ((cc), u.1)
  unique_units (last_unit d) (more_units c us) s t =
      let u = unique d c (omega arith) (omega arith) in
      absurd (omega (arith, reach_same u.1))
  unique_units (more_units c us) (last_unit d) s t =
      let u = unique c d (omega arith) (omega arith) in
      absurd (omega (arith, reach_same u.1))
  unique_units (more_units d us) (more_units c vs) s t =
      let u = unique d c (omega arith) (omega arith) in
      let v = unique_units us (units_at (tail_same u.1) vs) s t in
      ((cc), v.1)

  pub unique_joined : {l : Line} {a e f : ExpTree} {ts rest other : List Terminal} → Joined l a ts e rest → Joined l a ts f other
      → reach_of rest < line_rank l → reach_of other < line_rank l → (e ≡ f) × (rest ≡ other)
  unique_joined no_more no_more s t = (refl, refl)
  unique_joined no_more (join j d more) s t = absurd (omega (arith, reach-joins j))
  unique_joined (join j d more) no_more s t = absurd (omega (arith, reach-joins j))
  unique_joined {a = a} (join {b = b} j d more) (join i c other) s t =
      let u = unique d c (stops_joined more s) (stops_joined other t) in
      let n = same_name j i in
      unique_joined more (joined_at (cc) u.1 other) s t

  pub unique_postfixes : {x : Bool} {a e f : ExpTree} {ts rest other : List Terminal} → Postfixes x a ts e rest
      → Postfixes x a ts f other → reach_of rest < 21 → reach_of other < 21 → (e ≡ f) × (rest ≡ other)
  unique_postfixes no_postfix no_postfix s t = (refl, refl)
  unique_postfixes no_postfix (an_index us more) s t = absurd (omega arith)
  unique_postfixes no_postfix (a_dot o more) s t = absurd (omega arith)
  unique_postfixes no_postfix (a_dot_call o us more) s t = absurd (omega arith)
  unique_postfixes (an_index us more) no_postfix s t = absurd (omega arith)
  unique_postfixes (a_dot o more) no_postfix s t = absurd (omega arith)
  unique_postfixes (a_dot_call o us more) no_postfix s t = absurd (omega arith)
  unique_postfixes {a = a} (an_index us more) (an_index vs other) s t =
      let u = unique_units us vs (omega arith) (omega arith) in
      unique_postfixes more (postfixes_at (ap (indexed a) u.0) (tail_same u.1) other) s t
  unique_postfixes (a_dot o more) (a_dot p other) s t = unique_postfixes more other s t
  unique_postfixes (a_dot o more) (a_dot_call p us other) s t = absurd (dot_alone us more s)
  unique_postfixes (a_dot_call p us other) (a_dot o more) s t = absurd (dot_alone us more t)
  unique_postfixes (a_dot_call p us more) (a_dot_call o vs other) s t =
      let u = unique_arguments us vs in
      unique_postfixes more (postfixes_at (cc) u.1 other) s t

  pub unique_arguments : {ts rest other : List Terminal} {es fs : ExpTrees} → Arguments ts es rest → Arguments ts fs other
      → (es ≡ fs) × (rest ≡ other)
  unique_arguments no_arguments no_arguments = (refl, refl)
  unique_arguments no_arguments (arguments us) = absurd (omega (arith, begins_units us))
  unique_arguments (arguments us) no_arguments = absurd (omega (arith, begins_units us))
  unique_arguments (arguments us) (arguments vs) =
      let u = unique_units us vs (omega arith) (omega arith) in
      (u.0, tail_same u.1)

  pub unique_choices : {ts rest other : List Terminal} {bs cs : ExpBranches} → Choices ts bs rest → Choices ts cs other
      → EndsChoice rest → EndsChoice other → (bs ≡ cs) × (rest ≡ other)
  unique_choices (last_choice c e) (last_choice d f) s t =
      let u = unique c d (omega arith) (omega arith) in
      let v = unique e (read_at (tail_same u.1) f) (ends_reach _ s) (ends_reach _ t) in
      ((cc), v.1)
  unique_choices (last_choice c e) (more_choices d f bs) s t =
      let u = unique c d (omega arith) (omega arith) in
      let v = unique e (read_at (tail_same u.1) f) (ends_reach _ s) (omega arith) in
      absurd (ends_elseif s v.1)
  unique_choices (more_choices d f bs) (last_choice c e) s t =
      let u = unique d c (omega arith) (omega arith) in
      let v = unique f (read_at (tail_same u.1) e) (omega arith) (ends_reach _ t) in
      absurd (ends_elseif t (sym v.1))
  unique_choices (more_choices c e bs) (more_choices d f cs) s t =
      let u = unique c d (omega arith) (omega arith) in
      let v = unique e (read_at (tail_same u.1) f) (omega arith) (omega arith) in
      let w = unique_choices bs (choices_at (tail_same v.1) cs) s t in
      ((cc), w.1)

-- the laws

pub has_one_exp : HasOneExp
has_one_exp tokens e f d c = (unique d c (omega arith) (omega arith)).0

not_deep : (tokens : List Token) (e : ExpTree) → IsRead tokens e → IsTooDeep tokens → ⊥
not_deep tokens e r (inl crowded) = r.1 crowded
not_deep tokens e r (inr (f, c, deep)) = omega (arith, ap levels (has_one_exp tokens e f r.0 c), r.2)

pub read_is_one : ReadIsOne
read_is_one tokens e r = (not_deep tokens e r, λ none. none.1 e r.0)

pub too_deep_is_no_none : TooDeepIsNoNone
too_deep_is_no_none tokens (inl crowded) none = none.0 crowded
too_deep_is_no_none tokens (inr (f, c, deep)) none = none.1 f c
