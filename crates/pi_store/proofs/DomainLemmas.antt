-- Domains of variables: what is read of them, and what one that is given changes.
use Rattle.std.proofs.Common.{◌≡◌, ◌≢◌, ℕ, zero, suc, ◌+◌, ◌*◌, ◌/◌, ◌%◌, ◌==◌, ◌<◌, ◌≤◌, min, Bool, true, false, cond, List, [], ◌∷◌, length, map, slice_index, slice_set, Option, Some, None, refl, ap, sym, subst, ◌∙◌, arith, length-append}
use Rattle.std.specs.Prelude.{slice_index_or}
use Rattle.std.proofs.lemmas.Bool.Decides.{nat_tests}
use Rattle.pi_terms.specs.Tree.{Tree, var, int, atom, comp}
use Rattle.pi_terms.proofs.GetLemmas.{map_set}
use Rattle.pi_constraints.specs.declared.domain.Span.{Span}
use Rattle.pi_constraints.specs.State.{Variable, free, within, followed, bindings, domain_at_root}
use Rattle.pi_constraints.specs.State as state
use Rattle.pi_constraints.specs.Store.{IsTerm, Confines}
use Rattle.pi_constraints.specs.declared.store.Ref.{Ref}
use Rattle.pi_region.specs.Entry.{data_of}
use Rattle.pi_region.specs.Image.{Image, replacing}
use Rattle.pi_region.specs.Back.{at_length}
use Rattle.pi_region.specs.declared.entry.Table.{Table}
use Rattle.pi_region.proofs.BackLemmas.{len_back}
use Rattle.pi_store_blocks.specs.declared.form.Form.{Form}
use Rattle.pi_store_blocks.specs.Form.{form_of}
use Rattle.pi_store_blocks.specs.Heap.{Heap, term_at}
use Rattle.pi_store_blocks.proofs.LookLemmas.{shows_var}
use Rattle.pi_store_blocks.specs.Bound.{IsBoundIn}
use Rattle.pi_store_blocks.specs.Block.{block_of, block_at}
use Rattle.pi_store_blocks.proofs.BlockLemmas.{in_more, come_back, read_back}
use Rattle.pi_store_blocks.specs.Domain.{bounds_of, domain_in}
use Rattle.pi_store_blocks.proofs.DomainLemmas as domains
use Rattle.pi_store_blocks.proofs.ConstraintTables.{block_right}
use Rattle.pi_store_blocks.specs.NameTable.{NameTable}
use Rattle.pi_store.specs.Heads.{taken_in}
use Rattle.pi_store.specs.Walk.{variable_of, followed_at, free_at}
use Rattle.pi_store.specs.Domains.{domain_at, domain_end, domain_by_end, domain_by, domain_of_any, domain_of, Confined}
use Rattle.pi_store.specs.Holding.{unbound_at, variable_by, variable_in, heap_of, state_of, view_of}
use Rattle.pi_store.specs.Sound.{IsSound}
use Rattle.pi_store.specs.Bindings.{bound_in}
use Rattle.pi_store.proofs.LookLemmas.{followed_to, form_var}
use Rattle.pi_store.proofs.NameLemmas.{keeps_itself}
use Rattle.pi_store.proofs.SoundLemmas.{has_bound, sound_words, sound_domain}
use Rattle.pi_store.proofs.KeepLemmas.{heap_grows, keeps_all, same_states, same_parts, parts_stay}
use Rattle.pi_store.proofs.BindLemmas.{free_is}

-- What is read

unbound_domain : (h : Heap) (end : ℕ) → state.domain_in (unbound_at h end) ≡ domain_by_end h.words end
unbound_domain h zero = refl
unbound_domain h (suc last) = refl

word_domain : (b : Bool) (h : Heap) (w : ℕ) → state.domain_in (variable_by b h w) ≡ domain_by_end h.words (cond b (w / 8) 0)
word_domain true h w = unbound_domain h (w / 8)
word_domain false h w = refl

pub domain_is : (h : Heap) (vs : List ℕ) (n : ℕ) → state.domain_in (slice_index_or (map (variable_in h) vs) n free) ≡ domain_by h.words (slice_index vs n)
domain_is h [] n = refl
domain_is h (w ∷ vs) zero = word_domain (w % 8 == 0) h w
domain_is h (w ∷ vs) (suc n) = domain_is h vs n

-- a term that is no variable has a form that is none
no_variable : (h : Heap) (r : ℕ) (u : Tree) (f : Form) → form_of r ≡ f → term_at h r ≡ Some u → ((n : ℕ) → u ≢ var n) → variable_of f ≡ None
no_variable h r u (Form.Var n) e is not = absurd (not n (shows_var h r n u e is))
no_variable h r u (Form.Int n) e is not = refl
no_variable h r u (Form.Atom k) e is not = refl
no_variable h r u (Form.Pair place flag) e is not = refl
no_variable h r u (Form.Comp place flag) e is not = refl
no_variable h r u (Form.Data n) e is not = refl

solid_domain : (h : Heap) (i : Image) (r : ℕ) (u : Tree) → term_at h r ≡ Some u → ((n : ℕ) → u ≢ var n) → domain_of_any i (variable_of (form_of r)) ≡ None
solid_domain h i r u is not = ap (domain_of_any i) (no_variable h r u (form_of r) refl is not)

root_domain : (t : NameTable) (i : Image) (r : ℕ) (u : Tree) → term_at (heap_of t i) r ≡ Some u → domain_of_any i (variable_of (form_of r)) ≡ domain_at_root (state_of (heap_of t i) i) u
root_domain t i r (var n) is = ap (λ f. domain_of_any i (variable_of f)) (form_var (heap_of t i) r n is) ∙ sym (domain_is (heap_of t i) i.variables n)
root_domain t i r (int n) is = solid_domain (heap_of t i) i r (int n) is (λ m e. absurd (cc))
root_domain t i r (atom name) is = solid_domain (heap_of t i) i r (atom name) is (λ m e. absurd (cc))
root_domain t i r (comp name ts) is = solid_domain (heap_of t i) i r (comp name ts) is (λ m e. absurd (cc))

pub shows_domain : (t : NameTable) (i : Image) → IsSound t i → (r : Ref) (found : Option (List Span)) → found ≡ domain_of i r → (x : Tree) → IsTerm (view_of t i) r x → found ≡ domain_at_root (state_of (heap_of t i) i) (followed (bound_in (heap_of t i) i.variables) x)
shows_domain t i s r found is x term =
    is ∙ root_domain t i (followed_at i.variables r).number (followed (bound_in (heap_of t i) i.variables) x) (followed_to (heap_of t i) i.variables (has_bound t i s) r (followed_at i.variables r) x refl term)

-- What was there at a mark

pub none_zero : (n : ℕ) → (n == 0) ≡ true → n ≡ 0
none_zero n e = grind (arith, nat_tests)

end_within : (h : Heap) (b : Bool) (w : ℕ) → (w % 8 == 0) ≡ b → IsBoundIn h w → cond b (w / 8) 0 ≤ length h.words
end_within h true w e is = is.place (none_zero (w % 8) e)
end_within h false w e is = omega arith

come_to : (i : Image) (len end : ℕ) → end ≤ length (at_length len i).region → domain_by_end (at_length len i).region end ≡ domain_by_end i.region end
come_to i len zero le = refl
come_to i len (suc last) le =
    let l : length (at_length len i).region ≡ min len (length i.region) = len_back len i in
    ap (λ ns. Some (domain_in ns)) (come_back len (suc last) i (omega arith) (omega arith))

pub shows_past : (t : NameTable) (i : Image) → IsSound t i → (len n : ℕ) (found : Option (List Span)) → found ≡ domain_by i.region (slice_index (at_length len i).variables n)
    → found ≡ state.domain_of (state_of (heap_of t (at_length len i)) (at_length len i)) n
shows_past t i s len n found is =
    let j : Image = at_length len i in
    let w : ℕ = slice_index j.variables n in
    let within : domain_end w ≤ length j.region = end_within (heap_of t j) (w % 8 == 0) w refl (s.bound.at len n) in
    is ∙ (sym (come_to i len (domain_end w) within) ∙ sym (domain_is (heap_of t j) j.variables n))

-- A domain that is given

pub confines_none : (t : NameTable) (i : Image) (r : Ref) (d : List Span) → IsSound t i → free_at i.variables r ≡ None → Confines (view_of t i) (view_of t i) r d
confines_none t i r d s none = λ n x is acyclic root unbound many. let free_is_it : free_at i.variables r ≡ Some n = free_is t i r x n s is root unbound.1 in absurd (cc)

record Given (i j : Image) (n end : ℕ) (d : List Span) : Type 0 where
  some : 0 < end
  block : block_at j.region end ≡ bounds_of d
  variables : j.variables ≡ slice_set i.variables n (8 * end)
  constraints : j.constraints ≡ i.constraints
  agents : j.agents ≡ i.agents
  waiting : j.waiting ≡ i.waiting
  taken : taken_in j ≡ taken_in i

given : (i j : Image) (n : ℕ) (d : List Span) (c : Confined i j n d) → Given i j n c.end d
given i j n d c =
    let mid : Image = c.mid in
    let end : ℕ = c.end in
    let e : end ≡ length mid.region = c.written.end in
    let l : length mid.region ≡ length i.region + length (block_of (bounds_of d)) = ap (λ (k : Image). length k.region) c.written.words ∙ length-append i.region (block_of (bounds_of d)) in
    let m : length (block_of (bounds_of d)) ≡ length (map data_of (bounds_of d)) + 1 = length-append (map data_of (bounds_of d)) (data_of (length (bounds_of d)) ∷ []) in
    let entry : List ℕ = replacing mid.trail Table.Variables n (slice_index mid.variables n) in
    record {
      some = omega arith;
      block = ap (λ (k : Image). block_at k.region end) c.set ∙ (in_more mid.region entry end (omega arith) ∙ read_back i mid (bounds_of d) end c.written);
      variables = ap (λ (k : Image). k.variables) c.set ∙ ap (λ (k : Image). slice_set k.variables n (8 * end)) c.written.words;
      constraints = ap (λ (k : Image). k.constraints) c.set ∙ ap (λ (k : Image). k.constraints) c.written.words;
      agents = ap (λ (k : Image). k.agents) c.set ∙ ap (λ (k : Image). k.agents) c.written.words;
      waiting = ap (λ (k : Image). k.waiting) c.set ∙ ap (λ (k : Image). k.waiting) c.written.words;
      taken = ap taken_in c.set ∙ ap taken_in c.written.words;
    }

some_at : (k : Heap) (end : ℕ) → 0 < end → unbound_at k end ≡ within (domain_at k.words end)
some_at k zero some = absurd (omega arith)
some_at k (suc last) some = refl

pub is_zero : (n : ℕ) → n ≡ 0 → (n == 0) ≡ true
is_zero n e = grind (arith, nat_tests)

place_word : (k : Heap) (end : ℕ) → 0 < end → variable_in k (8 * end) ≡ within (domain_at k.words end)
place_word k end some =
    let none : (8 * end) % 8 ≡ 0 = omega arith in
    let eighth : (8 * end) / 8 ≡ end = omega arith in
    ap (λ b. variable_by b k (8 * end)) (is_zero ((8 * end) % 8) none) ∙ (ap (unbound_at k) eighth ∙ some_at k end some)

pub sound_confined : (t : NameTable) (i j : Image) (n : ℕ) (d : List Span) → IsSound t i → Confined i j n d → IsSound t j
sound_confined t i j n d s c =
    let mid : IsSound t c.mid = subst (IsSound t) (sym c.written.words) (sound_words t i (block_of (bounds_of d)) (block_right (heap_of t i) (bounds_of d)) s) in
    let e : c.end ≡ length c.mid.region = c.written.end in
    subst (IsSound t) (sym c.set) (sound_domain t c.mid n c.end (omega arith) mid)

pub confines_to : (t : NameTable) (i j : Image) (r : Ref) (n : ℕ) (d : List Span) → IsSound t i → free_at i.variables r ≡ Some n → Confined i j n d → Confines (view_of t i) (view_of t j) r d
confines_to t i j r n d s free_there c = λ m x is acyclic root unbound many.
    let h : Heap = heap_of t i in
    let k : Heap = heap_of t j in
    let vs : List ℕ = i.variables in
    let found : free_at i.variables r ≡ Some m = free_is t i r x m s is root unbound.1 in
    let same : n ≡ m = cc in
    let g = given i j n d c in
    let keeps = keeps_itself t (length i.region) in
    let p = parts_stay t t i j s (heap_grows t t i j keeps c.advances) in
    let q = same_parts h k i j p in
    let word : variable_in k (8 * c.end) ≡ within d = place_word k c.end g.some ∙ ap within (ap domain_in g.block ∙ domains.back d c.domain) in
    let all : map (variable_in k) j.variables ≡ slice_set (map (variable_in h) vs) m (within d) =
    ap (map (variable_in k)) g.variables
    ∙ (map_set (variable_in k) vs n (8 * c.end)
    ∙ (ap (λ ws. slice_set ws n (variable_in k (8 * c.end))) p.variables
    ∙ (ap (slice_set (map (variable_in h) vs) n) word
    ∙ ap (λ z. slice_set (map (variable_in h) vs) z (within d)) same))) in
    record { keeps = keeps_all t t i j keeps c.advances; state = same_states _ _ all (q.constraints g.constraints) (q.agents g.agents) (q.waiting g.waiting g.taken) }
