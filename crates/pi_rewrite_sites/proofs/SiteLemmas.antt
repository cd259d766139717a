-- Sites behind one part after the other.
use Rattle.std.proofs.Common.{◌≡◌, ℕ, ◌+◌, [], ◌++◌, sym, ◌∙◌, ap, arith}
use Rattle.pi_meaning.specs.OverNames.Texts.{Names, behind}
use Rattle.pi_rewrite_spec.specs.Sites.{Site, behind_site}
use Rattle.pi_rewrite_sites.proofs.NameLemmas.{behind-append}

-- with other names before it, and so many helpers
abbrev site_with : Site → Names → ℕ → Site
site_with s ns h = record { filled = s.filled; before = ns; helpers = h; called = s.called }

site-by : (s : Site) (ns ms : Names) (h k : ℕ) → ns ≡ ms → h ≡ k → site_with s ns h ≡ site_with s ms k
site-by s ns ms h k e f = ap (λ x. site_with s x h) e ∙ ap (λ x. site_with s ms x) f

-- behind two lots of names and helpers
pub behind-twice : (s : Site) (a b : Names) (m n : ℕ) → behind_site (behind_site s a m) b n ≡ behind_site s (a ++ b) (m + n)
behind-twice s a b m n = site-by s (behind (behind s.before a) b) (behind s.before (a ++ b)) ((s.helpers + m) + n) (s.helpers + (m + n)) (sym (behind-append s.before a b)) (omega arith)

-- one step from a place
pub step-behind : (s m r : Site) (now put none ns : Names) (k h : ℕ) → r ≡ behind_site m now k → m ≡ s → now ≡ put → put ≡ none ++ ns → none ≡ [] → k ≡ h → r ≡ behind_site s ns h
step-behind s m r now put none ns k h is from same all empty count =
    is ∙ (ap (λ x. behind_site x now k) from ∙ (ap (λ x. behind_site s x k) (same ∙ (all ∙ ap (λ x. x ++ ns) empty)) ∙ ap (λ x. behind_site s ns x) count))
