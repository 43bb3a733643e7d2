-- The order of formulas is total, and ties only equal formulas: it is that of the formulas written as lists of tokens.
use Rattle.std.proofs.Common.{ℕ, ◌≡◌, refl, sym, ap, subst, ◌∙◌, Bool, true, false, List, [], ◌∷◌, ◌++◌, append_assoc, ltb, eqb, ◌/◌, ◌%◌}
use Rattle.std.proofs.lemmas.List.{append-nil}
use Rattle.std.specs.declared.cmp.Ordering.{Ordering}
use Rattle.std.specs.declared.cmp.Ordering.TheVariants.{Less, Equal, Greater}
use Rattle.std.specs.Ordering.{nat_cmp, ordering_then, on, then_cmp, is_eq}
use Rattle.std.specs.Cmp.{IsTotalOrder, nat_cmp_total, on_total, then_total}
use Rattle.std.specs.Cmp.Lexicographic.{slice_cmp}
use Rattle.std.specs.FinMap.{nat_cmp-IsAntisymmetric}
use Rattle.std.proofs.lemmas.Cmp.{lists_total}
use Rattle.qe_ring.proofs.Bools.{no_way}
use Rattle.qe_ring.proofs.Ties.{equal_tie, then_Equal, both_tie}
use Rattle.qe_poly.specs.Polynomial.{Polynomial}
use Rattle.qe_poly.specs.Order.{poly_cmp, poly_total, poly_ties}
use Rattle.qe_poly.specs.Equal.{poly_tells}
use Rattle.qe_form.specs.declared.signs.Signs.{Signs}
use Rattle.qe_form.specs.declared.form.Atom as atom
use Rattle.qe_form.specs.Signs.{bits}
use Rattle.qe_form.specs.Formula.{Formula, Formulas, True, False, Atom, And, Or, Not, Implies, Iff, Ex, All, no_more, more}
use Rattle.qe_form.specs.Order.{atom_cmp, formula_cmp, formulas_cmp}
use Rattle.qe_form.specs.Fed.{formula_fed}

-- ---- tokens: a kind, or the end of a list, which comes first; then a polynomial and a number where the kind has them

abbrev Token : Type 0
Token = ℕ × (Polynomial × ℕ)

abbrev token_cmp : Token → Token → Ordering
token_cmp = then_cmp (on (λ t. t.0) nat_cmp) (then_cmp (on (λ t. t.1.0) poly_cmp) (on (λ t. t.1.1) nat_cmp))

token_total : IsTotalOrder token_cmp
token_total = then_total (on_total (λ t. t.0) nat_cmp_total) (then_total (on_total (λ t. t.1.0) poly_total) (on_total (λ t. t.1.1) nat_cmp_total))

abbrev mutual
  tokens : Formula → List Token
  tokens True = (1, ([], 0)) ∷ []
  tokens False = (2, ([], 0)) ∷ []
  tokens (Atom a) = (3, (a.poly, bits a.signs)) ∷ []
  tokens (And fs) = (4, ([], 0)) ∷ tokens_each fs
  tokens (Or fs) = (5, ([], 0)) ∷ tokens_each fs
  tokens (Not f) = (6, ([], 0)) ∷ tokens f
  tokens (Implies f g) = (7, ([], 0)) ∷ (tokens f ++ tokens g)
  tokens (Iff f g) = (8, ([], 0)) ∷ (tokens f ++ tokens g)
  tokens (Ex x f) = (9, ([], x)) ∷ tokens f
  tokens (All x f) = (10, ([], x)) ∷ tokens f

  tokens_each : Formulas → List Token
  tokens_each no_more = (0, ([], 0)) ∷ []
  tokens_each (more f fs) = tokens f ++ tokens_each fs

-- ---- the order is that of the tokens

then_assoc : (r s t : Ordering) → ordering_then r (ordering_then s t) ≡ ordering_then (ordering_then r s) t
then_assoc Less s t = refl
then_assoc Equal s t = refl
then_assoc Greater s t = refl

abbrev cmp : List Token → List Token → Ordering
cmp = slice_cmp token_cmp

end_first : (g : Formula) (r s : List Token) → cmp ((0, ([], 0)) ∷ r) (tokens g ++ s) ≡ Less
end_first True r s = refl
end_first False r s = refl
end_first (Atom a) r s = refl
end_first (And fs) r s = refl
end_first (Or fs) r s = refl
end_first (Not f) r s = refl
end_first (Implies f g) r s = refl
end_first (Iff f g) r s = refl
end_first (Ex x f) r s = refl
end_first (All x f) r s = refl

end_after : (f : Formula) (r s : List Token) → cmp (tokens f ++ r) ((0, ([], 0)) ∷ s) ≡ Greater
end_after True r s = refl
end_after False r s = refl
end_after (Atom a) r s = refl
end_after (And fs) r s = refl
end_after (Or fs) r s = refl
end_after (Not f) r s = refl
end_after (Implies f g) r s = refl
end_after (Iff f g) r s = refl
end_after (Ex x f) r s = refl
end_after (All x f) r s = refl

-- two lists of tokens that begin with two parts each
joined : (a b c d r s : List Token) (u v : Ordering) → cmp (a ++ (b ++ r)) (c ++ (d ++ s)) ≡ ordering_then u (cmp (b ++ r) (d ++ s)) → cmp (b ++ r) (d ++ s) ≡ ordering_then v (cmp r s)
    → cmp ((a ++ b) ++ r) ((c ++ d) ++ s) ≡ ordering_then (ordering_then u v) (cmp r s)
joined a b c d r s u v first second =
    (λ i. cmp (append_assoc a b r i) (append_assoc c d s i)) ∙ (first ∙ (ap (ordering_then u) second ∙ then_assoc u v (cmp r s)))

mutual
  compared : (f g : Formula) (r s : List Token) → cmp (tokens f ++ r) (tokens g ++ s) ≡ ordering_then (formula_cmp f g) (cmp r s)
  compared (Atom a) (Atom b) r s = refl
  compared (And fs) (And gs) r s = compared_each fs gs r s
  compared (Or fs) (Or gs) r s = compared_each fs gs r s
  compared (Not f) (Not g) r s = compared f g r s
  compared (Implies f g) (Implies h k) r s = joined (tokens f) (tokens g) (tokens h) (tokens k) r s (formula_cmp f h) (formula_cmp g k) (compared f h (tokens g ++ r) (tokens k ++ s)) (compared g k r s)
  compared (Iff f g) (Iff h k) r s = joined (tokens f) (tokens g) (tokens h) (tokens k) r s (formula_cmp f h) (formula_cmp g k) (compared f h (tokens g ++ r) (tokens k ++ s)) (compared g k r s)
  compared (Ex x f) (Ex y g) r s = ap (ordering_then (nat_cmp x y)) (compared f g r s) ∙ then_assoc (nat_cmp x y) (formula_cmp f g) (cmp r s)
  compared (All x f) (All y g) r s = ap (ordering_then (nat_cmp x y)) (compared f g r s) ∙ then_assoc (nat_cmp x y) (formula_cmp f g) (cmp r s)
  compared True (Atom b) r s = refl
  compared False (Atom b) r s = refl
  compared f g r s = refl

  compared_each : (fs gs : Formulas) (r s : List Token) → cmp (tokens_each fs ++ r) (tokens_each gs ++ s) ≡ ordering_then (formulas_cmp fs gs) (cmp r s)
  compared_each no_more no_more r s = refl
  compared_each no_more (more g gs) r s = ap (cmp ((0, ([], 0)) ∷ r)) (append_assoc (tokens g) (tokens_each gs) s) ∙ end_first g r (tokens_each gs ++ s)
  compared_each (more f fs) no_more r s = ap (λ ts. cmp ts ((0, ([], 0)) ∷ s)) (append_assoc (tokens f) (tokens_each fs) r) ∙ end_after f (tokens_each fs ++ r) s
  compared_each (more f fs) (more g gs) r s =
      joined (tokens f) (tokens_each fs) (tokens g) (tokens_each gs) r s (formula_cmp f g) (formulas_cmp fs gs) (compared f g (tokens_each fs ++ r) (tokens_each gs ++ s)) (compared_each fs gs r s)

by_tokens : (f g : Formula) → cmp (tokens f) (tokens g) ≡ formula_cmp f g
by_tokens f g = (λ i. cmp (sym (append-nil (tokens f)) i) (sym (append-nil (tokens g)) i)) ∙ (compared f g [] [] ∙ then_Equal (formula_cmp f g))

pub formula_total : IsTotalOrder formula_cmp
formula_total = subst IsTotalOrder (λ i f g. by_tokens f g i) (on_total tokens (lists_total token_total))

-- ---- only equal formulas tie

never : {A : Type 0} (r : Ordering) → is_eq r ≡ false → r ≡ Equal → A
never r apart tie = no_way (sym apart ∙ ap is_eq tie)

-- the signs of a number of bits
signs_of_bits : ℕ → Signs
signs_of_bits n = record { plus = ltb 3 n; zero = eqb (n / 2 % 2) 1; minus = eqb (n % 2) 1 }

bits_back : (plus zero minus : Bool) → signs_of_bits (bits (record { plus = plus; zero = zero; minus = minus })) ≡ record { plus = plus; zero = zero; minus = minus }
unfolding signs_of_bits
bits_back true true true = refl
bits_back true true false = refl
bits_back true false true = refl
bits_back true false false = refl
bits_back false true true = refl
bits_back false true false = refl
bits_back false false true = refl
bits_back false false false = refl

pub bits_same : (s t : Signs) → bits s ≡ bits t → s ≡ t
bits_same s t same = sym (bits_back s.plus s.zero s.minus) ∙ (ap signs_of_bits same ∙ bits_back t.plus t.zero t.minus)

poly_same : (p q : Polynomial) → poly_cmp p q ≡ Equal → p ≡ q
poly_same p q tie = poly_tells p q (poly_ties p q ∙ ap is_eq tie)

atom_same : (a b : atom.Atom) → atom_cmp a b ≡ Equal → a ≡ b
atom_same a b tie =
    let ties = both_tie (poly_cmp a.poly b.poly) (nat_cmp (bits a.signs) (bits b.signs)) tie in
    let poly = poly_same a.poly b.poly ties.0 in
    let signs = bits_same a.signs b.signs (nat_cmp-IsAntisymmetric (bits a.signs) (bits b.signs) ties.1) in λ i. record { poly = poly i; signs = signs i }

mutual
  pub formula_same : (f g : Formula) → formula_cmp f g ≡ Equal → f ≡ g
  formula_same True True tie = refl
  formula_same False False tie = refl
  formula_same (Atom a) (Atom b) tie = ap Atom (atom_same a b tie)
  formula_same (And fs) (And gs) tie = ap And (formulas_same fs gs tie)
  formula_same (Or fs) (Or gs) tie = ap Or (formulas_same fs gs tie)
  formula_same (Not f) (Not g) tie = ap Not (formula_same f g tie)
  formula_same (Implies f g) (Implies h k) tie =
      let ties = both_tie (formula_cmp f h) (formula_cmp g k) tie in λ i. Implies (formula_same f h ties.0 i) (formula_same g k ties.1 i)
  formula_same (Iff f g) (Iff h k) tie =
      let ties = both_tie (formula_cmp f h) (formula_cmp g k) tie in λ i. Iff (formula_same f h ties.0 i) (formula_same g k ties.1 i)
  formula_same (Ex x f) (Ex y g) tie =
      let ties = both_tie (nat_cmp x y) (formula_cmp f g) tie in λ i. Ex (nat_cmp-IsAntisymmetric x y ties.0 i) (formula_same f g ties.1 i)
  formula_same (All x f) (All y g) tie =
      let ties = both_tie (nat_cmp x y) (formula_cmp f g) tie in λ i. All (nat_cmp-IsAntisymmetric x y ties.0 i) (formula_same f g ties.1 i)
  formula_same f g tie = never (formula_cmp f g) refl tie

  formulas_same : (fs gs : Formulas) → formulas_cmp fs gs ≡ Equal → fs ≡ gs
  formulas_same no_more no_more tie = refl
  formulas_same no_more (more g gs) tie = never Less refl tie
  formulas_same (more f fs) no_more tie = never Greater refl tie
  formulas_same (more f fs) (more g gs) tie =
      let ties = both_tie (formula_cmp f g) (formulas_cmp fs gs) tie in λ i. more (formula_same f g ties.0 i) (formulas_same fs gs ties.1 i)

-- ---- equal formulas feed alike

pub fed_alike : (f g : Formula) → is_eq (formula_cmp f g) ≡ true → formula_fed f ≡ formula_fed g
fed_alike f g tie = ap formula_fed (formula_same f g (equal_tie (formula_cmp f g) tie))
