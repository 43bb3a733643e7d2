-- What parts are merged by: the polynomial of an atom, or the whole of any other formula, which stand in the order of formulas.
use Rattle.std.proofs.Common.{◌≡◌, ◌∙◌, sym, ap, refl, Bool, true, false, cond, Some, None}
use Rattle.std.specs.declared.cmp.Ordering.{Ordering}
use Rattle.std.specs.declared.cmp.Ordering.TheVariants.{Less, Equal, Greater}
use Rattle.std.specs.Ordering.{is_eq, is_gt, nat_cmp, ordering_then}
use Rattle.std.proofs.Math.Bool.{and_comm, or_comm, and_assoc, or_assoc, and_self, or_self}
use Rattle.qe_ring.proofs.Ties.{equal_tie, then_Equal}
use Rattle.qe_poly.specs.Equal.{poly_eq, poly_tells}
use Rattle.qe_poly.specs.Order.{poly_cmp, poly_ties}
use Rattle.qe_form.specs.declared.signs.Signs.{Signs}
use Rattle.qe_form.specs.declared.form.Atom as atom
use Rattle.qe_form.specs.Signs.{bits}
use Rattle.qe_form.specs.Formula.{Formula, Atom}
use Rattle.qe_form.specs.Order.{formula_cmp}
use Rattle.qe_form.specs.OrderLaws.{formula_same}
use Rattle.qe_simp.specs.declared.connective.Connective.{Connective}
use Rattle.qe_simp.specs.declared.connective.Connective.TheVariants.{Conjunction, Disjunction}
use Rattle.qe_simp.specs.Simplified.{joined_signs, as_one}

-- ---- a part as its key and its signs

abbrev pub no_signs : Signs
no_signs = record { plus = false; zero = false; minus = false }

abbrev pub all_signs : Signs
all_signs = record { plus = true; zero = true; minus = true }

abbrev pub key : Formula → Formula
key (Atom a) = Atom (record { poly = a.poly; signs = no_signs })
key f = f

abbrev pub signs_of : Formula → Signs
signs_of (Atom a) = a.signs
signs_of f = no_signs

abbrev pub with_signs : Formula → Signs → Formula
with_signs (Atom a) s = Atom (record { poly = a.poly; signs = s })
with_signs f s = f

pub rebuilt : (f : Formula) → with_signs (key f) (signs_of f) ≡ f
rebuilt (Atom a) = refl
rebuilt f = refl

pub same_part : (f g : Formula) → key f ≡ key g → signs_of f ≡ signs_of g → f ≡ g
same_part f g keys signs = sym (rebuilt f) ∙ ((λ i. with_signs (keys i) (signs i)) ∙ rebuilt g)

-- ---- joined signs

pub joined_comm : (k : Connective) (s t : Signs) → joined_signs k s t ≡ joined_signs k t s
joined_comm Conjunction s t = λ i. record { plus = and_comm s.plus t.plus i; zero = and_comm s.zero t.zero i; minus = and_comm s.minus t.minus i }
joined_comm Disjunction s t = λ i. record { plus = or_comm s.plus t.plus i; zero = or_comm s.zero t.zero i; minus = or_comm s.minus t.minus i }

pub joined_assoc : (k : Connective) (s t u : Signs) → joined_signs k (joined_signs k s t) u ≡ joined_signs k s (joined_signs k t u)
joined_assoc Conjunction s t u = λ i. record { plus = and_assoc s.plus t.plus u.plus i; zero = and_assoc s.zero t.zero u.zero i; minus = and_assoc s.minus t.minus u.minus i }
joined_assoc Disjunction s t u = λ i. record { plus = or_assoc s.plus t.plus u.plus i; zero = or_assoc s.zero t.zero u.zero i; minus = or_assoc s.minus t.minus u.minus i }

pub joined_same : (k : Connective) (s : Signs) → joined_signs k s s ≡ s
joined_same Conjunction s = λ i. record { plus = and_self s.plus i; zero = and_self s.zero i; minus = and_self s.minus i }
joined_same Disjunction s = λ i. record { plus = or_self s.plus i; zero = or_self s.zero i; minus = or_self s.minus i }

-- ---- two parts as one

-- h is f and g as one part
pub record One (k : Connective) (f g h : Formula) : Type 0 where
  pub same : key f ≡ key g
  pub kept : key h ≡ key f
  pub joined : signs_of h ≡ joined_signs k (signs_of f) (signs_of g)

one_of_equals : (k : Connective) (f g h : Formula) (t : Bool) → is_eq (formula_cmp f g) ≡ t → cond t (Some f) None ≡ Some h → One k f g h
one_of_equals k f g h true tied is =
    let same : f ≡ g = formula_same f g (equal_tie (formula_cmp f g) tied) in
    let first : h ≡ f = cc in
    record { same = ap key same; kept = ap key first; joined = ap signs_of first ∙ (sym (joined_same k (signs_of f)) ∙ ap (λ e. joined_signs k (signs_of f) (signs_of e)) same) }
one_of_equals k f g h false apart is = absurd (cc)

one_of_atoms : (k : Connective) (a b : atom.Atom) (h : Formula) (t : Bool) → poly_eq a.poly b.poly ≡ t → cond t (Some (Atom (record { poly = a.poly; signs = joined_signs k a.signs b.signs }))) None ≡ Some h → One k (Atom a) (Atom b) h
one_of_atoms k a b h true tied is =
    let same = poly_tells a.poly b.poly tied in
    let made : h ≡ Atom (record { poly = a.poly; signs = joined_signs k a.signs b.signs }) = cc in
    record { same = λ i. Atom (record { poly = same i; signs = no_signs }); kept = ap key made; joined = ap signs_of made }
one_of_atoms k a b h false apart is = absurd (cc)

pub one_of : (k : Connective) (f g h : Formula) → as_one k f g ≡ Some h → One k f g h
one_of k (Atom a) (Atom b) h is = one_of_atoms k a b h (poly_eq a.poly b.poly) refl is
one_of k f g h is = one_of_equals k f g h (is_eq (formula_cmp f g)) refl is

untested : (t : Bool) (h : Formula) → cond t (Some h) None ≡ None → t ≡ false
untested true h is = absurd (cc)
untested false h is = refl

pub apart_of : (k : Connective) (f g : Formula) → as_one k f g ≡ None → is_eq (formula_cmp (key f) (key g)) ≡ false
apart_of k (Atom a) (Atom b) is =
    ap is_eq (then_Equal (poly_cmp a.poly b.poly)) ∙ (sym (poly_ties a.poly b.poly) ∙ untested (poly_eq a.poly b.poly) (Atom (record { poly = a.poly; signs = joined_signs k a.signs b.signs })) is)
apart_of k f (Atom b) is = untested (is_eq (formula_cmp f (Atom b))) f is
apart_of k f g is = untested (is_eq (formula_cmp f g)) f is

-- ---- the order of keys

-- the keys of parts in order are in order
pub key_up : (f g : Formula) → is_gt (formula_cmp f g) ≡ false → is_gt (formula_cmp (key f) (key g)) ≡ false
key_up (Atom a) (Atom b) up = by_order (poly_cmp a.poly b.poly) up
  where
    by_order : (r : Ordering) → is_gt (ordering_then r (nat_cmp (bits a.signs) (bits b.signs))) ≡ false → is_gt (ordering_then r Equal) ≡ false
    by_order Less h = refl
    by_order Equal h = refl
    by_order Greater h = absurd (cc)
key_up f (Atom b) up = up
key_up f g up = up
