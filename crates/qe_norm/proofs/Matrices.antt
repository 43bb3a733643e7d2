-- The quantifiers and the matrix of a normal form whose quantifiers have variables of their own: their variables, and how many there are.
use Rattle.std.proofs.Common.{ℕ, ◌+◌, ◌≡◌, ◌⊎◌, inl, inr, refl, List, [], ◌∷◌, length, length-append, arith}
use Rattle.std.specs.Prelude.{nat_eq}
use Rattle.std.specs.List.{IsDistinct}
use Rattle.qe_form.specs.Formula.{Formula, Formulas, True, False, Atom, And, Or, Not, Implies, Iff, Ex, All, no_more, more}
use Rattle.qe_form.specs.Measures.{count, count_each}
use Rattle.qe_form.specs.Numbered.{binders, binders_each, Occurs, OccursInOne}
use Rattle.qe_form.specs.Plain.{IsPlain, ArePlainWith}
use Rattle.qe_form.specs.Same.{IsFree, IsFreeInSome}
use Rattle.qe_form.specs.Blocks.{QuantifierKind, exists, for_all, under_one}
use Rattle.qe_norm.specs.declared.walk.Quantifier.{Quantifier}
use Rattle.qe_norm.specs.Blocks.{kind_of, prefix, prefix_each, matrix, matrix_each}
use Rattle.qe_norm.proofs.Binders.{in_left, in_right, none_distinct, distinct_cons, distinct_append, Binds, BindsIn, IsReady, AreReady}
use Rattle.qe_norm.proofs.Outwards.{under, IsVariable, IsApart, AreApart, below_one}

-- ---- quantifiers with variables of their own

mutual
  pub own_binders : (f : Formula) → IsReady f → IsApart f → IsDistinct nat_eq (binders f)
  own_binders True r a = none_distinct
  own_binders False r a = none_distinct
  own_binders (Atom c) r a = none_distinct
  own_binders (And fs) r a = own_binders_each fs r a
  own_binders (Or fs) r a = own_binders_each fs r a
  own_binders (Not f) r a = absurd r
  own_binders (Implies f g) r a = absurd r
  own_binders (Iff f g) r a = absurd r
  own_binders (Ex x f) r a = distinct_cons x (binders f) a.0 (own_binders f r.1 a.1)
  own_binders (All x f) r a = distinct_cons x (binders f) a.0 (own_binders f r.1 a.1)

  own_binders_each : (fs : Formulas) → AreReady fs → AreApart fs → IsDistinct nat_eq (binders_each fs)
  own_binders_each no_more r a = none_distinct
  own_binders_each (more f fs) r a =
      distinct_append (binders f) (binders_each fs) (own_binders f r.0 a.0) (own_binders_each fs r.1 a.1) (λ z i j. (a.2).0 z i (inr j))

-- ---- the variables that occur

occurs_quantified : (k : QuantifierKind) (x : ℕ) (f : Formula) (z : ℕ) → Occurs z (under_one k x f) → (z ≡ x) ⊎ Occurs z f
occurs_quantified exists x f z o = o
occurs_quantified for_all x f z o = o

pub occurs_under : (qs : List Quantifier) (f : Formula) (z : ℕ) → Occurs z (under qs f) → IsVariable z qs ⊎ Occurs z f
occurs_under [] f z o = inr o
occurs_under (q ∷ qs) f z o =
    elim (occurs_quantified (kind_of q.kind) q.var.0 (under qs f) z o) [ inl e ↦ inl (inl e) | inr k ↦ elim (occurs_under qs f z k) [ inl l ↦ inl (inr l) | inr l ↦ inr l ] ]

mutual
  pub occurs_matrix : (f : Formula) (z : ℕ) → IsReady f → Occurs z (matrix f) → IsFree z f ⊎ Binds z f
  occurs_matrix True z r h = absurd h
  occurs_matrix False z r h = absurd h
  occurs_matrix (Atom a) z r h = inl h
  occurs_matrix (And fs) z r h = occurs_matrices fs z r h
  occurs_matrix (Or fs) z r h = occurs_matrices fs z r h
  occurs_matrix (Not f) z r h = absurd r
  occurs_matrix (Implies f g) z r h = absurd r
  occurs_matrix (Iff f g) z r h = absurd r
  occurs_matrix (Ex x f) z r h = below_one x f z (occurs_matrix f z r.1 h)
  occurs_matrix (All x f) z r h = below_one x f z (occurs_matrix f z r.1 h)

  occurs_matrices : (fs : Formulas) (z : ℕ) → AreReady fs → OccursInOne z (matrix_each fs) → IsFreeInSome z fs ⊎ BindsIn z fs
  occurs_matrices no_more z r h = absurd h
  occurs_matrices (more f fs) z r h =
      elim h [
        | inl k ↦ elim (occurs_matrix f z r.0 k) [ inl l ↦ inl (inl l) | inr l ↦ inr (in_left z (binders f) (binders_each fs) l) ]
        | inr k ↦ elim (occurs_matrices fs z r.1 k) [ inl l ↦ inl (inr l) | inr l ↦ inr (in_right z (binders f) (binders_each fs) l) ]
      ]

-- ---- the matrix is plain, and what it counts

mutual
  pub plain_matrix : (f : Formula) → IsReady f → IsPlain (matrix f)
  plain_matrix True r = tt
  plain_matrix False r = tt
  plain_matrix (Atom a) r = tt
  plain_matrix (And fs) r = plain_matrices fs r
  plain_matrix (Or fs) r = plain_matrices fs r
  plain_matrix (Not f) r = absurd r
  plain_matrix (Implies f g) r = absurd r
  plain_matrix (Iff f g) r = absurd r
  plain_matrix (Ex x f) r = plain_matrix f r.1
  plain_matrix (All x f) r = plain_matrix f r.1

  plain_matrices : (fs : Formulas) → AreReady fs → ArePlainWith (λ a. Unit {0}) (matrix_each fs)
  plain_matrices no_more r = tt
  plain_matrices (more f fs) r = (plain_matrix f r.0, plain_matrices fs r.1)

mutual
  pub count_parts : (f : Formula) → IsReady f → length (prefix f) + count (matrix f) ≡ count f
  count_parts True r = refl
  count_parts False r = refl
  count_parts (Atom a) r = refl
  count_parts (And fs) r = count_each_parts fs r
  count_parts (Or fs) r = count_each_parts fs r
  count_parts (Not f) r = absurd r
  count_parts (Implies f g) r = absurd r
  count_parts (Iff f g) r = absurd r
  count_parts (Ex x f) r = omega (arith, count_parts f r.1)
  count_parts (All x f) r = omega (arith, count_parts f r.1)

  count_each_parts : (fs : Formulas) → AreReady fs → length (prefix_each fs) + count_each (matrix_each fs) ≡ count_each fs
  count_each_parts no_more r = refl
  count_each_parts (more f fs) r = omega (arith, length-append (prefix f) (prefix_each fs), count_parts f r.0, count_each_parts fs r.1)
