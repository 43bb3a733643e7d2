-- A node is true for some values of its variables exactly where some successor is.
use Rattle.std.proofs.Common.{ℕ, ◌≡◌, inl, inr, ◌↔◌, true, List, [], ◌∷◌, map}
use Rattle.qe_tower.specs.Point.{Point, IsPoint}
use Rattle.qe_poly.specs.Polynomial.{IsPolynomial}
use Rattle.qe_form.specs.Formula.{Formula, Or}
use Rattle.qe_form.specs.Tree.{trees_of}
use Rattle.qe_form.specs.Truth.{Is, SomeIs}
use Rattle.qe_form.specs.Same.{HasNoQuantifier}
use Rattle.qe_form.specs.Plain.{IsPlain}
use Rattle.qe_simp.proofs.Shapes.{plain_weaker, plain_no_quantifier}
use Rattle.qe_tree.specs.Variables.{remaining, existential_closure}
use Rattle.qe_tree.specs.Expanded.{Expansion, successors}
use Rattle.qe_tree.specs.Sound.{Each, IsFine, forms_of, IsGrown, IsSound}
use Rattle.qe_tree.proofs.Occurs.{left_in}
use Rattle.qe_tree.proofs.Quantified.{Off, whole_reaches, reaches_whole, reaches_ex, ex_reaches}

pub fine_plain : (f : Formula) → IsFine f → IsPlain f
fine_plain f fine = plain_weaker (λ a. IsPolynomial a.poly) (λ a. Unit {0}) (λ a k. tt) f fine

pub fine_no_quantifier : (f : Formula) → IsFine f → HasNoQuantifier f
fine_no_quantifier f fine = plain_no_quantifier f (fine_plain f fine)

-- no good formula has a quantifier
module _ (Good : Formula → Type 0) (no_quantifier : (f : Formula) → Good f → HasNoQuantifier f) (vars : List ℕ) where
  -- some of the formulas is true at a point that differs from p at the variables alone
  record SomeReaches (fs : List Formula) (p : Point) : Type 0 where
    at : Point
    valid : IsPoint at
    off : Off vars at p
    is : SomeIs (trees_of fs) true at

  wholes_reach : (fs : List Formula) (p : Point) → IsPoint p → SomeIs (trees_of (map (existential_closure vars) fs)) true p → SomeReaches fs p
  wholes_reach [] p valid t = absurd t
  wholes_reach (f ∷ fs) p valid t = elim t [
    | inl first ↦ let w = whole_reaches vars f p valid first in record { at = w.at; valid = w.valid; off = w.off; is = inl w.is }
    | inr later ↦ let w = wholes_reach fs p valid later in record { at = w.at; valid = w.valid; off = w.off; is = inr w.is }
  ]

  reach_wholes : (fs : List Formula) → Each Good fs → (r p : Point) → IsPoint r → Off vars r p → SomeIs (trees_of fs) true r → SomeIs (trees_of (map (existential_closure vars) fs)) true p
  reach_wholes [] good r p valid off t = absurd t
  reach_wholes (f ∷ fs) good r p valid off t = elim t [
    | inl first ↦ inl (reaches_whole vars f (no_quantifier f good.0) p (record { at = r; valid = valid; off = off; is = first }))
    | inr later ↦ inr (reach_wholes fs good.1 r p valid off later)
  ]

  -- successors that are grown from a formula keep its truth
  pub grown_keeps_truth : (f : Formula) → HasNoQuantifier f → (x : ℕ) (parts : List (ℕ × Formula)) → IsGrown Good (remaining vars f) f x parts
      → (p : Point) → IsPoint p → Is (existential_closure vars f) true p ↔ Is (Or (trees_of (map (existential_closure vars) (forms_of parts)))) true p
  grown_keeps_truth f none x parts grown p valid = (there, back)
    where
      there : Is (existential_closure vars f) true p → SomeIs (trees_of (map (existential_closure vars) (forms_of parts))) true p
      there t =
          let w = whole_reaches vars f p valid t in
          reach_wholes (forms_of parts) grown.good w.at p w.valid w.off ((grown.truth w.at w.valid).0 (reaches_ex vars f none x p w))

      back : SomeIs (trees_of (map (existential_closure vars) (forms_of parts))) true p → Is (existential_closure vars f) true p
      back t =
          let w = wholes_reach (forms_of parts) p valid t in
          reaches_whole vars f none p (ex_reaches vars f x (left_in vars f x grown.chosen).0 w.at p w.valid w.off ((grown.truth w.at w.valid).1 w.is))

module _ {F : Type 0} (Good : Formula → Type 0) (expand : Expansion F) (sound : IsSound Good expand) (vars : List ℕ) where
  good_no_quantifier : (f : Formula) → Good f → HasNoQuantifier f
  good_no_quantifier f good = fine_no_quantifier f (sound.fine f good)

  -- the law
  pub growth_keeps_truth : (f : Formula) → Good f → (x : ℕ) (parts : List (ℕ × Formula)) → expand.becomes (remaining vars f) f ≡ successors x parts
      → (p : Point) → IsPoint p → Is (existential_closure vars f) true p ↔ Is (Or (trees_of (map (existential_closure vars) (forms_of parts)))) true p
  growth_keeps_truth f good x parts e = grown_keeps_truth Good good_no_quantifier vars f (good_no_quantifier f good) x parts (sound.grows vars f good x parts e)
