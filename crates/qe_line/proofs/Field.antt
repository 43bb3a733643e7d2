-- The tools of an ordered ring at an ordered field with square roots.
use Rattle.std.proofs.Common.{◌≡◌, T, pos, List, [], ◌∷◌, refl, sym, ap₂, subst, ◌∙◌}
use Rattle.qe_ring.specs.Ring.{Operations}
use Rattle.qe_ring.specs.Expression.{Expression, nought, unit, constant, of_int, var, ◌⊕◌, ◌⊗◌, ◌⊝◌, normal, value}
use Rattle.qe_ring.specs.Sign.{Sign, Zero, Plus, ◌·◌, adds}
use Rattle.qe_ring.specs.Ordered.{EqualBySign}
use Rattle.qe_ring.proofs.Hypotheses.{Given, pull, All_given, solve_by}
use Rattle.qe_ring.proofs.Signs.{signs, signs_are, double}
use Rattle.qe_ring.proofs.Signs as ring_signs
use Rattle.qe_line.specs.Field.{IsEuclideanField}

module _ {C : Type 0} {o : Operations C} {s : C → Sign} (F : IsEuclideanField o s) where
  open o use {zero, one, add}
  open F use {ordered}

  -- the equations that hold, as the solver takes them
  abbrev pub Facts : List C → List Given → Type 0
  Facts point gs = All_given o (EqualBySign o s) ordered.ring point gs

  -- two expressions that are equal in every ring have one sign
  pub same : (point : List C) (a b : Expression) → normal (a ⊝ b) ≡ [] → signs o s point a ≡ signs o s point b
  same point a b e = ring_signs.same_sign o s (EqualBySign o s) ordered point a b e

  -- a + b = c in every ring: what their signs are to one another
  pub law : (point : List C) (a b c : Expression) → normal (a ⊕ b ⊝ c) ≡ [] → T (adds (signs o s point a) (signs o s point b) (signs o s point c))
  law point a b c e = ring_signs.law o s (EqualBySign o s) ordered point a b c e

  -- a = b by equations that hold
  pub equal_by : (point : List C) (gs : List Given) (a b : Expression) → Facts point gs → normal (a ⊝ (b ⊕ pull gs)) ≡ []
      → EqualBySign o s (value o point a) (value o point b)
  equal_by point gs a b h e = solve_by o (EqualBySign o s) ordered.ring point gs a b h e

  -- the signs of a and b, equal by equations that hold
  pub same_by : (point : List C) (gs : List Given) (a b : Expression) → Facts point gs → normal (a ⊝ (b ⊕ pull gs)) ≡ []
      → signs o s point a ≡ signs o s point b
  same_by point gs a b h e = sym (signs_are o s (EqualBySign o s) ordered point a)
      ∙ ordered.sign-same (value o point a) (value o point b) (equal_by point gs a b h e)
      ∙ signs_are o s (EqualBySign o s) ordered point b

  -- a + b = c by equations that hold: what their signs are to one another
  pub law_by : (point : List C) (gs : List Given) (a b c : Expression) → Facts point gs → normal (a ⊕ b ⊝ (c ⊕ pull gs)) ≡ []
      → T (adds (signs o s point a) (signs o s point b) (signs o s point c))
  law_by point gs a b c h e =
      subst (λ u. T (adds (signs o s point a) (signs o s point b) u)) (same_by point gs (a ⊕ b) c h e)
      (subst (λ u. T (adds (signs o s point a) u (s (add (value o point a) (value o point b))))) (signs_are o s (EqualBySign o s) ordered point b)
      (subst (λ u. T (adds u (s (value o point b)) (s (add (value o point a) (value o point b))))) (signs_are o s (EqualBySign o s) ordered point a)
      (ordered.sign-add (value o point a) (value o point b))))

  -- the field's zero has the sign zero
  pub sign_of_zero : s zero ≡ Zero
  sign_of_zero = ring_signs.sign-zero o s (EqualBySign o s) ordered

  -- what has the sign zero is equal to zero
  pub equals_zero : (a : C) → s a ≡ Zero → EqualBySign o s a zero
  equals_zero a h = same (a ∷ []) (var 0 ⊝ nought) (var 0) refl ∙ h

  -- one and one is plus
  pub one_and_one : s (add one one) ≡ Plus
  one_and_one = double o s (EqualBySign o s) ordered one ∙ ordered.sign-one

  -- two is plus
  pub two_plus : s (of_int o (pos 2)) ≡ Plus
  two_plus = same [] (constant (pos 2)) (unit ⊕ unit) refl ∙ one_and_one

  -- four is plus
  pub four_plus : s (of_int o (pos 4)) ≡ Plus
  four_plus = same [] (constant (pos 4)) (constant (pos 2) ⊗ constant (pos 2)) refl ∙ ap₂ ◌·◌ two_plus two_plus
