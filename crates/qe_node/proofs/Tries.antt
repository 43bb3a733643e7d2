-- What the code finds of a candidate is what becomes of it.
use Rattle.std.proofs.Common.{◌+◌, ◌<◌, ◌≤◌, ◌^◌, max, eqb, ltb, arith, ℕ, ◌≡◌, ◌≢◌, ◌∙◌, sym, ap, refl, subst, Bool, true, false, cond, Option, Some, None, Result, IfOk}
use Rattle.std.specs.Prelude.{IfSome}
use Rattle.std.proofs.lemmas.Bool.Decides.{nat_tests}
use Rattle.qe_poly.specs.Polynomial.{Polynomial}
use Rattle.qe_poly.specs.Coefficients.{degree_in, coefficient_in}
use Rattle.qe_form.specs.Formula.{Formula, False, Atom, And, more, no_more}
use Rattle.qe_form.specs.Signs.{IsProper}
use Rattle.qe_form.specs.Measures.{count}
use Rattle.qe_form.specs.Plain.{IsPlain, IsPlainAndProper}
use Rattle.qe_form.specs.Tree.{tree}
use Rattle.qe_simp.specs.Simplified.{simplified}
use Rattle.qe_simp.specs.Meaning.{Keeps}
use Rattle.qe_simp.specs.Shape.{IsSimplified}
use Rattle.qe_simp.proofs.Sizes.{simplified_size}
use Rattle.qe_simp.proofs.Shapes.{plain_weaker, simplified_is_proper}
use Rattle.qe_root.specs.declared.point.Point.{Point}
use Rattle.qe_root.specs.declared.stop.SubstStop.{SubstStop}
use Rattle.qe_root.specs.declared.stop.SubstStop.TheVariants as met
use Rattle.qe_root.specs.Atoms.{atoms}
use Rattle.qe_form.specs.Signs.{equal, not_equal}
use Rattle.qe_halt.specs.Outcome.{or_else}
use Rattle.qe_points.specs.declared.candidate.Which.TheVariants.{Linear, Upper, Lower}
use Rattle.qe_points.specs.declared.candidate.Candidate.TheVariants.{Root, MinusInf}
use Rattle.qe_points.specs.declared.candidate.Candidate.{Candidate}
use Rattle.qe_points.specs.declared.guard.GuardedPoint.{GuardedPoint}
use Rattle.qe_points.specs.Guard.{guard, point_of, limit}
use Rattle.qe_points.specs.Guarded.{own, IsGuarded, IsSound}
use Rattle.qe_subst.specs.Substituted.{substituted}
use Rattle.qe_subst.specs.Stop.{first_stop, size_limit, stop}
use Rattle.qe_node.specs.declared.trial.Trial.{Trial}
use Rattle.qe_form.specs.Making.{is_false}
use Rattle.qe_node.specs.Successors.{skipped, put_in, after_limit, tried}
use Rattle.qe_node.specs.Trial.{trial_of, MayStand, HasFitGuard}
use Rattle.qe_node.proofs.Candidates.{false_is}

not_false : (g : Formula) → g ≢ False → is_false g ≡ false
not_false g other = by (is_false g) refl
  where
    by : (b : Bool) → is_false g ≡ b → b ≡ false
    by true test = absurd (other (false_is g test))
    by false test = refl

module _ (x : ℕ) (f : Formula) (n : ℕ) (c : Candidate) (none : limit x c ≡ None) where
  found_is : (found : GuardedPoint) (from : Option Polynomial) → from ≡ own c → IsGuarded x c (Some found) → put_in x f n (tree found.guard) found.point from ≡ tried x f n c
  found_is found from is h =
      (λ i. put_in x f n (h.1.0 i) (h.1.1 i) (is i))
      ∙ (ap (λ b. cond b skipped (put_in x f n (simplified (guard x c)) (point_of x c) (own c))) (sym (not_false (simplified (guard x c)) h.0)) ∙ ap (after_limit x f n c) (sym none))

  -- what is put in at a guard that is found
  pub tried_found : {E : Type 0} (o : Option GuardedPoint) (found : GuardedPoint) (from : Option Polynomial) (r : Result Trial E) → o ≡ Some found → IsGuarded x c o → from ≡ own c
      → IfOk r (λ t. trial_of t ≡ put_in x f n (tree found.guard) found.point from) → IfOk r (λ t. trial_of t ≡ tried x f n c)
  tried_found o found from r some h is made = subst (λ t. IfOk r (λ u. trial_of u ≡ t)) (found_is found from is (subst (IsGuarded x c) some h)) made

-- ---- the formula that is given may stand at a node

count_of_both : (g h : Formula) (n : ℕ) → count g ≤ 2 → count h ≤ 65536 → n ≤ max 1 (count g + (count h + 0)) → n < 2 ^ 50
count_of_both g h n few some most = omega arith

no_size_limit : (n : ℕ) → cond (ltb 65536 n) (Some met.TooLarge) None ≡ None → n ≤ 65536
no_size_limit n none = by (ltb 65536 n) refl none
  where
    by : (b : Bool) → ltb 65536 n ≡ b → cond b (Some met.TooLarge) None ≡ None → n ≤ 65536
    by true test e = absurd (cc)
    by false test e = grind (arith, nat_tests)

after_first : (o rest : Option SubstStop) → or_else o rest ≡ None → rest ≡ None
after_first (Some s) rest none = absurd (cc)
after_first None rest none = none

pub substituted_small : (x : ℕ) (p : Point) (from : Option Polynomial) (f : Formula) → stop x p from f ≡ None → count (substituted x p from f) ≤ 65536
substituted_small x p from f none = no_size_limit (count (substituted x p from f)) (after_first (first_stop x p from 0 (atoms f)) (size_limit x p from f) none)

pub proper_plain : (f : Formula) → IsPlainAndProper f → IsPlain f
proper_plain f h = plain_weaker (λ a. IsProper a.signs) (λ a. Unit {0}) (λ a k. tt) f h

-- the simplified And of a guard and of the formula at its point
pub may_stand : (x : ℕ) (p : Point) (from : Option Polynomial) (f g h joined given : Formula) → IsPlainAndProper g → count g ≤ 2 → IsPlainAndProper h → stop x p from f ≡ None → h ≡ substituted x p from f
    → joined ≡ And (more g (more h no_more)) → Keeps joined given → (IsPlain joined → IsSimplified given) → MayStand given
may_stand x p from f g h joined given proper few rest none same is kept simple = record {
  proper = simplified_is_proper given (simple (subst IsPlain (sym is) (proper_plain g proper, (proper_plain h rest, tt))));
  small = count_of_both g h (count given) few (subst (λ k. count k ≤ 65536) (sym same) (substituted_small x p from f none)) (subst (λ k. count given ≤ max 1 (count k)) is kept.size);
}

-- ---- a guard has two atoms at most

pub guard_small : (x : ℕ) (c : Candidate) → count (guard x c) ≤ 2
guard_small x (Root q n Linear plus) = by (eqb (degree_in x q) 2)
  where
    by : (b : Bool) → count (cond b (And (more (Atom (record { poly = coefficient_in x 2 q; signs = equal })) (more (Atom (record { poly = coefficient_in x 1 q; signs = not_equal })) no_more))) (Atom (record { poly = coefficient_in x 1 q; signs = not_equal }))) ≤ 2
    by true = omega arith
    by false = omega arith
guard_small x (Root q n Upper plus) = omega arith
guard_small x (Root q n Lower plus) = omega arith
guard_small x MinusInf = omega arith

pub guard_fits : (x : ℕ) (c : Candidate) (o : Option GuardedPoint) (found : GuardedPoint) → o ≡ Some found → IsGuarded x c o → IfSome o (λ g. IsSound x c (tree g.guard) g.point) → HasFitGuard found
guard_fits x c o found some h sound =
    let k : IsGuarded x c (Some found) = subst (IsGuarded x c) some h in
    let s : IsSound x c (tree found.guard) found.point = subst (λ p. IfSome p (λ g. IsSound x c (tree g.guard) g.point)) some sound in
    record { proper = s.plain; small = subst (λ g. count g ≤ 2) (sym k.1.0) (let most = simplified_size (guard x c) in let few = guard_small x c in omega arith) }
