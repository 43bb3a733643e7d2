-- The test points of finitely many polynomials are enough, and so are fewer for one condition on each.
use Rattle.std.proofs.Common.{◌≡◌, inl, inr, ◌↔◌, Bool, true, false, T, IsTrue, List, [], ◌∷◌, refl, sym, ap₂, subst, ◌∙◌}
use Rattle.qe_ring.specs.Ring.{Operations}
use Rattle.qe_ring.specs.Sign.{Sign, Zero, is}
use Rattle.qe_ring.proofs.Finite.{is-eq, is-same}
use Rattle.qe_line.specs.Field.{IsEuclideanField}
use Rattle.qe_line.specs.Place.{Place, below, at, Eventually, LessBySign}
use Rattle.qe_line.specs.Quadratic.{quadratic}
use Rattle.qe_line.specs.TestPoint.{Polynomial, Condition, signs_of, signs_at, IsTestPoint, MeetsAll, IsRootWhereZero, IsTestPointByKind}
use Rattle.qe_line.proofs.Places.{There, here, then, both, some}
use Rattle.qe_line.proofs.Reach.{root_place, Reach, reach_here, reach_then, reach_both, reached}
use Rattle.qe_line.proofs.SignAt.{sign_is}
use Rattle.qe_line.proofs.Atoms.{reach_atom}

true_of : (b : Bool) → T b → IsTrue b
true_of true h = refl
true_of false h = absurd h

of_true : (b : Bool) → IsTrue b → T b
of_true b h = subst (λ z. T z) (sym h) tt

module _ {C : Type 0} {o : Operations C} {s : C → Sign} (F : IsEuclideanField o s) where
  -- at a place the signs are the signs at the place
  pub signs_are : (p : Place C) (fs : List (Polynomial C)) → There o s p (λ u. signs_of o s fs u ≡ signs_at o s fs p)
  signs_are p [] = here F p (λ u. refl)
  signs_are p (f ∷ fs) = then F (both F (sign_is F p f.a f.b f.c) (signs_are p fs)) (λ u h. ap₂ ◌∷◌ h.0 h.1)

  -- all polynomials have their signs at x down to a place of which K holds
  reach_signs : {K : Place C → Type 0} → K below → (fs : List (Polynomial C)) → ((b : Bool) (v : C) → IsTestPoint o s fs (at v) → K (root_place b v))
      → (x : C) → Reach o s K x (λ u. signs_of o s fs u ≡ signs_of o s fs x)
  reach_signs low [] h x = reach_here F low (λ u. refl)
  reach_signs low (f ∷ fs) h x = reach_then F
      (reach_both F
      (reach_atom F low f.a f.b f.c (λ t. is t (s (quadratic o f.a f.b f.c x))) (λ v r. h (is Zero (s (quadratic o f.a f.b f.c x))) v (inl r)) x
      (is-same (s (quadratic o f.a f.b f.c x))))
      (reach_signs low fs (λ b v r. h b v (inr r)) x))
      (λ u e. ap₂ ◌∷◌ (is-eq (s (quadratic o f.a f.b f.c u)) (s (quadratic o f.a f.b f.c x)) e.0) e.1)

  root_is_test : (fs : List (Polynomial C)) (b : Bool) (v : C) → IsTestPoint o s fs (at v) → IsTestPoint o s fs (root_place b v)
  root_is_test fs true v r = r
  root_is_test fs false v r = r

  -- at each x the signs are those at some test point
  pub seen : (fs : List (Polynomial C)) (x : C) → (p : Place C) × (IsTestPoint o s fs p × (signs_of o s fs x ≡ signs_at o s fs p))
  seen fs x = (w.0, (w.1.0, sym u.1.0 ∙ u.1.1))
    where
      w : (p : Place C) × (IsTestPoint o s fs p × There o s p (λ u. signs_of o s fs u ≡ signs_of o s fs x))
      w = reached F (reach_signs {K = IsTestPoint o s fs} tt fs (root_is_test fs) x)

      u : (u : C) × ((signs_of o s fs u ≡ signs_of o s fs x) × (signs_of o s fs u ≡ signs_at o s fs w.0))
      u = some F (both F w.1.1 (signs_are w.0 fs))

  -- and the signs at any place are those at some x
  pub taken : (fs : List (Polynomial C)) (p : Place C) → (x : C) × (signs_of o s fs x ≡ signs_at o s fs p)
  taken fs p = some F (signs_are p fs)

  pub complete : (fs : List (Polynomial C)) (test : List Sign → Bool)
      → ((x : C) × IsTrue (test (signs_of o s fs x))) ↔ ((p : Place C) × (IsTestPoint o s fs p × IsTrue (test (signs_at o s fs p))))
  complete fs test = (forth, back)
    where
      forth : ((x : C) × IsTrue (test (signs_of o s fs x))) → (p : Place C) × (IsTestPoint o s fs p × IsTrue (test (signs_at o s fs p)))
      forth (x, h) = ((seen fs x).0, ((seen fs x).1.0, subst (λ z. IsTrue (test z)) (seen fs x).1.1 h))

      back : ((p : Place C) × (IsTestPoint o s fs p × IsTrue (test (signs_at o s fs p)))) → (x : C) × IsTrue (test (signs_of o s fs x))
      back (p, h) = ((taken fs p).0, subst (λ z. IsTrue (test z)) (sym (taken fs p).1) h.1)

  -- all conditions hold at x and down to a place of which K holds
  pub reach_all : {K : Place C → Type 0} → K below → (ks : List (Condition C))
      → ((b : Bool) (v : C) → IsRootWhereZero o s b ks v → K (root_place b v)) → (x : C) → MeetsAll o s ks x → Reach o s K x (MeetsAll o s ks)
  reach_all low [] h x m = reach_here F low (λ u. tt)
  reach_all low (k ∷ ks) h x m = reach_then F
      (reach_both F
      (reach_atom F low f.a f.b f.c k.allowed (λ v r. h (k.allowed Zero) v (inl (refl, r))) x (of_true (k.allowed (s (quadratic o f.a f.b f.c x))) m.0))
      (reach_all low ks (λ b v r. h b v (inr r)) x m.1))
      (λ u e. (true_of (k.allowed (s (quadratic o f.a f.b f.c u))) e.0, e.1))
    where
      f : Polynomial C
      f = k.polynomial

  root_is_test_by_kind : (ks : List (Condition C)) (b : Bool) (v : C) → IsRootWhereZero o s b ks v → IsTestPointByKind o s ks (root_place b v)
  root_is_test_by_kind ks true v r = r
  root_is_test_by_kind ks false v r = r

  pub complete_by_kind : (ks : List (Condition C))
      → ((x : C) × MeetsAll o s ks x) ↔ ((p : Place C) × (IsTestPointByKind o s ks p × Eventually (LessBySign o s) p (MeetsAll o s ks)))
  complete_by_kind ks = (forth, back)
    where
      reach : (x : C) → MeetsAll o s ks x → (p : Place C) × (IsTestPointByKind o s ks p × There o s p (MeetsAll o s ks))
      reach x m = reached F (reach_all {K = IsTestPointByKind o s ks} tt ks (root_is_test_by_kind ks) x m)

      forth : ((x : C) × MeetsAll o s ks x) → (p : Place C) × (IsTestPointByKind o s ks p × Eventually (LessBySign o s) p (MeetsAll o s ks))
      forth (x, m) = ((reach x m).0, ((reach x m).1.0, (reach x m).1.1.is))

      back : ((p : Place C) × (IsTestPointByKind o s ks p × Eventually (LessBySign o s) p (MeetsAll o s ks))) → (x : C) × MeetsAll o s ks x
      back (p, h) = some F (there p h.1)
        where
          there : (p : Place C) → Eventually (LessBySign o s) p (MeetsAll o s ks) → There o s p (MeetsAll o s ks)
          there p e = record { is = e }
