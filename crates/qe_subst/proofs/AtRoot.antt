-- What is substituted at a root reads the sign of the polynomial there.
use Rattle.std.proofs.Common.{ℕ, ◌≡◌, ◌≤◌, refl, sym, ap, subst, true, false, cond, Option, None, Some, ◌∷◌}
use Rattle.qe_tower.specs.Number.{sign_of, ValidNumber}
use Rattle.qe_tower.specs.Point.{Point, IsPoint}
use Rattle.qe_line.specs.Place as line
use Rattle.qe_poly.specs.Polynomial.{Polynomial, IsPolynomial}
use Rattle.qe_poly.specs.Coefficients.{degree_in}
use Rattle.qe_poly.specs.Equal.{poly_tells}
use Rattle.qe_form.specs.Making.{constant}
use Rattle.qe_form.specs.declared.signs.Signs.{Signs}
use Rattle.qe_form.specs.Signs.{IsProper}
use Rattle.qe_form.specs.Value.{value}
use Rattle.qe_form.specs.Truth.{has_sign}
use Rattle.qe_root.specs.declared.point.RootPoint.{RootPoint}
use Rattle.qe_root.specs.Value.{IsValue, plain_part_of, root_part_of}
use Rattle.qe_root.specs.SignForm.{sign_formula}
use Rattle.qe_root.specs.Holds.{IsZeroAt, OwnIsZero}
use Rattle.qe_root.proofs.RootValue.{parts_are}
use Rattle.qe_root.proofs.SignTruth.{form_is}
use Rattle.qe_root.proofs.RootLaws.{sign_at_root}
use Rattle.qe_subst.specs.Substituted.{is_own, at_root}
use Rattle.qe_root.proofs.TestFormulas.{Reads, rereads, reads_constant}

module _ (x : ℕ) (p : Point) (valid : IsPoint p) (k : RootPoint) (v : ValidNumber) (root : IsValue k p v.0) where
  -- the root's own polynomial is zero there
  own_zero : (own : Option Polynomial) (f : Polynomial) → is_own own f ≡ true → OwnIsZero x own p (line.at v) → IsZeroAt x f p v
  own_zero None f same zero = absurd (cc)
  own_zero (Some own) f same zero = subst (λ g. IsZeroAt x g p v) (poly_tells own f same) zero

  pub at_root_reads : (own : Option Polynomial) → OwnIsZero x own p (line.at v) → (f : Polynomial) → IsPolynomial f → degree_in x f ≤ 2 → (s : Signs) → IsProper s
      → Reads p (has_sign s (sign_of (value f ((x, v.0) ∷ p)))) (at_root x own k f s)
  at_root_reads own zero f canonical low s proper =
      elim (is_own own f) as (λ b. is_own own f ≡ b
      → Reads p (has_sign s (sign_of (value f ((x, v.0) ∷ p)))) (cond b (constant s.zero) (sign_formula (plain_part_of f x k) (root_part_of f x k) k.r s))) [
        | true ↦ λ same. rereads p s.zero (has_sign s (sign_of (value f ((x, v.0) ∷ p)))) (constant s.zero) (ap (has_sign s) (sym (own_zero own f same zero))) (reads_constant p s.zero)
        | false ↦ λ other. λ t. sign_at_root f x k (plain_part_of f x k) (root_part_of f x k) s (sign_formula (plain_part_of f x k) (root_part_of f x k) k.r s)
            (parts_are f x k (plain_part_of f x k) (root_part_of f x k) canonical low refl refl)
            (form_is (plain_part_of f x k) (root_part_of f x k) k.r s (sign_formula (plain_part_of f x k) (root_part_of f x k) k.r s) proper refl) p valid v.0 root t
      ] refl
