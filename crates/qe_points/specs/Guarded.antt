-- What `guarded` answers, and what it tells of the guard and the point.
use Rattle.std.specs.Prelude.{ℕ, ◌≡◌, ◌≢◌, ◌≤◌, ◌<◌, true, Option, Some, None, Result, Ok, Err}
use Rattle.qe_tower.specs.Point as assignment
use Rattle.qe_tower.specs.Number.{ValidNumber}
use Rattle.qe_line.specs.Place.{Place}
use Rattle.qe_poly.specs.Polynomial.{Polynomial}
use Rattle.qe_poly.specs.Coefficients.{degree_in}
use Rattle.qe_form.specs.Formula.{Formula, False}
use Rattle.qe_form.specs.Plain.{IsPlainAndProper}
use Rattle.qe_form.specs.Same.{IsFree}
use Rattle.qe_poly.specs.Occurs.{OccursInSome}
use Rattle.qe_form.specs.Tree.{tree}
use Rattle.qe_form.specs.Truth.{Is}
use Rattle.qe_simp.specs.Simplified.{simplified}
use Rattle.qe_root.specs.declared.point.RootPoint.{RootPoint}
use Rattle.qe_root.specs.declared.point.Point.{Point}
use Rattle.qe_root.specs.declared.stop.Stage.TheVariants as stage
use Rattle.qe_root.specs.declared.stop.SubstStop.{SubstStop}
use Rattle.qe_root.specs.declared.stop.SubstStop.TheVariants as stop
use Rattle.qe_root.specs.Holds.{StandsAt, OwnIsZero}
use Rattle.qe_root.specs.Occurs.{OccursInPoint}
use Rattle.qe_points.specs.declared.candidate.Which.{Which}
use Rattle.qe_points.specs.declared.candidate.Which.TheVariants.{Linear, Upper, Lower}
use Rattle.qe_points.specs.declared.candidate.Candidate.{Candidate}
use Rattle.qe_points.specs.declared.candidate.Candidate.TheVariants.{Root, MinusInf}
use Rattle.qe_points.specs.declared.guard.GuardedPoint.{GuardedPoint}
use Rattle.qe_points.specs.declared.guard.RootWithGuard.{RootWithGuard}
use Rattle.qe_points.specs.Guard.{guard, point_of, limit}

-- ---- candidates with a guard

-- the polynomial has degree one or two for a linear root, and two for the others
abbrev pub HasKind : ℕ → Polynomial → Which → Type 0
HasKind x f Linear = (0 < degree_in x f) × (degree_in x f ≤ 2)
HasKind x f Upper = degree_in x f ≡ 2
HasKind x f Lower = degree_in x f ≡ 2

abbrev pub HasRoot : ℕ → Candidate → Type 0
HasRoot x (Root f n which plus) = HasKind x f which
HasRoot x MinusInf = Unit {0}

-- the variable occurs in the candidate's polynomial
abbrev pub OccursInOwn : ℕ → Candidate → Type 0
OccursInOwn y (Root f n which plus) = OccursInSome y f
OccursInOwn y MinusInf = ⊥

-- it has a root of its kind, and its variables are some of those of the formula
pub record IsOf (x : ℕ) (f : Formula) (c : Candidate) : Type 0 where
  pub root : HasRoot x c
  pub free : (y : ℕ) → OccursInOwn y c → IsFree y f

-- ---- the answer

-- none where the simplified guard is False, and else that guard with the point
abbrev pub IsGuardedBy : Formula → Point → Option GuardedPoint → Type 0
IsGuardedBy guard p None = simplified guard ≡ False
IsGuardedBy guard p (Some g) =
    (simplified guard ≢ False) × ((tree g.guard ≡ simplified guard) × (g.point ≡ p))

abbrev pub IsGuarded : ℕ → Candidate → Option GuardedPoint → Type 0
IsGuarded x c found = IsGuardedBy (guard x c) (point_of x c) found

-- it is the candidate's atom
abbrev pub IsItsAtom : Candidate → ℕ → Type 0
IsItsAtom (Root f n which plus) atom = n ≡ atom
IsItsAtom MinusInf atom = ⊥

-- the first limit in the guard; out of memory may come in place of any answer
abbrev pub IsGuardStop : ℕ → Candidate → SubstStop → Type 0
IsGuardStop x c (stop.At atom step met) =
    (limit x c ≡ Some met) × (IsItsAtom c atom × (step ≡ stage.Guard))
IsGuardStop x c stop.TooLarge = ⊥
IsGuardStop x c stop.OutOfMemory = Unit {0}

abbrev pub IsGuardAnswer : ℕ → Candidate → Result (Option GuardedPoint) SubstStop → Type 0
IsGuardAnswer x c (Ok found) = (limit x c ≡ None) × IsGuarded x c found
IsGuardAnswer x c (Err met) = IsGuardStop x c met

-- ---- what the guard tells

-- the candidate's polynomial
abbrev pub own : Candidate → Option Polynomial
own (Root f n which plus) = Some f
own MinusInf = None

-- the point has a place, and wherever it stands the candidate's polynomial is zero
pub record IsThere (x : ℕ) (c : Candidate) (p : Point) (at : assignment.Point) : Type 0 where
  pub place : (k : Place ValidNumber) × StandsAt p at k
  pub zero : (k : Place ValidNumber) → StandsAt p at k → OwnIsZero x (own c) at k

-- The guard is plain and its signs are proper; where it is true, the point has a place, where the
-- candidate's polynomial is zero; and the variables of the guard and of the point are those of that
-- polynomial, without x.
pub record IsSound (x : ℕ) (c : Candidate) (g : Formula) (p : Point) : Type 0 where
  pub plain : IsPlainAndProper g
  pub there : (at : assignment.Point) → assignment.IsPoint at → Is g true at → IsThere x c p at
  pub guard-free : (y : ℕ) → IsFree y g → (y ≢ x) × OccursInOwn y c
  pub point-free : (y : ℕ) → OccursInPoint y p → (y ≢ x) × OccursInOwn y c

-- ---- what the code keeps

-- a guard with a root
abbrev pub IsMade : Formula → RootPoint → RootWithGuard → Type 0
IsMade guard k g = (tree g.guard ≡ guard) × (g.root ≡ k)
