-- Which variables occur in a point.
use Rattle.std.specs.Prelude.{ℕ, ◌⊎◌}
use Rattle.qe_poly.specs.Occurs.{OccursInSome}
use Rattle.qe_root.specs.declared.point.RootPoint.{RootPoint}
use Rattle.qe_root.specs.declared.point.Point.{Point}
use Rattle.qe_root.specs.declared.point.Point.TheVariants.{Root, RootPlus, MinusInf}

-- the variable occurs in a polynomial of the root
abbrev pub OccursInRoot : ℕ → RootPoint → Type 0
OccursInRoot y k = OccursInSome y k.p ⊎ (OccursInSome y k.q ⊎ (OccursInSome y k.r ⊎ OccursInSome y k.s))

-- or in a polynomial of the point
abbrev pub OccursInPoint : ℕ → Point → Type 0
OccursInPoint y (Root k) = OccursInRoot y k
OccursInPoint y (RootPlus k) = OccursInRoot y k
OccursInPoint y MinusInf = ⊥
