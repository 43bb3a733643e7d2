-- What the code does in one walk through a formula: it opens, numbers, and parts quantifiers and
-- matrix at the same time.
use Rattle.std.specs.Prelude.{ℕ, ◌+◌, ◌*◌, List, [], ◌∷◌, ◌++◌, length, take}
use Rattle.qe_form.specs.Formula.{Formula, Formulas, True, False, Atom, And, Or, Not, Implies, Iff, Ex, All, no_more, more}
use Rattle.qe_norm.specs.declared.blocks.Kind.{Kind}
use Rattle.qe_norm.specs.declared.polarity.Polarity.{Polarity}
use Rattle.qe_norm.specs.declared.polarity.Polarity.TheVariants.{Positive, Negative}
use Rattle.qe_norm.specs.declared.walk.Quantifier.{Quantifier}
use Rattle.qe_norm.specs.declared.walk.Renaming.{Renaming}
use Rattle.qe_norm.specs.Polarity.{flipped, truth_under, conjunction, pair, kind_under, signs_under}
use Rattle.qe_norm.specs.Numbering.{Walked, new_variable, met_after, within, renamed_by, start}

-- how many atoms, constants and quantifiers the normal form has
abbrev mutual
  pub size_of : Formula → ℕ
  size_of True = 1
  size_of False = 1
  size_of (Atom a) = 1
  size_of (And fs) = size_of_each fs
  size_of (Or fs) = size_of_each fs
  size_of (Not f) = size_of f
  size_of (Implies f g) = size_of f + size_of g
  size_of (Iff f g) = 2 * (size_of f + size_of g)
  size_of (Ex x f) = 1 + size_of f
  size_of (All x f) = 1 + size_of f

  pub size_of_each : Formulas → ℕ
  size_of_each no_more = 0
  size_of_each (more f fs) = size_of f + size_of_each fs

-- the state of a walk: what was met, the quantifiers so far, and the renamings in force
pub record WalkState : Type 0 where
  pub walked : Walked
  pub prefix : List Quantifier
  pub renamings : List Renaming

-- before the walk
abbrev pub begun : List (List ℕ) → WalkState
begun names = record { walked = start names; prefix = []; renamings = [] }

abbrev pub quantifier : Kind → ℕ → Quantifier
quantifier kind x = record { kind = kind; var = record { 0 = x } }

-- the state where the walk enters the body of a quantifier for x
abbrev pub in_body : Kind → ℕ → WalkState → WalkState
in_body kind x s = record {
  walked = met_after s.walked x;
  prefix = s.prefix ++ quantifier kind (new_variable s.walked x) ∷ [];
  renamings = within s.walked x s.renamings;
}

-- the state where it leaves the body: so many renamings stay in force
abbrev pub past_body : ℕ → WalkState → WalkState
past_body n s = record { walked = s.walked; prefix = s.prefix; renamings = take n s.renamings }

-- the matrix of the normal form of f, or of its negation, and the state after the walk through f
abbrev mutual
  pub opened : Polarity → Formula → WalkState → Formula × WalkState
  opened b True s = (truth_under b, s)
  opened b False s = (truth_under (flipped b), s)
  opened b (Atom a) s = (Atom (record { poly = renamed_by s.renamings a.poly; signs = signs_under b a.signs }), s)
  opened b (And fs) s = (conjunction b (opened_each b fs s).0, (opened_each b fs s).1)
  opened b (Or fs) s = (conjunction (flipped b) (opened_each b fs s).0, (opened_each b fs s).1)
  opened b (Not f) s = opened (flipped b) f s
  opened b (Implies f g) s =
      let first = opened (flipped b) f s in
      let second = opened b g first.1 in
      (pair (flipped b) first.0 second.0, second.1)
  opened b (Iff f g) s =
      let first = opened Positive f s in
      let second = opened b g first.1 in
      let third = opened Negative f second.1 in
      let fourth = opened (flipped b) g third.1 in
      (pair Negative (pair Positive first.0 second.0) (pair Positive third.0 fourth.0), fourth.1)
  opened b (Ex x f) s =
      let body = opened b f (in_body (kind_under b) x s) in
      (body.0, past_body (length s.renamings) body.1)
  opened b (All x f) s =
      let body = opened b f (in_body (kind_under (flipped b)) x s) in
      (body.0, past_body (length s.renamings) body.1)

  pub opened_each : Polarity → Formulas → WalkState → Formulas × WalkState
  opened_each b no_more s = (no_more, s)
  opened_each b (more f fs) s =
      let first = opened b f s in
      let rest = opened_each b fs first.1 in
      (more first.0 rest.0, rest.1)
