-- The kind of a form of the code, where it is told which kinds it is not, and the order of formulas of different kinds.
use Rattle.std.proofs.Common.{ℕ, ◌<◌, ◌≤◌, List, [], ◌∷◌, length, drop, length-drop, ◌≡◌, ◌≢◌, refl, sym, ap, ◌∙◌, eqb, false, arith}
use Rattle.std.proofs.lemmas.Bool.Decides.{nat_tests}
use Rattle.std.specs.declared.cmp.Ordering.{Ordering}
use Rattle.std.specs.declared.cmp.Ordering.TheVariants.{Less}
use Rattle.std.specs.Ordering.{nat_cmp}
use Rattle.qe_form.specs.declared.form.Form.{Form}
use Rattle.qe_form.specs.declared.form.Form.TheVariants as code
use Rattle.qe_form.specs.declared.form.Form.TheOpen as layer
use Rattle.qe_form.specs.declared.form.Form.TheViews.{roll-Form}
use Rattle.qe_form.specs.declared.form.Form.TheFolds.{fold-roll-Form, ind-Form}
use Rattle.qe_form.specs.Formula.{Formula, Atom, And, Or, Not, Implies, Iff, Ex, All}
use Rattle.qe_form.specs.Tree.{tree, trees, tree_step}
use Rattle.qe_form.specs.Order.{rank, formula_cmp, formulas_cmp}

-- ---- the order of different kinds

abbrev Ranked : Formula → Formula → Type 0
Ranked f g = formula_cmp f g ≡ nat_cmp (rank f) (rank g)

ranked : (f g : Formula) → (rank f ≢ rank g) → Ranked f g
ranked (Atom a) (Atom b) apart = absurd (apart refl)
ranked (And fs) (And gs) apart = absurd (apart refl)
ranked (Or fs) (Or gs) apart = absurd (apart refl)
ranked (Not f) (Not g) apart = absurd (apart refl)
ranked (Implies f g) (Implies h k) apart = absurd (apart refl)
ranked (Iff f g) (Iff h k) apart = absurd (apart refl)
ranked (Ex x f) (Ex y g) apart = absurd (apart refl)
ranked (All x f) (All y g) apart = absurd (apart refl)
ranked f g apart = refl

-- of a form it is told that it is no atom, no list, and so on
pub record IsConstant (f : Formula) : Type 0 where
  pub not_atom : rank f ≢ 2
  pub not_and : rank f ≢ 3
  pub not_or : rank f ≢ 4
  pub not_not : rank f ≢ 5
  pub not_implies : rank f ≢ 6
  pub not_iff : rank f ≢ 7
  pub not_ex : rank f ≢ 8
  pub not_all : rank f ≢ 9

constant_ranked : (f g : Formula) → IsConstant f → Ranked f g
constant_ranked (Atom a) h none = absurd (none.not_atom refl)
constant_ranked (And fs) h none = absurd (none.not_and refl)
constant_ranked (Or fs) h none = absurd (none.not_or refl)
constant_ranked (Not y) h none = absurd (none.not_not refl)
constant_ranked (Implies y z) h none = absurd (none.not_implies refl)
constant_ranked (Iff y z) h none = absurd (none.not_iff refl)
constant_ranked (Ex x y) h none = absurd (none.not_ex refl)
constant_ranked (All x y) h none = absurd (none.not_all refl)
constant_ranked f (Atom a) none = refl
constant_ranked f g none = refl

-- the answer by the ranks, where they differ
pub by_ranks : (f g : Formula) (r s : ℕ) (o : Ordering) → o ≡ nat_cmp r s → r ≡ rank f → s ≡ rank g → (rank f ≢ rank g) → o ≡ formula_cmp f g
by_ranks f g r s o is left right apart = is ∙ ((λ i. nat_cmp (left i) (right i)) ∙ sym (ranked f g apart))

-- the answer by the ranks, where the first is a constant
pub by_constant : (f g : Formula) (r s : ℕ) (o : Ordering) → o ≡ nat_cmp r s → r ≡ rank f → s ≡ rank g → IsConstant f → o ≡ formula_cmp f g
by_constant f g r s o is left right none = is ∙ ((λ i. nat_cmp (left i) (right i)) ∙ sym (constant_ranked f g none))

-- ---- a form that is not of a kind has not its rank

clash : (n k : ℕ) → eqb n k ≡ false → n ≡ k → ⊥
clash n k test same = grind (arith, nat_tests)

not_atom_layer : (l : layer.Form-F Form) → ((a : _) → roll-Form l ≡ code.Atom a → ⊥) → rank (tree (roll-Form l)) ≢ 2
not_atom_layer (layer.Form-F.Atom a) none same = none a (code.rolls-Atom a)
not_atom_layer l none same = clash _ 2 refl (sym (ap rank (fold-roll-Form Formula tree_step l)) ∙ same)

pub atom_rank : (a : _) → rank (tree (code.Atom a)) ≡ 2
atom_rank a = ap (λ f. rank (tree f)) (sym (code.rolls-Atom a)) ∙ ap rank (fold-roll-Form Formula tree_step (layer.Form-F.Atom a))

pub not_atom : (f : Form) → ((a : _) → f ≡ code.Atom a → ⊥) → rank (tree f) ≢ 2
not_atom = ind-Form (λ f. ((a : _) → f ≡ code.Atom a → ⊥) → rank (tree f) ≢ 2) (λ l m is. not_atom_layer l)

not_and_layer : (l : layer.Form-F Form) → ((fs : _) → roll-Form l ≡ code.And fs → ⊥) → rank (tree (roll-Form l)) ≢ 3
not_and_layer (layer.Form-F.And fs) none same = none fs (code.rolls-And fs)
not_and_layer l none same = clash _ 3 refl (sym (ap rank (fold-roll-Form Formula tree_step l)) ∙ same)

pub and_rank : (fs : _) → rank (tree (code.And fs)) ≡ 3
and_rank fs = ap (λ f. rank (tree f)) (sym (code.rolls-And fs)) ∙ ap rank (fold-roll-Form Formula tree_step (layer.Form-F.And fs))

pub not_and : (f : Form) → ((fs : _) → f ≡ code.And fs → ⊥) → rank (tree f) ≢ 3
not_and = ind-Form (λ f. ((fs : _) → f ≡ code.And fs → ⊥) → rank (tree f) ≢ 3) (λ l m is. not_and_layer l)

not_or_layer : (l : layer.Form-F Form) → ((fs : _) → roll-Form l ≡ code.Or fs → ⊥) → rank (tree (roll-Form l)) ≢ 4
not_or_layer (layer.Form-F.Or fs) none same = none fs (code.rolls-Or fs)
not_or_layer l none same = clash _ 4 refl (sym (ap rank (fold-roll-Form Formula tree_step l)) ∙ same)

pub or_rank : (fs : _) → rank (tree (code.Or fs)) ≡ 4
or_rank fs = ap (λ f. rank (tree f)) (sym (code.rolls-Or fs)) ∙ ap rank (fold-roll-Form Formula tree_step (layer.Form-F.Or fs))

pub not_or : (f : Form) → ((fs : _) → f ≡ code.Or fs → ⊥) → rank (tree f) ≢ 4
not_or = ind-Form (λ f. ((fs : _) → f ≡ code.Or fs → ⊥) → rank (tree f) ≢ 4) (λ l m is. not_or_layer l)

not_not_layer : (l : layer.Form-F Form) → ((y : _) → roll-Form l ≡ code.Not y → ⊥) → rank (tree (roll-Form l)) ≢ 5
not_not_layer (layer.Form-F.Not y) none same = none y (code.rolls-Not y)
not_not_layer l none same = clash _ 5 refl (sym (ap rank (fold-roll-Form Formula tree_step l)) ∙ same)

pub not_rank : (y : _) → rank (tree (code.Not y)) ≡ 5
not_rank y = ap (λ f. rank (tree f)) (sym (code.rolls-Not y)) ∙ ap rank (fold-roll-Form Formula tree_step (layer.Form-F.Not y))

pub not_not : (f : Form) → ((y : _) → f ≡ code.Not y → ⊥) → rank (tree f) ≢ 5
not_not = ind-Form (λ f. ((y : _) → f ≡ code.Not y → ⊥) → rank (tree f) ≢ 5) (λ l m is. not_not_layer l)

not_implies_layer : (l : layer.Form-F Form) → ((y : _) → (z : _) → roll-Form l ≡ code.Implies y z → ⊥) → rank (tree (roll-Form l)) ≢ 6
not_implies_layer (layer.Form-F.Implies y z) none same = none y z (code.rolls-Implies y z)
not_implies_layer l none same = clash _ 6 refl (sym (ap rank (fold-roll-Form Formula tree_step l)) ∙ same)

pub implies_rank : (y : _) → (z : _) → rank (tree (code.Implies y z)) ≡ 6
implies_rank y z = ap (λ f. rank (tree f)) (sym (code.rolls-Implies y z)) ∙ ap rank (fold-roll-Form Formula tree_step (layer.Form-F.Implies y z))

pub not_implies : (f : Form) → ((y : _) → (z : _) → f ≡ code.Implies y z → ⊥) → rank (tree f) ≢ 6
not_implies = ind-Form (λ f. ((y : _) → (z : _) → f ≡ code.Implies y z → ⊥) → rank (tree f) ≢ 6) (λ l m is. not_implies_layer l)

not_iff_layer : (l : layer.Form-F Form) → ((y : _) → (z : _) → roll-Form l ≡ code.Iff y z → ⊥) → rank (tree (roll-Form l)) ≢ 7
not_iff_layer (layer.Form-F.Iff y z) none same = none y z (code.rolls-Iff y z)
not_iff_layer l none same = clash _ 7 refl (sym (ap rank (fold-roll-Form Formula tree_step l)) ∙ same)

pub iff_rank : (y : _) → (z : _) → rank (tree (code.Iff y z)) ≡ 7
iff_rank y z = ap (λ f. rank (tree f)) (sym (code.rolls-Iff y z)) ∙ ap rank (fold-roll-Form Formula tree_step (layer.Form-F.Iff y z))

pub not_iff : (f : Form) → ((y : _) → (z : _) → f ≡ code.Iff y z → ⊥) → rank (tree f) ≢ 7
not_iff = ind-Form (λ f. ((y : _) → (z : _) → f ≡ code.Iff y z → ⊥) → rank (tree f) ≢ 7) (λ l m is. not_iff_layer l)

not_ex_layer : (l : layer.Form-F Form) → ((x : _) → (y : _) → roll-Form l ≡ code.Ex x y → ⊥) → rank (tree (roll-Form l)) ≢ 8
not_ex_layer (layer.Form-F.Ex x y) none same = none x y (code.rolls-Ex x y)
not_ex_layer l none same = clash _ 8 refl (sym (ap rank (fold-roll-Form Formula tree_step l)) ∙ same)

pub ex_rank : (x : _) → (y : _) → rank (tree (code.Ex x y)) ≡ 8
ex_rank x y = ap (λ f. rank (tree f)) (sym (code.rolls-Ex x y)) ∙ ap rank (fold-roll-Form Formula tree_step (layer.Form-F.Ex x y))

pub not_ex : (f : Form) → ((x : _) → (y : _) → f ≡ code.Ex x y → ⊥) → rank (tree f) ≢ 8
not_ex = ind-Form (λ f. ((x : _) → (y : _) → f ≡ code.Ex x y → ⊥) → rank (tree f) ≢ 8) (λ l m is. not_ex_layer l)

not_all_layer : (l : layer.Form-F Form) → ((x : _) → (y : _) → roll-Form l ≡ code.All x y → ⊥) → rank (tree (roll-Form l)) ≢ 9
not_all_layer (layer.Form-F.All x y) none same = none x y (code.rolls-All x y)
not_all_layer l none same = clash _ 9 refl (sym (ap rank (fold-roll-Form Formula tree_step l)) ∙ same)

pub all_rank : (x : _) → (y : _) → rank (tree (code.All x y)) ≡ 9
all_rank x y = ap (λ f. rank (tree f)) (sym (code.rolls-All x y)) ∙ ap rank (fold-roll-Form Formula tree_step (layer.Form-F.All x y))

pub not_all : (f : Form) → ((x : _) → (y : _) → f ≡ code.All x y → ⊥) → rank (tree f) ≢ 9
not_all = ind-Form (λ f. ((x : _) → (y : _) → f ≡ code.All x y → ⊥) → rank (tree f) ≢ 9) (λ l m is. not_all_layer l)

-- ---- lists, where the first ends

ends_first_here : (fs gs : List Form) → length fs ≤ 0 → 0 < length gs → formulas_cmp (trees fs) (trees gs) ≡ Less
ends_first_here [] [] past inside = absurd (omega arith)
ends_first_here [] (g ∷ gs) past inside = refl
ends_first_here (f ∷ fs) gs past inside = absurd (omega arith)

pub ends_first : (fs gs : List Form) (i : ℕ) (r : Ordering) → length fs ≤ i → i < length gs → formulas_cmp (trees (drop i fs)) (trees (drop i gs)) ≡ r → Less ≡ r
ends_first fs gs i r past inside rest = sym (ends_first_here (drop i fs) (drop i gs) (simp length-drop (omega arith)) (simp length-drop (omega arith))) ∙ rest

-- ---- the constants

not_true_layer : (l : layer.Form-F Form) → (roll-Form l ≡ code.True → ⊥) → rank (tree (roll-Form l)) ≢ 0
not_true_layer layer.Form-F.True none same = none code.rolls-True
not_true_layer l none same = clash _ 0 refl (sym (ap rank (fold-roll-Form Formula tree_step l)) ∙ same)

pub not_true : (f : Form) → (f ≡ code.True → ⊥) → rank (tree f) ≢ 0
not_true = ind-Form (λ f. (f ≡ code.True → ⊥) → rank (tree f) ≢ 0) (λ l m is. not_true_layer l)

not_false_layer : (l : layer.Form-F Form) → (roll-Form l ≡ code.False → ⊥) → rank (tree (roll-Form l)) ≢ 1
not_false_layer layer.Form-F.False none same = none code.rolls-False
not_false_layer l none same = clash _ 1 refl (sym (ap rank (fold-roll-Form Formula tree_step l)) ∙ same)

pub not_false : (f : Form) → (f ≡ code.False → ⊥) → rank (tree f) ≢ 1
not_false = ind-Form (λ f. (f ≡ code.False → ⊥) → rank (tree f) ≢ 1) (λ l m is. not_false_layer l)
