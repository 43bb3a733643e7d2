-- Names whose letters are text.
use Rattle.std.proofs.Common.{ℕ, ◌≡◌, ◌<◌, sym, ap, subst, ◌∙◌, List, [], ◌++◌, length, map, get_or, arith}
use Rattle.std.specs.List.{All, Contains}
use Rattle.std.specs.Str.{IsUtf8}
use Rattle.std.proofs.lemmas.List.{get_or_default}
use Rattle.qe_token.specs.declared.token.Name.{Name}
use Rattle.qe_read.specs.Names.{Letters, letters}
use Rattle.qe_syntax.specs.Tree.{FormulaTree}
use Rattle.qe_read.specs.FreeNames.{AreLettersOf, free_names}
use Rattle.qe_read.specs.Formula.{bound_names}
use Rattle.qe_read.proofs.Distinct.{get_or-mapped, length-mapped, Contains-unmapped}

pub utf8_at : {X : Type 0} (key : X → Letters) (xs : List X) (names : List Letters) (i : ℕ) (d : X) → map key xs ≡ names → All IsUtf8 names → i < length xs → IsUtf8 (key (get_or xs i d))
utf8_at key xs names i d e all h =
    let one : IsUtf8 (get_or names i (key d)) = all i (key d) (omega (arith, length-mapped key xs, ap length e)) in
    subst (λ w. IsUtf8 w) (ap (λ l. get_or l i (key d)) (sym e) ∙ get_or-mapped key xs i d) one

-- the free names are text where the names are whose letters they are
pub letters_utf8 : (text : List ℕ) (names : List Name) (free : List Letters) → AreLettersOf text names free → All (λ x. IsUtf8 (letters text x)) names → All IsUtf8 free
letters_utf8 text names free l all k d h =
    let w : Letters = get_or free k d in
    let c : Contains free w = (k, h, get_or_default free k w d h) in
    let r = Contains-unmapped (letters text) names w ((l.each w).0 c) in
    subst (λ v. IsUtf8 v) (ap (letters text) r.1.2 ∙ r.2) (all r.1.0 r.0 r.1.1)

-- what a list holds that began empty
pub found_all : (text : List ℕ) (t : FormulaTree) (lent found start around : List Name) → lent ≡ found → found ≡ start ++ free_names text around t → start ≡ [] → around ≡ []
    → lent ≡ free_names text [] t
found_all text t lent found start around l f s a = l ∙ f ∙ ap (λ b. b ++ free_names text around t) s ∙ ap (λ b. free_names text b t) a

pub bound_all : (t : FormulaTree) (lent found start : List Name) → lent ≡ found → found ≡ start ++ bound_names t → start ≡ [] → lent ≡ bound_names t
bound_all t lent found start l f s = l ∙ f ∙ ap (λ b. b ++ bound_names t) s
