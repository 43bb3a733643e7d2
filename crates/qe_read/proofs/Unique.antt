-- Two lists in strict order that hold the same names are one.
use Rattle.std.proofs.Common.{zero, suc, ◌≡◌, ◌↔◌, ◌⊎◌, inl, inr, refl, sym, ap, subst, ◌∙◌, List, [], ◌∷◌, arith}
use Rattle.std.specs.List.{AllByRecursion, Contains}
use Rattle.std.specs.List.Sorted.{IsStrictlySortedBy}
use Rattle.std.specs.Ordering.{ordering_reverse}
use Rattle.std.specs.Cmp.Lexicographic.{nat_list_cmp_total}
use Rattle.std.specs.declared.cmp.Ordering.TheVariants.{Less}
use Rattle.qe_read.specs.Names.{Letters, letters_cmp}

pub irreflexive : (w : Letters) → letters_cmp w w ≡ Less → ⊥
irreflexive w l = let e : letters_cmp w w ≡ ordering_reverse Less = nat_list_cmp_total.antisymm w w ∙ ap ordering_reverse l in cc

not_both : (v w : Letters) → letters_cmp v w ≡ Less → letters_cmp w v ≡ Less → ⊥
not_both v w l m = irreflexive v (nat_list_cmp_total.trans v w v l m)

holds_at : (P : Letters → Type 0) (ws : List Letters) (w : Letters) → AllByRecursion P ws → Contains ws w → P w
holds_at P [] w a (k, h, e) = absurd (omega arith)
holds_at P (v ∷ ws) w a (zero, h, e) = subst P e a.0
holds_at P (v ∷ ws) w a (suc k, h, e) = holds_at P ws w a.1 (k, omega arith, e)

pub first_or_later : (v : Letters) (ws : List Letters) (w : Letters) → Contains (v ∷ ws) w → (v ≡ w) ⊎ Contains ws w
first_or_later v ws w (zero, h, e) = inl e
first_or_later v ws w (suc k, h, e) = inr (k, omega arith, e)

pub first : (v : Letters) (ws : List Letters) → Contains (v ∷ ws) v
first v ws = (0, omega arith, refl)

pub later : (v : Letters) (ws : List Letters) (w : Letters) → Contains ws w → Contains (v ∷ ws) w
later v ws w (k, h, e) = (suc k, omega arith, e)

none : (w : Letters) → Contains [] w → ⊥
none w (k, h, e) = absurd (omega arith)

-- where w is behind v, what holds w behind u, which is v, holds it behind u
behind : (u v : Letters) (ws : List Letters) (w : Letters) → u ≡ v → letters_cmp v w ≡ Less → (u ≡ w) ⊎ Contains ws w → Contains ws w
behind u v ws w e l (inl q) = absurd (irreflexive w (subst (λ x. letters_cmp x w ≡ Less) (sym e ∙ q) l))
behind u v ws w e l (inr c) = c

same_first : (v w : Letters) (vs ws : List Letters) → AllByRecursion (λ y. letters_cmp v y ≡ Less) vs → AllByRecursion (λ y. letters_cmp w y ≡ Less) ws
    → (w ≡ v) ⊎ Contains ws v → (v ≡ w) ⊎ Contains vs w → v ≡ w
same_first v w vs ws a b (inl e) q = sym e
same_first v w vs ws a b (inr c) (inl e) = e
same_first v w vs ws a b (inr c) (inr d) = absurd (not_both v w (holds_at (λ y. letters_cmp v y ≡ Less) vs w a d) (holds_at (λ y. letters_cmp w y ≡ Less) ws v b c))

pub same_names : (vs ws : List Letters) → IsStrictlySortedBy letters_cmp vs → IsStrictlySortedBy letters_cmp ws → ((w : Letters) → Contains vs w ↔ Contains ws w) → vs ≡ ws
unfolding IsStrictlySortedBy
same_names [] [] s t e = refl
same_names [] (w ∷ ws) s t e = absurd (none w ((e w).1 (first w ws)))
same_names (v ∷ vs) [] s t e = absurd (none v ((e v).0 (first v vs)))
same_names (v ∷ vs) (w ∷ ws) s t e =
    let one : v ≡ w = same_first v w vs ws s.0 t.0 (first_or_later w ws v ((e v).0 (first v vs))) (first_or_later v vs w ((e w).1 (first w ws))) in
    let rest : vs ≡ ws = same_names vs ws s.1 t.1 (λ x. (
      λ c. behind w v ws x (sym one) (holds_at (λ y. letters_cmp v y ≡ Less) vs x s.0 c) (first_or_later w ws x ((e x).0 (later v vs x c))),
      λ c. behind v w vs x one (holds_at (λ y. letters_cmp w y ≡ Less) ws x t.0 c) (first_or_later v vs x ((e x).1 (later w ws x c))),
    )) in
    λ i. one i ∷ rest i
