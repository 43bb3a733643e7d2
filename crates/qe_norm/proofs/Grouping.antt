-- Blocks: they stand for their quantifiers one after another, and there are no more of them, nor longer ones, than quantifiers.
use Rattle.std.proofs.Common.{ℕ, ◌+◌, ◌≤◌, Bool, true, false, cond, ◌≡◌, ◌∙◌, refl, sym, ap, List, [], ◌∷◌, ◌++◌, length, length-append, arith}
use Rattle.std.proofs.lemmas.List.{append_assoc, append-nil, map-append}
use Rattle.std.specs.List.{AllByRecursion}
use Rattle.std.specs.List as list
use Rattle.std.proofs.lemmas.List.Elements.{All-from_recursion}
use Rattle.qe_form.specs.Formula.{Formula}
use Rattle.qe_form.specs.Blocks.{QuantifierKind, exists, for_all, Block, under_one, under_each, under_blocks, bound_by}
use Rattle.qe_poly.specs.declared.monomial.Var.{Var}
use Rattle.qe_norm.specs.declared.blocks.Kind as code
use Rattle.qe_norm.specs.declared.walk.Quantifier.{Quantifier}
use Rattle.qe_norm.specs.Blocks.{kind_of, block_of, is_same_kind, alone, with_variable, with_quantifier, grouped_after, grouped}
use Rattle.qe_norm.proofs.Outwards.{under, vars_of}

-- ---- what they stand for

same_kind_is : (j k : QuantifierKind) → is_same_kind j k ≡ true → j ≡ k
same_kind_is exists exists e = refl
same_kind_is exists for_all e = absurd (cc)
same_kind_is for_all exists e = absurd (cc)
same_kind_is for_all for_all e = refl

each_push : (k : QuantifierKind) (xs : List ℕ) (x : ℕ) (f : Formula) → under_each k (xs ++ x ∷ []) f ≡ under_each k xs (under_one k x f)
each_push k [] x f = refl
each_push k (y ∷ xs) x f = ap (under_one k y) (each_push k xs x f)

under_with : (bs : List Block) (q : Quantifier) (f : Formula) → under_blocks (with_quantifier bs q) f ≡ under_blocks bs (under_one (kind_of q.kind) q.var.0 f)
under_with [] q f = refl
under_with (b ∷ []) q f = by_test (is_same_kind b.kind (kind_of q.kind)) refl
  where
    by_test : (t : Bool) → is_same_kind b.kind (kind_of q.kind) ≡ t
        → under_blocks (cond t (with_variable b q ∷ []) (b ∷ alone q ∷ [])) f ≡ under_each b.kind b.vars (under_one (kind_of q.kind) q.var.0 f)
    by_test true same = each_push b.kind b.vars q.var.0 f ∙ ap (λ k. under_each b.kind b.vars (under_one k q.var.0 f)) (same_kind_is b.kind (kind_of q.kind) same)
    by_test false apart = refl
under_with (b ∷ c ∷ bs) q f = ap (under_each b.kind b.vars) (under_with (c ∷ bs) q f)

under_after : (bs : List Block) (qs : List Quantifier) (f : Formula) → under_blocks (grouped_after bs qs) f ≡ under_blocks bs (under qs f)
under_after bs [] f = refl
under_after bs (q ∷ qs) f = under_after (with_quantifier bs q) qs f ∙ under_with bs q (under qs f)

-- the blocks of quantifiers stand for these
pub under_grouped : (qs : List Quantifier) (f : Formula) → under_blocks (grouped qs) f ≡ under qs f
under_grouped qs f = under_after [] qs f

-- ---- their variables

bound_by_with : (bs : List Block) (q : Quantifier) → bound_by (with_quantifier bs q) ≡ bound_by bs ++ q.var.0 ∷ []
bound_by_with [] q = refl
bound_by_with (b ∷ []) q = elim (is_same_kind b.kind (kind_of q.kind)) as (λ t. bound_by (cond t (with_variable b q ∷ []) (b ∷ alone q ∷ [])) ≡ (b.vars ++ []) ++ q.var.0 ∷ []) [
  | true ↦ append-nil (b.vars ++ q.var.0 ∷ []) ∙ ap (λ ns. ns ++ q.var.0 ∷ []) (sym (append-nil b.vars))
  | false ↦ sym (append_assoc b.vars [] (q.var.0 ∷ []))
]
bound_by_with (b ∷ c ∷ bs) q = ap (λ ns. b.vars ++ ns) (bound_by_with (c ∷ bs) q) ∙ sym (append_assoc b.vars (bound_by (c ∷ bs)) (q.var.0 ∷ []))

bound_by_after : (bs : List Block) (qs : List Quantifier) → bound_by (grouped_after bs qs) ≡ bound_by bs ++ vars_of qs
bound_by_after bs [] = sym (append-nil (bound_by bs))
bound_by_after bs (q ∷ qs) =
    bound_by_after (with_quantifier bs q) qs ∙ (ap (λ ns. ns ++ vars_of qs) (bound_by_with bs q) ∙ append_assoc (bound_by bs) (q.var.0 ∷ []) (vars_of qs))

pub bound_by_grouped : (qs : List Quantifier) → bound_by (grouped qs) ≡ vars_of qs
bound_by_grouped qs = bound_by_after [] qs

-- ---- how many there are, and how long

few_with : (bs : List Block) (q : Quantifier) → length (with_quantifier bs q) ≤ length bs + 1
few_with [] q = omega arith
few_with (b ∷ []) q = elim (is_same_kind b.kind (kind_of q.kind)) as (λ t. length (cond t (with_variable b q ∷ []) (b ∷ alone q ∷ [])) ≤ 2) [ true ↦ omega arith | false ↦ omega arith ]
few_with (b ∷ c ∷ bs) q = omega (arith, few_with (c ∷ bs) q)

few_after : (bs : List Block) (qs : List Quantifier) → length (grouped_after bs qs) ≤ length bs + length qs
few_after bs [] = omega arith
few_after bs (q ∷ qs) = omega (arith, few_after (with_quantifier bs q) qs, few_with bs q)

pub few_grouped : (qs : List Quantifier) → length (grouped qs) ≤ length qs
few_grouped qs = omega (arith, few_after [] qs)

-- no block is longer than n
abbrev AreShort : ℕ → List Block → Type 0
AreShort n bs = AllByRecursion (λ b. length b.vars ≤ n) bs

short_more : (n m : ℕ) (bs : List Block) → n ≤ m → AreShort n bs → AreShort m bs
short_more n m [] less h = tt
short_more n m (b ∷ bs) less h = ((let k = h.0 in omega arith), short_more n m bs less h.1)

short_with : (n : ℕ) (bs : List Block) (q : Quantifier) → AreShort n bs → AreShort (n + 1) (with_quantifier bs q)
short_with n [] q h = (omega arith, tt)
short_with n (b ∷ []) q h = elim (is_same_kind b.kind (kind_of q.kind)) as (λ t. AreShort (n + 1) (cond t (with_variable b q ∷ []) (b ∷ alone q ∷ []))) [
  | true ↦ ((let k = h.0 in let e = length-append b.vars (q.var.0 ∷ []) in omega arith), tt)
  | false ↦ ((let k = h.0 in omega arith), (omega arith, tt))
]
short_with n (b ∷ c ∷ bs) q h = ((let k = h.0 in omega arith), short_with n (c ∷ bs) q h.1)

short_after : (n : ℕ) (bs : List Block) (qs : List Quantifier) → AreShort n bs → AreShort (n + length qs) (grouped_after bs qs)
short_after n bs [] h = short_more n (n + 0) bs (omega arith) h
short_after n bs (q ∷ qs) h =
    short_more ((n + 1) + length qs) (n + length (q ∷ qs)) (grouped_after (with_quantifier bs q) qs) (omega arith) (short_after (n + 1) (with_quantifier bs q) qs (short_with n bs q h))

pub short_grouped : (qs : List Quantifier) (n : ℕ) → length qs ≤ n → list.All (λ b. length b.vars ≤ n) (grouped qs)
short_grouped qs n less = All-from_recursion (λ (b : Block). length b.vars ≤ n) (grouped qs) (short_more (0 + length qs) n (grouped qs) (omega arith) (short_after 0 [] qs tt))

-- ---- one quantifier more, in the code

with_last : (rest : List Block) (b : Block) (q : Quantifier) → with_quantifier (rest ++ b ∷ []) q ≡ rest ++ cond (is_same_kind b.kind (kind_of q.kind)) (with_variable b q ∷ []) (b ∷ alone q ∷ [])
with_last [] b q = refl
with_last (c ∷ []) b q = refl
with_last (c ∷ d ∷ rest) b q = ap (λ bs. c ∷ bs) (with_last (d ∷ rest) b q)

-- it joins the last block
pub added_same : (blocks rest new : List Block) (k : code.Kind) (vars pushed : List Var) (q : Quantifier) → blocks ≡ rest ++ block_of k vars ∷ []
    → is_same_kind (kind_of k) (kind_of q.kind) ≡ true → pushed ≡ vars ++ q.var ∷ [] → new ≡ rest ++ block_of k pushed ∷ [] → new ≡ with_quantifier blocks q
added_same blocks rest new k vars pushed q last same made is =
    let b = block_of k vars in
    is
    ∙ ((λ i. rest ++ block_of k (made i) ∷ [])
    ∙ (ap (λ ns. rest ++ record { kind = kind_of k; vars = ns } ∷ []) (map-append (λ x. x.0) vars (q.var ∷ []))
    ∙ ((λ i. rest ++ cond (sym same i) (with_variable b q ∷ []) (b ∷ alone q ∷ [])) ∙ (sym (with_last rest b q) ∙ ap (λ bs. with_quantifier bs q) (sym last)))))

-- it begins a block
pub added_other : (blocks rest old new : List Block) (b a : Block) (q : Quantifier) → blocks ≡ rest ++ b ∷ [] → is_same_kind b.kind (kind_of q.kind) ≡ false → old ≡ rest ++ b ∷ [] → a ≡ alone q → new ≡ old ++ a ∷ [] → new ≡ with_quantifier blocks q
added_other blocks rest old new b a q last apart before made is =
    is
    ∙ ((λ i. before i ++ made i ∷ [])
    ∙ (append_assoc rest (b ∷ []) (alone q ∷ [])
    ∙ ((λ i. rest ++ cond (sym apart i) (with_variable b q ∷ []) (b ∷ alone q ∷ [])) ∙ (sym (with_last rest b q) ∙ ap (λ bs. with_quantifier bs q) (sym last)))))
