-- There is one first fault at most.
use Rattle.std.proofs.Common.{◌≡◌, List, [], ◌∷◌, ◌++◌, Some, refl, sym, ap, subst, ◌∙◌, ◌⊎◌, inl, inr}
use Rattle.qe_token.specs.declared.token.Located.{Located}
use Rattle.qe_syntax.specs.declared.fault.TextFault.{TextFault}
use Rattle.qe_syntax.specs.declared.fault.TextFault.TheVariants.{Syntax, Wide, Exponent, TooDeep, TooMany}
use Rattle.qe_syntax.specs.Grammar.{Occurrence, input, tokens_of}
use Rattle.qe_syntax.specs.Faults.{Tok, passed_limit, counted, IsFaultAt, bare_tokens, head, IsFirstFault}
use Rattle.qe_syntax.proofs.Spelling.{tokens_of-append}
use Rattle.qe_syntax.proofs.First.{Agree, agree_inputs, HasLimit}

agree_both : (ms ms' more more' : List Occurrence) (m m' : Occurrence) → Agree (ms ++ m ∷ more) (ms' ++ m' ∷ more') → tokens_of ms ≡ tokens_of ms' → m.token ≡ m'.token → (ms ≡ ms') × (m ≡ m')
agree_both [] [] more more' m m' g e h = (refl, (g h).0)
agree_both [] (y ∷ ms') more more' m m' g e h = absurd cc
agree_both (x ∷ ms) [] more more' m m' g e h = absurd cc
agree_both (x ∷ ms) (y ∷ ms') more more' m m' g e h =
    let f : x.token ≡ y.token = cc in
    let i : tokens_of ms ≡ tokens_of ms' = cc in
    let r = agree_both ms ms' more more' m m' (g f).1 i h in
    let j : x ≡ y = (g f).0 in
    let k : ms ≡ ms' = r.0 in
    let l : x ∷ ms ≡ y ∷ ms' = cc in (l, r.1)

one_value : (before : List Tok) (t : Tok) (f g : TextFault) → HasLimit before t f → HasLimit before t g → f ≡ g
one_value before t f g a b =
    let ag : Agree (a.1 ++ a.2 ∷ a.3) (b.1 ++ b.2 ∷ b.3) = subst (λ (x : List Occurrence). Agree x (b.1 ++ b.2 ∷ b.3)) a.4 (subst (λ (x : List Occurrence). Agree (input a.0) x) b.4 (agree_inputs a.0 b.0)) in
    let r = agree_both a.1 b.1 a.3 b.3 a.2 b.2 ag (a.5 ∙ sym b.5) (a.6 ∙ sym b.6) in
    let e : Some f ≡ Some g = sym a.7 ∙ ap (λ (x : List Occurrence). passed_limit (counted 0 x) a.2) r.0 ∙ ap (passed_limit (counted 0 b.1)) r.1 ∙ b.7 in cc

no_syntax : (before : List Tok) (t : Tok) (f : TextFault) → IsFaultAt before t Syntax → HasLimit before t f → ⊥
no_syntax before t f s a = s a.0 (tokens_of a.3) (ap tokens_of a.4 ∙ tokens_of-append a.1 (a.2 ∷ a.3) ∙ ap (λ (x : List Tok). x ++ a.2.token ∷ tokens_of a.3) a.5 ∙ ap (λ (x : Tok). before ++ x ∷ tokens_of a.3) a.6)

-- a fault is a syntax fault, or that of an occurrence
kind : (before : List Tok) (t : Tok) (f : TextFault) → IsFaultAt before t f → ((f ≡ Syntax) × IsFaultAt before t Syntax) ⊎ HasLimit before t f
kind before t Syntax a = inl (refl, a)
kind before t Wide a = inr a
kind before t Exponent a = inr a
kind before t TooDeep a = inr a
kind before t TooMany a = inr a

same_fault : (before : List Tok) (t : Tok) (f g : TextFault) → IsFaultAt before t f → IsFaultAt before t g → f ≡ g
same_fault before t f g a b = elim (kind before t f a) [
  | inl u ↦ elim (kind before t g b) [ inl v ↦ u.0 ∙ sym v.0 | inr v ↦ absurd (no_syntax before t g u.1 v) ]
  | inr u ↦ elim (kind before t g b) [ inl v ↦ absurd (no_syntax before t f v.1 u) | inr v ↦ one_value before t f g u v ]
]

-- one list goes on from the other
abbrev GoesFurther : List Located → List Located → List Located → Type 0
GoesFurther b a' b' = (l : Located) × (more : List Located) × (b ≡ b' ++ l ∷ more) × (head a' ≡ Some l.token)

meet : (b a b' a' : List Located) → b ++ a ≡ b' ++ a' → (b ≡ b') ⊎ (GoesFurther b a' b' ⊎ GoesFurther b' a b)
meet [] a [] a' e = inl refl
meet (l ∷ b) a [] a' e = inr (inl (l, b, refl, ap head (sym e)))
meet [] a (l ∷ b') a' e = inr (inr (l, b', refl, ap head e))
meet (l ∷ b) a (k ∷ b') a' e =
    let f : l ≡ k = cc in
    let g : b ++ a ≡ b' ++ a' = cc in
    let h : (x y : List Located) → x ≡ y → l ∷ x ≡ k ∷ y = λ x y i. cc in
    elim (meet b a b' a' g) [
      | inl i ↦ inl (h b b' i)
      | inr i ↦ elim i [ inl j ↦ inr (inl (j.0, j.1, h b (b' ++ j.0 ∷ j.1) j.2, j.3)) | inr j ↦ inr (inr (j.0, j.1, sym (h (b ++ j.0 ∷ j.1) b' (sym j.2)), j.3)) ]
    ]

pub one_fault : (tokens before after before' after' : List Located) (f g : TextFault) → IsFirstFault tokens before after f → IsFirstFault tokens before' after' g → (before ≡ before') × (f ≡ g)
one_fault tokens before after before' after' f g a b = elim (meet before after before' after' (sym a.stands ∙ b.stands)) [
  | inl e ↦ (
    e,
    same_fault (bare_tokens before') (head after') f g
        (subst (λ (x : Tok). IsFaultAt (bare_tokens before') x f) (heads e) (subst (λ (x : List Located). IsFaultAt (bare_tokens x) (head after) f) e a.here)) b.here,
  )
  | inr i ↦ elim i [
    | inl j ↦ absurd (a.none_earlier before' j.0 j.1 g j.2 (subst (λ (x : Tok). IsFaultAt (bare_tokens before') x g) j.3 b.here))
    | inr j ↦ absurd (b.none_earlier before j.0 j.1 f j.2 (subst (λ (x : Tok). IsFaultAt (bare_tokens before) x f) j.3 a.here))
  ]
]
  where
    tails : (x y z : List Located) → x ++ y ≡ x ++ z → y ≡ z
    tails [] y z e = e
    tails (l ∷ x) y z e = tails x y z (let f : x ++ y ≡ x ++ z = cc in f)

    heads : before ≡ before' → head after ≡ head after'
    heads e = ap head (tails before after after' (sym a.stands ∙ b.stands ∙ ap (λ (x : List Located). x ++ after') (sym e)))
