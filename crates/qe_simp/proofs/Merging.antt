-- One more part after merged parts.
use Rattle.std.proofs.Common.{◌≡◌, ◌∙◌, sym, ap, List, [], ◌∷◌, ◌++◌, map, length, Option, Some, None, arith}
use Rattle.qe_form.specs.declared.form.Form.{Form}
use Rattle.qe_form.specs.Formula.{Formula}
use Rattle.qe_form.specs.Tree.{tree}
use Rattle.qe_simp.specs.declared.connective.Connective.{Connective}
use Rattle.qe_simp.specs.Simplified.{as_one, one_or_two, merged_from, merged_parts}
use Rattle.qe_simp.proofs.Lists.{map_append}

no_end : (fs : List Formula) (l : Formula) → [] ≡ fs ++ l ∷ [] → ⊥
no_end [] l none = absurd (cc)
no_end (f ∷ fs) l none = absurd (cc)

some_part : (k : Connective) (f : Formula) (gs : List Formula) → merged_from k f gs ≡ [] → ⊥
some_part k f [] none = absurd (cc)
some_part k f (g ∷ gs) none = by_one (λ h. some_part k h gs) (as_one k f g) none
  where
    by_one : ((h : Formula) → merged_from k h gs ≡ [] → ⊥) → (o : Option Formula) → one_or_two o (λ h. merged_from k h gs) (f ∷ merged_from k g gs) ≡ [] → ⊥
    by_one again None nothing = absurd (cc)
    by_one again (Some h) nothing = again h nothing

module _ (k : Connective) (y l : Formula) where
  -- the last part and one more
  abbrev ends : List Formula
  ends = one_or_two (as_one k l y) (λ h. h ∷ []) (l ∷ y ∷ [])

  one_more : (f : Formula) (gs out : List Formula) → merged_from k f gs ≡ out ++ l ∷ [] → merged_from k f (gs ++ y ∷ []) ≡ out ++ ends
  one_more f [] [] is = let same : f ≡ l = cc in ap (λ g. one_or_two (as_one k g y) (λ h. h ∷ []) (g ∷ y ∷ [])) same
  one_more f [] (o ∷ os) is = absurd (no_end os l (let rest : [] ≡ os ++ l ∷ [] = cc in rest))
  one_more f (g ∷ gs) out is = by_one (λ h. one_more h gs) (as_one k f g) out is
    where
      by_one : ((h : Formula) (os : List Formula) → merged_from k h gs ≡ os ++ l ∷ [] → merged_from k h (gs ++ y ∷ []) ≡ os ++ ends) → (o : Option Formula) (os : List Formula) → one_or_two o (λ h. merged_from k h gs) (f ∷ merged_from k g gs) ≡ os ++ l ∷ []
          → one_or_two o (λ h. merged_from k h (gs ++ y ∷ [])) (f ∷ merged_from k g (gs ++ y ∷ [])) ≡ os ++ ends
      by_one again (Some h) os same = again h os same
      by_one again None [] same = absurd (some_part k g gs (let rest : merged_from k g gs ≡ [] = cc in rest))
      by_one again None (o ∷ os) same =
          let first : f ≡ o = cc in
          let rest : merged_from k g gs ≡ os ++ l ∷ [] = cc in λ i. first i ∷ again g os rest i

  pub merged_more : (fs out : List Formula) → merged_parts k fs ≡ out ++ l ∷ [] → merged_parts k (fs ++ y ∷ []) ≡ out ++ ends
  merged_more [] out is = absurd (no_end out l is)
  merged_more (f ∷ fs) out is = one_more f fs out is

-- ---- the same of forms

module _ (k : Connective) (items out : List Form) (fs : List Formula) (last part : Form) (before : map tree items ≡ merged_parts k fs) (popped : items ≡ out ++ last ∷ []) where
  more_trees : merged_parts k (fs ++ tree part ∷ []) ≡ map tree out ++ ends k (tree part) (tree last)
  more_trees = merged_more k (tree part) (tree last) fs (map tree out) (sym before ∙ (ap (map tree) popped ∙ map_append out (last ∷ [])))

  pub after_one : (one : Form) (new : List Form) → as_one k (tree last) (tree part) ≡ Some (tree one) → new ≡ out ++ one ∷ [] → map tree new ≡ merged_parts k (fs ++ tree part ∷ [])
  after_one one new joined pushed =
      ap (map tree) pushed ∙ (map_append out (one ∷ []) ∙ sym (more_trees ∙ ap (λ o. map tree out ++ one_or_two o (λ h. h ∷ []) (tree last ∷ tree part ∷ [])) joined))

  pub after_two : (first second : Form) (mid new : List Form) → as_one k (tree last) (tree part) ≡ None → tree first ≡ tree last → tree second ≡ tree part → mid ≡ out ++ first ∷ [] → new ≡ mid ++ second ∷ []
      → map tree new ≡ merged_parts k (fs ++ tree part ∷ [])
  after_two first second mid new apart same same_too pushed_first pushed_second =
      ap (map tree) pushed_second ∙ (map_append mid (second ∷ []) ∙ (ap (λ ts. ts ++ tree second ∷ []) (ap (map tree) pushed_first ∙ map_append out (first ∷ []))
      ∙ (two (map tree out) ∙ sym (more_trees ∙ ap (λ o. map tree out ++ one_or_two o (λ h. h ∷ []) (tree last ∷ tree part ∷ [])) apart))))
    where
      two : (ts : List Formula) → (ts ++ tree first ∷ []) ++ tree second ∷ [] ≡ ts ++ tree last ∷ tree part ∷ []
      two [] = λ i. same i ∷ same_too i ∷ []
      two (t ∷ ts) = ap (λ us. t ∷ us) (two ts)

-- the first part
pub after_none : (k : Connective) (items out new : List Form) (fs : List Formula) (part : Form) → map tree items ≡ merged_parts k fs → length items ≡ 0 → length out ≡ 0 → new ≡ out ++ part ∷ [] → map tree new ≡ merged_parts k (fs ++ tree part ∷ [])
after_none k [] [] new [] part before none nothing pushed = ap (map tree) pushed
after_none k [] [] new (f ∷ fs) part before none nothing pushed = absurd (some_part k f fs (sym before))
after_none k [] (o ∷ os) new fs part before none nothing pushed = absurd (omega arith)
after_none k (i ∷ is) os new fs part before none nothing pushed = absurd (omega arith)
