-- Formulas that are alike have one simplified form.
use Rattle.std.proofs.Common.{◌≡◌, ◌∙◌, sym, ap, refl, subst, ℕ, zero, suc, ◌<◌, length, Bool, true, false, cond, List, [], ◌∷◌, ◌++◌, append_assoc, Option, arith}
use Rattle.std.proofs.lemmas.List.{append-nil}
use Rattle.std.specs.List.{flat_map, list_any, Contains}
use Rattle.std.specs.Prelude.{slice_index_or}
use Rattle.qe_form.specs.declared.signs.Signs.{Signs}
use Rattle.qe_form.specs.Formula.{Formula, True, False}
use Rattle.qe_form.specs.Tree.{trees_of}
use Rattle.qe_simp.specs.declared.connective.Connective.{Connective}
use Rattle.qe_simp.specs.declared.connective.Connective.TheVariants.{Conjunction, Disjunction}
use Rattle.qe_simp.specs.Simplified.{deciding, under, parts_in, decides, united, simplified, simplified_each}
use Rattle.qe_simp.specs.Alike.{Alike, itself, back, onward, flat, alone, same_parts, EachIsAmong, none, and_one}
use Rattle.qe_simp.specs.Laws.{HaveSameParts}
use Rattle.qe_simp.proofs.Contents.{join, join_none, join_comm, join_assoc, join_same, content, content-append, ordered, content-ordered}
use Rattle.qe_simp.proofs.Deciding.{whole, same_whole, whole_longer}
use Rattle.qe_simp.proofs.Stable.{simplified_stable, each_stable, whole_parts, own_closed}

-- what formulas are joined from
abbrev pieces : Connective → List Formula → List Formula
pieces k fs = flat_map (parts_in k) (simplified_each (trees_of fs))

simplified_connected : (k : Connective) (fs : List Formula) → simplified (under k fs) ≡ whole k (pieces k fs)
simplified_connected Conjunction fs = refl
simplified_connected Disjunction fs = refl

-- ---- lists laid flat

pieces-append : (k : Connective) (fs gs : List Formula) → pieces k (fs ++ gs) ≡ pieces k fs ++ pieces k gs
pieces-append k [] gs = refl
pieces-append k (f ∷ fs) gs = ap (λ ps. parts_in k (simplified f) ++ ps) (pieces-append k fs gs) ∙ sym (append_assoc (parts_in k (simplified f)) (pieces k fs) (pieces k gs))

decided_first : (k : Connective) (qs : List Formula) → whole k (parts_in k (deciding k) ++ qs) ≡ deciding k
decided_first Conjunction qs = whole_longer Conjunction (False ∷ []) qs refl
decided_first Disjunction qs = whole_longer Disjunction (True ∷ []) qs refl

whole_first : (k : Connective) (fs : List Formula) (qs : List Formula) → whole k (parts_in k (whole k (pieces k fs)) ++ qs) ≡ whole k (pieces k fs ++ qs)
whole_first k fs qs = by_test (list_any (decides k) (ordered k (pieces k fs))) refl
  where
    by_test : (b : Bool) → list_any (decides k) (ordered k (pieces k fs)) ≡ b → whole k (parts_in k (cond b (deciding k) (united k (ordered k (pieces k fs)))) ++ qs) ≡ whole k (pieces k fs ++ qs)
    by_test true test = decided_first k qs ∙ sym (whole_longer k (pieces k fs) qs test)
    by_test false test =
        ap (λ ps. whole k (ps ++ qs)) (own_closed k (simplified_each (trees_of fs)) (each_stable (trees_of fs)))
        ∙ same_whole k (ordered k (pieces k fs) ++ qs) (pieces k fs ++ qs) (λ x. (
        content-append k x (ordered k (pieces k fs)) qs ∙ (ap (λ c. join k c (content k x qs)) (content-ordered k x (pieces k fs)) ∙ sym (content-append k x (pieces k fs) qs))))

laid_flat : (k : Connective) (fs gs : List Formula) → simplified (under k (under k fs ∷ gs)) ≡ simplified (under k (fs ++ gs))
laid_flat k fs gs =
    simplified_connected k (under k fs ∷ gs)
    ∙ (ap (λ f. whole k (parts_in k f ++ pieces k gs)) (simplified_connected k fs)
    ∙ (whole_first k fs (pieces k gs) ∙ (ap (whole k) (sym (pieces-append k fs gs)) ∙ sym (simplified_connected k (fs ++ gs)))))

-- ---- one part alone

left_alone : (k : Connective) (f : Formula) → simplified (under k (f ∷ [])) ≡ simplified f
left_alone k f = simplified_connected k (f ∷ []) ∙ (ap (whole k) (append-nil (parts_in k (simplified f))) ∙ whole_parts k (simplified f) (simplified_stable f))

-- ---- the same parts

absorbs_first : (k : Connective) (p r : Option Signs) → join k (join k p r) p ≡ join k p r
absorbs_first k p r = join_comm k (join k p r) p ∙ (sym (join_assoc k p p r) ∙ ap (λ c. join k c r) (join_same k p))

absorbs_later : (k : Connective) (p r q : Option Signs) → join k r q ≡ r → join k (join k p r) q ≡ join k p r
absorbs_later k p r q same = join_assoc k p r q ∙ ap (join k p) same

-- what a formula of the list adds is there already
among : (k : Connective) (x g : Formula) (gs : List Formula) → Contains gs g → join k (content k x (pieces k gs)) (content k x (parts_in k (simplified g))) ≡ content k x (pieces k gs)
among k x g [] found = absurd (omega (arith, found.1))
among k x g (h ∷ hs) found = at_place (among k x g hs) found.0 found.1 found.2
  where
    first : content k x (pieces k (h ∷ hs)) ≡ join k (content k x (parts_in k (simplified h))) (content k x (pieces k hs))
    first = content-append k x (parts_in k (simplified h)) (pieces k hs)

    at_place : (Contains hs g → join k (content k x (pieces k hs)) (content k x (parts_in k (simplified g))) ≡ content k x (pieces k hs)) → (n : ℕ) → n < length (h ∷ hs) → slice_index_or (h ∷ hs) n g ≡ g
        → join k (content k x (pieces k (h ∷ hs))) (content k x (parts_in k (simplified g))) ≡ content k x (pieces k (h ∷ hs))
    at_place again zero less is = subst (λ y. join k (content k x (pieces k (h ∷ hs))) (content k x (parts_in k (simplified y))) ≡ content k x (pieces k (h ∷ hs))) is
        (ap (λ c. join k c (content k x (parts_in k (simplified h)))) first ∙ (absorbs_first k (content k x (parts_in k (simplified h))) (content k x (pieces k hs)) ∙ sym first))
    at_place again (suc n) less is =
        ap (λ c. join k c (content k x (parts_in k (simplified g)))) first
        ∙ (absorbs_later k (content k x (parts_in k (simplified h))) (content k x (pieces k hs)) (content k x (parts_in k (simplified g))) (again (n, omega arith, is)) ∙ sym first)

absorbs_both : (k : Connective) (c p q : Option Signs) → join k c p ≡ c → join k c q ≡ c → join k c (join k p q) ≡ c
absorbs_both k c p q first second = sym (join_assoc k c p q) ∙ (ap (λ d. join k d q) first ∙ second)

each_of_both : (k : Connective) (c d : Option Signs) → join k d c ≡ d → join k c d ≡ c → c ≡ d
each_of_both k c d there here = sym here ∙ (join_comm k c d ∙ there)

mutual
  pub alike_equal : {f g : Formula} → Alike f g → simplified f ≡ simplified g
  alike_equal itself = refl
  alike_equal (back h) = sym (alike_equal h)
  alike_equal (onward h i) = alike_equal h ∙ alike_equal i
  alike_equal (flat k fs gs) = laid_flat k fs gs
  alike_equal (alone k f) = left_alone k f
  alike_equal (same_parts k fs gs there here) =
      simplified_connected k fs
      ∙ (same_whole k (pieces k fs) (pieces k gs) (λ x. each_of_both k (content k x (pieces k fs)) (content k x (pieces k gs)) (each_among there k x) (each_among here k x)) ∙ sym (simplified_connected k gs))

  each_among : {fs gs : List Formula} → EachIsAmong fs gs → (k : Connective) (x : Formula) → join k (content k x (pieces k gs)) (content k x (pieces k fs)) ≡ content k x (pieces k gs)
  each_among {gs} none k x = join_none k (content k x (pieces k gs))
  each_among {gs} (and_one {f} {g} {fs} found same rest) k x =
      ap (join k (content k x (pieces k gs))) (content-append k x (parts_in k (simplified f)) (pieces k fs))
      ∙ absorbs_both k (content k x (pieces k gs)) (content k x (parts_in k (simplified f))) (content k x (pieces k fs))
      (ap (λ h. join k (content k x (pieces k gs)) (content k x (parts_in k h))) (alike_equal same) ∙ among k x g gs found)
      (each_among rest k x)

-- ---- lists of the same formulas

each_from : (fs gs : List Formula) → ((f : Formula) → Contains fs f → Contains gs f) → EachIsAmong fs gs
each_from [] gs within = none
each_from (f ∷ fs) gs within = and_one (within f (0, omega arith, refl)) itself (each_from fs gs (λ g found. within g (suc found.0, omega (arith, found.1), found.2)))

pub same_members : (k : Connective) (fs gs : List Formula) → HaveSameParts fs gs → simplified (under k fs) ≡ simplified (under k gs)
same_members k fs gs same = alike_equal (same_parts k fs gs (each_from fs gs same.0) (each_from gs fs same.1))
