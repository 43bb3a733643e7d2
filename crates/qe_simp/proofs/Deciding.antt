-- A list with a part that decides has one still when it gets longer, and the whole is the deciding constant.
use Rattle.std.proofs.Common.{◌≡◌, ◌∙◌, sym, ap, refl, Bool, true, false, cond, ◌||◌, eqb, List, [], ◌∷◌, ◌++◌, Option, Some, None}
use Rattle.std.specs.List.{list_any}
use Rattle.std.specs.Ordering.{is_eq}
use Rattle.std.specs.Cmp.{tied_itself}
use Rattle.std.proofs.lemmas.Bool.{eqb-true}
use Rattle.qe_form.specs.declared.signs.Signs.{Signs}
use Rattle.qe_form.specs.Signs.{bits}
use Rattle.qe_form.specs.Formula.{Formula, Atom}
use Rattle.qe_form.specs.Order.{formula_cmp}
use Rattle.qe_form.specs.OrderLaws.{formula_total, formula_same, bits_same}
use Rattle.qe_simp.specs.declared.connective.Connective.{Connective}
use Rattle.qe_simp.specs.declared.connective.Connective.TheVariants.{Conjunction, Disjunction}
use Rattle.qe_simp.specs.Simplified.{joined_signs, decides, deciding, united, decided}
use Rattle.qe_simp.proofs.Keys.{no_signs, all_signs, key, signs_of, with_signs, rebuilt}
use Rattle.qe_ring.proofs.Ties.{equal_tie}
use Rattle.qe_simp.proofs.Contents.{join, join_comm, at, content, content-append, content_first, content_apart, ordered, content-ordered, Ascending, ascending_ordered, same_ordered}

-- a part with this key and these signs decides
abbrev decided_at : Connective → Formula → Option Signs → Bool
decided_at k x None = false
decided_at k x (Some s) = decides k (with_signs x s)

pub still_decides : (k : Connective) (x : Formula) (s t : Signs) → decides k (with_signs x s) ≡ true → decides k (with_signs x (joined_signs k s t)) ≡ true
still_decides Conjunction (Atom a) s t test = ap (λ r. eqb (bits (joined_signs Conjunction r t)) 0) (bits_same s no_signs (eqb-true (bits s) 0 test))
still_decides Disjunction (Atom a) s t test = ap (λ r. eqb (bits (joined_signs Disjunction r t)) 7) (bits_same s all_signs (eqb-true (bits s) 7 test))
still_decides k x s t test = test

join_decides : (k : Connective) (x : Formula) (s t : Option Signs) → decided_at k x s ≡ true → decided_at k x (join k s t) ≡ true
join_decides k x None t test = absurd (cc)
join_decides k x (Some s) None test = test
join_decides k x (Some s) (Some t) test = still_decides k x s t test

-- where a part decides, it does so at its key
content_decides : (k : Connective) (fs : List Formula) → list_any (decides k) fs ≡ true → (x : Formula) × (decided_at k x (content k x fs) ≡ true)
content_decides k [] test = absurd (cc)
content_decides k (f ∷ fs) test = by_first (content_decides k fs) (decides k f) refl test
  where
    here : decides k f ≡ true → decided_at k (key f) (at (key f) f) ≡ true
    here first = ap (λ r. decided_at k (key f) (cond (is_eq r) (Some (signs_of f)) None)) (tied_itself formula_total (key f)) ∙ (ap (decides k) (rebuilt f) ∙ first)

    by_first : (list_any (decides k) fs ≡ true → (x : Formula) × (decided_at k x (content k x fs) ≡ true)) → (b : Bool) → decides k f ≡ b → (b || list_any (decides k) fs) ≡ true → (x : Formula) × (decided_at k x (content k x (f ∷ fs)) ≡ true)
    by_first again true first either = (key f, join_decides k (key f) (at (key f) f) (content k (key f) fs) (here first))
    by_first again false first rest =
        let w = again rest in (w.0, ap (decided_at k w.0) (join_comm k (at w.0 f) (content k w.0 fs)) ∙ join_decides k w.0 (content k w.0 fs) (at w.0 f) w.1)

or_true : (a b : Bool) → b ≡ true → (a || b) ≡ true
or_true true b holds = refl
or_true false b holds = holds

-- and the other way round where each key stands once
decides_content : (k : Connective) (x : Formula) (fs : List Formula) → Ascending fs → decided_at k x (content k x fs) ≡ true → list_any (decides k) fs ≡ true
decides_content k x [] ascending test = absurd (cc)
decides_content k x (f ∷ fs) ascending test = by_tie (decides_content k x fs ascending.1) (is_eq (formula_cmp x (key f))) refl
  where
    by_tie : (decided_at k x (content k x fs) ≡ true → list_any (decides k) fs ≡ true) → (t : Bool) → is_eq (formula_cmp x (key f)) ≡ t → (decides k f || list_any (decides k) fs) ≡ true
    by_tie again true tied =
        let here : x ≡ key f = formula_same x (key f) (equal_tie (formula_cmp x (key f)) tied) in
        let is : content k x (f ∷ fs) ≡ Some (signs_of f) = ap (λ y. content k y (f ∷ fs)) here ∙ content_first k f fs ascending in
        let first : decides k f ≡ true = sym (ap (decides k) (rebuilt f)) ∙ (sym (λ i. decided_at k (here i) (is i)) ∙ test) in
        ap (λ b. b || list_any (decides k) fs) first
    by_tie again false tied = or_true (decides k f) (list_any (decides k) fs) (again (sym (ap (decided_at k x) (content_apart k x f fs tied)) ∙ test))

decides_longer : (k : Connective) (fs gs : List Formula) → list_any (decides k) (ordered k fs) ≡ true → list_any (decides k) (ordered k (fs ++ gs)) ≡ true
decides_longer k fs gs test =
    let w = content_decides k (ordered k fs) test in
    let before : decided_at k w.0 (content k w.0 fs) ≡ true = sym (ap (decided_at k w.0) (content-ordered k w.0 fs)) ∙ w.1 in
    let longer : decided_at k w.0 (content k w.0 (fs ++ gs)) ≡ true = ap (decided_at k w.0) (content-append k w.0 fs gs) ∙ join_decides k w.0 (content k w.0 fs) (content k w.0 gs) before in
    decides_content k w.0 (ordered k (fs ++ gs)) (ascending_ordered k (fs ++ gs)) (ap (decided_at k w.0) (content-ordered k w.0 (fs ++ gs)) ∙ longer)

-- ---- the whole that parts are

abbrev pub whole : Connective → List Formula → Formula
whole k fs = decided k (ordered k fs)

pub same_whole : (k : Connective) (fs gs : List Formula) → ((x : Formula) → content k x fs ≡ content k x gs) → whole k fs ≡ whole k gs
same_whole k fs gs same = ap (decided k) (same_ordered k fs gs same)

pub whole_longer : (k : Connective) (fs gs : List Formula) → list_any (decides k) (ordered k fs) ≡ true → whole k (fs ++ gs) ≡ deciding k
whole_longer k fs gs test = ap (λ b. cond b (deciding k) (united k (ordered k (fs ++ gs)))) (decides_longer k fs gs test)
