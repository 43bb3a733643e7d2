-- The one walk of the code finds the quantifiers, the matrix and the names of the numbered normal form, and its count.
use Rattle.std.proofs.Common.{ℕ, ◌+◌, true, false, cond, ◌≡◌, ◌∙◌, refl, sym, ap, List, [], ◌∷◌, ◌++◌, length, take, arith}
use Rattle.std.proofs.Math.Seq.{take-append_seam, take-length}
use Rattle.std.proofs.lemmas.List.{append_assoc, append-nil}
use Rattle.qe_form.specs.Formula.{Formula, Formulas, True, False, Atom, And, Or, Not, Implies, Iff, Ex, All, no_more, more}
use Rattle.qe_form.specs.Measures.{count, count_each}
use Rattle.qe_norm.specs.declared.polarity.Polarity.{Polarity}
use Rattle.qe_norm.specs.declared.polarity.Polarity.TheVariants.{Positive, Negative}
use Rattle.qe_norm.specs.declared.walk.Renaming.{Renaming}
use Rattle.qe_norm.specs.Polarity.{flipped, truth_under, conjunction, pair, existential, kind_under}
use Rattle.qe_norm.specs.NormalForm.{normal_form, normal_forms}
use Rattle.qe_norm.specs.Numbering.{Walked, is_copy, new_variable, to_copy, within, numbered, numbered_each}
use Rattle.qe_norm.specs.Blocks.{prefix, prefix_each, matrix, matrix_each}
use Rattle.qe_norm.specs.Walk.{size_of, size_of_each, WalkState, quantifier, in_body, past_body, opened, opened_each}

-- A walk from the state s to the state t through g finds the quantifiers of the numbered g, and m as its matrix.
pub record Finds (g : Formula) (s : WalkState) (m : Formula) (t : WalkState) : Type 0 where
  pub walked : (numbered g s.renamings s.walked).1 ≡ t.walked
  pub prefix : s.prefix ++ prefix (numbered g s.renamings s.walked).0 ≡ t.prefix
  pub renamings : s.renamings ≡ t.renamings
  pub matrix : matrix (numbered g s.renamings s.walked).0 ≡ m

-- the same of parts in order
record FindsEach (gs : Formulas) (s : WalkState) (ms : Formulas) (t : WalkState) : Type 0 where
  walked : (numbered_each gs s.renamings s.walked).1 ≡ t.walked
  prefix : s.prefix ++ prefix_each (numbered_each gs s.renamings s.walked).0 ≡ t.prefix
  renamings : s.renamings ≡ t.renamings
  matrix : matrix_each (numbered_each gs s.renamings s.walked).0 ≡ ms

finds_truth : (b : Polarity) (s : WalkState) → Finds (truth_under b) s (truth_under b) s
finds_truth Positive s = record { walked = refl; prefix = append-nil s.prefix; renamings = refl; matrix = refl }
finds_truth Negative s = record { walked = refl; prefix = append-nil s.prefix; renamings = refl; matrix = refl }

finds_conjunction : (b : Polarity) (gs : Formulas) (s : WalkState) (ms : Formulas) (t : WalkState) → FindsEach gs s ms t → Finds (conjunction b gs) s (conjunction b ms) t
finds_conjunction Positive gs s ms t h = record { walked = h.walked; prefix = h.prefix; renamings = h.renamings; matrix = ap And h.matrix }
finds_conjunction Negative gs s ms t h = record { walked = h.walked; prefix = h.prefix; renamings = h.renamings; matrix = ap Or h.matrix }

-- the renamings before a quantifier are the first of those in its body
first_renamings : (w : Walked) (x : ℕ) (rs : List Renaming) → rs ≡ take (length rs) (within w x rs)
first_renamings w x rs = elim (is_copy w x) as (λ b. rs ≡ take (length rs) (cond b (rs ++ to_copy w x ∷ []) rs)) [
  | true ↦ sym (take-append_seam rs (to_copy w x ∷ []))
  | false ↦ sym (take-length rs)
]

finds_existential : (b : Polarity) (x : ℕ) (g : Formula) (s : WalkState) (m : Formula) (t : WalkState)
    → Finds g (in_body (kind_under b) x s) m t → Finds (existential b x g) s m (past_body (length s.renamings) t)
finds_existential Positive x g s m t h = record {
  walked = h.walked;
  prefix = sym (append_assoc s.prefix (quantifier (kind_under Positive) (new_variable s.walked x) ∷ []) _) ∙ h.prefix;
  renamings = first_renamings s.walked x s.renamings ∙ ap (take (length s.renamings)) h.renamings;
  matrix = h.matrix;
}
finds_existential Negative x g s m t h = record {
  walked = h.walked;
  prefix = sym (append_assoc s.prefix (quantifier (kind_under Negative) (new_variable s.walked x) ∷ []) _) ∙ h.prefix;
  renamings = first_renamings s.walked x s.renamings ∙ ap (take (length s.renamings)) h.renamings;
  matrix = h.matrix;
}

finds_none : (s : WalkState) → FindsEach no_more s no_more s
finds_none s = record { walked = refl; prefix = append-nil s.prefix; renamings = refl; matrix = refl }

finds_more : (g : Formula) (gs : Formulas) (s : WalkState) (m : Formula) (t : WalkState) (ms : Formulas) (u : WalkState)
    → Finds g s m t → FindsEach gs t ms u → FindsEach (more g gs) s (more m ms) u
finds_more g gs s m t ms u h k = record {
  walked = (λ i. (numbered_each gs (h.renamings i) (h.walked i)).1) ∙ k.walked;
  prefix = sym (append_assoc s.prefix (prefix (numbered g s.renamings s.walked).0) _)
      ∙ (λ i. h.prefix i ++ prefix_each (numbered_each gs (h.renamings i) (h.walked i)).0) ∙ k.prefix;
  renamings = h.renamings ∙ k.renamings;
  matrix = (λ i. more (h.matrix i) (matrix_each (numbered_each gs (h.renamings i) (h.walked i)).0)) ∙ ap (more m) k.matrix;
}

finds_pair : (b : Polarity) (g h : Formula) (s : WalkState) (m : Formula) (t : WalkState) (k : Formula) (u : WalkState)
    → Finds g s m t → Finds h t k u → Finds (pair b g h) s (pair b m k) u
finds_pair b g h s m t k u one two =
    finds_conjunction b _ s _ u (finds_more g (more h no_more) s m t _ u one (finds_more h no_more t k u no_more u two (finds_none u)))

mutual
  pub finds : (b : Polarity) (f : Formula) (s : WalkState) → Finds (normal_form b f) s (opened b f s).0 (opened b f s).1
  finds b True s = finds_truth b s
  finds b False s = finds_truth (flipped b) s
  finds b (Atom a) s = record { walked = refl; prefix = append-nil s.prefix; renamings = refl; matrix = refl }
  finds b (And fs) s = finds_conjunction b _ s _ _ (finds_each b fs s)
  finds b (Or fs) s = finds_conjunction (flipped b) _ s _ _ (finds_each b fs s)
  finds b (Not f) s = finds (flipped b) f s
  finds b (Implies f g) s = finds_pair (flipped b) _ _ s _ _ _ _ (finds (flipped b) f s) (finds b g (opened (flipped b) f s).1)
  finds b (Iff f g) s =
      let t = (opened Positive f s).1 in
      let u = (opened b g t).1 in
      let v = (opened Negative f u).1 in
      let one = finds_pair Positive _ _ s _ t _ u (finds Positive f s) (finds b g t) in
      let two = finds_pair Positive _ _ u _ v _ _ (finds Negative f u) (finds (flipped b) g v) in
      finds_pair Negative _ _ s _ u _ _ one two
  finds b (Ex x f) s = finds_existential b x _ s _ _ (finds b f (in_body (kind_under b) x s))
  finds b (All x f) s = finds_existential (flipped b) x _ s _ _ (finds b f (in_body (kind_under (flipped b)) x s))

  finds_each : (b : Polarity) (fs : Formulas) (s : WalkState) → FindsEach (normal_forms b fs) s (opened_each b fs s).0 (opened_each b fs s).1
  finds_each b no_more s = finds_none s
  finds_each b (more f fs) s = finds_more _ _ s _ _ _ _ (finds b f s) (finds_each b fs (opened b f s).1)

-- ---- the count

count_conjunction : (b : Polarity) (fs : Formulas) → count (conjunction b fs) ≡ count_each fs
count_conjunction Positive fs = refl
count_conjunction Negative fs = refl

count_existential : (b : Polarity) (x : ℕ) (f : Formula) → count (existential b x f) ≡ 1 + count f
count_existential Positive x f = refl
count_existential Negative x f = refl

count_truth : (b : Polarity) → count (truth_under b) ≡ 1
count_truth Positive = refl
count_truth Negative = refl

count_pair : (b : Polarity) (f g : Formula) (m n : ℕ) → count f ≡ m → count g ≡ n → count (pair b f g) ≡ m + n
count_pair b f g m n p q = count_conjunction b (more f (more g no_more)) ∙ (omega (arith, p, q))

mutual
  -- the normal form of a formula, and that of its negation, count what is counted on the formula
  pub count_normal : (b : Polarity) (f : Formula) → count (normal_form b f) ≡ size_of f
  count_normal b True = count_truth b
  count_normal b False = count_truth (flipped b)
  count_normal b (Atom a) = refl
  count_normal b (And fs) = count_conjunction b (normal_forms b fs) ∙ count_normals b fs
  count_normal b (Or fs) = count_conjunction (flipped b) (normal_forms b fs) ∙ count_normals b fs
  count_normal b (Not f) = count_normal (flipped b) f
  count_normal b (Implies f g) = count_pair (flipped b) (normal_form (flipped b) f) (normal_form b g) (size_of f) (size_of g) (count_normal (flipped b) f) (count_normal b g)
  count_normal b (Iff f g) =
      let one = count_pair Positive (normal_form Positive f) (normal_form b g) (size_of f) (size_of g) (count_normal Positive f) (count_normal b g) in
      let other = count_pair Positive (normal_form Negative f) (normal_form (flipped b) g) (size_of f) (size_of g) (count_normal Negative f) (count_normal (flipped b) g) in
      omega (arith, one, other)
  count_normal b (Ex x f) = count_existential b x (normal_form b f) ∙ ap (λ n. 1 + n) (count_normal b f)
  count_normal b (All x f) = count_existential (flipped b) x (normal_form b f) ∙ ap (λ n. 1 + n) (count_normal b f)

  count_normals : (b : Polarity) (fs : Formulas) → count_each (normal_forms b fs) ≡ size_of_each fs
  count_normals b no_more = refl
  count_normals b (more f fs) = let p = count_normal b f in let q = count_normals b fs in omega (arith, p, q)
