-- The numbers of a formula that is read fit its names.
use Rattle.std.proofs.Common.{ℕ, zero, suc, ◌+◌, ◌≡◌, ◌≢◌, ◌<◌, ◌≤◌, ◌⊎◌, inl, inr, refl, sym, ap, subst, ◌∙◌, Bool, true, false, ◌||◌, cond, nat_eq, List, [], ◌∷◌, ◌++◌, length, length-append, map, get_or, slice_get, Option, Some, None, Result, Ok, Err, IfOk, arith}
use Rattle.std.specs.List.{AllByRecursion, Contains, IsDistinct, list_any}
use Rattle.std.specs.List.Sorted.{IsStrictlySortedBy}
use Rattle.std.specs.Option.{option_or}
use Rattle.std.specs.Ordering.{is_lt}
use Rattle.std.specs.declared.cmp.Ordering.{Ordering}
use Rattle.std.specs.declared.cmp.Ordering.TheVariants.{Less, Equal, Greater}
use Rattle.std.proofs.lemmas.Bool.{cases_order, cases_eq}
use Rattle.std.proofs.lemmas.Bool.Decides.{nat_tests}
use Rattle.std.proofs.lemmas.Map.Keys.{Less-from_sorted}
use Rattle.std.proofs.lemmas.Option.{slice_get-get_or}
use Rattle.qe_token.specs.declared.token.Name.{Name}
use Rattle.qe_token.specs.declared.token.Relation.{Relation}
use Rattle.qe_poly.specs.declared.monomial.Var.{Var}
use Rattle.qe_syntax.specs.Tree as tree
use Rattle.qe_syntax.specs.Tree.{TermTree, FormulaTree, FormulaTrees}
use Rattle.qe_form.specs.Formula as form
use Rattle.qe_form.specs.Formula.{Formula, Formulas}
use Rattle.qe_form.specs.Same.{IsFree, IsFreeInSome}
use Rattle.qe_read.specs.declared.scope.Binder.{Binder}
use Rattle.qe_read.specs.declared.value.Met.{Met}
use Rattle.qe_read.specs.Names.{Letters, letters, letters_cmp, is_same, names_before, bound_to, or_free, variable}
use Rattle.qe_read.specs.FreeNames.{is_bound, free_in, free_in_addends, free_in_factors, free_names, free_names_each}
use Rattle.qe_read.specs.Value.{proceed, value, subtracted}
use Rattle.qe_read.specs.Formula.{bound_names, names_bound_in, binder, atom_value, formula, formulas}
use Rattle.qe_form.specs.Tree as code
use Rattle.qe_form.specs.declared.names.Input.{Input}
use Rattle.qe_read.specs.declared.fault.ReadFault.{ReadFault}
use Rattle.qe_read.specs.Input.{IsReadFrom, AnswersTree}
use Rattle.qe_read.specs.Numbered.{binders, binders_each, Occurs, OccursInOne, IsWellNumbered}
use Rattle.qe_read.proofs.Distinct.{length-mapped}
use Rattle.qe_read.proofs.Kept.{append, front, behind}
use Rattle.qe_read.proofs.Named.{all_in, all_in_addends, all_in_factors}
use Rattle.qe_read.proofs.Unique.{first, later, first_or_later, irreflexive}
use Rattle.qe_read.proofs.Valued.{of_added, of_value}
use Rattle.qe_read.proofs.Variables.{in_polynomial}

-- a free name comes after fewer names than there are
few_one : (b : Bool) (m n : ℕ) → m ≤ n → cond b (suc m) m ≤ suc n
few_one true m n h = omega arith
few_one false m n h = omega arith

few_before : (names : List Letters) (w : Letters) → names_before names w ≤ length names
few_before [] w = omega arith
few_before (v ∷ vs) w = few_one (is_lt (letters_cmp v w)) (names_before vs w) (length vs) (few_before vs w)

not_less : (o : Ordering) → (o ≡ Less → ⊥) → is_lt o ≡ false
not_less Less h = absurd (h refl)
not_less Equal h = refl
not_less Greater h = refl

below_one : (b : Bool) (m n : ℕ) → m < n → cond b (suc m) m < suc n
below_one true m n h = omega arith
below_one false m n h = omega arith

below_at : (v : Letters) (vs : List Letters) (w : Letters) → (Contains vs w → names_before vs w < length vs) → (v ≡ w) ⊎ Contains vs w → names_before (v ∷ vs) w < suc (length vs)
below_at v vs w h (inl e) =
    let same : is_lt (letters_cmp v w) ≡ false = not_less (letters_cmp v w) (λ l. irreflexive w (subst (λ u. letters_cmp u w ≡ Less) e l)) in
    rw same (omega (arith, few_before vs w))
below_at v vs w h (inr d) = below_one (is_lt (letters_cmp v w)) (names_before vs w) (length vs) (h d)

rank_below : (names : List Letters) (w : Letters) → Contains names w → names_before names w < length names
rank_below [] w (k, h, e) = absurd (omega arith)
rank_below (v ∷ vs) w c = below_at v vs w (λ d. rank_below vs w d) (first_or_later v vs w c)

-- x is the variable of one of the binders
abbrev Binds : List Binder → ℕ → Type 0
Binds [] x = ⊥
Binds (b ∷ bs) x = (b.var.0 ≡ x) ⊎ Binds bs x

abbrev pub names_of : List Binder → List Name
names_of bs = map (λ b. b.name) bs

-- what holds of a result, where there is one
abbrev pub Gives : {A : Type 0} → (A → Type 0) → Result A Met → Type 0
Gives P (Ok a) = P a
Gives P (Err met) = Unit {0}

pub gives_next : {A B : Type 0} (P : A → Type 0) (Q : B → Type 0) (v : Result A Met) (f : A → Result B Met) → Gives P v → ((a : A) → P a → Gives Q (f a)) → Gives Q (proceed v f)
gives_next P Q (Ok a) f h k = k a h
gives_next P Q (Err met) f h k = tt

pub gives_equal : {A B : Type 0} (Q : B → Type 0) (v : Result A Met) (f : A → Result B Met) → ((a : A) → v ≡ Ok a → Gives Q (f a)) → Gives Q (proceed v f)
gives_equal Q (Ok a) f k = k a refl
gives_equal Q (Err met) f k = tt

pub given : {A : Type 0} (P : A → Type 0) (v : Result A Met) (a : A) → v ≡ Ok a → Gives P v → P a
given P v a e h = subst (λ r. Gives P r) e h

every : {X : Type 0} (P Q : X → Type 0) (xs : List X) → ((x : X) → P x → Q x) → AllByRecursion P xs → AllByRecursion Q xs
every P Q [] f h = tt
every P Q (x ∷ xs) f h = (f x h.0, every P Q xs f h.1)

-- ---- the variables of names

pub names_of-push : (bs : List Binder) (b : Binder) → names_of (bs ++ b ∷ []) ≡ names_of bs ++ b.name ∷ []
names_of-push [] b = refl
names_of-push (a ∷ bs) b = ap (λ ns. a.name ∷ ns) (names_of-push bs b)

binds_push : (bs : List Binder) (b : Binder) (x : ℕ) → Binds (bs ++ b ∷ []) x → Binds bs x ⊎ (b.var.0 ≡ x)
binds_push [] b x (inl e) = inr e
binds_push [] b x (inr o) = absurd o
binds_push (a ∷ bs) b x (inl e) = inl (inl e)
binds_push (a ∷ bs) b x (inr o) = elim (binds_push bs b x o) [ inl c ↦ inl (inr c) | inr e ↦ inr e ]

module _ (text : List ℕ) (free : List Letters) where
  -- the variable of a free name, or of a binder around
  abbrev Known : List Binder → ℕ → Type 0
  Known enclosing x = (x < length free) ⊎ Binds enclosing x

  abbrev pub Listed : Name → Type 0
  Listed x = Contains free (letters text x)

  among_one : (b : Binder) (bs : List Binder) (o : Option Var) (same : Bool) (v : Var) → ((u : Var) → o ≡ Some u → Binds bs u.0)
      → option_or o (cond same (Some b.var) None) ≡ Some v → (b.var.0 ≡ v.0) ⊎ Binds bs v.0
  among_one b bs (Some u) same v h e = inr (h v e)
  among_one b bs None true v h e = let f : b.var ≡ v = cc in inl (ap (λ z. z.0) f)
  among_one b bs None false v h e = absurd (cc)

  among_binders : (bs : List Binder) (w : Letters) (v : Var) → bound_to text bs w ≡ Some v → Binds bs v.0
  among_binders [] w v e = absurd (cc)
  among_binders (b ∷ bs) w v e = among_one b bs (bound_to text bs w) (is_same (letters text b.name) w) v (λ u f. among_binders bs w u f) e

  unbound_one : (x : Var) (o : Option Var) (same any : Bool) → (o ≡ None → any ≡ false) → option_or o (cond same (Some x) None) ≡ None → (same || any) ≡ false
  unbound_one x (Some u) same any h e = absurd (cc)
  unbound_one x None true any h e = absurd (cc)
  unbound_one x None false any h e = h refl

  pub unbound : (bs : List Binder) (w : Letters) → bound_to text bs w ≡ None → list_any (λ y. is_same (letters text y) w) (names_of bs) ≡ false
  unbound [] w e = refl
  unbound (b ∷ bs) w e = unbound_one b.var (bound_to text bs w) (is_same (letters text b.name) w) (list_any (λ y. is_same (letters text y) w) (names_of bs)) (λ f. unbound bs w f) e

  known_one : (enclosing : List Binder) (x : Name) (o : Option Var) → bound_to text enclosing (letters text x) ≡ o → (is_bound text (names_of enclosing) x ≡ false → Listed x)
      → Known enclosing (or_free free (letters text x) o).0
  known_one enclosing x (Some v) e h = inr (among_binders enclosing (letters text x) v e)
  known_one enclosing x None e h = inl (rank_below free (letters text x) (h (unbound enclosing (letters text x) e)))

  known : (enclosing : List Binder) (x : Name) → (is_bound text (names_of enclosing) x ≡ false → Listed x) → Known enclosing (variable text free enclosing x).0
  known enclosing x h = known_one enclosing x (bound_to text enclosing (letters text x)) refl h

  listed_one : (P : Type 0) (b : Bool) (x : Name) → AllByRecursion Listed (cond b [] (x ∷ [])) → b ≡ false → Listed x
  listed_one P true x h e = absurd (cc)
  listed_one P false x h e = h.0

  module _ (around : List Name) where
    abbrev pub Free : Name → Type 0
    Free x = is_bound text around x ≡ false → Listed x

    mutual
      pub listed : (t : TermTree) → AllByRecursion Listed (free_in text around t) → AllByRecursion Free (all_in t)
      listed (tree.Number n) h = tt
      listed (tree.Variable x) h = (listed_one ⊥ (is_bound text around x) x h, tt)
      listed (tree.Negative t) h = listed t h
      listed (tree.Power t p n) h = listed t h
      listed (tree.Sum t us) h =
          append Free (all_in t) (all_in_addends us) (listed t (front Listed (free_in text around t) (free_in_addends text around us) h))
          (listed_addends us (behind Listed (free_in text around t) (free_in_addends text around us) h))
      listed (tree.Product t us) h =
          append Free (all_in t) (all_in_factors us) (listed t (front Listed (free_in text around t) (free_in_factors text around us) h))
          (listed_factors us (behind Listed (free_in text around t) (free_in_factors text around us) h))

      listed_addends : (us : tree.Addends) → AllByRecursion Listed (free_in_addends text around us) → AllByRecursion Free (all_in_addends us)
      listed_addends tree.no_addend h = tt
      listed_addends (tree.addend p m t us) h =
          append Free (all_in t) (all_in_addends us) (listed t (front Listed (free_in text around t) (free_in_addends text around us) h))
          (listed_addends us (behind Listed (free_in text around t) (free_in_addends text around us) h))

      listed_factors : (us : tree.Factors) → AllByRecursion Listed (free_in_factors text around us) → AllByRecursion Free (all_in_factors us)
      listed_factors tree.no_factor h = tt
      listed_factors (tree.factor p t us) h =
          append Free (all_in t) (all_in_factors us) (listed t (front Listed (free_in text around t) (free_in_factors text around us) h))
          (listed_factors us (behind Listed (free_in text around t) (free_in_factors text around us) h))

  all_known : (enclosing : List Binder) (t : TermTree) → AllByRecursion Listed (free_in text (names_of enclosing) t) → AllByRecursion (λ x. Known enclosing (variable text free enclosing x).0) (all_in t)
  all_known enclosing t h =
      every (Free (names_of enclosing)) (λ x. Known enclosing (variable text free enclosing x).0) (all_in t) (λ x k. known enclosing x k) (listed (names_of enclosing) t h)

  -- ---- the free variables are known

  abbrev Frees : List Binder → Formula → Type 0
  Frees enclosing g = (x : ℕ) → IsFree x g → Known enclosing x

  abbrev FreesEach : List Binder → Formulas → Type 0
  FreesEach enclosing gs = (x : ℕ) → IsFreeInSome x gs → Known enclosing x

  either : (x : ℕ) (A B C : Type 0) → (A → C) → (B → C) → A ⊎ B → C
  either x A B C f g (inl a) = f a
  either x A B C f g (inr b) = g b

  -- outside of a binder
  outside : (enclosing : List Binder) (b : Binder) (x : ℕ) → x ≢ b.var.0 → Known (enclosing ++ b ∷ []) x → Known enclosing x
  outside enclosing b x n (inl h) = inl h
  outside enclosing b x n (inr o) = elim (binds_push enclosing b x o) [ inl c ↦ inr c | inr e ↦ absurd (n (sym e)) ]

  frees_atom : (enclosing : List Binder) (t u : TermTree) (p : ℕ) (r : Relation) → AllByRecursion Listed (free_in text (names_of enclosing) t) → AllByRecursion Listed (free_in text (names_of enclosing) u)
      → Gives (Frees enclosing) (atom_value p r (value (variable text free enclosing) t) (value (variable text free enclosing) u))
  frees_atom enclosing t u p r h k =
      gives_equal (Frees enclosing) (value (variable text free enclosing) t) _ (λ a ea.
      gives_equal (Frees enclosing) (value (variable text free enclosing) u) _ (λ b eb.
      gives_equal (Frees enclosing) (subtracted p a b) _ (λ d ed. λ x o.
      in_polynomial (Known enclosing) x d
      (of_added (Known enclosing) (variable text free enclosing) p true a b d
      (of_value (Known enclosing) (variable text free enclosing) t a (all_known enclosing t h) ea)
      (of_value (Known enclosing) (variable text free enclosing) u b (all_known enclosing u k) eb) ed) o)))

  mutual
    frees : (enclosing : List Binder) (bound : List Name) (f : FormulaTree) → AllByRecursion Listed (free_names text (names_of enclosing) f) → Gives (Frees enclosing) (formula text free enclosing bound f)
    frees enclosing bound tree.True h = λ x o. absurd o
    frees enclosing bound tree.False h = λ x o. absurd o
    frees enclosing bound (tree.Atom t p r u) h =
        frees_atom enclosing t u p r (front Listed (free_in text (names_of enclosing) t) (free_in text (names_of enclosing) u) h)
        (behind Listed (free_in text (names_of enclosing) t) (free_in text (names_of enclosing) u) h)
    frees enclosing bound (tree.And fs) h = gives_next (FreesEach enclosing) (Frees enclosing) (formulas text free enclosing bound fs) _ (frees_each enclosing bound fs h) (λ gs k. k)
    frees enclosing bound (tree.Or fs) h = gives_next (FreesEach enclosing) (Frees enclosing) (formulas text free enclosing bound fs) _ (frees_each enclosing bound fs h) (λ gs k. k)
    frees enclosing bound (tree.Not f) h = gives_next (Frees enclosing) (Frees enclosing) (formula text free enclosing bound f) _ (frees enclosing bound f h) (λ g k. k)
    frees enclosing bound (tree.Implies f g) h =
        gives_next (Frees enclosing) (Frees enclosing) (formula text free enclosing bound f) _ (frees enclosing bound f (front Listed (free_names text (names_of enclosing) f) (free_names text (names_of enclosing) g) h)) (λ a k.
        gives_next (Frees enclosing) (Frees enclosing) (formula text free enclosing (bound ++ bound_names f) g) _ (frees enclosing (bound ++ bound_names f) g (behind Listed (free_names text (names_of enclosing) f) (free_names text (names_of enclosing) g) h)) (λ b l.
        λ x o. either x (IsFree x a) (IsFree x b) (Known enclosing x) (k x) (l x) o))
    frees enclosing bound (tree.Iff f g) h =
        gives_next (Frees enclosing) (Frees enclosing) (formula text free enclosing bound f) _ (frees enclosing bound f (front Listed (free_names text (names_of enclosing) f) (free_names text (names_of enclosing) g) h)) (λ a k.
        gives_next (Frees enclosing) (Frees enclosing) (formula text free enclosing (bound ++ bound_names f) g) _ (frees enclosing (bound ++ bound_names f) g (behind Listed (free_names text (names_of enclosing) f) (free_names text (names_of enclosing) g) h)) (λ b l.
        λ x o. either x (IsFree x a) (IsFree x b) (Known enclosing x) (k x) (l x) o))
    frees enclosing bound (tree.Ex y f) h =
        let b = binder free bound y in
        gives_next (Frees (enclosing ++ b ∷ [])) (Frees enclosing) (formula text free (enclosing ++ b ∷ []) (bound ++ y ∷ []) f) _
        (frees (enclosing ++ b ∷ []) (bound ++ y ∷ []) f (subst (λ ns. AllByRecursion Listed (free_names text ns f)) (sym (names_of-push enclosing b)) h))
        (λ g k. λ x o. outside enclosing b x o.0 (k x o.1))
    frees enclosing bound (tree.All y f) h =
        let b = binder free bound y in
        gives_next (Frees (enclosing ++ b ∷ [])) (Frees enclosing) (formula text free (enclosing ++ b ∷ []) (bound ++ y ∷ []) f) _
        (frees (enclosing ++ b ∷ []) (bound ++ y ∷ []) f (subst (λ ns. AllByRecursion Listed (free_names text ns f)) (sym (names_of-push enclosing b)) h))
        (λ g k. λ x o. outside enclosing b x o.0 (k x o.1))

    frees_each : (enclosing : List Binder) (bound : List Name) (fs : FormulaTrees) → AllByRecursion Listed (free_names_each text (names_of enclosing) fs) → Gives (FreesEach enclosing) (formulas text free enclosing bound fs)
    frees_each enclosing bound tree.no_more h = λ x o. absurd o
    frees_each enclosing bound (tree.more f fs) h =
        gives_next (Frees enclosing) (FreesEach enclosing) (formula text free enclosing bound f) _ (frees enclosing bound f (front Listed (free_names text (names_of enclosing) f) (free_names_each text (names_of enclosing) fs) h)) (λ a k.
        gives_next (FreesEach enclosing) (FreesEach enclosing) (formulas text free enclosing (bound ++ bound_names f) fs) _ (frees_each enclosing (bound ++ bound_names f) fs (behind Listed (free_names text (names_of enclosing) f) (free_names_each text (names_of enclosing) fs) h)) (λ b l.
        λ x o. either x (IsFree x a) (IsFreeInSome x b) (Known enclosing x) (k x) (l x) o))

  -- ---- the binders have the numbers that follow

  abbrev pub numbered : ℕ → List Name → List ℕ
  numbered n [] = []
  numbered n (x ∷ xs) = n ∷ numbered (suc n) xs

  numbered-append : (n : ℕ) (xs ys : List Name) → numbered n (xs ++ ys) ≡ numbered n xs ++ numbered (n + length xs) ys
  numbered-append n [] ys = let e : n ≡ n + 0 = omega arith in ap (λ k. numbered k ys) e
  numbered-append n (x ∷ xs) ys =
      let e : suc n + length xs ≡ n + length (x ∷ xs) = omega arith in
      ap (λ ns. n ∷ ns) (numbered-append (suc n) xs ys ∙ ap (λ k. numbered (suc n) xs ++ numbered k ys) e)

  abbrev start : List Name → ℕ
  start bound = length free + length bound

  -- two parts, the second after what the first binds
  both_numbered : (bound xs ys : List Name) (ks bs : List ℕ) → ks ≡ numbered (start bound) xs → bs ≡ numbered (start (bound ++ xs)) ys → ks ++ bs ≡ numbered (start bound) (xs ++ ys)
  both_numbered bound xs ys ks bs h k =
      let e : start (bound ++ xs) ≡ start bound + length xs = omega (arith, length-append bound xs) in
      ap (λ cs. cs ++ bs) h ∙ ap (λ cs. numbered (start bound) xs ++ cs) (k ∙ ap (λ n. numbered n ys) e) ∙ sym (numbered-append (start bound) xs ys)

  inside_numbered : (bound : List Name) (y : Name) (xs : List Name) (ks : List ℕ) → ks ≡ numbered (start (bound ++ y ∷ [])) xs → start bound ∷ ks ≡ numbered (start bound) (y ∷ xs)
  inside_numbered bound y xs ks h =
      let e : start (bound ++ y ∷ []) ≡ suc (start bound) = omega (arith, length-append bound (y ∷ [])) in
      ap (λ cs. start bound ∷ cs) (h ∙ ap (λ n. numbered n xs) e)

  abbrev Binders : List Name → FormulaTree → Formula → Type 0
  Binders bound f g = binders g ≡ numbered (start bound) (bound_names f)

  abbrev BindersEach : List Name → FormulaTrees → Formulas → Type 0
  BindersEach bound fs gs = binders_each gs ≡ numbered (start bound) (names_bound_in fs)

  mutual
    bind : (enclosing : List Binder) (bound : List Name) (f : FormulaTree) → Gives (Binders bound f) (formula text free enclosing bound f)
    bind enclosing bound tree.True = refl
    bind enclosing bound tree.False = refl
    bind enclosing bound (tree.Atom t p r u) =
        gives_equal (Binders bound (tree.Atom t p r u)) (value (variable text free enclosing) t) _ (λ a ea.
        gives_equal (Binders bound (tree.Atom t p r u)) (value (variable text free enclosing) u) _ (λ b eb.
        gives_equal (Binders bound (tree.Atom t p r u)) (subtracted p a b) _ (λ d ed. refl)))
    bind enclosing bound (tree.And fs) = gives_next (BindersEach bound fs) (Binders bound (tree.And fs)) (formulas text free enclosing bound fs) _ (bind_each enclosing bound fs) (λ gs k. k)
    bind enclosing bound (tree.Or fs) = gives_next (BindersEach bound fs) (Binders bound (tree.Or fs)) (formulas text free enclosing bound fs) _ (bind_each enclosing bound fs) (λ gs k. k)
    bind enclosing bound (tree.Not f) = gives_next (Binders bound f) (Binders bound (tree.Not f)) (formula text free enclosing bound f) _ (bind enclosing bound f) (λ g k. k)
    bind enclosing bound (tree.Implies f g) =
        gives_next (Binders bound f) (Binders bound (tree.Implies f g)) (formula text free enclosing bound f) _ (bind enclosing bound f) (λ a k.
        gives_next (Binders (bound ++ bound_names f) g) (Binders bound (tree.Implies f g)) (formula text free enclosing (bound ++ bound_names f) g) _ (bind enclosing (bound ++ bound_names f) g) (λ b l.
        both_numbered bound (bound_names f) (bound_names g) (binders a) (binders b) k l))
    bind enclosing bound (tree.Iff f g) =
        gives_next (Binders bound f) (Binders bound (tree.Iff f g)) (formula text free enclosing bound f) _ (bind enclosing bound f) (λ a k.
        gives_next (Binders (bound ++ bound_names f) g) (Binders bound (tree.Iff f g)) (formula text free enclosing (bound ++ bound_names f) g) _ (bind enclosing (bound ++ bound_names f) g) (λ b l.
        both_numbered bound (bound_names f) (bound_names g) (binders a) (binders b) k l))
    bind enclosing bound (tree.Ex y f) =
        gives_next (Binders (bound ++ y ∷ []) f) (Binders bound (tree.Ex y f)) (formula text free (enclosing ++ binder free bound y ∷ []) (bound ++ y ∷ []) f) _
        (bind (enclosing ++ binder free bound y ∷ []) (bound ++ y ∷ []) f) (λ g k. inside_numbered bound y (bound_names f) (binders g) k)
    bind enclosing bound (tree.All y f) =
        gives_next (Binders (bound ++ y ∷ []) f) (Binders bound (tree.All y f)) (formula text free (enclosing ++ binder free bound y ∷ []) (bound ++ y ∷ []) f) _
        (bind (enclosing ++ binder free bound y ∷ []) (bound ++ y ∷ []) f) (λ g k. inside_numbered bound y (bound_names f) (binders g) k)

    bind_each : (enclosing : List Binder) (bound : List Name) (fs : FormulaTrees) → Gives (BindersEach bound fs) (formulas text free enclosing bound fs)
    bind_each enclosing bound tree.no_more = refl
    bind_each enclosing bound (tree.more f fs) =
        gives_next (Binders bound f) (BindersEach bound (tree.more f fs)) (formula text free enclosing bound f) _ (bind enclosing bound f) (λ a k.
        gives_next (BindersEach (bound ++ bound_names f) fs) (BindersEach bound (tree.more f fs)) (formulas text free enclosing (bound ++ bound_names f) fs) _ (bind_each enclosing (bound ++ bound_names f) fs) (λ b l.
        both_numbered bound (bound_names f) (names_bound_in fs) (binders a) (binders_each b) k l))

  -- ---- what follows of numbers in a row

  abbrev pub Among : List ℕ → ℕ → Type 0
  Among [] x = ⊥
  Among (y ∷ ys) x = (x ≡ y) ⊎ Among ys x

  pub among_contained : (ys : List ℕ) (x : ℕ) → Contains ys x → Among ys x
  among_contained [] x (k, h, e) = absurd (omega arith)
  among_contained (y ∷ ys) x (zero, h, e) = inl (sym e)
  among_contained (y ∷ ys) x (suc k, h, e) = inr (among_contained ys x (k, omega arith, e))

  among_numbered : (n : ℕ) (xs : List Name) (x : ℕ) → Among (numbered n xs) x → (n ≤ x) × (x < n + length xs)
  among_numbered n [] x o = absurd o
  among_numbered n (y ∷ ys) x (inl e) = (omega arith, omega arith)
  among_numbered n (y ∷ ys) x (inr o) = let h = among_numbered (suc n) ys x o in (omega (arith, h.0), omega (arith, h.1))

  apart : (m n : ℕ) → m < n → nat_eq m n ≡ false
  apart m n h = grind (arith, nat_tests)

  all_apart : (m n : ℕ) (xs : List Name) → m < n → AllByRecursion (λ y. nat_eq m y ≡ false) (numbered n xs)
  all_apart m n [] h = tt
  all_apart m n (x ∷ xs) h = (apart m n h, all_apart m (suc n) xs (omega arith))

  distinct : (n : ℕ) (xs : List Name) → IsDistinct nat_eq (numbered n xs)
  unfolding IsDistinct
  distinct n [] = tt
  distinct n (x ∷ xs) = (all_apart n (suc n) xs (omega arith), distinct (suc n) xs)

  among_left : (xs ys : List ℕ) (x : ℕ) → Among xs x → Among (xs ++ ys) x
  among_left [] ys x o = absurd o
  among_left (a ∷ xs) ys x (inl e) = inl e
  among_left (a ∷ xs) ys x (inr o) = inr (among_left xs ys x o)

  among_right : (xs ys : List ℕ) (x : ℕ) → Among ys x → Among (xs ++ ys) x
  among_right [] ys x o = o
  among_right (a ∷ xs) ys x o = inr (among_right xs ys x o)

  in_pair : (x : ℕ) (F G : Type 0) (ks bs : List ℕ) → (F ⊎ Among ks x) ⊎ (G ⊎ Among bs x) → (F ⊎ G) ⊎ Among (ks ++ bs) x
  in_pair x F G ks bs (inl (inl f)) = inl (inl f)
  in_pair x F G ks bs (inl (inr o)) = inr (among_left ks bs x o)
  in_pair x F G ks bs (inr (inl g)) = inl (inr g)
  in_pair x F G ks bs (inr (inr o)) = inr (among_right ks bs x o)

  under_binder : (x y : ℕ) (F : Type 0) (ks : List ℕ) → F ⊎ Among ks x → ((x ≢ y) × F) ⊎ Among (y ∷ ks) x
  under_binder x y F ks (inl f) = elim (cases_eq x y) [ inl e ↦ inr (inl e) | inr n ↦ inl (n, f) ]
  under_binder x y F ks (inr o) = inr (inr o)

  -- a variable that occurs is free or bound
  mutual
    free_or_bound : (x : ℕ) (g : Formula) → Occurs x g → IsFree x g ⊎ Among (binders g) x
    free_or_bound x form.True o = absurd o
    free_or_bound x form.False o = absurd o
    free_or_bound x (form.Atom a) o = inl o
    free_or_bound x (form.And gs) o = free_or_bound_each x gs o
    free_or_bound x (form.Or gs) o = free_or_bound_each x gs o
    free_or_bound x (form.Not g) o = free_or_bound x g o
    free_or_bound x (form.Implies g h) (inl o) = in_pair x (IsFree x g) (IsFree x h) (binders g) (binders h) (inl (free_or_bound x g o))
    free_or_bound x (form.Implies g h) (inr o) = in_pair x (IsFree x g) (IsFree x h) (binders g) (binders h) (inr (free_or_bound x h o))
    free_or_bound x (form.Iff g h) (inl o) = in_pair x (IsFree x g) (IsFree x h) (binders g) (binders h) (inl (free_or_bound x g o))
    free_or_bound x (form.Iff g h) (inr o) = in_pair x (IsFree x g) (IsFree x h) (binders g) (binders h) (inr (free_or_bound x h o))
    free_or_bound x (form.Ex y g) (inl e) = inr (inl e)
    free_or_bound x (form.Ex y g) (inr o) = under_binder x y (IsFree x g) (binders g) (free_or_bound x g o)
    free_or_bound x (form.All y g) (inl e) = inr (inl e)
    free_or_bound x (form.All y g) (inr o) = under_binder x y (IsFree x g) (binders g) (free_or_bound x g o)

    free_or_bound_each : (x : ℕ) (gs : Formulas) → OccursInOne x gs → IsFreeInSome x gs ⊎ Among (binders_each gs) x
    free_or_bound_each x form.no_more o = absurd o
    free_or_bound_each x (form.more g gs) (inl o) = in_pair x (IsFree x g) (IsFreeInSome x gs) (binders g) (binders_each gs) (inl (free_or_bound x g o))
    free_or_bound_each x (form.more g gs) (inr o) = in_pair x (IsFree x g) (IsFreeInSome x gs) (binders g) (binders_each gs) (inr (free_or_bound_each x gs o))

  pub all_listed : (names : List Name) → ((w : Letters) → Contains (map (letters text) names) w → Contains free w) → AllByRecursion Listed names
  all_listed [] h = tt
  all_listed (x ∷ xs) h = (h (letters text x) (first (letters text x) (map (letters text) xs)), all_listed xs (λ w c. h w (later (letters text x) (map (letters text) xs) w c)))

  at_front : (xs ys : List Letters) (k : ℕ) → k < length xs → slice_get (xs ++ ys) k ≡ slice_get xs k
  at_front [] ys k h = absurd (omega arith)
  at_front (x ∷ xs) ys zero h = refl
  at_front (x ∷ xs) ys (suc k) h = at_front xs ys k (omega arith)

  one_place : (more : List Letters) (x y : ℕ) → IsStrictlySortedBy letters_cmp free → x < length free → y < length free → slice_get (free ++ more) x ≡ slice_get (free ++ more) y → x < y → ⊥
  one_place more x y s h k e l =
      let a : Some (get_or free x []) ≡ Some (get_or free y []) =
      sym (slice_get-get_or free x [] h) ∙ sym (at_front free more x h) ∙ e ∙ at_front free more y k ∙ slice_get-get_or free y [] k in
      let b : get_or free x [] ≡ get_or free y [] = cc in
      irreflexive (get_or free y []) (subst (λ w. letters_cmp w (get_or free y []) ≡ Less) b (Less-from_sorted letters_cmp free x y [] s l k))

-- what is read is well numbered
module _ (text : List ℕ) (of : FormulaTree) (f : Formula) (names : List Letters) (i : IsReadFrom text of f names) where
  free_below : (x : ℕ) → IsFree x f → x < length i.free
  free_below x o =
      elim (given (Frees text i.free []) (formula text i.free [] [] of) f i.is
      (frees text i.free [] [] of (all_listed text i.free (free_names text [] of) (λ w c. (i.letters_of.each w).1 c))) x o) [ inl h ↦ h | inr n ↦ absurd n ]

  pub the_binders : binders f ≡ numbered text i.free (length i.free + 0) (bound_names of)
  the_binders = given (Binders text i.free [] of) (formula text i.free [] [] of) f i.is (bind text i.free [] [] of)

  pub bound_between : (x : ℕ) → Among text i.free (binders f) x → (length i.free ≤ x) × (x < length names)
  bound_between x o =
      let h = among_numbered text i.free (length i.free + 0) (bound_names of) x (subst (λ bs. Among text i.free bs x) the_binders o) in
      (omega (arith, h.0), omega (arith, h.1, ap length i.named, length-append i.free (map (letters text) (bound_names of)), length-mapped (letters text) (bound_names of)))

  well_numbered : IsWellNumbered f names
  well_numbered = record {
    below = λ x o. elim (free_or_bound text i.free x f o) [
      | inl h ↦ omega (arith, free_below x h, ap length i.named, length-append i.free (map (letters text) (bound_names of)))
      | inr b ↦ (bound_between x b).1
    ];
    own = subst (λ bs. IsDistinct nat_eq bs) (sym the_binders) (distinct text i.free (length i.free + 0) (bound_names of));
    bound = λ x c o. (let h = bound_between x (among_contained text i.free (binders f) x c) in absurd (omega (arith, h.0, free_below x o)));
    different = λ x y o p e. (
        let q = ap (λ l. slice_get l x) (sym i.named) ∙ e ∙ ap (λ l. slice_get l y) i.named in
        let more = map (letters text) (bound_names of) in
        elim (cases_order x y) [
          | inl s ↦ s
          | inr l ↦ elim l [
            | inl m ↦ absurd (one_place text i.free more x y i.letters_of.sorted (free_below x o) (free_below y p) q m)
            | inr m ↦ absurd (one_place text i.free more y x i.letters_of.sorted (free_below y p) (free_below x o) (sym q) m)
          ]
        ]
        );
  }

pub answers_well : (text : List ℕ) (of : FormulaTree) (r : Result Input ReadFault) → AnswersTree text of r → IfOk r (λ input. IsWellNumbered (code.tree input.form) input.names)
answers_well text of (Ok input) a = well_numbered text of (code.tree input.form) input.names a
answers_well text of (Err fault) a = tt
