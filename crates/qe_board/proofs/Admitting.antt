-- Successors that become entries.
use Rattle.std.proofs.Common.{ℕ, suc, ◌+◌, ◌<◌, ◌≤◌, ◌^◌, ◌≡◌, ◌∙◌, refl, sym, ap, subst, Bool, true, false, cond, List, [], ◌∷◌, ◌++◌, length, length-append, map, take, Option, drop, drop-cons, get_or, Some, None, Fits, w32, arith, append_assoc, inl}
use Rattle.std.specs.Prelude.{Result, Ok, Err, IsErr}
use Rattle.std.proofs.lemmas.List.{append-nil, map-append}
use Rattle.std.proofs.Math.ListN.{drop_of_length-le}
use Rattle.std.proofs.Math.Seq.{take-append_seam}
use Rattle.qe_piece.specs.Meaning.{Child, child_of}
use Rattle.qe_piece.specs.declared.maker.Next.{Next}
use Rattle.qe_board.specs.State.{Key, Link, Condition, leaf, Entry, State, keys, count}
use Rattle.qe_board.specs.Machine.{among, index_of, new_keys, child_keys, links}
use Rattle.qe_board.specs.Shown.{IsFound}
use Rattle.qe_board.specs.declared.entries.Link.{Link as CodeLink}
use Rattle.qe_board.specs.Admission.{links_of, with_leaves, first_of, entered, SomeEntered, IsNumbered, IsEntered}
use Rattle.qe_board.proofs.Conditions.{length_append, count_append}
use Rattle.qe_board.proofs.Counting.{keys_append, length_keys}
use Rattle.qe_board.proofs.Keys.{all_known, among_tells}
use Rattle.qe_board.proofs.Listed.{index_inside, index_stays, index_next}

-- ---- keys that come one by one

-- the new ones of some are the first, if it is new, and those of the others beside it
new_one : (known : List Key) (k : Key) (ks : List Key) → new_keys known (k ∷ ks) ≡ new_keys known (k ∷ []) ++ new_keys (known ++ new_keys known (k ∷ [])) ks
new_one known k ks = by_test (among k known)
  where
    by_test : (b : Bool) → cond b (new_keys known ks) (k ∷ new_keys (known ++ k ∷ []) ks) ≡ cond b [] (k ∷ []) ++ new_keys (known ++ cond b [] (k ∷ [])) ks
    by_test true = ap (λ js. new_keys js ks) (sym (append-nil known))
    by_test false = refl

-- with the new ones of this one too it is there
known_now : (known : List Key) (k : Key) → among k (known ++ new_keys known (k ∷ [])) ≡ true
known_now known k = (among_tells k (known ++ new_keys known (k ∷ []))).1 (all_known known (k ∷ []) k (inl refl))

keys_of_leaves : (F : Type 0) (ks : List Key) → map (λ (e : Entry F). e.key) (map (λ k. record { key = k; condition = leaf }) ks) ≡ ks
keys_of_leaves F [] = refl
keys_of_leaves F (k ∷ ks) = ap (λ js. k ∷ js) (keys_of_leaves F ks)

module _ {F : Type 0} where
  -- ---- the number of one piece

  pub number_fits : (s : State F) (k : Key) (n limit : ℕ) → IsFound (keys s) k (Some n) → length s.entries ≤ limit → limit < 2 ^ 32 → Fits w32 n
  number_fits s k n limit found few fits =
      let less = index_inside k (keys s) found.0 in let long = length_keys s.entries in let is = found.1 in omega (arith, less, long, is, few, fits)

  pub numbered_next : (s t : State F) (j k : Key) (n limit : ℕ) → j ≡ k → among k (keys s) ≡ false → n ≡ length s.entries → length s.entries ≤ limit → (n ≡ limit → ⊥)
      → t ≡ record { entries = s.entries ++ record { key = j; condition = leaf } ∷ []; stop = s.stop }
      → IsNumbered limit k s t {E = Unit {0}} (Ok (Some n))
  numbered_next s t j k n limit same new here few room is = subst (λ u. IsNumbered limit k s u {E = Unit {0}} (Ok (Some n))) (sym (is ∙ ap (λ i. record { entries = s.entries ++ record { key = i; condition = leaf } ∷ []; stop = s.stop }) same)) (
    here ∙ (sym (length_keys s.entries) ∙ (sym (index_next k (keys s) [] new) ∙ ap (index_of k) (sym (keys_append s.entries _)))),
    (
      ap (λ b. with_leaves (cond b [] (k ∷ [])) s) (sym new),
      (let long = length_append s.entries (record { key = k; condition = leaf } ∷ []) in omega (arith, long, here, few, room)),
    ),
  )

  -- ---- all of them, one by one

  pub keys_leaves : (ks : List Key) (s : State F) → keys (with_leaves ks s) ≡ keys s ++ ks
  keys_leaves ks s = keys_append s.entries _ ∙ ap (λ js. keys s ++ js) (keys_of_leaves F ks)

  leaves_more : (ks more : List Key) (s : State F) → with_leaves more (with_leaves ks s) ≡ with_leaves (ks ++ more) s
  leaves_more ks more s =
      ap (λ es. record { entries = es; stop = s.stop }) (append_assoc s.entries _ _ ∙ ap (λ es. s.entries ++ es) (sym (map-append (λ k. record { key = k; condition = leaf }) ks more)))

  abbrev pub grown : List Child → State F → List Key
  grown cs s = keys s ++ new_keys (keys s) (child_keys cs)

  -- some of the successors are entries: which became ones, and what is left to do
  pub record Entering (limit : ℕ) (s now : State F) (all rest : List Child) (ls : List Link) : Type 0 where
    pub extra : List Key
    pub here : now ≡ with_leaves extra s
    pub few : length now.entries ≤ limit
    pub goes_on : extra ++ new_keys (keys s ++ extra) (child_keys rest) ≡ new_keys (keys s) (child_keys all)
    pub leads : ls ++ links rest (grown all s) ≡ links all (grown all s)

  pub entering_none : (limit : ℕ) (s : State F) (all : List Child) → length s.entries ≤ limit → Entering limit s s all all []
  entering_none limit s all few = record {
    extra = [];
    here = ap (λ es. record { entries = es; stop = s.stop }) (sym (append-nil s.entries));
    few = few;
    goes_on = ap (λ ks. new_keys ks (child_keys all)) (append-nil (keys s));
    leads = refl;
  }

  module _ (limit : ℕ) (s now : State F) (all : List Child) (c : Child) (rest : List Child) (ls : List Link) (so_far : Entering limit s now all (c ∷ rest) ls) where
    abbrev more : List Key
    more = new_keys (keys now) (c.key ∷ [])

    keys_so_far : keys now ≡ keys s ++ so_far.extra
    keys_so_far = ap keys so_far.here ∙ keys_leaves so_far.extra s

    goes_on_next : (so_far.extra ++ more) ++ new_keys (keys s ++ (so_far.extra ++ more)) (child_keys rest) ≡ new_keys (keys s) (child_keys all)
    goes_on_next =
        append_assoc so_far.extra more _
        ∙ (ap (λ ks. so_far.extra ++ (more ++ new_keys ks (child_keys rest))) (sym (append_assoc (keys s) so_far.extra more) ∙ ap (λ ks. ks ++ more) (sym keys_so_far))
        ∙ (ap (λ ks. so_far.extra ++ ks) (sym (new_one (keys now) c.key (child_keys rest)) ∙ ap (λ ks. new_keys ks (c.key ∷ child_keys rest)) keys_so_far)
        ∙ so_far.goes_on))

    -- the keys of all come behind those so far
    grown_is : grown all s ≡ (keys now ++ more) ++ new_keys (keys s ++ (so_far.extra ++ more)) (child_keys rest)
    grown_is =
        ap (λ ks. keys s ++ ks) (sym goes_on_next)
        ∙ (sym (append_assoc (keys s) (so_far.extra ++ more) _)
        ∙ ap (λ ks. ks ++ new_keys (keys s ++ (so_far.extra ++ more)) (child_keys rest)) (sym (append_assoc (keys s) so_far.extra more) ∙ ap (λ ks. ks ++ more) (sym keys_so_far)))

    pub entering_next : (after : State F) (n : ℕ) → IsNumbered limit c.key now after {E = Unit {0}} (Ok (Some n)) → Entering limit s after all rest (ls ++ record { point = c.point; entry = n } ∷ [])
    entering_next after n numbered = record {
      extra = so_far.extra ++ more;
      here = numbered.1.0 ∙ (ap (with_leaves more) so_far.here ∙ leaves_more so_far.extra more s);
      few = numbered.1.1;
      goes_on = goes_on_next;
      leads = append_assoc ls _ _ ∙ (ap (λ m. ls ++ (record { point = c.point; entry = m } ∷ links rest (grown all s))) number_is ∙ so_far.leads);
    }
      where
        number_is : n ≡ index_of c.key (grown all s)
        number_is =
            numbered.0 ∙ (ap (λ t. index_of c.key (keys t)) numbered.1.0 ∙ (ap (index_of c.key) (keys_leaves more now)
            ∙ (sym (index_stays c.key (keys now ++ more) _ (known_now (keys now) c.key)) ∙ ap (index_of c.key) (sym grown_is))))

    pub entering_full : (after : State F) → IsNumbered limit c.key now after {E = Unit {0}} (Ok None) → (suc limit ≤ length (grown all s)) × SomeEntered s after
    entering_full after full = (
      (
          let long = ap length grown_is in let one : more ≡ c.key ∷ [] = ap (λ b. cond b [] (c.key ∷ [])) full.0 in
          let whole = length-append (keys now ++ more) (new_keys (keys s ++ (so_far.extra ++ more)) (child_keys rest)) in
          let parts = length-append (keys now) more in let last = ap length one in let same = length_keys now.entries in let met = full.1.0 in
          omega (arith, long, whole, parts, last, same, met)
          ),
      (so_far.extra, full.1.1 ∙ so_far.here),
    )

  pub entering_all : (limit : ℕ) (s now : State F) (all : List Child) (ls : List Link) → Entering limit s now all [] ls
      → (length now.entries ≤ limit) × ((now ≡ entered all s) × (ls ≡ links all (keys now)))
  entering_all limit s now all ls so_far =
      let extra_is : so_far.extra ≡ new_keys (keys s) (child_keys all) = sym (append-nil so_far.extra) ∙ so_far.goes_on in
      let is : now ≡ entered all s = so_far.here ∙ ap (λ ks. with_leaves ks s) extra_is in
      (so_far.few, (is, sym (append-nil ls) ∙ (so_far.leads ∙ ap (links all) (sym (ap keys is ∙ keys_leaves _ s)))))

-- ---- the same over the lists of the code

rest_is : {A : Type 0} (xs : List A) (i : ℕ) (x : A) → x ≡ get_or xs i x → i < length xs → drop i xs ≡ x ∷ drop (i + 1) xs
rest_is xs i x is less = drop-cons xs i x less ∙ (λ j. sym is j ∷ drop (next j) xs)
  where
    next : suc i ≡ i + 1
    next = omega arith

module _ {N F : Type 0} (key : N → Key) (limit : ℕ) (s : State F) (xs : List (Next N)) where
  -- the successors before this one are entries
  abbrev pub EnteringAt : State F → ℕ → List CodeLink → Type 0
  EnteringAt now i ls = Entering limit s now (map (child_of key) xs) (map (child_of key) (drop i xs)) (links_of ls)

  pub entering_turn : (now : State F) (i : ℕ) (x : Next N) (ls ms : List CodeLink) → x ≡ get_or xs i x → i < length xs → EnteringAt now i ls
      → (after : State F) (n : ℕ) → IsNumbered limit (key x.piece) now after {E = Unit {0}} (Ok (Some n)) → ms ≡ ls ++ record { point = x.point; entry = n } ∷ [] → EnteringAt after (i + 1) ms
  entering_turn now i x ls ms is less so_far after n numbered more = subst (λ l. Entering limit s after (map (child_of key) xs) (map (child_of key) (drop (i + 1) xs)) l)
      (sym (ap links_of more ∙ map-append _ ls _))
      (entering_next limit s now (map (child_of key) xs) (child_of key x) (map (child_of key) (drop (i + 1) xs)) (links_of ls) (
      subst (λ ys. Entering limit s now (map (child_of key) xs) (map (child_of key) ys) (links_of ls)) (rest_is xs i x is less) so_far) after n numbered)

  pub full_at : (now : State F) (i : ℕ) (x : Next N) (ls : List CodeLink) → x ≡ get_or xs i x → i < length xs → EnteringAt now i ls
      → (after : State F) → IsNumbered limit (key x.piece) now after {E = Unit {0}} (Ok None) → (suc limit ≤ length (grown (map (child_of key) xs) s)) × SomeEntered s after
  full_at now i x ls is less so_far after full =
      entering_full limit s now (map (child_of key) xs) (child_of key x) (map (child_of key) (drop (i + 1) xs)) (links_of ls)
      (subst (λ ys. Entering limit s now (map (child_of key) xs) (map (child_of key) ys) (links_of ls)) (rest_is xs i x is less) so_far) after full

  pub all_at : (now : State F) (i : ℕ) (ls : List CodeLink) → length xs ≤ i → EnteringAt now i ls
      → (length now.entries ≤ limit)
      × ((now ≡ entered (map (child_of key) xs) s) × (links_of ls ≡ links (map (child_of key) xs) (keys now)))
  all_at now i ls end so_far =
      entering_all limit s now (map (child_of key) xs) (links_of ls) (subst (λ ys. Entering limit s now (map (child_of key) xs) (map (child_of key) ys) (links_of ls)) (drop_of_length-le xs end) so_far)

-- ---- what was entered goes again

module _ {F : Type 0} where
  count_leaves : (p : Condition F → Bool) → p leaf ≡ false → (ks : List Key) → count p (map (λ k. record { key = k; condition = leaf }) ks) ≡ 0
  count_leaves p fails [] = refl
  count_leaves p fails (k ∷ ks) = ap (λ b. cond b 1 0 + count p (map (λ j. record { key = j; condition = leaf }) ks)) fails ∙ (let rest = count_leaves p fails ks in omega (arith, rest))

  -- the first entries, as many as there were, are those that there were
  pub first_are : (s now : State F) (n : ℕ) → SomeEntered s now → n ≡ length s.entries → first_of n now ≡ s
  first_are s now n some is = ap (first_of n) some.1 ∙ (ap (λ m. first_of m (with_leaves some.0 s)) is ∙ ap (λ es. record { entries = es; stop = s.stop }) (take-append_seam s.entries _))

  -- the others do not pass a test that no leaf passes
  pub counted_first : (p : Condition F → Bool) → p leaf ≡ false → (s now : State F) (n : ℕ) → SomeEntered s now → n ≡ length s.entries → count p (take n now.entries) ≡ count p now.entries
  counted_first p fails s now n some is =
      ap (λ t. count p t.entries) (first_are s now n some is)
      ∙ ((let none = count_leaves p fails some.0 in let all = count_append p s.entries (map (λ k. record { key = k; condition = leaf }) some.0) in omega (arith, none, all)) ∙ ap (λ t. count p t.entries) (sym some.1))

-- an error of a callee, handed on
pub starved : {F E V : Type 0} (limit : ℕ) (cs : List Child) (before after : State F) (r : Result (Option V) E) (items : V → List CodeLink) → IsErr r → SomeEntered before after
    → IsEntered limit cs before after r items
starved limit cs before after (Ok o) items fails some = absurd (let h = fails in cc)
starved limit cs before after (Err e) items fails some = some
