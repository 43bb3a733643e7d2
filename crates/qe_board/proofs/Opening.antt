-- New entries that are leaves for now, changed one by one to what they open as.
use Rattle.std.proofs.Common.{ℕ, zero, suc, ◌+◌, ◌<◌, ◌≤◌, ◌≡◌, ◌∙◌, refl, sym, ap, subst, Bool, true, false, cond, List, [], ◌∷◌, ◌++◌, length, length-append, map, take, Option, Some, slice_get, arith, append_assoc}
use Rattle.std.proofs.lemmas.Bool.Decides.{nat_tests}
use Rattle.qe_piece.specs.Meaning.{Meaning, Child, gives, child_of}
use Rattle.qe_piece.specs.declared.maker.Next.{Next}
use Rattle.qe_board.specs.declared.entries.Progress.{Progress}
use Rattle.qe_board.specs.declared.entries.Link.{Link as CodeLink}
use Rattle.qe_board.specs.Shown.{IsCopy, IsCopyAt}
use Rattle.qe_board.specs.State.{Key, Link, Condition, leaf, waiting, expanded, Entry, State, keys}
use Rattle.qe_board.specs.Machine.{among, index_of, new_keys, child_keys, links, put, opening_entry, fits, given}
use Rattle.qe_board.specs.Admission.{links_of, new_of, first_of, with_leaves, entered, with_openings, settled}
use Rattle.qe_board.proofs.Counting.{keys_append, length_keys}
use Rattle.qe_board.proofs.Listed.{index_inside, index_stays, index_next}
use Rattle.qe_board.proofs.Admitting.{keys_leaves, first_are}

module _ {F : Type 0} where
  -- ---- an entry behind others, and one before them

  put_behind : (front more : List (Entry F)) (e : Entry F) (c : Condition F) → put (length front) c (front ++ e ∷ more) ≡ front ++ record { key = e.key; condition = c } ∷ more
  put_behind [] more e c = refl
  put_behind (x ∷ front) more e c = ap (λ es. x ∷ es) (put_behind front more e c)

  get_behind : (front more : List (Entry F)) (e : Entry F) → slice_get (front ++ e ∷ more) (length front) ≡ Some e
  get_behind [] more e = refl
  get_behind (x ∷ front) more e = get_behind front more e

  pub put_before : (n : ℕ) (c : Condition F) (es more : List (Entry F)) → n < length es → put n c (es ++ more) ≡ put n c es ++ more
  put_before n c [] more less = absurd (omega (arith, less))
  put_before zero c (e ∷ es) more less = refl
  put_before (suc n) c (e ∷ es) more less = ap (λ xs. e ∷ xs) (put_before n c es more (omega (arith, less)))

  -- ---- the new entries, one by one

  -- those in front are as they are to be, and the others follow
  pub record Settling (is_leaf : Key → Bool) (final now : State F) (upcoming : ℕ) (rest : List Child) (ls : List Link) : Type 0 where
    pub front : State F
    pub here : now ≡ entered rest front
    pub becomes : final ≡ settled is_leaf rest front
    pub next : upcoming ≡ length front.entries
    pub leads : ls ≡ links rest (keys front ++ new_of rest front)

  pub settling_none : (is_leaf : Key → Bool) (s : State F) (first : ℕ) (cs : List Child) (ls : List Link) → first ≤ length s.entries → s ≡ entered cs (first_of first s) → ls ≡ links cs (keys s)
      → Settling is_leaf (settled is_leaf cs (first_of first s)) s first cs ls
  settling_none is_leaf s first cs ls within enters leads = record {
    front = first_of first s;
    here = enters;
    becomes = refl;
    next = sym (length_take first s.entries within);
    leads = leads ∙ ap (links cs) (ap keys enters ∙ keys_leaves (new_of cs (first_of first s)) (first_of first s));
  }
    where
      length_take : (n : ℕ) (es : List (Entry F)) → n ≤ length es → length (take n es) ≡ n
      length_take zero es within = refl
      length_take (suc n) [] within = absurd (omega (arith, within))
      length_take (suc n) (e ∷ es) within = ap suc (length_take n es (omega (arith, within)))

  pub settling_all : (is_leaf : Key → Bool) (final now : State F) (upcoming : ℕ) (ls : List Link) → Settling is_leaf final now upcoming [] ls → now ≡ final
  settling_all is_leaf final now upcoming ls so_far = so_far.here ∙ sym so_far.becomes

  module _ (is_leaf : Key → Bool) (final now : State F) (upcoming : ℕ) (c : Child) (rest : List Child) (l : Link) (ls : List Link) (so_far : Settling is_leaf final now upcoming (c ∷ rest) (l ∷ ls)) where
    abbrev known : List Key
    known = keys so_far.front

    -- the new ones from here on, where this one is an entry, and where it is new
    abbrev new_from : Bool → List Key
    new_from b = cond b (new_of rest so_far.front) (c.key ∷ new_keys (known ++ c.key ∷ []) (child_keys rest))

    all_are : (b : Bool) → among c.key known ≡ b → known ++ new_of (c ∷ rest) so_far.front ≡ known ++ new_from b
    all_are b is = ap (λ a. known ++ new_from a) is

    number_is : (b : Bool) → among c.key known ≡ b → l.entry ≡ index_of c.key (known ++ new_from b)
    number_is b is = (let h = so_far.leads in cc) ∙ ap (index_of c.key) (all_are b is)

    others_are : (b : Bool) → among c.key known ≡ b → ls ≡ links rest (known ++ new_from b)
    others_are b is = (let h = so_far.leads in cc) ∙ ap (links rest) (all_are b is)

    -- an entry already: its number is less
    less_where_known : among c.key known ≡ true → l.entry < upcoming
    less_where_known is =
        let number = number_is true is in let stays = index_stays c.key known (new_from true) is in let less = index_inside c.key known is in
        let long = length_keys so_far.front.entries in let next = so_far.next in omega (arith, number, stays, less, long, next)

    here_where_new : among c.key known ≡ false → l.entry ≡ upcoming
    here_where_new is = number_is false is ∙ (index_next c.key known _ is ∙ (length_keys so_far.front.entries ∙ sym so_far.next))

    is_new : l.entry ≡ upcoming → (b : Bool) → among c.key known ≡ b → among c.key known ≡ false
    is_new here false is = is
    is_new here true is = absurd (let less = less_where_known is in omega (arith, less, here))

    is_known : (l.entry ≡ upcoming → ⊥) → (b : Bool) → among c.key known ≡ b → among c.key known ≡ true
    is_known other true is = is
    is_known other false is = absurd (other (here_where_new is))

    now_is : (b : Bool) → among c.key known ≡ b → now ≡ with_leaves (new_from b) so_far.front
    now_is b is = so_far.here ∙ ap (λ a. with_leaves (new_from a) so_far.front) is

    final_is : (b : Bool) → among c.key known ≡ b → final ≡ with_openings is_leaf (new_from b) so_far.front
    final_is b is = so_far.becomes ∙ ap (λ a. with_openings is_leaf (new_from a) so_far.front) is

    pub settling_known : (l.entry ≡ upcoming → ⊥) → Settling is_leaf final now upcoming rest ls
    settling_known other = let is = is_known other (among c.key known) refl in
        record {
          front = so_far.front;
          here = now_is true is;
          becomes = final_is true is;
          next = so_far.next;
          leads = others_are true is;
        }

    -- ---- the entry that comes next is of this one

    pub next_within : l.entry ≡ upcoming → upcoming < length now.entries
    next_within here =
        let is = now_is false (is_new here (among c.key known) refl) in let next = so_far.next in
        subst (λ s. upcoming < length s.entries) (sym is) (let long = length-append so_far.front.entries (map {B = Entry F} (λ k. record { key = k; condition = leaf }) (new_from false)) in omega (arith, long, next))

    pub next_key : l.entry ≡ upcoming → (e : Entry F) → slice_get now.entries upcoming ≡ Some e → c.key ≡ e.key
    next_key here e stands =
        let is = now_is false (is_new here (among c.key known) refl) in
        let mine : slice_get now.entries upcoming ≡ Some (record { key = c.key; condition = leaf }) = ap (λ s. slice_get s.entries upcoming) is ∙ (ap (slice_get _) so_far.next ∙ get_behind so_far.front.entries _ _) in
        let same : ◌≡◌ {A = Option (Entry F)} (Some (record { key = c.key; condition = leaf })) (Some e) = sym mine ∙ stands in
        ap (λ x. x.key) (out same)
      where
        out : {x y : Entry F} → ◌≡◌ {A = Option (Entry F)} (Some x) (Some y) → x ≡ y
        out h = cc

    abbrev opened_front : State F
    opened_front = with_openings is_leaf (c.key ∷ []) so_far.front

    abbrev later : List Key
    later = new_keys (known ++ c.key ∷ []) (child_keys rest)

    keys_opened : keys opened_front ≡ known ++ c.key ∷ []
    keys_opened = keys_append so_far.front.entries _

    later_is : later ≡ new_of rest opened_front
    later_is = ap (λ ks. new_keys ks (child_keys rest)) (sym keys_opened)

    abbrev with_entries : List (Entry F) → State F
    with_entries es = record { entries = es; stop = so_far.front.stop }

    pub settling_next : l.entry ≡ upcoming → (after : State F) (opens : Condition F) → after ≡ record { entries = put upcoming opens now.entries; stop = now.stop } → opens ≡ cond (is_leaf c.key) leaf waiting
        → Settling is_leaf final after (upcoming + 1) rest ls
    settling_next here after opens changed is_opening = let is = is_new here (among c.key known) refl in
        record {
          front = opened_front;
          here = changed
              ∙ (ap (λ (s : State F). record { entries = put upcoming opens s.entries; stop = s.stop }) (now_is false is)
              ∙ (ap (λ n. with_entries (put n opens (so_far.front.entries ++ map (λ k. record { key = k; condition = leaf }) (c.key ∷ later)))) so_far.next
              ∙ (ap with_entries (put_behind so_far.front.entries _ _ opens)
              ∙ (ap (λ o. with_entries (so_far.front.entries ++ record { key = c.key; condition = o } ∷ map (λ k. record { key = k; condition = leaf }) later)) is_opening
              ∙ (ap with_entries (sym (append_assoc so_far.front.entries _ _))
              ∙ ap (λ ks. with_leaves ks opened_front) later_is)))));
          becomes = final_is false is ∙ (ap with_entries (sym (append_assoc so_far.front.entries _ _)) ∙ ap (λ ks. with_openings is_leaf ks opened_front) later_is);
          next = let long = length-append so_far.front.entries (opening_entry {F = F} is_leaf c.key ∷ []) in let next = so_far.next in omega (arith, long, next);
          leads = others_are false is ∙ ap (links rest) (sym (append_assoc known (c.key ∷ []) later) ∙ (λ i. sym keys_opened i ++ later_is i));
        }

-- ---- the same over the lists of the code

-- these are left to do
abbrev pub SettlingAt : {N F : Type 0} → (N → Key) → (Key → Bool) → (final now : State F) → (upcoming : ℕ) → List (Next N) → List CodeLink → Type 0
SettlingAt key is_leaf final now upcoming xs ls = Settling is_leaf final now upcoming (map (child_of key) xs) (links_of ls)

module _ {N F : Type 0} (key : N → Key) (is_leaf : Key → Bool) (final now : State F) (upcoming : ℕ) where
  pub settled_pieces : (xs : List (Next N)) (ls : List CodeLink) → SettlingAt key is_leaf final now upcoming xs ls → length xs ≡ 0 → now ≡ final
  settled_pieces [] ls so_far none = settling_all is_leaf final now upcoming (links_of ls) so_far
  settled_pieces (x ∷ xs) ls so_far none = absurd (omega (arith, none))

  pub settled_links : (xs : List (Next N)) (ls : List CodeLink) → SettlingAt key is_leaf final now upcoming xs ls → length ls ≡ 0 → now ≡ final
  settled_links [] ls so_far none = settling_all is_leaf final now upcoming (links_of ls) so_far
  settled_links (x ∷ xs) [] so_far none = absurd (let h = so_far.leads in cc)
  settled_links (x ∷ xs) (l ∷ ls) so_far none = absurd (omega (arith, none))

  module _ (xs : List (Next N)) (ls : List CodeLink) (x : Next N) (ys : List (Next N)) (l : CodeLink) (ms : List CodeLink) (so_far : SettlingAt key is_leaf final now upcoming xs ls) (pieces : xs ≡ x ∷ ys) (leads : ls ≡ l ∷ ms) where
    one_ahead : SettlingAt key is_leaf final now upcoming (x ∷ ys) (l ∷ ms)
    one_ahead = subst (λ zs. SettlingAt key is_leaf final now upcoming zs (l ∷ ms)) pieces (subst (SettlingAt key is_leaf final now upcoming xs) leads so_far)

    pub known_at : (l.entry ≡ upcoming → ⊥) → SettlingAt key is_leaf final now upcoming ys ms
    known_at = settling_known is_leaf final now upcoming (child_of key x) (map (child_of key) ys) (record { point = l.point; entry = l.entry }) (links_of ms) one_ahead

    pub within_at : l.entry ≡ upcoming → upcoming < length now.entries
    within_at = next_within is_leaf final now upcoming (child_of key x) (map (child_of key) ys) (record { point = l.point; entry = l.entry }) (links_of ms) one_ahead

    pub copy_at : l.entry ≡ upcoming → (p : Progress N F) → IsCopy key (key x.piece) p → IsCopyAt key upcoming now.entries p
    copy_at here p copy e stands =
        subst (λ k. IsCopy key k p) (next_key is_leaf final now upcoming (child_of key x) (map (child_of key) ys) (record { point = l.point; entry = l.entry }) (links_of ms) one_ahead here e stands) copy

    pub opened_at : l.entry ≡ upcoming → (after : State F) (opens : Condition F) → after ≡ record { entries = put upcoming opens now.entries; stop = now.stop } → opens ≡ cond (is_leaf (key x.piece)) leaf waiting
        → SettlingAt key is_leaf final after (upcoming + 1) ys ms
    opened_at = settling_next is_leaf final now upcoming (child_of key x) (map (child_of key) ys) (record { point = l.point; entry = l.entry }) (links_of ms) one_ahead

pub one_less : {A : Type 0} (xs : List A) (n : ℕ) (x : A) (ys : List A) (m : ℕ) → n ≡ length xs → xs ≡ x ∷ ys → m + 1 ≡ n → m ≡ length ys
one_less xs n x ys m whole is less = let long : length xs ≡ suc (length ys) = ap length is in omega (arith, whole, long, less)

-- ---- both steps together, and the entry that they come from

module _ {F : Type 0} (meaning : Key → Meaning F) (is_leaf truth : Key → Bool) (limit : ℕ) (s : State F) where
  pub admitted : (cs list : List Child) → list ≡ cs → (n first : ℕ) → n < length s.entries → first ≡ length s.entries
      → (full : State F) (ls : List Link) → (length full.entries ≤ limit) × ((full ≡ entered list s) × (ls ≡ links list (keys full)))
      → (opened : State F) → opened ≡ settled is_leaf cs (first_of first full)
      → (after : State F) → after ≡ record { entries = put n (expanded ls) opened.entries; stop = opened.stop }
      → (fits meaning is_leaf truth limit cs s ≡ true) × (after ≡ given meaning is_leaf truth limit n (Some (gives cs)) s)
  admitted cs list same n first inside first_is full ls enters opened opens after changed = (
    (let long = ap length keys_are in let number = length_keys full.entries in let few = enters.0 in grind (arith, nat_tests)),
    changed
        ∙ (ap (λ t. record { entries = put n (expanded ls) t.entries; stop = t.stop }) opened_is
        ∙ (ap (λ es. record { entries = es; stop = s.stop }) (put_before n (expanded ls) s.entries _ inside)
        ∙ ap (λ xs. record { entries = put n (expanded xs) s.entries ++ map (opening_entry is_leaf) (new_of cs s); stop = s.stop }) links_are)),
  )
    where
      enters_is : full ≡ entered cs s
      enters_is = enters.1.0 ∙ ap (λ xs. entered xs s) same

      keys_are : keys full ≡ keys s ++ new_of cs s
      keys_are = ap keys enters_is ∙ keys_leaves (new_of cs s) s

      links_are : ls ≡ links cs (keys s ++ new_of cs s)
      links_are = enters.1.1 ∙ (λ i. links (same i) (keys_are i))

      opened_is : opened ≡ settled is_leaf cs s
      opened_is = opens ∙ ap (settled is_leaf cs) (first_are s full first (new_of cs s, enters_is) first_is)
