-- Parts with operators between them, read one after the other: one theory for every such chain.
use Rattle.std.proofs.Common.{◌≡◌, ℕ, Bool, true, false, List, [], ◌∷◌, ◌++◌, None, refl, sym, ap, subst, ◌∙◌, append_assoc}
use Rattle.std.specs.Prelude.{Err, Ok, Result}
use Rattle.qe_syntax.specs.declared.fault.TextFault.{TextFault}
use Rattle.qe_halt.specs.declared.halt.Halt.{Halt}
use Rattle.qe_halt.specs.declared.halt.Halt.TheVariants as halt
use Rattle.qe_syntax.specs.Grammar.{Occurrence, tokens_of}
use Rattle.qe_syntax.specs.Faults.{Tok, passed_limit, counted}
use Rattle.qe_syntax.specs.Reading.{Stops, IsClean, IsRead, IsStopped, Reads}
use Rattle.qe_syntax.proofs.Spelling.{tokens_of-append, IsOne, weaker}
use Rattle.qe_syntax.proofs.Within.{GoesOn, within, within_err, clean-append, counted-append}

-- an operator and a part, in turn
abbrev pub tail : {O A : Type 0} → (A → List Occurrence → List Occurrence) → (O → Occurrence) → List (O × A) → List Occurrence → List Occurrence
tail spell mark [] r = r
tail spell mark (x ∷ xs) r = mark x.0 ∷ spell x.1 (tail spell mark xs r)

abbrev pub chain : {O A : Type 0} → (A → List Occurrence → List Occurrence) → (O → Occurrence) → A × List (O × A) → List Occurrence → List Occurrence
chain spell mark c r = spell c.0 (tail spell mark c.1 r)

-- the later items of the value: an operator and the tree of a part
abbrev pub items : {O A P I : Type 0} → (A → P) → (O → P → I) → List (O × A) → List I
items of item [] = []
items of item (x ∷ xs) = item x.0 (of x.1) ∷ items of item xs

abbrev pub chain_tree : {O A P I T : Type 0} → (A → P) → (O → P → I) → (P → List I → T) → A × List (O × A) → T
chain_tree of item whole c = whole (of c.0) (items of item c.1)

-- there are later parts, or the next token goes on
abbrev pub HasMore : {B : Type 0} → List B → Bool → Type 0
HasMore [] goes = goes ≡ true
HasMore (x ∷ xs) goes = Unit {0}

-- the tree of the first part, and the later items, that were read so far
pub record IsChain {O A P I : Type 0} (spell : A → List Occurrence → List Occurrence) (on : Tok → Bool) (mark : O → Occurrence) (of : A → P) (item : O → P → I) (first : P) (later : List I) (old new : List Tok) (b c : ℕ) : Type 0 where
  pub one : A
  pub others : List (O × A)
  pub first_is : of one ≡ first
  pub later_are : items of item others ≡ later
  pub spelled : old ≡ tokens_of (chain spell mark (one, others) []) ++ new
  pub clean : IsClean b (chain spell mark (one, others) [])
  pub count : counted b (chain spell mark (one, others) []) ≡ c
  pub stops : Stops on new

abbrev pub adds_nothing : {O : Type 0} → (O → Occurrence) → Type 0
adds_nothing {O = O} mark = (b : ℕ) (o : O) → (passed_limit b (mark o) ≡ None) × (counted b (mark o ∷ []) ≡ b)

module _ {O A P I : Type 0} (spell : A → List Occurrence → List Occurrence) (on on' : Tok → Bool) (mark : O → Occurrence) (of : A → P) (item : O → P → I) where
  items-snoc : (xs : List (O × A)) (o : O) (a : A) → items of item (xs ++ (o, a) ∷ []) ≡ items of item xs ++ item o (of a) ∷ []
  items-snoc [] o a = refl
  items-snoc (x ∷ xs) o a = ap (λ (ys : List I). item x.0 (of x.1) ∷ ys) (items-snoc xs o a)

  tail-snoc : (xs : List (O × A)) (o : O) (a : A) (r : List Occurrence) → tail spell mark (xs ++ (o, a) ∷ []) r ≡ tail spell mark xs (mark o ∷ spell a r)
  tail-snoc [] o a r = refl
  tail-snoc (x ∷ xs) o a r = ap (λ (ms : List Occurrence). mark x.0 ∷ spell x.1 ms) (tail-snoc xs o a r)

  -- what the theory asks of a part
  module _ (append : (a : A) (r q : List Occurrence) → spell a (r ++ q) ≡ spell a r ++ q) (one : IsOne spell on) (clean : adds_nothing mark) (stops : (o : O) → on (mark o).token ≡ false)
      (goes : (o : O) → on' (mark o).token ≡ true) (weak : (t : Tok) → on' t ≡ false → on t ≡ false) where
    pub tail-append : (xs : List (O × A)) (r q : List Occurrence) → tail spell mark xs (r ++ q) ≡ tail spell mark xs r ++ q
    tail-append [] r q = refl
    tail-append (x ∷ xs) r q = ap (λ (ms : List Occurrence). mark x.0 ∷ ms) (ap (spell x.1) (tail-append xs r q) ∙ append x.1 (tail spell mark xs r) q)

    pub chain-append : (c : A × List (O × A)) (r q : List Occurrence) → chain spell mark c (r ++ q) ≡ chain spell mark c r ++ q
    chain-append c r q = ap (spell c.0) (tail-append c.1 r q) ∙ append c.0 (tail spell mark c.1 r) q

    longer : (a : A) (xs : List (O × A)) (o : O) (b : A) → chain spell mark (a, xs ++ (o, b) ∷ []) [] ≡ chain spell mark (a, xs) [] ++ mark o ∷ spell b []
    longer a xs o b = ap (spell a) (tail-snoc xs o b []) ∙ chain-append (a, xs) [] (mark o ∷ spell b [])

    tokens_of-spell : (a : A) (r : List Occurrence) → tokens_of (spell a r) ≡ tokens_of (spell a []) ++ tokens_of r
    tokens_of-spell a r = ap tokens_of (append a [] r) ∙ tokens_of-append (spell a []) r

    tail_stop : (xs : List (O × A)) (r : List Occurrence) → Stops on' (tokens_of r) → Stops on (tokens_of (tail spell mark xs r))
    tail_stop [] r s = weaker on on' weak (tokens_of r) s
    tail_stop (x ∷ xs) r s = stops x.0

    not_op : (r : List Occurrence) (o : O) (ts : List Tok) → Stops on' (tokens_of r) → tokens_of r ≡ (mark o).token ∷ ts → ⊥
    not_op [] o ts s e = s
    not_op (x ∷ r) o ts s e = let f : x.token ≡ (mark o).token = cc in let g : true ≡ false = sym (ap on' f ∙ goes o) ∙ s in absurd cc

    tail_op : (xs : List (O × A)) (o : O) (ts : List Tok) → Stops on (tokens_of (tail spell mark xs []) ++ (mark o).token ∷ ts)
    tail_op [] o ts = stops o
    tail_op (x ∷ xs) o ts = stops x.0

    -- what follows the parts so far and an operator is a part
    goes_tail : (xs ys : List (O × A)) (o : O) (r : List Occurrence) (ts : List Tok) → Stops on' (tokens_of r) → tokens_of (tail spell mark ys r) ≡ tokens_of (tail spell mark xs []) ++ (mark o).token ∷ ts
        → (a : A) × (after : List Occurrence) × Stops on (tokens_of after) × (tokens_of (spell a after) ≡ ts)
    goes_tail [] [] o r ts s e = absurd (not_op r o ts s e)
    goes_tail [] (y ∷ ys) o r ts s e = (y.1, tail spell mark ys r, tail_stop ys r s, cc)
    goes_tail (x ∷ xs) [] o r ts s e = absurd (not_op r x.0 _ s e)
    goes_tail (x ∷ xs) (y ∷ ys) o r ts s e =
        let e' : tokens_of (spell y.1 (tail spell mark ys r)) ≡ tokens_of (spell x.1 (tail spell mark xs [])) ++ (mark o).token ∷ ts = cc in
        let w = one y.1 x.1 (tail spell mark ys r) (tokens_of (tail spell mark xs []) ++ (mark o).token ∷ ts) (tail_stop ys r s) (tail_op xs o ts)
        (e' ∙ ap (λ (z : List Tok). z ++ (mark o).token ∷ ts) (tokens_of-spell x.1 (tail spell mark xs [])) ∙ append_assoc (tokens_of (spell x.1 [])) (tokens_of (tail spell mark xs [])) ((mark o).token ∷ ts)) in
        goes_tail xs ys o r ts s w.1

    goes_chain : (a : A) (xs : List (O × A)) (o : O) → GoesOn spell on (chain spell mark) on' (chain spell mark (a, xs) [] ++ mark o ∷ [])
    goes_chain a xs o c r ts s e =
        let t = (mark o).token in
        let split : tokens_of (chain spell mark (a, xs) [] ++ mark o ∷ []) ++ ts ≡ tokens_of (spell a []) ++ (tokens_of (tail spell mark xs []) ++ t ∷ ts) =
        ap (λ (x : List Tok). x ++ ts) (tokens_of-append (chain spell mark (a, xs) []) (mark o ∷ []))
        ∙ append_assoc (tokens_of (chain spell mark (a, xs) [])) (t ∷ []) ts
        ∙ ap (λ (x : List Tok). x ++ t ∷ ts) (tokens_of-spell a (tail spell mark xs []))
        ∙ append_assoc (tokens_of (spell a [])) (tokens_of (tail spell mark xs [])) (t ∷ ts) in
        let w = one c.0 a (tail spell mark c.1 r) (tokens_of (tail spell mark xs []) ++ t ∷ ts) (tail_stop c.1 r s) (tail_op xs o ts) (e ∙ split) in
        goes_tail xs c.1 o r ts s w.1

    goes_first : GoesOn spell on (chain spell mark) on' []
    goes_first c r ts s e = (c.0, tail spell mark c.1 r, tail_stop c.1 r s, e)

    -- ---- the loop: before it, a turn, its end, and an exit

    pub start : (first : P) (old new : List Tok) (b c : ℕ) → IsRead spell on of first old new b c → IsChain spell on mark of item first [] old new b c
    start first old new b c r = record { one = r.found; others = []; first_is = r.is; later_are = refl; spelled = r.spelled; clean = r.clean; count = r.count; stops = r.stops }

    pub turn : (o : O) (first part : P) (later later' : List I) (old mid mid' new : List Tok) (b c d : ℕ) → mid ≡ (mark o).token ∷ mid' → later' ≡ later ++ item o part ∷ []
        → IsChain spell on mark of item first later old mid b c → IsRead spell on of part mid' new c d → IsChain spell on mark of item first later' old new b d
    turn o first part later later' old mid mid' new b c d m v k r =
        let S = chain spell mark (k.one, k.others) [] in
        let V = spell r.found [] in
        let l = longer k.one k.others o r.found in
        record {
          one = k.one;
          others = k.others ++ (o, r.found) ∷ [];
          first_is = k.first_is;
          later_are = items-snoc k.others o r.found ∙ ap (λ (x : List I). x ++ item o (of r.found) ∷ []) k.later_are ∙ ap (λ (x : P). later ++ item o x ∷ []) r.is ∙ sym v;
          spelled = k.spelled ∙ ap (λ (x : List Tok). tokens_of S ++ x) (m ∙ ap (λ (x : List Tok). (mark o).token ∷ x) r.spelled) ∙ sym (append_assoc (tokens_of S) ((mark o).token ∷ tokens_of V) new) ∙ ap (λ (x : List Tok). x ++ new) (sym (ap tokens_of l ∙ tokens_of-append S (mark o ∷ V)));
          clean = subst (λ (ms : List Occurrence). IsClean b ms) (sym l) (clean-append b c S (mark o ∷ V) k.count k.clean ((clean c o).0, subst (λ (n : ℕ). IsClean n V) (sym (clean c o).1) r.clean));
          count = ap (counted b) l ∙ counted-append b S (mark o ∷ V) ∙ ap (λ (n : ℕ). counted n (mark o ∷ V)) k.count ∙ ap (λ (n : ℕ). counted n V) (clean c o).1 ∙ r.count;
          stops = r.stops;
        }

    pub end : {T : Type 0} (whole : P → List I → T) (value : T) (first : P) (later : List I) (old new : List Tok) (b c : ℕ) → value ≡ whole first later → Stops on' new
        → IsChain spell on mark of item first later old new b c → IsRead (chain spell mark) on' (chain_tree of item whole) value old new b c
    end whole value first later old new b c v s k = record {
      found = (k.one, k.others);
      is = ap (λ (x : P). whole x (items of item k.others)) k.first_is ∙ ap (whole first) k.later_are ∙ sym v;
      spelled = k.spelled;
      clean = k.clean;
      count = k.count;
      stops = s;
    }

    pub first_err : {F G S : Type 0} (view : F → P) (view' : G → S) (of' : A × List (O × A) → S) (e : Halt TextFault) (old new : List Tok) (b c : ℕ) → Reads spell on of view (Err e) old new b c → Reads (chain spell mark) on' of' view' (Err e) old new b c
    first_err view view' of' e old new b c r = within_err spell on (chain spell mark) on' of of' view view' append [] [] (λ a. (a, [])) (λ a. refl) goes_first e old old new b b c c refl tt refl r

    pub turn_err : {F G S : Type 0} (view : F → P) (view' : G → S) (of' : A × List (O × A) → S) (o : O) (e : Halt TextFault) (first : P) (later : List I) (old mid mid' new : List Tok) (b c d : ℕ) → mid ≡ (mark o).token ∷ mid'
        → IsChain spell on mark of item first later old mid b c → Reads spell on of view (Err e) mid' new c d → Reads (chain spell mark) on' of' view' (Err e) old new b d
    turn_err view view' of' o e first later old mid mid' new b c d m k r =
        let S = chain spell mark (k.one, k.others) [] in
        within_err spell on (chain spell mark) on' of of' view view' append (S ++ mark o ∷ []) [] (λ v. (k.one, k.others ++ (o, v) ∷ []))
        (λ v. longer k.one k.others o v ∙ sym (append_assoc S (mark o ∷ []) (spell v [])))
        (goes_chain k.one k.others o) e old mid' new b c d d
        (k.spelled ∙ ap (λ (x : List Tok). tokens_of S ++ x) m ∙ sym (append_assoc (tokens_of S) ((mark o).token ∷ []) mid') ∙ ap (λ (x : List Tok). x ++ mid') (sym (tokens_of-append S (mark o ∷ []))))
        (clean-append b c S (mark o ∷ []) k.count k.clean ((clean c o).0, tt)) (counted-append b S (mark o ∷ []) ∙ ap (λ (n : ℕ). counted n (mark o ∷ [])) k.count ∙ (clean c o).1) r

-- The same part of the grammar by other derivations.
module _ {A X : Type 0} (spell : A → List Occurrence → List Occurrence) (spell' : X → List Occurrence → List Occurrence) (on : Tok → Bool) (to : A → X) (from : X → A)
    (to-spells : (a : A) (r : List Occurrence) → spell' (to a) r ≡ spell a r) (from-spells : (x : X) (r : List Occurrence) → spell (from x) r ≡ spell' x r) where
  recast_stop : (f : TextFault) (old new : List Tok) (b : ℕ) → (append : (a : A) (r q : List Occurrence) → spell a (r ++ q) ≡ spell a r ++ q) → IsStopped spell on f old new b → IsStopped spell' on f old new b
  recast_stop f old new b append s =
      within spell on spell' on append [] [] to (λ a. to-spells a []) (λ x rest ts st e. (from x, rest, st, ap tokens_of (from-spells x rest) ∙ e)) f old old new b b refl tt refl s

  pub recast : {F T : Type 0} (of : A → T) (of' : X → T) (view : F → T) → ((a : A) → of' (to a) ≡ of a) → (append : (a : A) (r q : List Occurrence) → spell a (r ++ q) ≡ spell a r ++ q) → (result : Result F (Halt TextFault)) (old new : List Tok) (b c : ℕ)
      → Reads spell on of view result old new b c → Reads spell' on of' view result old new b c
  recast of of' view same append (Ok f) old new b c r = record {
    found = to r.found;
    is = same r.found ∙ r.is;
    spelled = r.spelled ∙ ap (λ (ms : List Occurrence). tokens_of ms ++ new) (sym (to-spells r.found []));
    clean = subst (λ (ms : List Occurrence). IsClean b ms) (sym (to-spells r.found [])) r.clean;
    count = ap (counted b) (to-spells r.found []) ∙ r.count;
    stops = r.stops;
  }
  recast of of' view same append (Err halt.OutOfMemory) old new b c r = tt
  recast of of' view same append (Err (halt.Limit f)) old new b c r = recast_stop f old new b append r
