-- Statements on finitely many signs, proved by computing all cases.
use Rattle.std.proofs.Common.{◌≡◌, Bool, true, false, T, List, [], ◌∷◌, refl, subst}
use Rattle.qe_ring.specs.Sign.{Sign, Minus, Zero, Plus, IsNotZero, is, opposite, ◌·◌, adds, pick}

-- a statement is given by its steps: any sign, or a premise on the signs so far
pub data Step : Type 0 where
  any : Step
  given : Step

-- what is said of the signs: a premise is a Boolean before the rest, a conclusion is one at the end
abbrev pub Claim : List Step → Type 0
Claim [] = Bool
Claim (any ∷ k) = Sign → Claim k
Claim (given ∷ k) = Bool × (Unit {0} → Claim k)

-- the statement as a type: for all signs, and all proofs of the premises
abbrev pub Holds : (k : List Step) → Claim k → Type 0
Holds [] b = T b
Holds (any ∷ k) p = (s : Sign) → Holds k (p s)
Holds (given ∷ k) p = T p.0 → Holds k (p.1 tt)

-- it is true in all cases
abbrev pub every : (k : List Step) → Claim k → Bool
every [] b = b
every (any ∷ k) p = elim (every k (p Minus)) [ true ↦ elim (every k (p Zero)) [ true ↦ every k (p Plus) | false ↦ false ] | false ↦ false ]
every (given ∷ k) p = elim p.0 [ true ↦ every k (p.1 tt) | false ↦ true ]

first : (a b : Bool) → T (elim a [ true ↦ b | false ↦ false ]) → T a
first true b h = tt
first false b h = h

second : (a b : Bool) → T (elim a [ true ↦ b | false ↦ false ]) → T b
second true b h = h
second false b h = absurd h

passed : (a b : Bool) → T (elim a [ true ↦ b | false ↦ true ]) → T a → T b
passed true b h t = h
passed false b h t = absurd t

-- a statement that is true in all cases holds: the proof `h` is `tt`
pub decide : (k : List Step) (p : Claim k) → T (every k p) → Holds k p
decide [] b = λ h. h
decide (any ∷ k) p = λ h. elim [
  | Minus ↦ decide k (p Minus) (first (every k (p Minus)) (elim (every k (p Zero)) [ true ↦ every k (p Plus) | false ↦ false ]) h)
  | Zero ↦ decide k (p Zero) (first (every k (p Zero)) (every k (p Plus))
      (second (every k (p Minus)) (elim (every k (p Zero)) [ true ↦ every k (p Plus) | false ↦ false ]) h))
  | Plus ↦ decide k (p Plus) (second (every k (p Zero)) (every k (p Plus))
      (second (every k (p Minus)) (elim (every k (p Zero)) [ true ↦ every k (p Plus) | false ↦ false ]) h))
]
decide (given ∷ k) p = λ h t. decide k (p.1 tt) (passed p.0 (every k (p.1 tt)) h t)

-- from the test of two signs to their equation, and back
pub is-eq : (s t : Sign) → T (is s t) → s ≡ t
is-eq Minus Minus h = refl
is-eq Minus Zero h = absurd h
is-eq Minus Plus h = absurd h
is-eq Zero Minus h = absurd h
is-eq Zero Zero h = refl
is-eq Zero Plus h = absurd h
is-eq Plus Minus h = absurd h
is-eq Plus Zero h = absurd h
is-eq Plus Plus h = refl

pub is-same : (s : Sign) → T (is s s)
is-same Minus = tt
is-same Zero = tt
is-same Plus = tt

pub to_is : (a b : Sign) → a ≡ b → T (is a b)
to_is a b p = subst (λ t. T (is a t)) p (is-same a)

-- the sign of u + v is picked: p and m are the signs of u + v and u - v
abbrev pub Pick_claim : Claim (any ∷ any ∷ any ∷ any ∷ given ∷ given ∷ [])
Pick_claim p m u v = (adds p m u, λ _. (adds p (opposite m) v, λ _. is p (pick (p · m) u v)))

pub pick_holds : Holds (any ∷ any ∷ any ∷ any ∷ given ∷ given ∷ []) Pick_claim
pick_holds = decide (any ∷ any ∷ any ∷ any ∷ given ∷ given ∷ []) Pick_claim tt

abbrev Swapped : Claim (any ∷ any ∷ any ∷ given ∷ [])
Swapped a b c = (adds a b c, λ _. adds b a c)

-- a sum may be turned round
pub swapped : (a b c : Sign) → T (adds a b c) → T (adds b a c)
swapped = decide (any ∷ any ∷ any ∷ given ∷ []) Swapped tt

-- by whether a sign is zero
pub by_zero : {X : Type 0} (m : Sign) → (T (is m Zero) → X) → (IsNotZero m → X) → X
by_zero Minus f g = g tt
by_zero Zero f g = f tt
by_zero Plus f g = g tt
