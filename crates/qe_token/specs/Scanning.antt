-- What the scan does, byte by byte.
use Rattle.std.specs.Prelude.{ℕ, ◌+◌, ◌^◌, ◌≡◌, ◌⊎◌, false, IsTrue, List, [], ◌∷◌, ◌++◌, length, min, if◌then◌else◌, codes}
use Rattle.std.specs.List.{list_all}
use Rattle.std.specs.Str.{bytes_eq}
use Rattle.qe_token.specs.declared.token.Relation.TheVariants.{Equal, NotEqual, Less, LessOrEqual, Greater, GreaterOrEqual}
use Rattle.qe_token.specs.declared.token.Token.{Token}
use Rattle.qe_token.specs.declared.token.Token.TheVariants as token
use Rattle.qe_token.specs.declared.token.Located.{Located}
use Rattle.qe_token.specs.Bytes.{is_blank, is_digit, is_letter, number_of}
use Rattle.qe_token.specs.Tokens.{goes_on, extends}

-- the bytes of a token, or its first ones
abbrev pub IsRun : List ℕ → Type 0
IsRun [] = Unit {0}
IsRun (a ∷ more) = (is_blank a ≡ false) × (IsTrue (list_all (extends a) more) ⊎ (a ∷ more ≡ codes "<=") ⊎ (a ∷ more ≡ codes "<>") ⊎ (a ∷ more ≡ codes ">="))

-- the token beside the word in the table, or else the default
abbrev pub look : List ℕ → List (List ℕ × Token) → Token → Token
look word [] default = default
look word (entry ∷ entries) default = if bytes_eq word entry.0 then entry.1 else look word entries default

abbrev pub reserved : List (List ℕ × Token)
reserved =
    (codes "true", token.True) ∷ (codes "false", token.False) ∷ (codes "not", token.Not) ∷ (codes "and", token.And)
    ∷ (codes "or", token.Or) ∷ (codes "implies", token.Implies) ∷ (codes "iff", token.Iff) ∷ (codes "ex", token.Ex)
    ∷ (codes "all", token.All) ∷ (codes "sqrt", token.Other) ∷ (codes "eps", token.Other) ∷ (codes "inf", token.Other) ∷ []

abbrev pub signs : ℕ → List (List ℕ × Token)
signs place =
    (codes "[", token.OpenBracket) ∷ (codes "]", token.CloseBracket) ∷ (codes "(", token.OpenParenthesis) ∷ (codes ")", token.CloseParenthesis)
    ∷ (codes ".", token.Dot) ∷ (codes "+", token.Plus place) ∷ (codes "-", token.Minus place) ∷ (codes "*", token.Star place)
    ∷ (codes "^", token.Caret place) ∷ (codes "=", token.Relation place Equal) ∷ (codes "<>", token.Relation place NotEqual)
    ∷ (codes "<", token.Relation place Less) ∷ (codes "<=", token.Relation place LessOrEqual)
    ∷ (codes ">", token.Relation place Greater) ∷ (codes ">=", token.Relation place GreaterOrEqual) ∷ []

abbrev pub word_token : ℕ → List ℕ → Token
word_token place word = look word reserved (token.Name (record { start = place; end = place + length word }))

abbrev pub sign_token : ℕ → List ℕ → Token
sign_token place word = look word (signs place) token.Other

abbrev pub token_of : ℕ → List ℕ → Token
token_of place [] = sign_token place []
token_of place (a ∷ more) =
    if is_letter a then word_token place (a ∷ more)
    else if is_digit a then token.Number (min (number_of (a ∷ more)) (2 ^ 127))
    else sign_token place (a ∷ more)

-- the token of the bytes read, if there are some
abbrev pub finished : ℕ → List ℕ → List Located
finished place [] = []
finished place (a ∷ more) = record { token = token_of place (a ∷ more); place = place } ∷ []

-- the tokens of the bytes read, which begin at this place, and of what follows
abbrev pub scan : List ℕ → ℕ → List ℕ → List Located
scan word place [] = finished place word
scan word place (b ∷ bs) =
    if goes_on word b then scan (word ++ b ∷ []) place bs
    else finished place word ++ (if is_blank b then scan [] (place + length word + 1) bs else scan (b ∷ []) (place + length word) bs)
