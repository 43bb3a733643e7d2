-- The tokens of a text.
use Rattle.std.specs.Prelude.{ℕ, ◌+◌, ◌-◌, ◌^◌, ◌≤◌, ◌≡◌, ◌≢◌, ◌⊎◌, Bool, true, false, ◌&&◌, ◌||◌, IsTrue, List, [], ◌∷◌, ◌++◌, length, min, take, drop, ◌==◌, codes}
use Rattle.std.specs.List.{list_all}
use Rattle.qe_token.specs.declared.token.Relation.{Relation}
use Rattle.qe_token.specs.declared.token.Relation.TheVariants.{Equal, NotEqual, Less, LessOrEqual, Greater, GreaterOrEqual}
use Rattle.qe_token.specs.declared.token.Token.{Token}
use Rattle.qe_token.specs.declared.token.Token.TheVariants as token
use Rattle.qe_token.specs.declared.token.Located.{Located}
use Rattle.qe_token.specs.Bytes.{is_blank, is_digit, is_letter, is_name_byte, is_sign, begins, number_of}

abbrev pub AreBlanks : List ℕ → Type 0
AreBlanks bytes = IsTrue (list_all is_blank bytes)

-- a letter, and then letters, digits and `_`
abbrev pub IsWord : List ℕ → Type 0
IsWord word = (begins is_letter word ≡ true) × IsTrue (list_all is_name_byte word)

-- the token of a word that has a meaning of its own, and is no name; three of them stand in no formula
abbrev pub WordIs : List ℕ → Token → Type 0
WordIs word token.True = word ≡ codes "true"
WordIs word token.False = word ≡ codes "false"
WordIs word token.Not = word ≡ codes "not"
WordIs word token.And = word ≡ codes "and"
WordIs word token.Or = word ≡ codes "or"
WordIs word token.Implies = word ≡ codes "implies"
WordIs word token.Iff = word ≡ codes "iff"
WordIs word token.Ex = word ≡ codes "ex"
WordIs word token.All = word ≡ codes "all"
WordIs word token.Other = (word ≡ codes "sqrt") ⊎ (word ≡ codes "eps") ⊎ (word ≡ codes "inf")
WordIs word token = ⊥

abbrev pub relation_text : Relation → List ℕ
relation_text Equal = codes "="
relation_text NotEqual = codes "<>"
relation_text Less = codes "<"
relation_text LessOrEqual = codes "<="
relation_text Greater = codes ">"
relation_text GreaterOrEqual = codes ">="

-- one byte that begins no token
abbrev pub IsUnknown : List ℕ → Type 0
IsUnknown word = (b : ℕ) × (word ≡ b ∷ []) × (is_blank b ≡ false) × (is_letter b ≡ false) × (is_digit b ≡ false) × (is_sign b ≡ false)

-- the bytes at this place are the token
abbrev pub Spells : ℕ → List ℕ → Token → Type 0
Spells place word token.OpenBracket = word ≡ codes "["
Spells place word token.CloseBracket = word ≡ codes "]"
Spells place word token.OpenParenthesis = word ≡ codes "("
Spells place word token.CloseParenthesis = word ≡ codes ")"
Spells place word token.Dot = word ≡ codes "."
Spells place word (token.Plus at) = (word ≡ codes "+") × (at ≡ place)
Spells place word (token.Minus at) = (word ≡ codes "-") × (at ≡ place)
Spells place word (token.Star at) = (word ≡ codes "*") × (at ≡ place)
Spells place word (token.Caret at) = (word ≡ codes "^") × (at ≡ place)
Spells place word (token.Relation at relation) = (word ≡ relation_text relation) × (at ≡ place)
Spells place word (token.Number n) = (word ≢ []) × IsTrue (list_all is_digit word) × (n ≡ min (number_of word) (2 ^ 127))
Spells place word (token.Name name) = IsWord word × ((t : Token) → WordIs word t → ⊥) × (name.start ≡ place) × (name.end ≡ place + length word)
Spells place word token.Other = WordIs word token.Other ⊎ IsUnknown word
Spells place word token = WordIs word token

-- a letter goes on with letters, digits and `_`, a digit with digits
abbrev pub extends : ℕ → ℕ → Bool
extends a b = (is_letter a && is_name_byte b) || (is_digit a && is_digit b)

-- `<` goes on with `=` and `>`, `>` with `=`
abbrev pub makes_relation : ℕ → ℕ → Bool
makes_relation a b = (a == 60 && (b == 61 || b == 62)) || (a == 62 && b == 61)

-- the byte makes the token longer
abbrev pub goes_on : List ℕ → ℕ → Bool
goes_on [] b = false
goes_on (a ∷ []) b = makes_relation a b || extends a b
goes_on (a ∷ c ∷ word) b = extends a b

-- From this place on, the bytes are these tokens, each as long as possible, with blanks before, between and after.
abbrev pub AreTokens : ℕ → List ℕ → List Located → Type 0
AreTokens place bytes [] = AreBlanks bytes
AreTokens place bytes (t ∷ ts) =
    (before : List ℕ) × (word : List ℕ) × (rest : List ℕ)
    × (bytes ≡ before ++ (word ++ rest)) × AreBlanks before
    × (t.place ≡ place + length before) × Spells t.place word t.token × (begins (goes_on word) rest ≡ false)
    × AreTokens (t.place + length word) rest ts

-- the letters of a name are a word of the text
abbrev pub NameIsIn : List ℕ → Token → Type 0
NameIsIn bytes (token.Name name) = (name.start ≤ name.end) × (name.end ≤ length bytes) × IsWord (take (name.end - name.start) (drop name.start bytes))
NameIsIn bytes token = Unit {0}
