-- What a read and a whole read do to the bytes that a source has left, where it tells them.
use Rattle.std.specs.Prelude.{◌≡◌, ◌↔◌, ℕ, ◌<◌, List, [], ◌++◌, length, Some, IfSome}
use Rattle.std.specs.Io.KnownBytes.{Consumes}
use Rattle.std.specs.declared.option.Option.{Option}

-- with room for some bytes, a read that gives n gives none exactly where none is left
abbrev pub GivesNoneAtEnd : Option (List ℕ) → ℕ → ℕ → Type 0
GivesNoneAtEnd left room n = IfSome left (λ bytes. 0 < room → (n ≡ 0) ↔ (bytes ≡ []))

-- what was left is some bytes that were taken, and then what is left now
pub record LosesFront (before after : Option (List ℕ)) : Type 0 where
  pub taken : List ℕ
  pub front : Consumes before after taken

-- bytes left the front of what was left, and stand at the end of the list now
pub record MovesFront (before after : Option (List ℕ)) (old new : List ℕ) : Type 0 where
  pub moved : List ℕ
  pub front : Consumes before after moved
  pub parts : new ≡ old ++ moved

-- what was left is exactly these bytes, and none is left now
abbrev pub LosesAll : Option (List ℕ) → Option (List ℕ) → List ℕ → Type 0
LosesAll before after bytes = IfSome before (λ told. (bytes ≡ told) × (after ≡ Some []))

-- more than this many bytes are left
abbrev pub HasMoreThan : ℕ → Option (List ℕ) → Type 0
HasMoreThan count left = IfSome left (λ told. count < length told)
