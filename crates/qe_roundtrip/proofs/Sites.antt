-- Where a text stands in a whole text.
use Rattle.std.proofs.Common.{ℕ, ◌+◌, ◌≡◌, refl, sym, ap, ◌∙◌, List, [], ◌++◌, append_assoc, append-nil, length, length-append, arith}
use Rattle.qe_read.specs.Names.{letters}
use Rattle.qe_read.proofs.Words.{letters_at}

-- The text stands in the whole at this place.
pub record At (whole : List ℕ) (place : ℕ) (text : List ℕ) : Type 0 where
  pub before : List ℕ
  pub behind : List ℕ
  pub is : whole ≡ before ++ (text ++ behind)
  pub here : place ≡ length before

module _ (whole : List ℕ) (place : ℕ) (a b : List ℕ) where
  pub at_front : At whole place (a ++ b) → At whole place a
  at_front h = record { before = h.before; behind = b ++ h.behind; is = h.is ∙ ap (λ t. h.before ++ t) (append_assoc a b h.behind); here = h.here }

  pub at_behind : At whole place (a ++ b) → At whole (place + length a) b
  at_behind h = record {
    before = h.before ++ a;
    behind = h.behind;
    is = h.is ∙ ap (λ t. h.before ++ t) (append_assoc a b h.behind) ∙ sym (append_assoc h.before a (b ++ h.behind));
    here = omega (arith, h.here, length-append h.before a);
  }

pub at_start : (whole : List ℕ) → At whole 0 whole
at_start whole = record { before = []; behind = []; is = sym (append-nil whole); here = refl }

-- the letters of a name there
pub letters_here : (whole : List ℕ) (place : ℕ) (w : List ℕ) → At whole place w → letters whole (record { start = place; end = place + length w }) ≡ w
letters_here whole place w h =
    ap (λ t. letters t (record { start = place; end = place + length w })) h.is ∙ letters_at h.before w h.behind (record { start = place; end = place + length w }) h.here refl
