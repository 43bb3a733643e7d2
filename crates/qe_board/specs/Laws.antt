-- The laws of runs of the container machine, whatever the pieces are.
use Rattle.std.specs.Prelude.{ℕ, ◌≡◌, ◌≤◌, ◌<◌, ◌+◌, ◌*◌, ◌⊎◌, Bool, true, false, cond, eqb, List, [], ◌∷◌, length}
use Rattle.qe_piece.specs.Meaning.{Meaning}
use Rattle.qe_board.specs.declared.event.Event.{Event}
use Rattle.qe_board.specs.declared.event.Event.TheVariants.{Take}
use Rattle.qe_board.specs.declared.event.Stopping.{Stopping}
use Rattle.qe_board.specs.declared.event.Stopping.TheVariants.{Unset, Truth, Limit, Memory}
use Rattle.qe_board.specs.State.{Key, State, is_waiting, count, is_done, has_true_leaf}
use Rattle.qe_board.specs.Machine.{is_enabled, effect, IsRunFrom, IsRun, replay}
use Rattle.qe_board.specs.Plain.{IsPlain}
use Rattle.qe_board.specs.Tree.{nodes, has_truth, verdict}
use Rattle.qe_board.specs.Kept.{Keeps}
use Rattle.qe_board.specs.Verdict.{verdict_in}

-- no event takes an entry
abbrev pub TakesNone : List Event → Type 0
TakesNone [] = Unit {0}
TakesNone (Take w n ∷ es) = ⊥
TakesNone (e ∷ es) = TakesNone es

-- how often an entry is taken
abbrev pub takes : ℕ → List Event → ℕ
takes n [] = 0
takes n (Take w m ∷ es) = cond (eqb m n) 1 0 + takes n es
takes n (e ∷ es) = takes n es

-- What a stop means: nothing waits, and a leaf is true at truth and none is at limit and memory.
abbrev pub StopMeans : Stopping → (waiting : ℕ) → (true_leaf : Bool) → Type 0
StopMeans Unset n t = Unit {0}
StopMeans Truth n t = (n ≡ 0) × (t ≡ true)
StopMeans Limit n t = (n ≡ 0) × (t ≡ false)
StopMeans Memory n t = (n ≡ 0) × (t ≡ false)

module _ {F : Type 0} (meaning : Key → Meaning F) (is_leaf truth : Key → Bool) (limit : ℕ) where
  -- after a leaf became true nothing is taken
  abbrev pub TruthEndsTaking : Type 0
  TruthEndsTaking = (s : State F) (es : List Event) → has_true_leaf truth s ≡ true → IsRunFrom meaning is_leaf truth limit s es → TakesNone es

  -- each entry is taken at most once
  abbrev pub TakenOnce : Type 0
  TakenOnce = (root : Key) (es : List Event) → IsRun meaning is_leaf truth limit root es → (n : ℕ) → takes n es ≤ 1

  -- there are at most two events an entry, and one more
  abbrev pub FewEvents : Type 0
  FewEvents = (root : Key) (es : List Event) → IsRun meaning is_leaf truth limit root es
      → length es ≤ 2 * length (replay meaning is_leaf truth limit root es).entries + 1

  -- once the stop is set nothing waits, and what it says of true leaves is so
  abbrev pub StopsMean : Type 0
  StopsMean = (root : Key) (es : List Event) → IsRun meaning is_leaf truth limit root es
      → let s = replay meaning is_leaf truth limit root es in StopMeans s.stop (count is_waiting s.entries) (has_true_leaf truth s)

  -- what is done stays done
  abbrev pub DoneStays : Type 0
  DoneStays = (s : State F) (e : Event) → is_done s ≡ true → is_enabled meaning is_leaf truth limit e s ≡ true
      → is_done (effect meaning is_leaf truth limit e s) ≡ true

  -- the plain run is a run, and there is only one
  abbrev pub PlainIsRun : Type 0
  PlainIsRun = (root : Key) (es : List Event) → IsPlain meaning is_leaf truth limit root es → IsRun meaning is_leaf truth limit root es

  abbrev pub OnePlainRun : Type 0
  OnePlainRun = (root : Key) (es others : List Event) → IsPlain meaning is_leaf truth limit root es → IsPlain meaning is_leaf truth limit root others → es ≡ others

  -- all of them
  pub record RunLaws : Type 0 where
    pub plain_is_run : PlainIsRun
    pub one_plain_run : OnePlainRun
    pub truth_ends_taking : TruthEndsTaking
    pub taken_once : TakenOnce
    pub few_events : FewEvents
    pub stops_mean : StopsMean
    pub done_stays : DoneStays

-- ---- runs and the tree

module _ {F : Type 0} (meaning : Key → Meaning F) (is_leaf truth : Key → Bool) (height : Key → ℕ) (limit : ℕ) where
  abbrev last : Key → List Event → State F
  last root es = replay meaning is_leaf truth limit root es

  abbrev Runs : Key → List Event → Type 0
  Runs root es = IsRun meaning is_leaf truth limit root es

  abbrev size : Key → ℕ
  size root = length (nodes meaning is_leaf truth height root)

  -- every done run that ends with no stop, or with truth, has the verdict of the tree
  abbrev pub OneVerdict : Type 0
  OneVerdict = (root : Key) (es : List Event) → Runs root es → is_done (last root es) ≡ true
      → ((last root es).stop ≡ Unset) ⊎ ((last root es).stop ≡ Truth)
      → verdict_in meaning is_leaf truth height root (last root es) ≡ verdict meaning is_leaf truth height root

  -- a stop by the limit comes only where the tree has more than that number of distinct pieces
  abbrev pub LimitMeans : Type 0
  LimitMeans = (root : Key) (es : List Event) → Runs root es → (last root es).stop ≡ Limit → limit < size root

  -- a done run over a tree that has more, and no true piece, ends with limit or memory
  abbrev pub TooManyStop : Type 0
  TooManyStop = (root : Key) (es : List Event) → Runs root es → is_done (last root es) ≡ true → limit < size root
      → has_truth meaning is_leaf truth height (nodes meaning is_leaf truth height root) ≡ false
      → ((last root es).stop ≡ Limit) ⊎ ((last root es).stop ≡ Memory)

  -- there are at most the limit's number of entries, all distinct pieces of the tree
  abbrev pub FewEntries : Type 0
  FewEntries = (root : Key) (es : List Event) → Runs root es → length (last root es).entries ≤ limit

  -- every state of a run keeps that its entries are distinct pieces of the tree, and what has become of each
  abbrev pub StatesKeep : Type 0
  StatesKeep = (root : Key) (es : List Event) → Runs root es → Keeps meaning is_leaf truth height root (last root es)

  -- all of them
  pub record TreeLaws : Type 0 where
    pub states_keep : StatesKeep
    pub one_verdict : OneVerdict
    pub limit_means : LimitMeans
    pub too_many_stop : TooManyStop
    pub few_entries : FewEntries
